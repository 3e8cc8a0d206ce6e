-- A node written as far as its operands, which are left to be written.
use Rattle.std.proofs.Common.{◌≡◌, ℕ, ◌+◌, ◌<◌, ◌≤◌, Bool, true, false, nat_lt, nat_le, List, [], ◌∷◌, ◌++◌, length, All, Some, slice_get, Result, Ok, Err, OnOk, refl, sym, ap, ◌∙◌, arith, append_assoc, append-nil, if◌then◌else◌}
use Rattle.std.specs.Prelude.{codes}
use Rattle.std.proofs.lemmas.Bool.Decides.{nat_tests}
use Rattle.std.proofs.lemmas.List.Elements.{All-push}
use Rattle.std.proofs.lemmas.Option.{slice_get_within, get_or_from_slice_get}
use Rattle.ps_meaning.specs.Formula as formula
use Rattle.ps_meaning.specs.Formula.{with_atoms}
use Rattle.ps_meaning.specs.Statements.{Name}
use Rattle.ps_formula.specs.declared.node.Node.{Node}
use Rattle.ps_formula.specs.declared.node.Node.TheVariants as node
use Rattle.ps_formula.specs.Nodes.{trees, tree_over, AreNodes}
use Rattle.ps_formula.proofs.Different.{trees-at}
use Rattle.ps_text.specs.Grammar as grammar
use Rattle.ps_text.specs.Grammar.{FormulaSyntax, level}
use Rattle.ps_text.specs.Canonical.{fitted, canonical_formula, syntax_text}
use Rattle.ps_text.proofs.Levels.{test_past}
use Rattle.ps_problem.specs.Problems.{Parts, name_at}
use Rattle.ps_problem.specs.Written.{named_at}
use Rattle.ps_canonical.specs.declared.connective.Connective.{Connective}
use Rattle.ps_canonical.specs.declared.connective.Connective.TheVariants as connective
use Rattle.ps_canonical.specs.declared.task.Task.{Task}
use Rattle.ps_canonical.specs.declared.task.Task.TheVariants as task
use Rattle.ps_canonical.specs.Tasks.{level_of, left_of, right_of, sign_of, joined, operand_text, task_text, tasks_text, IsTask, opening, closing, closing_task, with_operands, steps_of, task_steps, tasks_steps, IsCarriedOut}

-- what holds after an Ok, from what else does

pub on-ok : {X E P Q : Type 0} (r : Result X E) → OnOk r P → (P → Q) → OnOk r Q
on-ok (Ok x) h f = f h
on-ok (Err e) h f = tt

pub on-ok-both : {X E P R Q : Type 0} (r : Result X E) → OnOk r P → OnOk r R → (P → R → Q) → OnOk r Q
on-ok-both (Ok x) h k f = f h k
on-ok-both (Err e) h k f = tt

-- parentheses

fits_at : (k n : ℕ) → nat_le k n ≡ true → nat_lt n k ≡ false
fits_at k n h = grind (arith, nat_tests)

-- what is written has parentheses where its level is below the required one
fitted-text : (k : ℕ) (f : FormulaSyntax) → syntax_text (fitted k f) ≡ opening (nat_lt (level f) k) ++ (syntax_text f ++ closing (nat_lt (level f) k))
fitted-text k f = by (nat_le k (level f)) refl
  where
    by : (b : Bool) → nat_le k (level f) ≡ b → syntax_text (if b then f else grammar.Group f) ≡ opening (nat_lt (level f) k) ++ (syntax_text f ++ closing (nat_lt (level f) k))
    by true e = rw (fits_at k (level f) e) (sym (append-nil (syntax_text f)))
    by false e = rw (test_past k (level f) e) refl

-- what binds most tightly has none
tight : (k : ℕ) (f : FormulaSyntax) → k ≤ 5 → level f ≡ 5 → syntax_text (fitted k f) ≡ syntax_text f
tight k f le e = by (nat_le k (level f)) refl
  where
    by : (b : Bool) → nat_le k (level f) ≡ b → syntax_text (if b then f else grammar.Group f) ≡ syntax_text f
    by true t = refl
    by false t = absurd (never t)
      where
        never : nat_le k (level f) ≡ false → ⊥
        never t = grind (arith, nat_tests)

-- two operands with the connective between them
middle : Connective → formula.Formula Name → formula.Formula Name → List ℕ
middle c f g = operand_text (left_of c) f ++ (sign_of c ++ operand_text (right_of c) g)

joined-syntax : (c : Connective) (f g : formula.Formula Name) → syntax_text (canonical_formula (joined c f g)) ≡ middle c f g
unfolding middle
joined-syntax connective.And f g = refl
joined-syntax connective.Or f g = refl
joined-syntax connective.Implies f g = refl
joined-syntax connective.Iff f g = refl

joined-level : (c : Connective) (f g : formula.Formula Name) → level (canonical_formula (joined c f g)) ≡ level_of c
joined-level connective.And f g = refl
joined-level connective.Or f g = refl
joined-level connective.Implies f g = refl
joined-level connective.Iff f g = refl

joined-steps : (c : Connective) (f g : formula.Formula Name) → steps_of (joined c f g) ≡ 3 + steps_of f + steps_of g
joined-steps connective.And f g = refl
joined-steps connective.Or f g = refl
joined-steps connective.Implies f g = refl
joined-steps connective.Iff f g = refl

joined-text : (k : ℕ) (c : Connective) (f g : formula.Formula Name)
    → operand_text k (joined c f g) ≡ opening (nat_lt (level_of c) k) ++ (middle c f g ++ closing (nat_lt (level_of c) k))
joined-text k c f g = fitted-text k (canonical_formula (joined c f g))
    ∙ ap (λ n. opening (nat_lt n k) ++ (syntax_text (canonical_formula (joined c f g)) ++ closing (nat_lt n k))) (joined-level c f g)
    ∙ ap (λ m. opening (nat_lt (level_of c) k) ++ (m ++ closing (nat_lt (level_of c) k))) (joined-syntax c f g)

-- stacks

module _ (p : Parts) where
  pub text-push : (ts : List Task) (t : Task) → tasks_text p (ts ++ t ∷ []) ≡ task_text p t ++ tasks_text p ts
  text-push [] t = sym (append-nil (task_text p t))
  text-push (x ∷ ts) t = ap (λ bs. bs ++ task_text p x) (text-push ts t) ∙ append_assoc (task_text p t) (tasks_text p ts) (task_text p x)

  pub steps-push : (ts : List Task) (t : Task) → tasks_steps p (ts ++ t ∷ []) ≡ task_steps p t + tasks_steps p ts
  steps-push [] t = omega arith
  steps-push (x ∷ ts) t = let e = steps-push ts t in omega arith

  text-closed : (ts : List Task) (b : Bool) → tasks_text p (ts ++ closing_task b) ≡ closing b ++ tasks_text p ts
  text-closed ts true = text-push ts task.Close
  text-closed ts false = ap (tasks_text p) (append-nil ts)

  steps-closed : (ts : List Task) (b : Bool) → tasks_steps p (ts ++ closing_task b) ≤ 1 + tasks_steps p ts
  steps-closed ts true = let e = steps-push ts task.Close in omega arith
  steps-closed ts false = let e = ap (tasks_steps p) (append-nil ts) in omega arith

  there-closed : (n : ℕ) (ts : List Task) (b : Bool) → All (IsTask n) ts → All (IsTask n) (ts ++ closing_task b)
  there-closed n ts true h = All-push (IsTask n) ts task.Close h tt
  there-closed n ts false h = rw (append-nil ts) h

  -- the bytes of a task are written
  pub done-written : (t : Task) (ts : List Task) (out : List ℕ) → All (IsTask (length p.nodes)) ts → 0 < task_steps p t → (bytes : List ℕ) → task_text p t ≡ bytes
      → IsCarriedOut p t ts out ts (out ++ bytes)
  done-written t ts out h s bytes e = record {
    text = append_assoc out bytes (tasks_text p ts) ∙ ap (λ bs. out ++ (bs ++ tasks_text p ts)) (sym e);
    there = h;
    fewer = omega arith;
  }

  module _ (i k : ℕ) (le : k ≤ 5) (ts : List Task) (out : List ℕ) (h : All (IsTask (length p.nodes)) ts) where
    -- a node without operands
    pub done-leaf : (f : formula.Formula Name) → named_at p i ≡ f → steps_of f ≡ 1 → level (canonical_formula f) ≡ 5 → IsCarriedOut p (task.Formula i k) ts out ts (out ++ syntax_text (canonical_formula f))
    done-leaf f e s l = done-written (task.Formula i k) ts out h (let n = ap steps_of e in omega arith) (syntax_text (canonical_formula f))
        (ap (operand_text k) e ∙ tight k (canonical_formula f) le l)

    -- a negation
    pub done-not : (a : ℕ) → a < length p.nodes → named_at p i ≡ formula.Not (named_at p a)
        → IsCarriedOut p (task.Formula i k) ts out (ts ++ task.Formula a 5 ∷ []) (out ++ codes "!")
    done-not a lt e = record {
      text = ap (λ bs. (out ++ codes "!") ++ bs) (text-push ts (task.Formula a 5))
          ∙ append_assoc out (codes "!") (operand_text 5 (named_at p a) ++ tasks_text p ts)
          ∙ ap (λ bs. out ++ (bs ++ tasks_text p ts)) (sym (ap (operand_text k) e ∙ tight k (canonical_formula (formula.Not (named_at p a))) le refl));
      there = All-push (IsTask (length p.nodes)) ts (task.Formula a 5) h (lt, omega arith);
      fewer = (let n = ap steps_of e in let m = steps-push ts (task.Formula a 5) in omega arith);
    }

    -- two operands and the connective between them
    pub done-joined : (c : Connective) (l r : ℕ) → l < length p.nodes → r < length p.nodes → named_at p i ≡ joined c (named_at p l) (named_at p r)
        → IsCarriedOut p (task.Formula i k) ts out (with_operands ts (nat_lt (level_of c) k) l c r) (out ++ opening (nat_lt (level_of c) k))
    unfolding middle
    done-joined c l r a b e = record { text = text; there = there; fewer = fewer }
      where
        needed : Bool
        needed = nat_lt (level_of c) k

        first : List Task
        first = ts ++ closing_task needed

        second : List Task
        second = first ++ task.Formula r (right_of c) ∷ []

        third : List Task
        third = second ++ task.Connective c ∷ []

        x : List ℕ
        x = operand_text (left_of c) (named_at p l)

        y : List ℕ
        y = operand_text (right_of c) (named_at p r)

        stacked : tasks_text p (third ++ task.Formula l (left_of c) ∷ []) ≡ x ++ (sign_of c ++ (y ++ (closing needed ++ tasks_text p ts)))
        stacked = text-push third (task.Formula l (left_of c)) ∙ ap (λ bs. x ++ bs) (text-push second (task.Connective c)
            ∙ ap (λ bs. sign_of c ++ bs) (text-push first (task.Formula r (right_of c)) ∙ ap (λ bs. y ++ bs) (text-closed ts needed)))

        flat : (opening needed ++ ((x ++ (sign_of c ++ y)) ++ closing needed)) ++ tasks_text p ts ≡ opening needed ++ (x ++ (sign_of c ++ (y ++ (closing needed ++ tasks_text p ts))))
        flat = append_assoc (opening needed) ((x ++ (sign_of c ++ y)) ++ closing needed) (tasks_text p ts)
            ∙ ap (λ bs. opening needed ++ bs) (append_assoc (x ++ (sign_of c ++ y)) (closing needed) (tasks_text p ts)
            ∙ append_assoc x (sign_of c ++ y) (closing needed ++ tasks_text p ts)
            ∙ ap (λ bs. x ++ bs) (append_assoc (sign_of c) y (closing needed ++ tasks_text p ts)))

        text : (out ++ opening needed) ++ tasks_text p (third ++ task.Formula l (left_of c) ∷ []) ≡ out ++ (operand_text k (named_at p i) ++ tasks_text p ts)
        text = append_assoc out (opening needed) (tasks_text p (third ++ task.Formula l (left_of c) ∷ []))
            ∙ ap (λ bs. out ++ (opening needed ++ bs)) stacked
            ∙ ap (λ bs. out ++ bs) (sym flat)
            ∙ ap (λ bs. out ++ (bs ++ tasks_text p ts)) (sym (ap (operand_text k) e ∙ joined-text k c (named_at p l) (named_at p r)))

        there : All (IsTask (length p.nodes)) (third ++ task.Formula l (left_of c) ∷ [])
        there = All-push (IsTask (length p.nodes)) third (task.Formula l (left_of c))
            (All-push (IsTask (length p.nodes)) second (task.Connective c)
            (All-push (IsTask (length p.nodes)) first (task.Formula r (right_of c)) (there-closed (length p.nodes) ts needed h) (b, right c)) tt) (a, left c)
          where
            right : (d : Connective) → right_of d ≤ 5
            right connective.And = omega arith
            right connective.Or = omega arith
            right connective.Implies = omega arith
            right connective.Iff = omega arith

            left : (d : Connective) → left_of d ≤ 5
            left connective.And = omega arith
            left connective.Or = omega arith
            left connective.Implies = omega arith
            left connective.Iff = omega arith

        fewer : tasks_steps p (third ++ task.Formula l (left_of c) ∷ []) < steps_of (named_at p i) + tasks_steps p ts
        fewer =
            let n = ap steps_of e ∙ joined-steps c (named_at p l) (named_at p r) in
            let s1 = steps-closed ts needed in
            let s2 = steps-push first (task.Formula r (right_of c)) in
            let s3 = steps-push second (task.Connective c) in
            let s4 = steps-push third (task.Formula l (left_of c)) in
            omega arith

  -- the formula of a node is that over the formulas of its operands
  pub named-node : (i : ℕ) (n : Node) → AreNodes p.nodes → slice_get p.nodes i ≡ Some n → named_at p i ≡ with_atoms (name_at p.names) (tree_over (trees p.nodes) n)
  named-node i n are at = ap (with_atoms (name_at p.names))
      (trees-at p.nodes are i n (slice_get_within p.nodes i n at) ∙ ap (tree_over (trees p.nodes)) (get_or_from_slice_get p.nodes i n n at))
