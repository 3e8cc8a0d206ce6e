-- Marks of operators that wait find their operands.
use Rattle.std.proofs.Common.{◌≡◌, ℕ, suc, ◌+◌, ◌-◌, ◌<◌, ◌≤◌, Bool, true, false, List, [], ◌∷◌, ◌++◌, length, take, Option, Some, None, refl, sym, ap, subst, ◌∙◌, arith, true≢false, is_some}
use Rattle.std.proofs.lemmas.List.{length-append, length-take-le}
use Rattle.std.specs.Prelude.{nat_le, if◌then◌else◌}
use Rattle.ps_meaning.specs.Formula.{Formula}
use Rattle.ps_meaning.specs.Statements.{Name}
use Rattle.ps_text.proofs.Levels.{test_le}
use Rattle.ps_problem.specs.declared.mark.Mark.{Mark}
use Rattle.ps_problem.specs.Drafts.{Drafted, arity, made_by, marked, with_mark}
use Rattle.ps_lex.specs.Stacks.{IsPopped}
use Rattle.ps_read.specs.declared.operator.Operator.{Operator}
use Rattle.ps_read.specs.declared.operator.Operator.TheVariants as operator
use Rattle.ps_read.specs.Pending.{Pending, binding, mark_of, reducible, firsts, reduced, reduced_from, is_waiting, is_grouped, group_ended, group_closed, HaveFirst, HaveAll}

pub length_marked : (names : List Name) (open' : List (Formula Name)) (m : Mark) → length (marked names open' m) ≡ (length open' - arity m) + 1
length_marked names open' m =
    let a : length (take (length open' - arity m) open' ++ made_by names open' m ∷ []) ≡ length (take (length open' - arity m) open') + 1 = length-append (take (length open' - arity m) open') (made_by names open' m ∷ []) in
    a ∙ ap (λ n. n + 1) (length-take-le (length open' - arity m) open' (omega arith))

-- an operator that is to be reduced waits last, and what is reduced is reduced behind its mark
pub record IsDue (k : ℕ) (os : List Operator) (o : Operator) : Type 0 where
  pub rest : List Operator
  pub last : os ≡ o ∷ rest
  pub binds : k ≤ binding o
  pub goes_on : (d : Drafted) → reduced_from k os d ≡ reduced_from k rest (with_mark d (mark_of o))

unsome : (o p : Operator) → Some o ≡ Some p → o ≡ p
unsome o p e = ap (λ x. or_else x o) e
  where
    or_else : Option Operator → Operator → Operator
    or_else None o = o
    or_else (Some x) o = x

pub is_due : (k : ℕ) (os : List Operator) (o : Operator) → reducible k os ≡ Some o → IsDue k os o
is_due k [] o e = absurd (true≢false (sym (ap is_some e)))
is_due k (p ∷ os) o e = by (nat_le k (binding p)) refl e
  where
    by : (b : Bool) → nat_le k (binding p) ≡ b → (if b then Some p else None) ≡ Some o → IsDue k (p ∷ os) o
    by true t e = subst (λ x. IsDue k (p ∷ os) x) (unsome p o e)
        (record { rest = os; last = refl; binds = test_le k (binding p) t; goes_on = λ d. ap (λ b. if b then reduced_from k os (with_mark d (mark_of p)) else record { operators = p ∷ os; draft = d }) t })
    by false t e = absurd (true≢false (sym (ap is_some e)))

-- where none is to be reduced all is reduced
pub none_reducible : (k : ℕ) (os : List Operator) (d : Drafted) → reducible k os ≡ None → reduced_from k os d ≡ record { operators = os; draft = d }
none_reducible k [] d e = refl
none_reducible k (p ∷ os) d e = by (nat_le k (binding p)) e
  where
    by : (b : Bool) → (if b then Some p else None) ≡ None → (if b then reduced_from k os (with_mark d (mark_of p)) else record { operators = p ∷ os; draft = d }) ≡ record { operators = p ∷ os; draft = d }
    by true e = absurd (true≢false (ap is_some e))
    by false e = refl

-- the operands of an operator that is to be reduced stand open
pub operands_there : (o : Operator) (os : List Operator) (n : ℕ) → 1 ≤ binding o → n ≡ suc (firsts (o ∷ os)) → arity (mark_of o) ≤ n
operands_there operator.Not os n h e = omega (arith, e)
operands_there operator.Group os n h e = absurd (omega (arith, h))
operands_there operator.And os n h e = omega (arith, e)
operands_there operator.Or os n h e = omega (arith, e)
operands_there operator.Implies os n h e = omega (arith, e)
operands_there operator.Iff os n h e = omega (arith, e)

-- and behind its mark one formula stands behind those of the rest
fewer : (o : Operator) (os : List Operator) (n : ℕ) → 1 ≤ binding o → n ≡ suc (firsts (o ∷ os)) → (n - arity (mark_of o)) + 1 ≡ suc (firsts os)
fewer operator.Not os n h e = omega (arith, e)
fewer operator.Group os n h e = absurd (omega (arith, h))
fewer operator.And os n h e = omega (arith, e)
fewer operator.Or os n h e = omega (arith, e)
fewer operator.Implies os n h e = omega (arith, e)
fewer operator.Iff os n h e = omega (arith, e)

pub operands_kept : (names : List Name) (open' : List (Formula Name)) (o : Operator) (os : List Operator) → 1 ≤ binding o → length open' ≡ suc (firsts (o ∷ os)) → length (marked names open' (mark_of o)) ≡ suc (firsts os)
operands_kept names open' o os h e = length_marked names open' (mark_of o) ∙ fewer o os (length open') h e

tail_of : List Operator → List Operator
tail_of [] = []
tail_of (o ∷ os) = os

is_some_item : List Operator → Bool
is_some_item [] = false
is_some_item (o ∷ os) = true

popped : (old new : List Operator) (r : Option Operator) (o : Operator) (rest : List Operator) → old ≡ o ∷ rest → IsPopped old new r → new ≡ rest
unfolding is_some_item tail_of
popped old new None o rest e h = absurd (true≢false (ap is_some_item (sym e ∙ h.0)))
popped old new (Some p) o rest e h = ap tail_of (sym h ∙ e)

-- behind the mark of an operator that is to be reduced the same is reduced, with all operands and fewer operators
pub record IsPassed (k : ℕ) (p q : Pending) : Type 0 where
  pub reduces : reduced k q ≡ reduced k p
  pub operands : HaveAll q
  pub fewer : length q.operators < length p.operators

binds_one : (k l n : ℕ) → k ≡ l → 1 ≤ l → k ≤ n → 1 ≤ n
binds_one k l n e h b = omega (arith, e, h, b)

pub goes_on : (k : ℕ) (p : Pending) (o : Operator) (os : List Operator) (d : Drafted) (r : Option Operator) (m : Mark) → 1 ≤ k → HaveAll p → reducible k p.operators ≡ Some o → IsPopped p.operators os r → m ≡ mark_of o → d ≡ with_mark p.draft m
    → IsPassed k p (record { operators = os; draft = d })
goes_on k p o os d r m h a e i n w =
    let x = is_due k p.operators o e in
    let same : os ≡ x.rest = popped p.operators os r o x.rest x.last i in
    let drawn : d ≡ with_mark p.draft (mark_of o) = w ∙ ap (with_mark p.draft) n in
    let some : 1 ≤ binding o = binds_one k k (binding o) refl h x.binds in
    let all : length p.draft.«open» ≡ suc (firsts (o ∷ x.rest)) = a ∙ ap (λ xs. suc (firsts xs)) x.last in
    let short : length os ≡ length x.rest = ap length same in
    let long : length p.operators ≡ suc (length x.rest) = ap length x.last in
    record {
      reduces = ap (λ xs. reduced_from k xs d) same ∙ ap (reduced_from k x.rest) drawn ∙ sym (x.goes_on p.draft);
      operands = ap (λ y. length y.«open») drawn ∙ operands_kept p.draft.names p.draft.«open» o x.rest some all ∙ ap (λ xs. suc (firsts xs)) (sym same);
      fewer = omega (arith, short, long);
    }

-- the operands of the mark of one that is to be reduced
pub finds : (k : ℕ) (p : Pending) (o : Operator) (m : Mark) → 1 ≤ k → HaveAll p → reducible k p.operators ≡ Some o → m ≡ mark_of o → arity m ≤ length p.draft.«open»
finds k p o m h a e n =
    let x = is_due k p.operators o e in
    subst (λ y. arity y ≤ length p.draft.«open») (sym n)
    (operands_there o x.rest (length p.draft.«open») (binds_one k k (binding o) refl h x.binds) (a ∙ ap (λ xs. suc (firsts xs)) x.last))

pub is_none : (o : Option Operator) → ((x : Operator) → o ≡ Some x → ⊥) → o ≡ None
is_none None h = refl
is_none (Some x) h = absurd (h x refl)

-- behind `true` or `false` all operands stand open
pub constant_there : (p : Pending) (m : Mark) → arity m ≡ 0 → HaveFirst p → HaveAll (record { operators = p.operators; draft = with_mark p.draft m })
constant_there p m z h = length_marked p.draft.names p.draft.«open» m ∙ (let e : (length p.draft.«open» - arity m) + 1 ≡ suc (firsts p.operators) = omega (arith, z, h) in e)

-- behind what is reduced none is to be reduced
pub none_left : (k : ℕ) (os : List Operator) (d : Drafted) → reducible k (reduced_from k os d).operators ≡ None
none_left k [] d = refl
none_left k (o ∷ os) d = by (nat_le k (binding o)) refl (none_left k os (with_mark d (mark_of o)))
  where
    by : (b : Bool) → nat_le k (binding o) ≡ b → reducible k (reduced_from k os (with_mark d (mark_of o))).operators ≡ None
        → reducible k (if b then reduced_from k os (with_mark d (mark_of o)) else record { operators = o ∷ os; draft = d }).operators ≡ None
    by true e rest = rest
    by false e rest = ap (λ b. if b then Some o else None) e

-- of what waits behind a `)` the last is a `(`, which has no first operand
group_left : (o : Operator) (os : List Operator) → reducible 1 (o ∷ os) ≡ None → firsts (o ∷ os) ≡ firsts os
group_left operator.Not os e = refl
group_left operator.Group os e = refl
group_left operator.And os e = absurd (true≢false (ap is_some e))
group_left operator.Or os e = absurd (true≢false (ap is_some e))
group_left operator.Implies os e = absurd (true≢false (ap is_some e))
group_left operator.Iff os e = absurd (true≢false (ap is_some e))

-- so all operands are there behind it
behind_group : (p q : Pending) (o : Operator) (os : List Operator) → p ≡ reduced 1 q → HaveAll p → p.operators ≡ o ∷ os → HaveAll (record { operators = os; draft = p.draft })
behind_group p q o os e a i =
    let none : reducible 1 p.operators ≡ None = ap (λ x. reducible 1 x.operators) e ∙ none_left 1 q.operators q.draft in
    a ∙ ap (λ xs. suc (firsts xs)) i ∙ ap suc (group_left o os (ap (reducible 1) (sym i) ∙ none))

pub group_operands : (p q : Pending) (r : Option Operator) (o : Operator) (os : List Operator) → p ≡ reduced 1 q → HaveAll p → r ≡ Some o → IsPopped p.operators os r → HaveAll (record { operators = os; draft = p.draft })
group_operands p q r o os e a s i = behind_group p q o os e a (subst (λ x. IsPopped p.operators os x) s i)

pub not_waiting : (os : List Operator) → is_waiting os ≡ false → os ≡ []
not_waiting [] e = refl
not_waiting (o ∷ os) e = absurd (true≢false e)

-- where no `(` is open all that waits is marked at a `)`
pub ungrouped : (p : Pending) → is_grouped p ≡ false → group_closed p ≡ reduced 1 p
ungrouped p e = by (reduced 1 p).operators (reduced 1 p).draft e
  where
    by : (os : List Operator) (d : Drafted) → is_waiting os ≡ false → group_ended os d ≡ record { operators = os; draft = d }
    by [] d e = refl
    by (o ∷ os) d e = absurd (true≢false e)
