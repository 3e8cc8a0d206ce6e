-- What is known at first about clauses: constraints of the form's variables, and not many.
use Rattle.std.proofs.Common.{ℕ, suc, ◌<◌, ◌≤◌, ℤ, ◌-ℤ◌, List, [], ◌∷◌, ◌++◌, length, map, All, arith, length-append}
use Rattle.std.proofs.lemmas.List.{length-map}
use Rattle.std.proofs.lemmas.List.Elements.{All-nil, All-cons, All-head, All-tail, All-append}
use Rattle.ps_pb.specs.Assignments.{place}
use Rattle.ps_pb.specs.Constraints.{Constraint}
use Rattle.ps_pb.specs.Steps.{AreWithin}
use Rattle.ps_pb.specs.Weights.{clause_of, IsWithin}
use Rattle.ps_pb.proofs.Ids.{known_of-length}
use Rattle.ps_pb.proofs.Within.{clause-within, constraint-within}
use Rattle.ps_clause.specs.Clauses.{Clause, negative, once, is_tautology, tidy}
use Rattle.ps_clause.specs.Forms.{AreInside, first_known}
use Rattle.ps_clause.proofs.Different.{all-once}
use Rattle.ps_clause.proofs.Starts.{start-within}
use Rattle.ps_clause.proofs.Tidy.{by_bool}
use Rattle.ps_wcnf.specs.Built.{AreNamedBelow, HardNamed, SoftNamed}
use Rattle.ps_wcnf.specs.Costs.{Soft}
use Rattle.ps_wcnf.specs.Laws.{IsWeighed}
use Rattle.ps_wcnf.specs.Limits.{IsText}
use Rattle.ps_wcnf.specs.Valued.{is_long, after, variables_after, own_clause, own_clauses, form_of, literals_of, base_of, goal_of}
use Rattle.ps_wcnf.specs.declared.text.WcnfText.{WcnfText}
use Rattle.ps_wcnf.proofs.Building.{named-places, named-more, named-push, named-own, after-from, hard-named, soft-named}
use Rattle.ps_wcnf.proofs.Placed.{literals-placed}

-- the literals of a clause are of these variables
abbrev IsPlaced : ℕ → Clause → Type 0
IsPlaced v c = All (λ l. place l < v) c

placed_more : (n m : ℕ) (c : Clause) → n ≤ m → IsPlaced n c → IsPlaced m c
placed_more n m c le h = λ k d lt. let a = h k d lt in omega (arith, a, le)

-- ---- tidied clauses
tidy_within : (v : ℕ) (cs : List Clause) → All (IsPlaced v) cs → All (IsWithin v) (map clause_of (tidy cs))
tidy_within v [] h = All-nil (IsWithin v)
tidy_within v (c ∷ cs) h =
    let others = tidy_within v cs (All-tail (IsPlaced v) c cs h) in
    let first = clause-within v (once c) (all-once (λ l. place l < v) c (All-head (IsPlaced v) c cs h)) in
    by_bool (is_tautology c) (λ t. rw t others) (λ f. rw f (All-cons (IsWithin v) (clause_of (once c)) (map clause_of (tidy cs)) first others))

tidy_few : (cs : List Clause) → length (tidy cs) ≤ length cs
tidy_few [] = omega arith
tidy_few (c ∷ cs) = let few = tidy_few cs in by_bool (is_tautology c) (λ t. rw t (omega (arith, few))) (λ f. rw f (omega (arith, few)))

-- ---- the clauses of the soft clauses' own variables
own_one : (m : ℕ) (s : Soft) → AreNamedBelow m s.1 → All (IsPlaced (after m s)) (own_clause m s)
own_one m s named = by_bool (is_long s.1)
    (λ t. rw t (All-cons (IsPlaced (suc m)) (s.1 ++ negative m ∷ []) []
    (named-places (suc m) (s.1 ++ negative m ∷ []) (named-push (suc m) s.1 (negative m) (named-more m (suc m) s.1 (omega arith) named) (named-own m (suc m) (omega arith))))
    (All-nil (IsPlaced (suc m)))))
    (λ f. rw f (All-nil (IsPlaced m)))

all_more : (n m : ℕ) (cs : List Clause) → n ≤ m → All (IsPlaced n) cs → All (IsPlaced m) cs
all_more n m [] le h = All-nil (IsPlaced m)
all_more n m (c ∷ cs) le h = All-cons (IsPlaced m) c cs (placed_more n m c le (All-head (IsPlaced n) c cs h)) (all_more n m cs le (All-tail (IsPlaced n) c cs h))

own_placed : (n m : ℕ) (ss : List Soft) → n ≤ m → SoftNamed n ss → All (IsPlaced (variables_after m ss)) (own_clauses m ss)
own_placed n m [] le h = All-nil (IsPlaced m)
own_placed n m (s ∷ ss) le h =
    let named : AreNamedBelow n s.1 = All-head (λ (x : Soft). AreNamedBelow n x.1) s ss h in
    let grows : m ≤ after m s = by_bool (is_long s.1) (λ t. rw t (omega arith)) (λ f. rw f (omega arith)) in
    let first = all_more (after m s) (variables_after (after m s) ss) (own_clause m s) (after-from (after m s) ss) (own_one m s (named-more n m s.1 le named)) in
    let others = own_placed n (after m s) ss (omega (arith, le, grows)) (All-tail (λ (x : Soft). AreNamedBelow n x.1) s ss h) in
    All-append (IsPlaced (variables_after (after m s) ss)) (own_clause m s) (own_clauses (after m s) ss) first others

own_few : (m : ℕ) (ss : List Soft) → length (own_clauses m ss) ≤ length ss
own_few m [] = omega arith
own_few m (s ∷ ss) =
    let one : length (own_clause m s) ≤ 1 = by_bool (is_long s.1) (λ t. rw t (omega arith)) (λ f. rw f (omega arith)) in
    omega (arith, one, own_few (after m s) ss, length-append (own_clause m s) (own_clauses (after m s) ss))

hard_placed : (n : ℕ) (cs : List Clause) → HardNamed n cs → All (IsPlaced n) cs
hard_placed n [] h = All-nil (IsPlaced n)
hard_placed n (c ∷ cs) h = All-cons (IsPlaced n) c cs (named-places n c (All-head (AreNamedBelow n) c cs h)) (hard_placed n cs (All-tail (AreNamedBelow n) c cs h))

module _ (t : WcnfText) (weighed : IsWeighed t) where
  soft_are : SoftNamed t.variables t.soft
  soft_are = soft-named t weighed.named weighed.literals.soft

  hard_are : All (IsPlaced (variables_after t.variables t.soft)) t.hard
  hard_are =
      all_more t.variables (variables_after t.variables t.soft) t.hard (after-from t.variables t.soft)
      (hard_placed t.variables t.hard (hard-named t t.variables weighed.named (omega arith) weighed.literals.hard))

  inside : AreInside (form_of t)
  inside =
      let v = variables_after t.variables t.soft in
      tidy_within v (t.hard ++ own_clauses t.variables t.soft)
      (All-append (IsPlaced v) t.hard (own_clauses t.variables t.soft) hard_are (own_placed t.variables t.variables t.soft (omega arith) soft_are))

  -- what is known at first is of the form's variables
  pub known_within : (least : ℤ) → AreWithin (form_of t).variables (first_known (form_of t) (goal_of t least))
  known_within least =
      start-within (form_of t) (goal_of t least) inside
      (constraint-within (form_of t).variables (literals_of t) (least -ℤ base_of t) (literals-placed t.variables t.variables t.soft (omega arith) soft_are))

  -- and no more than the clauses of the text, and the goal
  pub few_known : (text : IsText t) (goal : Constraint) → length (first_known (form_of t) goal) ≤ 1000001
  few_known text goal =
      let all = t.hard ++ own_clauses t.variables t.soft in
      let most = text.within.clauses in
      omega (
        arith,
        known_of-length ((form_of t).clauses ++ goal ∷ []),
        length-append (form_of t).clauses (goal ∷ []),
        length-map (tidy all) clause_of,
        tidy_few all,
        length-append t.hard (own_clauses t.variables t.soft),
        own_few t.variables t.soft,
        most,
      )
