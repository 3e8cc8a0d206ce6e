-- What stands at an id among clauses and the goal between them.
use Rattle.std.proofs.Common.{◌≡◌, ◌≢◌, ℕ, zero, suc, ◌-◌, ◌+◌, ◌<◌, ◌≤◌, ℤ, Option, Some, None, List, [], ◌∷◌, ◌++◌, length, map, arith, refl, sym, ap, ◌∙◌, inl, inr}
use Rattle.std.specs.Prelude.{slice_get, nat_lt}
use Rattle.std.specs.Int.{from_bool}
use Rattle.std.specs.Option.{option_map}
use Rattle.std.specs.List.{All}
use Rattle.std.proofs.lemmas.Bool.{cases_lt, lt-ltb, le-ltb}
use Rattle.std.proofs.lemmas.List.{length-map, map-append}
use Rattle.std.proofs.lemmas.Option.{slice_get-map, get_or_from_slice_get, slice_get_within}
use Rattle.ps_pb.specs.Assignments.{AreDifferent}
use Rattle.ps_pb.specs.Constraints.{Constraint}
use Rattle.ps_pb.specs.Weights.{clause_of}
use Rattle.ps_pb.specs.Steps.{constraint_at, known_of}
use Rattle.ps_pb.proofs.Ids.{constraint_at-known}
use Rattle.ps_pbcheck.specs.Followed.{held_of}

before_get : (clauses : List (List ℤ)) (before i : ℕ) (goal : Constraint) → before ≤ length clauses → i < before → slice_get (held_of clauses before goal) i ≡ option_map clause_of (slice_get clauses i)
before_get [] before i goal le lt = absurd (omega (arith, le, lt))
before_get (l ∷ clauses) zero i goal le lt = absurd (omega (arith, lt))
before_get (l ∷ clauses) (suc before) zero goal le lt = refl
before_get (l ∷ clauses) (suc before) (suc i) goal le lt = before_get clauses before i goal (omega (arith, le)) (omega (arith, lt))

goal_get : (clauses : List (List ℤ)) (before : ℕ) (goal : Constraint) → before ≤ length clauses → slice_get (held_of clauses before goal) before ≡ Some goal
goal_get [] zero goal le = refl
goal_get [] (suc before) goal le = absurd (omega (arith, le))
goal_get (l ∷ clauses) zero goal le = refl
goal_get (l ∷ clauses) (suc before) goal le = goal_get clauses before goal (omega (arith, le))

behind_get : (clauses : List (List ℤ)) (before i : ℕ) (goal : Constraint) → before ≤ length clauses → before ≤ i → slice_get (held_of clauses before goal) (suc i) ≡ option_map clause_of (slice_get clauses i)
behind_get [] zero i goal le past = refl
behind_get [] (suc before) i goal le past = absurd (omega (arith, le))
behind_get (l ∷ clauses) zero i goal le past = slice_get-map clause_of (l ∷ clauses) i
behind_get (l ∷ clauses) (suc before) zero goal le past = absurd (omega (arith, past))
behind_get (l ∷ clauses) (suc before) (suc i) goal le past = behind_get clauses before i goal (omega (arith, le)) (omega (arith, past))

pub known-goal : (clauses : List (List ℤ)) (before : ℕ) (goal : Constraint) (id : ℕ) → before ≤ length clauses → id ≢ 0 → id - 1 ≡ before → constraint_at (known_of (held_of clauses before goal)) id ≡ Some goal
known-goal clauses before goal id le h e =
    constraint_at-known (held_of clauses before goal) id h ∙ ap (slice_get (held_of clauses before goal)) e ∙ goal_get clauses before goal le

known_before : (clauses : List (List ℤ)) (before : ℕ) (goal : Constraint) (id : ℕ) → before ≤ length clauses → id ≢ 0 → id - 1 < before → constraint_at (known_of (held_of clauses before goal)) id ≡ option_map clause_of (slice_get clauses (id - 1))
known_before clauses before goal id le h lt =
    constraint_at-known (held_of clauses before goal) id h ∙ before_get clauses before (id - 1) goal le lt

known_behind : (clauses : List (List ℤ)) (before : ℕ) (goal : Constraint) (id place : ℕ) → before ≤ length clauses → id ≢ 0 → before ≤ place → id - 1 ≡ suc place → constraint_at (known_of (held_of clauses before goal)) id ≡ option_map clause_of (slice_get clauses place)
known_behind clauses before goal id place le h past e =
    constraint_at-known (held_of clauses before goal) id h ∙ ap (slice_get (held_of clauses before goal)) e ∙ behind_get clauses before place goal le past

-- a clause stands one place further on where it stands behind the goal
pub known-clause : (clauses : List (List ℤ)) (before : ℕ) (goal : Constraint) (id : ℕ) (o : Option (List ℤ)) → before ≤ length clauses → id ≢ 0 → id - 1 ≢ before → o ≡ slice_get clauses (id - 1 - from_bool (nat_lt before (id - 1))) → constraint_at (known_of (held_of clauses before goal)) id ≡ option_map clause_of o
known-clause clauses before goal id o le h ne there = elim (cases_lt before (id - 1)) [
  | inl lt ↦ (let at : o ≡ slice_get clauses (id - 1 - 1) = there ∙ ap (λ b. slice_get clauses (id - 1 - from_bool b)) (lt-ltb before (id - 1) lt) in
      known_behind clauses before goal id (id - 1 - 1) le h (omega (arith, lt)) (omega (arith, lt)) ∙ ap (option_map clause_of) (sym at))
  | inr past ↦ (let none : id - 1 - 0 ≡ id - 1 = omega arith in
      let at : o ≡ slice_get clauses (id - 1) = there ∙ ap (λ b. slice_get clauses (id - 1 - from_bool b)) (le-ltb before (id - 1) past) ∙ ap (slice_get clauses) none in
      known_before clauses before goal id le h (omega (arith, past, ne)) ∙ ap (option_map clause_of) (sym at))
]

pub zero-none : (cs : List Constraint) (id : ℕ) → id ≡ 0 → constraint_at (known_of cs) id ≡ None
unfolding constraint_at
zero-none cs id e = rw e refl

pub held-length : (clauses : List (List ℤ)) (before : ℕ) (goal : Constraint) → length (held_of clauses before goal) ≡ length clauses + 1
held-length [] zero goal = refl
held-length [] (suc before) goal = refl
held-length (l ∷ clauses) zero goal = omega (arith, length-map (l ∷ clauses) clause_of)
held-length (l ∷ clauses) (suc before) goal = omega (arith, held-length clauses before goal)

pub held-more : (clauses : List (List ℤ)) (before : ℕ) (goal : Constraint) (ls : List ℤ) → before ≤ length clauses → held_of (clauses ++ ls ∷ []) before goal ≡ held_of clauses before goal ++ clause_of ls ∷ []
held-more [] zero goal ls le = refl
held-more [] (suc before) goal ls le = absurd (omega (arith, le))
held-more (l ∷ clauses) zero goal ls le = ap (λ x. goal ∷ x) (map-append clause_of (l ∷ clauses) (ls ∷ []))
held-more (l ∷ clauses) (suc before) goal ls le = ap (λ x. clause_of l ∷ x) (held-more clauses before goal ls (omega (arith, le)))

-- at first no clause stands behind the goal
pub held-first : (clauses : List (List ℤ)) (goal : Constraint) → held_of clauses (length clauses) goal ≡ map clause_of clauses ++ goal ∷ []
held-first [] goal = refl
held-first (l ∷ clauses) goal = ap (λ x. clause_of l ∷ x) (held-first clauses goal)

-- the literals of each clause are different
pub at-different : (clauses : List (List ℤ)) (i : ℕ) (ls : List ℤ) → All AreDifferent clauses → slice_get clauses i ≡ Some ls → AreDifferent ls
at-different clauses i ls all at = rw (get_or_from_slice_get clauses i ls ls at) at (all i ls (slice_get_within clauses i ls at))
