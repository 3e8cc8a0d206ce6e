-- What is known as constraints and clauses, and what one of these does to an assignment.
use Rattle.std.specs.Prelude.{ℕ, ◌≡◌, ◌≤◌, ℤ, Option, Some, None, List, [], ◌∷◌, ◌++◌, length, map, take, drop}
use Rattle.ps_pb.specs.Assignments.{Assignment}
use Rattle.ps_pb.specs.Constraints.{Constraint}
use Rattle.ps_pb.specs.Weights.{clause_of}
use Rattle.ps_pb.specs.declared.propagation.Effect.{Effect}
use Rattle.ps_pb.specs.Effects.{Propagates}
use Rattle.ps_pbcheck.specs.declared.propagation.Left.{Left}
use Rattle.ps_pbcheck.specs.declared.propagation.Left.TheVariants.{Nothing, One, Several}

-- the literals of a constraint
abbrev pub lits_in : Constraint → List ℤ
lits_in c = map (λ t. t.0) c.terms

-- clauses, of which so many stand before the goal
abbrev pub held_of : List (List ℤ) → ℕ → Constraint → List Constraint
held_of clauses before goal = map clause_of (take before clauses) ++ goal ∷ map clause_of (drop before clauses)

-- which literals aren't false: none, or this one alone, or more
abbrev pub Leaves : List ℤ → Left → Type 0
Leaves lits Nothing = lits ≡ []
Leaves lits (One l) = lits ≡ l ∷ []
Leaves lits Several = 2 ≤ length lits

-- what a constraint does to an assignment, if there is one
abbrev pub Follows : Option Constraint → Assignment → Assignment → Option Effect → Type 0
Follows None a b None = b ≡ a
Follows None a b (Some effect) = ⊥
Follows (Some c) a b None = ⊥
Follows (Some c) a b (Some effect) = Propagates c a b effect
