-- Which variable is chosen for a decision.
use Rattle.std.specs.Prelude.{ℕ, ◌≡◌, ◌≤◌, ◌<◌, ◌+◌, Bool, true, false, ◌&&◌, Option, Some, None, ℤ, unsigned_abs}
use Rattle.ps_pb.specs.Assignments.{Assignment, place, value_at, is_unset}
use Rattle.ps_clause.specs.Forms.{Form, is_atom_variable}
use Rattle.ps_clause.specs.Decided.{AtomsAreSet}
use Rattle.ps_learn.specs.Trails.{IsFresh}

-- whether a variable is an atom's, and has no value
abbrev pub is_open_atom : Form → Assignment → ℕ → Bool
is_open_atom f a var = is_atom_variable f var && is_unset (value_at a var)

-- the variable at a place may be decided on
abbrev pub IsOpenAt : Form → Assignment → ℕ → Type 0
IsOpenAt f a p = (p < f.variables) × (is_open_atom f a (p + 1) ≡ true)

-- the first variables have values where they are atoms'
pub record AtomsTo (f : Form) (a : Assignment) (n : ℕ) : Type 0 where
  pub at : (var : ℕ) → var ≤ n → is_atom_variable f var ≡ true → is_unset (value_at a var) ≡ false

-- an atom without a value, and none where each atom has a value
abbrev pub IsOpenAtom : Form → Assignment → Option ℤ → Type 0
IsOpenAtom f a None = AtomsAreSet f a
IsOpenAtom f a (Some l) = IsOpenAt f a (place l)

-- a decision: a literal of an atom's variable without a value, and none where each atom has a value
abbrev pub IsDecision : Form → Assignment → Option ℤ → Type 0
IsDecision f a None = AtomsAreSet f a
IsDecision f a (Some l) = IsFresh f.variables a l × (is_atom_variable f (unsigned_abs l) ≡ true)
