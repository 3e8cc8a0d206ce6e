-- When the values of the atoms' variables decide those of all others.
use Rattle.std.specs.Prelude.{ℕ, ◌<◌, ◌≤◌, ◌≡◌, true, false, Some}
use Rattle.ps_pb.specs.Assignments.{Assignment, value_at, is_unset}
use Rattle.ps_pb.specs.Constraints.{Constraint, slack, is_violated, some_forced}
use Rattle.ps_clause.specs.Forms.{Form, is_atom_variable, clause_at}

-- a constraint is neither violated nor forces a literal
pub record IsIdle (c : Constraint) (a : Assignment) : Type 0 where
  pub unviolated : is_violated c a ≡ false
  pub unforced : some_forced (slack c a) a c.terms ≡ false

-- each clause is idle
pub record AreIdle (f : Form) (a : Assignment) : Type 0 where
  pub at : (id : ℕ) (c : Constraint) → clause_at f id ≡ Some c → IsIdle c a

-- each atom's variable has a value
pub record AtomsAreSet (f : Form) (a : Assignment) : Type 0 where
  pub at : (var : ℕ) → is_atom_variable f var ≡ true → is_unset (value_at a var) ≡ false

-- each variable has a value
pub record AllAreSet (f : Form) (a : Assignment) : Type 0 where
  pub at : (var : ℕ) → 0 < var → var ≤ f.variables → is_unset (value_at a var) ≡ false

-- an assignment in which each atom's variable has a value, and each clause is idle, has a value for each variable
pub record AtomsDecide (f : Form) : Type 0 where
  pub all_set : (a : Assignment) → AtomsAreSet f a → AreIdle f a → AllAreSet f a
