-- Literals that are false.
use Rattle.std.specs.Prelude.{◌≡◌, ℤ, false, Some, List, All}
use Rattle.ps_pb.specs.Assignments.{Assignment, value_of}

-- each of the literals is false
abbrev pub AreFalseIn : Assignment → List ℤ → Type 0
AreFalseIn a lits = All (λ l. value_of a l ≡ Some false) lits
