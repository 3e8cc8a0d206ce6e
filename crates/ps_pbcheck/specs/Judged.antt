-- How far the check of a step has come.
use Rattle.std.specs.Prelude.{ℕ, ◌≡◌, Bool, true, false, Option, Some, None, Result, Ok, Err, List}
use Rattle.ps_pb.specs.declared.refused.StepRefused.{StepRefused}
use Rattle.ps_pb.specs.Assignments.{Assignment}
use Rattle.ps_pb.specs.Constraints.{Constraint}
use Rattle.ps_pb.specs.Steps.{known_of, Propagation, Open, Conflict, Refused, after_hint}

-- a conflict, or the assignment from which propagation goes on
abbrev pub propagation_of : Bool → Assignment → Propagation
propagation_of true a = Conflict
propagation_of false a = Open a

-- propagation along one more hint, from where it has come
abbrev pub gone_along : List Constraint → Bool → Assignment → ℕ → Propagation
gone_along known conflict a hint = after_hint (known_of known) (propagation_of conflict a) hint

-- propagation has come this far
abbrev pub IsAfter : Propagation → Assignment → Result Bool StepRefused → Type 0
IsAfter x a (Ok conflict) = x ≡ propagation_of conflict a
IsAfter x a (Err why) = x ≡ Refused why

-- the answer of a whole propagation
abbrev pub IsEnded : Option StepRefused → Result (Unit {0}) StepRefused → Type 0
IsEnded o (Ok done) = o ≡ None
IsEnded o (Err why) = o ≡ Some why

-- whether all literals could be set false, and to what this led
abbrev pub AllFalse : Option Assignment → Bool → Assignment → Type 0
AllFalse o true a = o ≡ Some a
AllFalse o false a = o ≡ None
