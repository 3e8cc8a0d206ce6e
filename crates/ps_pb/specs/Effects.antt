-- What a constraint does to an assignment.
use Rattle.std.specs.Prelude.{◌≡◌, true, false}
use Rattle.ps_pb.specs.Assignments.{Assignment}
use Rattle.ps_pb.specs.Constraints.{Constraint, slack, is_violated, some_forced, with_forced}
use Rattle.ps_pb.specs.declared.propagation.Effect.{Effect}
use Rattle.ps_pb.specs.declared.propagation.Effect.TheVariants.{Violated, Forced, Idle}

-- the effect tells what the constraint is under the first assignment, and the second has the forced literals set
abbrev pub Propagates : Constraint → Assignment → Assignment → Effect → Type 0
Propagates c a b Violated = (is_violated c a ≡ true) × (b ≡ a)
Propagates c a b Idle = (is_violated c a ≡ false) × (some_forced (slack c a) a c.terms ≡ false) × (b ≡ a)
Propagates c a b Forced = (is_violated c a ≡ false) × (some_forced (slack c a) a c.terms ≡ true)
    × (b ≡ with_forced (slack c a) c.terms a)
