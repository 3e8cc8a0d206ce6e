use Rattle.std.proofs.Common.{◌≡◌, drop}
use Rattle.ps_ask.specs.Late.{is_late_in}
use Rattle.ps_ask.proofs.late.is_late_in.Given as goal

abbrev pub invariant-loop-part : goal.invariant-loop-part
invariant-loop-part l = is_late_in l.parts ≡ is_late_in (drop l.part-index l.parts)
