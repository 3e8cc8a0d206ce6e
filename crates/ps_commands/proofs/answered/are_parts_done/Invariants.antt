use Rattle.std.proofs.Common.{◌≡◌, drop}
use Rattle.ps_commands.proofs.OpenParts.{parts_open}
use Rattle.ps_commands.proofs.answered.are_parts_done.Given as goal

abbrev pub invariant-loop-part : goal.invariant-loop-part
invariant-loop-part l = parts_open l.parts ≡ parts_open (drop l.part-index l.parts)
