use Rattle.std.proofs.Common.{take}
use Rattle.ps_claims.specs.Certificates.{entries}
use Rattle.ps_claims.specs.Claims.{AreProperEntries}
use Rattle.ps_valid.proofs.weighing.first_among.Given as goal

abbrev pub invariant-loop-i : goal.invariant-loop-i
invariant-loop-i l = AreProperEntries (entries (take l.i l.worlds))
