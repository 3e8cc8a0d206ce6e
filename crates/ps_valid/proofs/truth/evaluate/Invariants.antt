use Rattle.std.proofs.Common.{take}
use Rattle.ps_claims.specs.Certificates.{entries}
use Rattle.ps_valid.specs.Valuations.{IsTableOf}
use Rattle.ps_valid.proofs.truth.evaluate.Given as goal

abbrev pub invariant-loop-w : goal.invariant-loop-w
invariant-loop-w l = IsTableOf l.formulas (entries (take l.w-index l.worlds)) l.valued.items
