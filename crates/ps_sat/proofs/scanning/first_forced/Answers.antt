use Rattle.std.proofs.Common.{ap, ◌∙◌}
use Rattle.ps_pb.specs.Weights.{terms_of}
use Rattle.ps_sat.proofs.Scanned.{first_forces}
use Rattle.ps_sat.proofs.scanning.first_forced.Goals as goal

pub returns-then-is_forced : goal.returns-then-is_forced
returns-then-is_forced c = (
  first_forces c.args.c.now c.args.a.now c.args.room.now c.as_slice-term-items.result.now c.loop-term.term-index c.term-item.result c.is_forced.result (ap terms_of c.as_slice-term-items.ensures ∙ c.terms.ensures.same) c.requires c.loop-term-test.true c.term-item.is c.is_forced.ensures c.if-is_forced.true,
  (rw c.variable-variable.ensures.value at c.variable-variable.ensures.within.0),
)
