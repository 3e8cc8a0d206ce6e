use Rattle.std.proofs.Common.{◌∙◌, ap}
use Rattle.ps_pb.specs.Weights.{terms_of}
use Rattle.ps_sat.proofs.Chosen.{false-at}
use Rattle.ps_sat.proofs.choosing.last_false.Goals as goal

pub returns-then-is_false_at_top : goal.returns-then-is_false_at_top
returns-then-is_false_at_top c = false-at c.args.c.now c.args.trail.now c.as_slice-term-items.result.now c.loop-term.term-index c.term-item.result (ap terms_of c.as_slice-term-items.ensures ∙ c.terms.ensures.same) c.loop-term-test.true c.term-item.is (c.is_false_at_top.ensures c.if-is_false_at_top.true)
