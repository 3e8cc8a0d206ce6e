use Rattle.std.proofs.Common.{◌∙◌, ap}
use Rattle.ps_pb.specs.Weights.{terms_of}
use Rattle.ps_sat.proofs.Seen.{new-at}
use Rattle.ps_sat.proofs.looking.open_other.Goals as goal

pub returns-then-is_new : goal.returns-then-is_new
returns-then-is_new c = new-at c.args.c.now c.args.a.now c.args.other c.as_slice-term-items.result.now c.loop-term.term-index c.term-item.result c.is_new.result (ap terms_of c.as_slice-term-items.ensures ∙ c.terms.ensures.same) c.loop-term-test.true c.term-item.is c.is_new.ensures c.if-is_new.true
