use Rattle.std.proofs.Common.{◌∙◌, ap}
use Rattle.ps_pb.specs.Weights.{terms_of}
use Rattle.ps_sat.proofs.Chosen.{open-at}
use Rattle.ps_sat.proofs.choosing.first_open.Goals as goal

pub returns-then-is_open-clause-some : goal.returns-then-is_open-clause-some
returns-then-is_open-clause-some c = open-at c.args.c.now c.args.a.now c.as_slice-term-items.result.now c.loop-term.term-index c.term-item.result c.is_open.result (ap terms_of c.as_slice-term-items.ensures ∙ c.terms.ensures.same) c.loop-term-test.true c.term-item.is c.is_open.ensures c.if-is_open.true
