use Rattle.std.proofs.Common.{sym, ◌∙◌}
use Rattle.ps_problem.proofs.Scales.{over_stop, over_next}
use Rattle.ps_problem.proofs.scale.over_terms.Goals as goal

pub returns-in-None : goal.returns-in-None
returns-in-None c =
    let i = c.loop-term.invariant in
    over_stop c.args.scale c.args.terms.now c.loop-term.all c.loop-term.term-index _ c.requires.terms i.0 i.2 c.loop-term-test.true (sym c.with_denominator.ensures ∙ c.in-None.is)

pub loop-term-preserved : goal.loop-term-preserved
loop-term-preserved c =
    let i = c.loop-term.invariant in
    over_next c.args.scale c.args.terms.now c.loop-term.all c.loop-term.term-index _ c.requires.terms i.0 i.2 c.loop-term-test.true c.in-Some.more (sym c.with_denominator.ensures ∙ c.in-Some.is)
