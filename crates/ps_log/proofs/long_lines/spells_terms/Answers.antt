use Rattle.ps_log.proofs.LongTexts.{terms-more-looked, terms-told}
use Rattle.ps_log.proofs.long_lines.spells_terms.Goals as goal

pub loop-after-preserved : goal.loop-after-preserved
loop-after-preserved c = terms-more-looked c.args.text.now c.loop-after.rest.now c.in-Some.after.now c.loop-after.invariant c.in-Some.ensures.found

pub returns : goal.returns
returns c = terms-told c.args.text.now c.loop-after.rest.now c.is_zero.result c.loop-after.invariant c.in_default.ensures.none c.is_zero.ensures
