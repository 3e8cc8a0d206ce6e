use Rattle.std.proofs.Common.{true≢false, sym}
use Rattle.ps_log.proofs.LongTexts.{lits-more-looked, lits-told, lits-other}
use Rattle.ps_log.proofs.long_lines.spells_lits.Goals as goal

pub loop-after-preserved : goal.loop-after-preserved
loop-after-preserved c = lits-more-looked c.args.text.now c.loop-after.rest.now c.in-Some.after.now c.loop-after.invariant c.in-Some.ensures.found

pub returns-in-Some-after_letter : goal.returns-in-Some-after_letter
returns-in-Some-after_letter c =
    lits-told c.args.text.now c.loop-after.rest.now c.in-Some-after_letter.hints.now c.spells_hints.result c.loop-after.invariant c.in_default.ensures.none c.in-Some-after_letter.ensures.found c.spells_hints.ensures

pub returns-in-None : goal.returns-in-None
returns-in-None c = (
  λ t. absurd (true≢false (sym t)),
  λ s. absurd (lits-other c.args.text.now c.loop-after.rest.now c.loop-after.invariant c.in_default.ensures.none c.in-None.ensures.none s),
)
