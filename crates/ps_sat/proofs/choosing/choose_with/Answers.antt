use Rattle.ps_sat.proofs.Chosen.{open-pair, last-pair}
use Rattle.ps_sat.proofs.choosing.choose_with.Goals as goal

pub returns-in-Some : goal.returns-in-Some
returns-in-Some c = open-pair c.args.c.now c.args.trail.now c.values.result.now c.args.first c.in-Some.second c.values.ensures.value c.requires.plain c.requires.first c.in-Some.ensures

pub returns-in-Some-last_false : goal.returns-in-Some-last_false
returns-in-Some-last_false c = last-pair c.args.c.now c.args.trail.now c.values.result.now c.terms-terms.result.now c.args.first c.in-Some-last_false.second c.values.ensures.value c.requires.plain c.requires.first c.in-None.ensures c.in-Some-last_false.ensures c.terms-terms.ensures.value c.terms-terms.ensures.normal
