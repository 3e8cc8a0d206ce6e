use Rattle.std.proofs.Common.{subst}
use Rattle.ps_guess.specs.declared.known.Known.{Known}
use Rattle.ps_guess.specs.Known.{IsKnown}
use Rattle.ps_ask.proofs.judged.whole_part.Goals as goal

pub returns-in-Answered-clause-part : goal.returns-in-Answered-clause-part
returns-in-Answered-clause-part c = subst (λ (k : Known). IsKnown c.args.settings.limits c.args.trials.now c.args.query k) c.in-Answered.is c.requires.known

pub run_beside-requires-clause-lower : goal.run_beside-requires-clause-lower
run_beside-requires-clause-lower c = (subst (λ (k : Known). IsKnown c.args.settings.limits c.args.trials.now c.args.query k) c.in-Sides.is c.requires.known).0

pub run_beside-requires-clause-upper : goal.run_beside-requires-clause-upper
run_beside-requires-clause-upper c = (subst (λ (k : Known). IsKnown c.args.settings.limits c.args.trials.now c.args.query k) c.in-Sides.is c.requires.known).1
