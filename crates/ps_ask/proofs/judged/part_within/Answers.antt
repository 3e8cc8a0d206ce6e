use Rattle.std.proofs.Common.{subst}
use Rattle.ps_guess.specs.declared.known.Known.{Known}
use Rattle.ps_guess.specs.Known.{IsKnown}
use Rattle.ps_ask.proofs.JudgedLaws.{late_part, shown_part}
use Rattle.ps_ask.proofs.judged.part_within.Goals as goal

pub returns-in-Answered-clause-part : goal.returns-in-Answered-clause-part
returns-in-Answered-clause-part c =
    let s = c.args.settings in
    let p = c.args.trials.now in
    let q = c.args.query in
    let h = subst (λ (k : Known). IsKnown s.limits p q k) c.in-Answered.is c.requires.known in
    shown_part s p q c.in-Answered.part c.problem-sound.ensures.parts c.requires.query h

pub returns-in-Sides-clause-part : goal.returns-in-Sides-clause-part
returns-in-Sides-clause-part c =
    let s = c.args.settings in
    let p = c.args.trials.now in
    let q = c.args.query in
    let h = subst (λ (k : Known). IsKnown s.limits p q k) c.in-Sides.is c.requires.known in
    late_part s p q c.in-Sides.lower c.in-Sides.upper c.late_part.result c.problem-sound.ensures.parts c.requires.query c.requires.timed h c.late_part.ensures.judged
