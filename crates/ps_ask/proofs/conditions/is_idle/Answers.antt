use Rattle.std.proofs.Common.{refl}
use Rattle.ps_ask.proofs.IdleLaws.{idle_sentence}
use Rattle.ps_ask.proofs.conditions.is_idle.Goals as goal

pub returns-in-Some : goal.returns-in-Some
returns-in-Some g c = λ _.
    idle_sentence c.args.trials.now c.args.sentence.now c.in-Plain.first _ _ _ c.in-Plain.is refl c.problem-sound.ensures.parts c.requires.sentence (rw c.in-Some.is at c.in_ok-_dual.ensures)
