use Rattle.ps_ask.proofs.JudgedLaws.{shown_part_ok}
use Rattle.ps_ask.proofs.judged.judged_part.Goals as goal

pub returns-clause-part : goal.returns-clause-part
returns-clause-part c =
    shown_part_ok c.args.settings c.args.trials.now c.args.query c.whole_part.result c.problem-sound.ensures.parts c.requires.query c.whole_part.ensures.part
