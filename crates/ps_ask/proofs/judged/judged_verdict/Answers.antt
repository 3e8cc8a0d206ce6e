use Rattle.ps_ask.proofs.JudgedLaws.{shown_verdict_ok}
use Rattle.ps_ask.proofs.judged.judged_verdict.Goals as goal

pub returns : goal.returns
returns g c =
    shown_verdict_ok c.args.settings c.args.trials.now c.whole_verdict.result c.problem-sound.ensures.parts c.whole_verdict.ensures
