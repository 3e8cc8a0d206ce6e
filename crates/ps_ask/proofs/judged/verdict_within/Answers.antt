use Rattle.std.proofs.Common.{Option, IfSome, List, subst}
use Rattle.ps_table.specs.declared.event.Event.{Event}
use Rattle.ps_answer.specs.declared.answer.Verdict.{Verdict}
use Rattle.ps_guess.specs.Solutions.{IsAnsweredVerdict}
use Rattle.ps_ask.proofs.JudgedLaws.{shown_verdict}
use Rattle.ps_ask.proofs.judged.verdict_within.Goals as goal

pub returns-in-Some : goal.returns-in-Some
returns-in-Some g c =
    let s = c.args.settings in
    let p = c.args.trials.now in
    let h = subst (λ (o : Option (Verdict × List Event)). IfSome o (λ r. IsAnsweredVerdict s.limits p r.0 r.1)) c.in-Some.is c.in_ok-found.ensures.told in
    shown_verdict s p c.in-Some.found.0 c.in-Some.found.1 c.problem-sound.ensures.parts h
