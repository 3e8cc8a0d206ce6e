use Rattle.ps_ask.specs.Fronts.{IsBegunText, begun_text}
use Rattle.ps_ask.proofs.EndLaws.{some_ended}
use Rattle.ps_ask.proofs.FrontLaws.{begun_whole}
use Rattle.ps_ask.proofs.answering.reply_to_problem.Goals as goal

pub returns-in-Ok-clause-ended : goal.returns-in-Ok-clause-ended
returns-in-Ok-clause-ended g c =
    let s = c.args.settings in
    let p = c.args.problem.now in
    some_ended (IsBegunText s p) (g.O.Sink.written c.args.sink.now) (g.O.Sink.written c.show_front.new.sink) (begun_text s.style s.digits p c.in-Ok.answer c.in-Ok.details)
    (begun_whole s p c.in-Ok.answer c.in-Ok.details c.in-Ok.ensures.whole c.in-Ok.ensures.details c.in-Ok.ensures.asked) c.in-Ok.ensures.wrote
