use Rattle.std.proofs.Common.{rules}
use Rattle.ps_problem.specs.Problems.{AreParts}
use Rattle.ps_ask.proofs.FrontLaws.{short_in_time, whole}
use Rattle.ps_ask.proofs.StepLaws.{answer_ended, answer_wrote, verdict_ended}
use Rattle.ps_ask.proofs.fronts.show_answer.Goals as goal

pub show_parts_under-requires-clause-right : goal.show_parts_under-requires-clause-right
show_parts_under-requires-clause-right g c = c.in-Ok.ensures.judged.right

pub returns-in-Ok-show_parts_under-clause-whole : goal.returns-in-Ok-show_parts_under-clause-whole
returns-in-Ok-show_parts_under-clause-whole g c =
    let are : AreParts c.args.trials.now = search rules in
    whole c.args.settings c.args.trials.now c.in-Ok.verdict c.in-Ok.first c.in-Ok-show_parts_under.parts c.in-Ok.ensures.judged c.in-Ok-show_parts_under.ensures.judged are

pub returns-in-Ok-show_parts_under-clause-wrote : goal.returns-in-Ok-show_parts_under-clause-wrote
returns-in-Ok-show_parts_under-clause-wrote g c =
    answer_wrote c.args.settings c.args.trials.now c.in-Ok.verdict c.in-Ok.first c.in-Ok-show_parts_under.parts c.in-Ok-show_parts_under.details (g.O.Sink.written c.args.sink.now)
    (g.O.Sink.written c.show_verdict.new.sink) (g.O.Sink.written c.show_parts_under.new.sink) c.in-Ok.ensures.wrote c.in-Ok-show_parts_under.ensures.wrote

pub returns-in-Ok-show_parts_under-clause-short : goal.returns-in-Ok-show_parts_under-clause-short
returns-in-Ok-show_parts_under-clause-short g c =
    let are : AreParts c.args.trials.now = search rules in
    short_in_time c.args.settings c.args.trials.now c.in-Ok.verdict c.in-Ok.first c.in-Ok-show_parts_under.parts c.in-Ok.ensures.judged c.in-Ok-show_parts_under.ensures.judged are
    c.requires.settings.limits

pub returns-in-Err-show_parts_under-clause-ended : goal.returns-in-Err-show_parts_under-clause-ended
returns-in-Err-show_parts_under-clause-ended g c =
    answer_ended c.args.settings c.args.trials.now c.in-Ok.verdict c.in-Ok.first c.in-Err-show_parts_under.error (g.O.Sink.written c.args.sink.now)
    (g.O.Sink.written c.show_verdict.new.sink) (g.O.Sink.written c.show_parts_under.new.sink) c.in-Ok.ensures.judged c.in-Ok.ensures.wrote c.in-Err-show_parts_under.ensures.ended

pub returns-in-Err-clause-ended : goal.returns-in-Err-clause-ended
returns-in-Err-clause-ended g c =
    verdict_ended c.args.settings c.args.trials.now c.in-Err.error (g.O.Sink.written c.args.sink.now) (g.O.Sink.written c.show_verdict.new.sink) c.in-Err.ensures.ended
