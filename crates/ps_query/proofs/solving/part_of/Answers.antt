use Rattle.std.proofs.Common.{sym, subst}
use Rattle.ps_query.specs.Parts.{IsPartOf}
use Rattle.ps_query.proofs.Queries.{part_behind}
use Rattle.ps_query.proofs.solving.part_of.Goals as goal

pub returns : goal.returns
returns c p q limits new =
    subst (λ es. IsPartOf limits p q (record { answer = c.in_ok-answer.answer; first = es })) (sym c.take_trace-first.ensures.events)
    (part_behind limits p q c.args.run.now c.phase_one.new.self new c.in_ok-reached.reached c.in_ok-reached.ensures.answer c.take_trace-first.new.self
    c.take_trace-first.ensures.rest c.in_ok-answer.answer c.in_ok-answer.ensures.behind c.in_ok-answer.ensures.printed)
