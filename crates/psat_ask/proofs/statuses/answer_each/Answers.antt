use Rattle.std.proofs.Common.{rules, ◌≡◌, ◌∙◌, ◌+◌, ap, map, max, string_bytes, subst, sym}
use Rattle.ps_ask.specs.Statuses.{status_number}
use Rattle.psat_ask.specs.Statuses.{AnswersAll}
use Rattle.psat_ask.proofs.StatusLaws.{AnsweredSoFar, max_of, so_far_one, stopped}
use Rattle.psat_ask.proofs.statuses.answer_each.Goals as goal

pub returns-then-eq : goal.returns-then-eq
returns-then-eq g c =
    let e : c.max-greatest.result ≡ max c.loop-file.greatest (status_number c.answer-status.result) =
    c.max-greatest.ensures ∙ max_of c.loop-file.greatest c.number.result ∙ ap (max c.loop-file.greatest) c.number.ensures in
    subst (λ k. AnswersAll g.A.Answering.answers (map string_bytes c.args.files.now) c.args.answering.now c.answer-status.new.self k) (sym e)
    (stopped g.A.Answering.answers c.args.files.now c.loop-file.file-index c.file-item.result c.answer-status.result
    c.args.answering.now c.loop-file.answering c.answer-status.new.self c.loop-file.greatest c.loop-file-test.true c.file-item.is
    c.loop-file.invariant
    (subst (λ w. g.A.Answering.answers c.loop-file.answering w c.answer-status.result c.answer-status.new.self)
    c.as_str.ensures.value c.answer-status.ensures)
    (search rules))

pub loop-file-preserved : goal.loop-file-preserved
loop-file-preserved g c =
    let e : c.max-greatest.result ≡ max c.loop-file.greatest (status_number c.answer-status.result) =
    c.max-greatest.ensures ∙ max_of c.loop-file.greatest c.number.result ∙ ap (max c.loop-file.greatest) c.number.ensures in
    subst
    (λ k. AnsweredSoFar g.A.Answering.answers c.args.files.now (c.loop-file.file-index + 1) c.args.answering.now c.answer-status.new.self k)
    (sym e)
    (so_far_one g.A.Answering.answers c.args.files.now c.loop-file.file-index c.file-item.result c.answer-status.result
    c.args.answering.now c.loop-file.answering c.answer-status.new.self c.loop-file.greatest c.loop-file-test.true c.file-item.is
    c.loop-file.invariant
    (subst (λ w. g.A.Answering.answers c.loop-file.answering w c.answer-status.result c.answer-status.new.self)
    c.as_str.ensures.value c.answer-status.ensures))
