use Rattle.std.proofs.Common.{sym, ap, subst, ◌≤◌, length, ◌∙◌}
use Rattle.std.specs.Prelude.{is_some}
use Rattle.ps_check.specs.Reading.{of_stream}
use Rattle.ps_check.proofs.LinesKnown.{cut_known, more_known, all_known, empty_is, not_empty}
use Rattle.ps_check.proofs.stream.StreamCheck.end.Goals as goal

pub returns-then-is_some-clause-told : goal.returns-then-is_some-clause-told
returns-then-is_some-clause-told c = cut_known c.args.self.now c.self.inside.taken c.in-Reading.due c.in-Reading.progress c.args.rest.now (ap (λ s. s.taken) c.self.view_is) (sym (ap (λ s. s.state) c.self.view_is) ∙ c.in-Reading.is)
    (ap is_some (sym c.next.ensures) ∙ sym c.is_some.ensures ∙ c.if-is_some.true) c.requires.rest

pub returns-then-not-is_empty-clause-told : goal.returns-then-not-is_empty-clause-told
returns-then-not-is_empty-clause-told c = more_known c.args.self.now c.self.inside.taken c.in-Reading.due c.in-Reading.progress c.args.rest.now (ap (λ s. s.taken) c.self.view_is) (sym (ap (λ s. s.state) c.self.view_is) ∙ c.in-Reading.is)
    (ap is_some (sym c.next.ensures) ∙ sym c.is_some.ensures ∙ c.if-is_some.false) (not_empty c.args.rest.now (sym c.is_empty.ensures ∙ c.if-not-is_empty.true))

pub returns-else-not-is_empty-clause-told : goal.returns-else-not-is_empty-clause-told
returns-else-not-is_empty-clause-told c = all_known c.args.self.now c.in-Reading.due c.in-Reading.progress c.args.rest.now _ (sym (ap (λ s. s.state) c.self.view_is) ∙ c.in-Reading.is)
    (ap is_some (sym c.next.ensures) ∙ sym c.is_some.ensures ∙ c.if-is_some.false) (empty_is c.args.rest.now (sym c.is_empty.ensures ∙ c.if-not-is_empty.false)) (subst (λ p. length p.queries ≤ 16) (ap (λ s. s.problem) c.self.view_is) (subst (λ qs. length qs ≤ 16) c.queries-queries.ensures.queries c.queries-queries.ensures.few)) (c.answer_of.ensures ∙ ap of_stream c.finish.ensures)
