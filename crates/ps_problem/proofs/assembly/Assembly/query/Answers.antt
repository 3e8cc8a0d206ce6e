use Rattle.std.proofs.Common.{Some, ap, ◌∙◌, arith}
use Rattle.std.proofs.lemmas.Result.{err_from_is_err_and}
use Rattle.ps_meaning.specs.Statements.{Plain, Linear}
use Rattle.ps_problem.specs.Drafts.{question_at}
use Rattle.ps_problem.proofs.Growth.{sum_of}
use Rattle.ps_problem.specs.DraftLists.{statement_of, item_of}
use Rattle.ps_problem.proofs.Making.{asking-skip, asking-full, asking-stop, asking-next}
use Rattle.ps_problem.proofs.assembly.Assembly.query.Goals as goal

pub returns-in-Sentence-clause-ok : goal.returns-in-Sentence-clause-ok
returns-in-Sentence-clause-ok c =
    let s = c.args.self.now in
    let d = c.args.draft.now in
    asking-skip d c.args.i s c.requires.before
    (Plain (statement_of d.formulas c.in-Sentence.field-0)) (c.item.ensures.item ∙ ap (λ x. Some (item_of d.formulas x)) c.in-Sentence.is)

pub returns-in-Linear-clause-ok : goal.returns-in-Linear-clause-ok
returns-in-Linear-clause-ok c =
    let s = c.args.self.now in
    let d = c.args.draft.now in
    asking-skip d c.args.i s c.requires.before
    (Linear (sum_of d.formulas c.in-Linear.field-0)) (c.item.ensures.item ∙ ap (λ x. Some (item_of d.formulas x)) c.in-Linear.is)

pub returns-then-len-ge-MOST_QUERIES-clause-err : goal.returns-then-len-ge-MOST_QUERIES-clause-err
returns-then-len-ge-MOST_QUERIES-clause-err c =
    let s = c.args.self.now in
    let d = c.args.draft.now in
    asking-full d c.args.i s c.requires.before
    (question_at d.formulas c.in-Query.query.formula c.in-Query.query.given) (c.item.ensures.item ∙ ap (λ x. Some (item_of d.formulas x)) c.in-Query.is) (omega arith)

pub returns-in_err-query-clause-err : goal.returns-in_err-query-clause-err
returns-in_err-query-clause-err c =
    let p = err_from_is_err_and c.from_residual.result c.from_residual.ensures.1 in
    let s = c.args.self.now in
    let d = c.args.draft.now in
    rw (p.1, p.2) (asking-stop d c.args.i s c.requires.before
    (question_at d.formulas c.in-Query.query.formula c.in-Query.query.given) (c.item.ensures.item ∙ ap (λ x. Some (item_of d.formulas x)) c.in-Query.is) (omega arith) c.in_err-query.field-0.0 (c.in_err-query.ensures c.requires.before.built))

pub returns-clause-ok : goal.returns-clause-ok
returns-clause-ok c =
    let s = c.args.self.now in
    let d = c.args.draft.now in
    rw c.in_ok-push.ensures.ok (asking-next d c.args.i s c.requires.before
    (question_at d.formulas c.in-Query.query.formula c.in-Query.query.given) (c.item.ensures.item ∙ ap (λ x. Some (item_of d.formulas x)) c.in-Query.is) (omega arith) c.query.new.self c.in_ok-query.query (c.in_ok-query.ensures c.requires.before.built))
