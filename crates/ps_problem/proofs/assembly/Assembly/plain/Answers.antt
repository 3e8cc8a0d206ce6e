use Rattle.std.proofs.Common.{length, refl, sym, ◌∙◌}
use Rattle.std.proofs.lemmas.Result.{err_from_is_err_and}
use Rattle.ps_meaning.specs.Statements.{Plain}
use Rattle.ps_problem.specs.Drafts.{ratio_of}
use Rattle.ps_problem.specs.DraftLists.{statement_of}
use Rattle.ps_problem.proofs.Growth.{full-lt, few-le, sentence-is}
use Rattle.ps_problem.proofs.Making.{stating-full, stating-stop, stating-next}
use Rattle.ps_problem.proofs.assembly.Assembly.plain.Goals as goal

pub query-requires-clause-formulas : goal.query-requires-clause-formulas
query-requires-clause-formulas c = c.requires.item.sound.0

pub returns-then-is_full-clause-err : goal.returns-then-is_full-clause-err
returns-then-is_full-clause-err c =
    let s = c.args.self.now in
    let d = c.args.draft.now in
    stating-full d c.args.i s c.requires.before (Plain (statement_of d.formulas c.args.item)) c.requires.item.here refl (full-lt ratio_of c.args.item.upper (length c.args.self.now.rows) c.is_some.result c.is_full.result c.is_some.ensures c.is_full.ensures c.if-is_full.true)

pub returns-in_err-query-clause-err : goal.returns-in_err-query-clause-err
returns-in_err-query-clause-err c =
    let p = err_from_is_err_and c.from_residual.result c.from_residual.ensures.1 in
    let s = c.args.self.now in
    let d = c.args.draft.now in
    rw (p.1, p.2) (stating-stop d c.args.i s c.requires.before (Plain (statement_of d.formulas c.args.item)) c.requires.item.here refl (few-le ratio_of c.args.item.upper (length c.args.self.now.rows) c.is_some.result c.is_full.result c.is_some.ensures c.is_full.ensures c.if-is_full.false) c.in_err-query.field-0.0 (c.in_err-query.ensures c.requires.before.built))

pub returns-clause-ok : goal.returns-clause-ok
returns-clause-ok c =
    let s = c.args.self.now in
    let d = c.args.draft.now in
    let f = c.in_ok-query.ensures c.requires.before.built in
    let e = c.sentence.ensures ∙ sentence-is f.0.formulas d.formulas c.args.item c.in_ok-query.query f.3 in
    rw (c.in_ok-push.ensures.sentences, c.in_ok-push.ensures.rows, c.in_ok-push.ensures.building, c.in_ok-push.ensures.queries, e)
    (stating-next d c.args.i s c.requires.before (Plain (statement_of d.formulas c.args.item)) c.requires.item.here refl (few-le ratio_of c.args.item.upper (length c.args.self.now.rows) c.is_some.result c.is_full.result c.is_some.ensures c.is_full.ensures c.if-is_full.false) c.query.new.self f.0 f.1 f.2)
