use Rattle.std.proofs.Common.{length, map, arith, sym, ap, subst, ◌∙◌, All}
use Rattle.std.proofs.lemmas.Result.{err_from_is_err_and}
use Rattle.ps_meaning.specs.Statements.{Linear}
use Rattle.ps_problem.specs.declared.sentence.Sentence.TheVariants as sentence
use Rattle.ps_problem.specs.Drafts.{signed_of, IsDraftTerm}
use Rattle.ps_problem.specs.Scales.{IsNumberTerm}
use Rattle.ps_problem.specs.Making.{linear_on}
use Rattle.ps_problem.specs.Rows.{HasSmallRights}
use Rattle.ps_problem.specs.Numbered.{NumbersTerms}
use Rattle.ps_problem.proofs.Growth.{sum_of, full-lt, few-le, linear-is}
use Rattle.ps_problem.proofs.Large.{are-numbers, no-scale, some-scale, scale-most, small-rights}
use Rattle.ps_problem.proofs.Making.{stating-large, stating-full, stating-stop, stating-next}
use Rattle.ps_problem.proofs.assembly.Assembly.linear.Goals as goal

pub small_scale-requires : goal.small_scale-requires
small_scale-requires c = are-numbers (length c.args.draft.now.formulas) c.args.item.now c.requires.item.sound

pub returns-in-None-clause-err : goal.returns-in-None-clause-err
returns-in-None-clause-err c =
    let d = c.args.draft.now in
    let l = c.args.item.now in
    stating-large d c.args.i c.args.self.now c.requires.before (Linear (sum_of d.formulas l)) c.requires.item.here (no-scale d.formulas l (sym c.small_scale.ensures ∙ c.in-None.is))

pub returns-then-is_full-clause-err : goal.returns-then-is_full-clause-err
returns-then-is_full-clause-err c =
    let d = c.args.draft.now in
    let l = c.args.item.now in
    let k = some-scale d.formulas l c.in-Some.scale (sym c.small_scale.ensures ∙ c.in-Some.is) in
    stating-full d c.args.i c.args.self.now c.requires.before (Linear (sum_of d.formulas l)) c.requires.item.here k.small (full-lt signed_of l.upper (length c.args.self.now.rows) c.is_some.result c.is_full.result c.is_some.ensures c.is_full.ensures c.if-is_full.true)

pub terms-requires-clause-terms : goal.terms-requires-clause-terms
terms-requires-clause-terms c = subst (All (IsDraftTerm (length c.args.draft.now.formulas))) (sym c.as_slice-terms.ensures) c.requires.item.sound.terms

pub terms-requires-clause-numbers : goal.terms-requires-clause-numbers
terms-requires-clause-numbers c = subst (All IsNumberTerm) (sym c.as_slice-terms.ensures) (are-numbers (length c.args.draft.now.formulas) c.args.item.now c.requires.item.sound).terms

pub terms-requires-clause-small : goal.terms-requires-clause-small
terms-requires-clause-small c = scale-most c.args.draft.now.formulas c.args.item.now c.in-Some.scale (sym c.small_scale.ensures ∙ c.in-Some.is)

pub terms-requires-clause-built : goal.terms-requires-clause-built
terms-requires-clause-built c = c.requires.before.built

pub returns-in_err-terms-clause-err : goal.returns-in_err-terms-clause-err
returns-in_err-terms-clause-err c =
    let p = err_from_is_err_and c.from_residual.result c.from_residual.ensures.1 in
    let d = c.args.draft.now in
    let l = c.args.item.now in
    let k = some-scale d.formulas l c.in-Some.scale (sym c.small_scale.ensures ∙ c.in-Some.is) in
    let f = rw c.as_slice-terms.ensures at c.in_err-terms.ensures in
    rw (p.1, p.2) (stating-stop d c.args.i c.args.self.now c.requires.before (Linear (sum_of d.formulas l)) c.requires.item.here k.small (few-le signed_of l.upper (length c.args.self.now.rows) c.is_some.result c.is_full.result c.is_some.ensures c.is_full.ensures c.if-is_full.false) c.in_err-terms.field-0.0 (f c.requires.before.built))

pub linear-requires-clause-numbers : goal.linear-requires-clause-numbers
linear-requires-clause-numbers c = are-numbers (length c.args.draft.now.formulas) c.args.item.now c.requires.item.sound

pub linear-requires-clause-small : goal.linear-requires-clause-small
linear-requires-clause-small c = scale-most c.args.draft.now.formulas c.args.item.now c.in-Some.scale (sym c.small_scale.ensures ∙ c.in-Some.is)

pub push-requires : goal.push-requires
push-requires c = subst HasSmallRights (sym c.linear.ensures) (small-rights c.args.draft.now.formulas c.args.item.now c.in-Some.scale c.in_ok-terms.terms (sym c.small_scale.ensures ∙ c.in-Some.is))

pub returns-clause-ok : goal.returns-clause-ok
returns-clause-ok c =
    let d = c.args.draft.now in
    let l = c.args.item.now in
    let k = some-scale d.formulas l c.in-Some.scale (sym c.small_scale.ensures ∙ c.in-Some.is) in
    let g = rw c.as_slice-terms.ensures at c.in_ok-terms.ensures in
    let f = g c.requires.before.built in
    let e = c.linear.ensures ∙ linear-is f.0.formulas d.formulas l c.in-Some.scale c.in_ok-terms.terms k.is f.3 in
    rw (c.in_ok-push.ensures.sentences, c.in_ok-push.ensures.rows, c.in_ok-push.ensures.building, c.in_ok-push.ensures.queries, e)
    (stating-next d c.args.i c.args.self.now c.requires.before (Linear (sum_of d.formulas l)) c.requires.item.here k.small (few-le signed_of l.upper (length c.args.self.now.rows) c.is_some.result c.is_full.result c.is_some.ensures c.is_full.ensures c.if-is_full.false) c.terms.new.self f.0 f.1 f.2)
