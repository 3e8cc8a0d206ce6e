use Rattle.std.proofs.Common.{map, arith}
use Rattle.std.proofs.lemmas.List.{length-map}
use Rattle.std.proofs.lemmas.Result.{err_from_is_err_and}
use Rattle.ps_problem.specs.Drafts.{summand_at}
use Rattle.ps_problem.proofs.Scales.{scaled_back}
use Rattle.ps_problem.proofs.Terms.{terms-start, term-stop, term-next, terms-end}
use Rattle.ps_problem.proofs.building.Building.terms.Goals as goal

pub loop-term-init : goal.loop-term-init
loop-term-init c = λ h. rw c.new-made.ensures (terms-start c.args.draft.now.names h.formulas c.args.scale (map (summand_at c.args.draft.now.formulas) c.args.terms.now) c.args.self.now h)

pub formula-requires-clause-formula : goal.formula-requires-clause-formula
formula-requires-clause-formula c = (c.requires.terms c.loop-term.term-index _ c.loop-term-test.true).formula

pub formula-requires-clause-built : goal.formula-requires-clause-built
formula-requires-clause-built c = (c.loop-term.invariant c.requires.built).built

pub whole-requires-clause-number : goal.whole-requires-clause-number
whole-requires-clause-number c = c.requires.numbers c.loop-term.term-index _ c.loop-term-test.true

pub returns-in_err-number : goal.returns-in_err-number
returns-in_err-number c = λ h.
    let p = err_from_is_err_and c.from_residual.result c.from_residual.ensures.1 in
    let r = c.loop-term.invariant h in
    let f = c.in_err-number.ensures in
    rw (p.1, p.2) (term-stop c.args.draft.now.names h.formulas c.args.scale c.args.draft.now.formulas c.args.terms.now c.loop-term.term-index c.loop-term.self c.loop-term.made r _ c.loop-term-test.true
    c.in_err-number.field-0.0 (f r.built))

pub loop-term-preserved : goal.loop-term-preserved
loop-term-preserved c = λ h.
    let r = c.loop-term.invariant h in
    let f = c.in_ok-number.ensures in
    rw c.in_ok-push.ensures.ok (term-next c.args.draft.now.names h.formulas c.args.scale c.args.draft.now.formulas c.args.terms.now c.loop-term.term-index c.loop-term.self c.loop-term.made r _ c.loop-term-test.true
    c.formula.new.self c.in_ok-number.number _ (scaled_back c.args.scale _ (c.requires.numbers c.loop-term.term-index _ c.loop-term-test.true) c.requires.small c.whole.result c.whole.ensures) (f r.built))

pub returns : goal.returns
returns c = λ h.
    let l = length-map c.args.terms.now (summand_at c.args.draft.now.formulas) in
    let end = c.loop-term-test.false in
    terms-end c.args.draft.now.names h.formulas c.args.scale (map (summand_at c.args.draft.now.formulas) c.args.terms.now) c.loop-term.term-index c.loop-term.self c.loop-term.made (c.loop-term.invariant h) (omega (arith, l, end))
