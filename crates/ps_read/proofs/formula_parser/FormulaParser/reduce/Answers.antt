use Rattle.std.proofs.Common.{◌≤◌, refl, sym, ap, subst, ◌∙◌}
use Rattle.ps_read.specs.Pending.{reduced}
use Rattle.ps_read.specs.Kept.{pending_of}
use Rattle.ps_read.proofs.Marking.{finds, goes_on, none_reducible, is_none}
use Rattle.ps_read.proofs.formula_parser.FormulaParser.reduce.Goals as goal

pub loop-last-init : goal.loop-last-init
loop-last-init c = (refl, c.requires.operands)

pub mark-requires-in-Some-clause-operands : goal.mark-requires-in-Some-clause-operands
mark-requires-in-Some-clause-operands c =
    let some : 1 ≤ c.binding-level.result = subst (λ k. 1 ≤ k) (sym c.binding-level.ensures) c.requires.operator in
    finds c.binding-level.result (pending_of c.loop-last.self) c.in-Some.last c.mark.result some c.loop-last.invariant.1 (sym c.reducible.ensures ∙ c.in-Some.is) c.mark.ensures

pub loop-last-smaller : goal.loop-last-smaller
loop-last-smaller c =
    let some : 1 ≤ c.binding-level.result = subst (λ k. 1 ≤ k) (sym c.binding-level.ensures) c.requires.operator in
    let g = goes_on c.binding-level.result (pending_of c.loop-last.self) c.in-Some.last c.pop.new.self c.mark-in-Some.new.self c.pop.result c.mark.result some c.loop-last.invariant.1 (sym c.reducible.ensures ∙ c.in-Some.is) c.pop.ensures c.mark.ensures c.in_ok-mark.ensures.ok in
    g.fewer

pub loop-last-preserved : goal.loop-last-preserved
loop-last-preserved c =
    let some : 1 ≤ c.binding-level.result = subst (λ k. 1 ≤ k) (sym c.binding-level.ensures) c.requires.operator in
    let g = goes_on c.binding-level.result (pending_of c.loop-last.self) c.in-Some.last c.pop.new.self c.mark-in-Some.new.self c.pop.result c.mark.result some c.loop-last.invariant.1 (sym c.reducible.ensures ∙ c.in-Some.is) c.pop.ensures c.mark.ensures c.in_ok-mark.ensures.ok in
    (g.reduces ∙ c.loop-last.invariant.0, g.operands)

pub returns-clause-reduced : goal.returns-clause-reduced
returns-clause-reduced c =
    sym (none_reducible c.binding-level.result c.loop-last.self.operators c.loop-last.self.draft (sym c.reducible.ensures ∙ is_none c.reducible.result c.in_default.not-Some))
    ∙ c.loop-last.invariant.0
    ∙ ap (λ k. reduced k (pending_of c.args.self.now)) c.binding-level.ensures

pub returns-clause-operands : goal.returns-clause-operands
returns-clause-operands c = c.loop-last.invariant.1
