use Rattle.std.proofs.Common.{◌≡◌, false, ap, sym, subst, ◌∙◌}
use Rattle.std.specs.Prelude.{OnOk}
use Rattle.ps_clause.specs.Clauses.{is_tautology}
use Rattle.ps_wcnf.proofs.Building.{with-tautology, with-kept, kept-places, kept-different}
use Rattle.ps_wcnf.proofs.form.add_clause.Goals as goal

pub returns-then-is_tautology : goal.returns-then-is_tautology
returns-then-is_tautology c =
    with-tautology c.args.form.now c.deref.result.now c.args.lits.now (c.deref.ensures.value ∙ c.in_ok-kept.ensures) (sym c.is_tautology.ensures ∙ c.if-is_tautology.true)

pub add-requires-clause-within : goal.add-requires-clause-within
add-requires-clause-within c =
    kept-places c.args.form.now.variables c.deref-2.result.now c.args.lits.now (c.deref-2.ensures.value ∙ c.in_ok-kept.ensures) c.requires.named

pub add-requires-clause-once : goal.add-requires-clause-once
add-requires-clause-once c =
    let none : is_tautology c.deref-2.result.now ≡ false = ap is_tautology (c.deref-2.ensures.value ∙ sym c.deref.ensures.value) ∙ sym c.is_tautology.ensures ∙ c.if-is_tautology.false in
    kept-different c.args.form.now.variables c.deref-2.result.now c.args.lits.now (c.deref-2.ensures.value ∙ c.in_ok-kept.ensures) none c.requires.named

pub returns : goal.returns
returns c =
    let none : is_tautology c.deref-2.result.now ≡ false = ap is_tautology (c.deref-2.ensures.value ∙ sym c.deref.ensures.value) ∙ sym c.is_tautology.ensures ∙ c.if-is_tautology.false in
    subst (λ g. OnOk c.add.result (c.add.new.self ≡ g)) (with-kept c.args.form.now c.deref-2.result.now c.args.lits.now (c.deref-2.ensures.value ∙ c.in_ok-kept.ensures) none) c.add.ensures.ok
