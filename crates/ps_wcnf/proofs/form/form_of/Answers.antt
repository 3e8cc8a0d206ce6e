use Rattle.std.proofs.Common.{◌≡◌, arith, ap, length, ◌∙◌, List}
use Rattle.ps_clause.specs.Clauses.{Clause}
use Rattle.ps_clause.specs.Forms.{Form}
use Rattle.ps_wcnf.specs.Costs.{Soft}
use Rattle.ps_wcnf.specs.Valued.{variables_after}
use Rattle.ps_wcnf.proofs.Building.{hard-named, soft-named, after-from, with-length}
use Rattle.ps_wcnf.proofs.Placed.{form-placed}
use Rattle.ps_wcnf.proofs.form.form_of.Goals as goal

pub add_hard-requires-clause-named : goal.add_hard-requires-clause-named
add_hard-requires-clause-named c =
    let n = ap (λ (f : Form). f.variables) c.new-form.ensures in
    let count : c.in_ok-variables.variables ≡ variables_after c.args.text.now.variables c.args.text.now.soft = c.in_ok-variables.ensures ∙ ap (variables_after c.args.text.now.variables) c.as_slice.ensures in
    let from = after-from c.args.text.now.variables c.args.text.now.soft in
    rw c.as_slice-2.ensures (hard-named c.args.text.now c.new-form.result.variables c.requires.named (omega (arith, n, count, from)) c.check_text.ensures.literals.hard)

pub add_softs-requires-clause-named : goal.add_softs-requires-clause-named
add_softs-requires-clause-named c = rw c.as_slice-3.ensures (soft-named c.args.text.now c.requires.named c.check_text.ensures.literals.soft)

pub add_softs-requires-clause-room : goal.add_softs-requires-clause-room
add_softs-requires-clause-room c =
    let long = with-length c.new-form.result c.as_slice-2.result.now in
    let same = ap (λ (f : Form). length f.clauses) c.in_ok-add_hard.ensures in
    let none = ap (λ (f : Form). length f.clauses) c.new-form.ensures in
    let hard = ap (λ (cs : List Clause). length cs) c.as_slice-2.ensures in
    let soft = ap (λ (ss : List Soft). length ss) c.as_slice-3.ensures in
    omega (arith, long, same, none, hard, soft, c.requires.within.clauses)

pub returns-clause-placed : goal.returns-clause-placed
returns-clause-placed c =
    form-placed c.args.text.now c.in_ok-variables.variables c.new-form.result c.add_hard.new.form c.add_softs.new.form c.as_slice-2.result.now c.as_slice-3.result.now c.as_slice.result.now c.in_ok-literals.literals
    (soft-named c.args.text.now c.requires.named c.check_text.ensures.literals.soft) c.in_ok-variables.ensures c.as_slice.ensures c.new-form.ensures c.in_ok-add_hard.ensures c.in_ok-literals.ensures.form
    c.in_ok-literals.ensures.literals c.as_slice-3.ensures
