use Rattle.std.proofs.Common.{◌≡◌, ◌≢◌, ◌<◌, arith, rules, subst, ◌∙◌}
use Rattle.ps_meaning.specs.Rational.{Rational, zero_q}
use Rattle.ps_meaning.specs.Wide.{Fits, size_limit}
use Rattle.ps_table.specs.Grids.{cell_in, enters}
use Rattle.ps_table.proofs.Zeros.{own_scaled}
use Rattle.ps_table.proofs.Changes.{up_zero, up_pushed}
use Rattle.ps_table.proofs.pivoting.push_cell.Goals as goal

pub returns-then-row-pivot-clause-after : goal.returns-then-row-pivot-clause-after
returns-then-row-pivot-clause-after c =
    let g = c.args.grid.now in
    let p = c.args.pivot.now in
    let e : c.args.row ≡ p.row = omega arith in
    up_pushed g p c.args.row c.args.column c.args.changes.now.items _ c.requires.row c.requires.before (λ ne. absurd (ne e)) c.place-place.result _ c.place-place.ensures.value c.place-place.ensures.within (c.requires.scaled ∙ own_scaled g p c.args.row c.args.column e) c.in_ok-push.ensures.items

pub returns-then-is_zero-clause-after : goal.returns-then-is_zero-clause-after
returns-then-is_zero-clause-after c =
    let g = c.args.grid.now in
    let p = c.args.pivot.now in
    let other : c.args.row ≢ p.row = omega arith in
    let nothing : enters p c.args.row ≡ zero_q = search rules in
    up_zero g p c.args.row c.args.column c.args.changes.now.items c.requires.row other nothing
    (subst (λ (k : Rational). Fits k.over) c.cell.ensures.value c.fits.ensures.over)
    (subst (λ (k : Rational). k.under < size_limit) c.cell.ensures.value c.fits.ensures.under)
    c.requires.before

pub returns-clause-after : goal.returns-clause-after
returns-clause-after c =
    up_pushed c.args.grid.now c.args.pivot.now c.args.row c.args.column c.args.changes.now.items _ c.requires.row c.requires.before (λ _. c.in_ok-entry.ensures.narrow) c.place-place.result _ c.place-place.ensures.value c.place-place.ensures.within c.in_ok-entry.ensures.value c.in_ok-push-2.ensures.items
