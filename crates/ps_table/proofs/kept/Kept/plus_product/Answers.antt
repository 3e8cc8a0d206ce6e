use Rattle.std.proofs.Common.{◌<◌, ◌∙◌, subst, rules}
use Rattle.ps_meaning.specs.Rational.{Rational}
use Rattle.ps_meaning.specs.Wide.{Fits, size_limit}
use Rattle.ps_table.specs.Grids.{AddsNothing, GridColumnPlaces}
use Rattle.ps_table.specs.Places.{at_column_plus}
use Rattle.ps_table.proofs.Columns.{refused_at}
use Rattle.ps_table.proofs.Zeros.{same_sum, part_narrow}
use Rattle.ps_table.proofs.kept.Kept.plus_product.Goals as goal

pub returns-then-entries-m-eq0-clause-value : goal.returns-then-entries-m-eq0-clause-value
returns-then-entries-m-eq0-clause-value c =
    let nothing : AddsNothing c.args.self.now c.args.entries.now c.args.i c.args.m = search rules in
    c.requires.sum ∙ same_sum c.args.self.now c.args.entries.now c.args.i c.args.m nothing

pub returns-then-entries-m-eq0-clause-narrow : goal.returns-then-entries-m-eq0-clause-narrow
returns-then-entries-m-eq0-clause-narrow c =
    let nothing : AddsNothing c.args.self.now c.args.entries.now c.args.i c.args.m = search rules in
    part_narrow c.args.self.now c.args.entries.now c.args.i c.args.m nothing
    (subst (λ (k : Rational). Fits k.over) c.requires.sum c.fits.ensures.over)
    (subst (λ (k : Rational). k.under < size_limit) c.requires.sum c.fits.ensures.under)

pub returns-clause-refused : goal.returns-clause-refused
returns-clause-refused c =
    refused_at (GridColumnPlaces c.args.self.now c.args.entries.now c.args.number c.args.i) c.plus_at.result _ _ _ _ _ _
    c.requires.sum c.in_ok-product.ensures.value c.plus_at.ensures.operands c.plus_at.ensures.wide.0
    (at_column_plus c.args.m c.requires.m_in)
