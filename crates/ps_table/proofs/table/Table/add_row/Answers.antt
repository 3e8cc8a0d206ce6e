use Rattle.std.proofs.Common.{suc, ◌≡◌, ◌<◌, ◌∙◌, subst, rules}
use Rattle.ps_meaning.specs.Rational.{Rational, zero_q}
use Rattle.ps_meaning.specs.Wide.{Fits, size_limit}
use Rattle.ps_table.specs.Pricing.{part_at, carried_to}
use Rattle.ps_table.proofs.Zeros.{zero_added, zero_sum_narrow}
use Rattle.ps_table.proofs.table.Table.add_row.Goals as goal

pub returns-then-carries_nothing-clause-value : goal.returns-then-carries_nothing-clause-value
returns-then-carries_nothing-clause-value c =
    let t = c.args.self.now in
    let z : part_at t c.args.costs.now (suc c.args.home) c.args.row ≡ zero_q = search rules in
    c.requires.sum ∙ zero_added (carried_to t c.args.costs.now (suc c.args.home) c.args.row) (part_at t c.args.costs.now (suc c.args.home) c.args.row) z

pub returns-then-carries_nothing-clause-narrow : goal.returns-then-carries_nothing-clause-narrow
returns-then-carries_nothing-clause-narrow c =
    let t = c.args.self.now in
    let z : part_at t c.args.costs.now (suc c.args.home) c.args.row ≡ zero_q = search rules in
    zero_sum_narrow (carried_to t c.args.costs.now (suc c.args.home) c.args.row) (part_at t c.args.costs.now (suc c.args.home) c.args.row) z
    (subst (λ (k : Rational). Fits k.over) c.requires.sum c.fits.ensures.over)
    (subst (λ (k : Rational). k.under < size_limit) c.requires.sum c.fits.ensures.under)
