use Rattle.std.proofs.Common.{◌≡◌, ◌∙◌, ap, arith}
use Rattle.ps_meaning.proofs.Field.{zero_is_fraction}
use Rattle.ps_table.specs.Grids.{cell_in, sum_in}
use Rattle.ps_table.proofs.Narrow.{column_narrow}
use Rattle.ps_table.proofs.kept.Kept.combined_fractions.Goals as goal

pub loop-m-init : goal.loop-m-init
loop-m-init c = record { value = c.new-sum.ensures.value ∙ zero_is_fraction; narrow = λ k l. omega (arith, l) }

pub returns-clause-combined : goal.returns-clause-combined
returns-clause-combined c =
    let g = c.args.self.now in
    let es = c.args.entries.now in
    let i = c.args.i in
    let all : c.loop-m.m ≡ g.rows = omega (arith, c.loop-m-test.false, c.loop-m.auto, c.rows-m-end.ensures.value) in
    record {
      value = c.loop-m.invariant.value ∙ ap (sum_in g es i) all;
      narrow = column_narrow g.rows (cell_in g) es c.args.number i (λ m l. c.loop-m.invariant.narrow m (omega (arith, all, l)));
    }
