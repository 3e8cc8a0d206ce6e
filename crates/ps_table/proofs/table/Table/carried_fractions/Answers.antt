use Rattle.std.proofs.Common.{◌∙◌}
use Rattle.ps_meaning.proofs.Field.{zero_is_fraction}
use Rattle.ps_table.proofs.table.Table.carried_fractions.Goals as goal

pub add_rows-requires-clause-sum : goal.add_rows-requires-clause-sum
add_rows-requires-clause-sum c = c.new-sum.ensures.value ∙ zero_is_fraction
