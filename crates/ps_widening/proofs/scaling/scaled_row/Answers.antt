use Rattle.ps_widening.proofs.ScaledRows.{terms-small}
use Rattle.ps_widening.proofs.scaling.scaled_row.Goals as goal

pub scaled_terms-requires-clause-terms : goal.scaled_terms-requires-clause-terms
scaled_terms-requires-clause-terms c = rw c.as_slice.ensures (terms-small c.args.row.now c.requires.row.small)
