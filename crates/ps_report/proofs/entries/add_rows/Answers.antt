use Rattle.ps_report.proofs.Made.{rows_short, rows_made}
use Rattle.ps_report.proofs.entries.add_rows.Goals as goal

pub add_numbers-requires : goal.add_numbers-requires
add_numbers-requires g c = rw c.begin_rows.ensures.line (rows_short c.args.rows.now c.requires.short)

pub returns : goal.returns
returns g c = rows_made _ _ _ c.args.rows.now c.begin_rows.ensures c.add_numbers.ensures
