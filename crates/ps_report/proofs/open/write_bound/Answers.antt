use Rattle.ps_report.proofs.Made.{line_ends}
use Rattle.ps_report.proofs.open.write_bound.Goals as goal

pub returns : goal.returns
returns g c = line_ends g.O.Sink _ _ _ _ _ c.add_bound.ensures c.end_line.ensures
