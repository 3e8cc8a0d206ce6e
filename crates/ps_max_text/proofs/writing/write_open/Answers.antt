use Rattle.ps_report.proofs.Made.{line_ends}
use Rattle.ps_max_text.proofs.writing.write_open.Goals as goal

pub returns : goal.returns
returns g c = line_ends g.O.Sink _ _ _ _ _ c.add_open.ensures c.end_line.ensures
