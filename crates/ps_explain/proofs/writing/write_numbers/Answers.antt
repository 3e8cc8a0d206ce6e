use Rattle.ps_report.proofs.Made.{line_ends}
use Rattle.ps_explain.proofs.writing.write_numbers.Goals as goal

pub returns : goal.returns
returns g c = line_ends g.O.Sink _ _ _ _ _ c.add_list.ensures c.end_line.ensures
