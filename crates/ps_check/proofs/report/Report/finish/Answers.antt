use Rattle.ps_check.proofs.ReportsSoFar.{found_line, found_refusal}
use Rattle.ps_check.proofs.report.Report.finish.Goals as goal

pub returns-in-Err-Line : goal.returns-in-Err-Line
returns-in-Err-Line c = record {
  found = found_line c.args.self c.in-Judging.judge c.in-Err-Line.field-0 c.in-Err-Line.kind c.in-Err-Line.line c.in-Judging.is c.in-Err-Line.field-0-is c.in-Err-Line.ensures;
}

pub returns-in-Err-Refused : goal.returns-in-Err-Refused
returns-in-Err-Refused c = record {
  found = found_refusal c.args.self c.in-Judging.judge c.in-Err-Refused.field-0 c.in-Err-Refused.refusal c.in-Judging.is c.in-Err-Refused.field-0-is c.in-Err-Refused.ensures;
}
