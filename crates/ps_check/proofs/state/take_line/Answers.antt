use Rattle.std.proofs.Common.{sym, ◌∙◌}
use Rattle.ps_check.proofs.LinesTaken.{fault_there, taken_there}
use Rattle.ps_check.proofs.state.take_line.Goals as goal

pub returns-in-Ok-pass-clause-taken : goal.returns-in-Ok-pass-clause-taken
returns-in-Ok-pass-clause-taken c = taken_there c.args.due.now c.pass.new.self c.in-Some.part c.args.line.now c.in-Ok.field-0-1.now c.in-Ok.item (sym c.in-Some.is ∙ c.next.ensures) c.in-Ok.ensures.line c.in-Ok-pass.ensures

pub returns-in-Err-clause-fault : goal.returns-in-Err-clause-fault
returns-in-Err-clause-fault c = fault_there c.args.due.now c.in-Some.part c.args.line.now c.in-Err.error (sym c.in-Some.is ∙ c.next.ensures) c.requires.feed c.in-Err.ensures.fault
