use Rattle.std.proofs.Common.{sym, subst}
use Rattle.ps_check.specs.DueLines.{IsFaultBefore, IsLineAtFault}
use Rattle.ps_check.proofs.LinesKnown.{read_line_on, fault_line_on}
use Rattle.ps_check.proofs.Lighter.{taken_lighter}
use Rattle.ps_check.proofs.state.read_on.Goals as goal

pub returns-in-Ok : goal.returns-in-Ok
returns-in-Ok c = record {
  on = λ text one e taken n. read_line_on c.args.problem.now taken c.args.due c.take_line.new.due c.args.progress c.take.new.self c.args.line.now text c.in-Ok.item one e
      c.in-Ok.ensures.taken c.in_ok-take-in-Ok.ensures (taken_lighter c.args.line.now c.args.due c.take_line.new.due c.in-Ok.item c.in-Ok.ensures.taken);
}

pub returns-in-Err-Fault : goal.returns-in-Err-Fault
returns-in-Err-Fault c = record {
  on = λ text one e taken n. fault_line_on c.args.problem.now taken c.args.number c.args.due c.args.progress c.args.line.now text _ n e
      (subst (IsFaultBefore c.args.due c.args.line.now) (sym c.in-Err-Fault.kind-is) (subst (IsLineAtFault c.args.due c.args.line.now) c.in-Err-Fault.field-0-is c.in-Err-Fault.ensures.fault));
}
