use Rattle.std.proofs.Common.{◌+◌, refl, subst}
use Rattle.ps_max_text.specs.Lines.{IsLineFault}
use Rattle.ps_max_text.proofs.Taking.{takes_line, stopped_line, lack_line}
use Rattle.ps_max_text.proofs.lines.Lines.take.Goals as goal

pub returns-in-Ok-clause-line : goal.returns-in-Ok-clause-line
returns-in-Ok-clause-line c = takes_line c.args.self.now _ c.args.part c.in-Ok.item c.in-Ok.ensures.line refl

pub returns-in-Err-Fault-clause-stopped : goal.returns-in-Err-Fault-clause-stopped
returns-in-Err-Fault-clause-stopped c =
    stopped_line c.args.self.now c.args.part c.in-Err-Fault.kind (c.args.self.now.taken + 1)
    (subst (λ w. IsLineFault c.args.part c.args.self.now.rest.now w) c.in-Err-Fault.field-0-is c.in-Err-Fault.ensures.fault) refl

pub returns-in-Err-NoMemory-clause-stopped : goal.returns-in-Err-NoMemory-clause-stopped
returns-in-Err-NoMemory-clause-stopped c =
    lack_line c.args.self.now c.args.part (subst (λ w. IsLineFault c.args.part c.args.self.now.rest.now w) c.in-Err-NoMemory.field-0-is c.in-Err-NoMemory.ensures.fault)
