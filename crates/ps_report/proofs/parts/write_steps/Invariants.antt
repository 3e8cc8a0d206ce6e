use Rattle.std.proofs.Common.{map, take, Ok}
use Rattle.ps_answer.specs.declared.item.LineItem.TheVariants.{StepLine}
use Rattle.ps_report.specs.Parts.{WroteItems}
use Rattle.ps_report.proofs.parts.write_steps.Given as goal

abbrev pub invariant-loop-step : goal.invariant-loop-step
invariant-loop-step g l = WroteItems g.O.Sink l.initial.lines l.lines (Ok tt) (map StepLine (take l.step-index l.steps))
