use Rattle.std.proofs.Common.{◌≡◌, map, length}
use Rattle.ps_answer.specs.declared.item.LineItem.TheVariants as line
use Rattle.ps_reader.specs.Taken.{Takes}
use Rattle.ps_reader.proofs.models.steps.Given as goal

abbrev pub invariant-loop : goal.invariant-loop
invariant-loop l = record {
  taken : Takes l.fn.lines l.lines (map line.StepLine l.steps);
  counted : length l.steps ≡ l.counter;
}
