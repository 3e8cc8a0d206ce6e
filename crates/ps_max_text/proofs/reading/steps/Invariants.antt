use Rattle.std.proofs.Common.{◌≡◌, map, length}
use Rattle.ps_max_text.specs.Taken.{Takes}
use Rattle.ps_max_text.specs.declared.item.MaxItem.TheVariants as line
use Rattle.ps_max_text.proofs.reading.steps.Given as goal

abbrev pub invariant-loop : goal.invariant-loop
invariant-loop l = record {
  taken : Takes l.fn.lines l.lines (map line.StepLine l.steps);
  counted : length l.steps ≡ l.counter;
}
