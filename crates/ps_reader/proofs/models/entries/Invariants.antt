use Rattle.std.proofs.Common.{◌≡◌, map, length}
use Rattle.ps_answer.specs.Answers.{entry_item}
use Rattle.ps_reader.specs.Taken.{Takes}
use Rattle.ps_reader.proofs.models.entries.Given as goal

abbrev pub invariant-loop : goal.invariant-loop
invariant-loop l = record {
  taken : Takes l.fn.lines l.lines (map entry_item l.worlds);
  counted : length l.worlds ≡ l.counter;
}
