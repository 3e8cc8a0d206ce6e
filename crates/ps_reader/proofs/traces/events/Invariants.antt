use Rattle.std.proofs.Common.{◌≡◌, map, length}
use Rattle.ps_answer.specs.Answers.{event_item}
use Rattle.ps_reader.specs.Taken.{Takes}
use Rattle.ps_reader.proofs.traces.events.Given as goal

abbrev pub invariant-loop : goal.invariant-loop
invariant-loop l = record {
  taken : Takes l.fn.lines l.lines (map event_item l.events);
  counted : length l.events ≡ l.counter;
}
