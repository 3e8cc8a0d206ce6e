use Rattle.std.proofs.Common.{◌≡◌}
use Rattle.ps_io.specs.Transfer.{Appends}
use Rattle.ps_ask.specs.Fronts.{parts_pieces}
use Rattle.ps_ask.specs.Rounds.{AreRounds}
use Rattle.ps_ask.proofs.FrontLaws.{ArePartsTo}
use Rattle.ps_ask.proofs.fronts.show_parts.Given as goal

abbrev pub invariant-loop-query : goal.invariant-loop-query
invariant-loop-query g l = record {
  parts : ArePartsTo l.settings l.trials l.query-index l.parts l.details;
  written : Appends (g.O.Sink.written l.fn.sink) (g.O.Sink.written l.sink) (parts_pieces l.settings.style l.settings.digits l.trials l.parts l.details);
  rounds : AreRounds l.settings l.trials l.rounds;
  faults : g.O.Sink.faults l.sink ≡ g.O.Sink.faults l.fn.sink;
}
