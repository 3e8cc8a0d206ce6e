use Rattle.std.proofs.Common.{take}
use Rattle.std.specs.List.{AllZip}
use Rattle.ps_guess.specs.Solutions.{IsAnsweredPart}
use Rattle.ps_guess.proofs.answering.all_parts.Given as goal

abbrev pub invariant-loop-query : goal.invariant-loop-query
invariant-loop-query g l = AllZip (IsAnsweredPart l.limits l.trials) (take l.query-index l.query-items) l.parts
