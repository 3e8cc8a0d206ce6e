use Rattle.std.proofs.Common.{take}
use Rattle.std.specs.List.{AllZip}
use Rattle.ps_query.specs.Parts.{IsPartOf}
use Rattle.ps_query.proofs.solving.query_parts.Given as goal

abbrev pub invariant-loop-query : goal.invariant-loop-query
invariant-loop-query l = AllZip (IsPartOf l.limits l.problem) (take l.query-index l.query-items) l.parts
