use Rattle.std.proofs.Common.{◌≡◌, ◌++◌, take}
use Rattle.ps_canonical.specs.Lines.{query_lines}
use Rattle.ps_canonical.proofs.writing.queries.Given as goal

abbrev pub invariant-loop-query : goal.invariant-loop-query
invariant-loop-query l = l.out.items ≡ l.fn.out.items ++ query_lines l.problem (take l.query-index l.problem.queries)
