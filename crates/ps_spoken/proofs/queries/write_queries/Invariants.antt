use Rattle.std.proofs.Common.{◌≡◌, ◌++◌, take}
use Rattle.ps_spoken.specs.Queries.{queries_text}
use Rattle.ps_spoken.proofs.queries.write_queries.Given as goal

abbrev pub invariant-loop-place : goal.invariant-loop-place
invariant-loop-place l = l.out.items ≡ l.fn.out.items ++ queries_text l.digits l.problem (take l.place l.parts) l.details
