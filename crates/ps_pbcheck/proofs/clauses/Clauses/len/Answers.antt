use Rattle.std.proofs.Common.{arith}
use Rattle.ps_pbcheck.proofs.Parting.{parts-length}
use Rattle.ps_pbcheck.proofs.clauses.Clauses.len.Goals as goal

pub returns-clause-value : goal.returns-clause-value
returns-clause-value c = rw (← c.self.view_is, parts-length) (omega (arith, c.len.ensures))
