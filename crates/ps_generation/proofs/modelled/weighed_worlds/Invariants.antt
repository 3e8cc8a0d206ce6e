use Rattle.std.proofs.Common.{◌≡◌, map}
use Rattle.ps_bland.specs.Rules.{simplex_of}
use Rattle.ps_generation.specs.Multiples.{weight_multiple_of}
use Rattle.ps_runs.specs.Certificates.{entries_to}
use Rattle.ps_claims.specs.Certificates.{entry_of}
use Rattle.ps_generation.proofs.modelled.weighed_worlds.Given as goal

abbrev pub invariant-loop-place : goal.invariant-loop-place
invariant-loop-place l = map entry_of l.worlds ≡ entries_to (simplex_of l.table) (weight_multiple_of l.table) l.pool l.place
