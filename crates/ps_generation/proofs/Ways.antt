-- The events of a phase, which stand behind those that were not yet taken.
use Rattle.std.proofs.Common.{ℕ, List, [], refl}
use Rattle.ps_meaning.specs.Formula.{World}
use Rattle.ps_table.specs.declared.event.Event.{Event}
use Rattle.ps_table.specs.Tableau.{Tableau}
use Rattle.ps_claims.specs.declared.claim_kind.ClaimKind.{ClaimKind}
use Rattle.ps_runs.specs.Subjects.{Subject, program_of}
use Rattle.ps_runs.specs.Runs.{Stage}
use Rattle.ps_runs.specs.Tables.{IsUnderWay, standing}

module _ (kind : ClaimKind) (s : Subject) (conflicts : ℕ) (from : Stage) (had : ℕ) (before : List Event) (pool : List World) (t : Tableau) (trace : List Event) (left : ℕ)
    (way : IsUnderWay (program_of kind s) conflicts from had before (standing pool t trace left)) where
  -- seen by its own events alone
  pub own_way : IsUnderWay (program_of kind s) conflicts from had [] (standing pool t way.events left)
  own_way = record {
    table = way.table;
    pool_kept = way.pool_kept;
    events = way.events;
    appended = refl;
    leads = way.leads;
    counted = way.counted;
  }
