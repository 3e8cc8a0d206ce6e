-- The stages to which runs come, and the table of each.
use Rattle.std.specs.Prelude.{ℕ, List}
use Rattle.ps_meaning.specs.Rational.{Rational}
use Rattle.ps_meaning.specs.Formula.{World}
use Rattle.ps_simplex.specs.Table.{AreSameWithin}
use Rattle.ps_table.specs.declared.event.Event.{Event}
use Rattle.ps_table.specs.Worlds.{HasNumber}
use Rattle.ps_claims.specs.declared.claim_kind.ClaimKind.{ClaimKind}
use Rattle.ps_runs.specs.Rows.{rows_of, width_of}
use Rattle.ps_runs.specs.Subjects.{Subject, setting_of, frame_of, program_of}
use Rattle.ps_runs.specs.Runs.{Stage, IsStart, BelongsTo, IsPricedAt, LeadsTo}

-- lawful events of phases, one phase after the other, lead from a start to the stage
pub data IsReached (s : Subject) (conflicts : ℕ) : Stage → Type 0 where
  started : (g : Stage) → IsStart (frame_of s) g → IsReached s conflicts g
  led : (kind : ClaimKind) (a b : Stage) (events : List Event) → IsReached s conflicts a
      → LeadsTo (program_of kind s) conflicts a events b → IsReached s conflicts b

-- one table belongs to the basis of the stage, and each that does has the same entries
pub record HasOneTable (s : Subject) (g : Stage) : Type 0 where
  pub table : ℕ → ℕ → Rational
  pub belongs : BelongsTo (frame_of s) g table
  pub same : (X : ℕ → ℕ → Rational) → BelongsTo (frame_of s) g X
      → AreSameWithin (rows_of (setting_of s)) (width_of (setting_of s) g.pool) table X

-- a world that is priced at the stage has no number in its pool
abbrev pub ArePricedFresh : Subject → ℕ → Stage → Type 0
ArePricedFresh s conflicts g = (kind : ClaimKind) (w : World) (number : ℕ) → IsPricedAt (program_of kind s) conflicts g w
    → ¬ HasNumber g.pool w number
