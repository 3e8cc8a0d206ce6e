-- What a problem comes to without one of its sentences.
use Rattle.std.specs.Prelude.{ℕ, ◌-◌, Bool, true, List, length, replicate}
use Rattle.ps_problem.specs.Problems.{Parts}
use Rattle.ps_table.specs.declared.event.Event.{Event}
use Rattle.ps_answer.specs.declared.answer.Dual.{Dual}
use Rattle.ps_answer.specs.declared.answer.Verdict.{Verdict}
use Rattle.ps_answer.specs.declared.answer.Verdict.TheVariants.{Consistent, Inconsistent, Open}
use Rattle.ps_runs.specs.Kept.{kept_parts}
use Rattle.ps_runs.specs.declared.limits.Limits.{Limits}
use Rattle.ps_explain.specs.Explanations.{without, AreAmong, CannotBeMet, IsModelOfKept, IsShownBy, IsOpen}

-- each sentence is kept but for the one of a number, from 1
abbrev pub all_but : Parts → ℕ → List Bool
all_but p n = without (replicate (length p.sentences) true) (n - 1)

-- the kept sentences can't be met together, as the dual shows of some of them
pub record AreShownNotMet (p : Parts) (kept : List Bool) (d : Dual) : Type 0 where
  pub cannot : CannotBeMet p kept
  pub few : List Bool
  pub among : AreAmong few kept
  pub shown : IsShownBy p few d

-- what the kept sentences come to: a model of them, that they can't be met together, or their run is open by a licence
abbrev pub IsVerdictOver : Limits → Parts → List Bool → Verdict → Type 0
IsVerdictOver limits p kept (Consistent m) = IsModelOfKept p kept m
IsVerdictOver limits p kept (Inconsistent d) = AreShownNotMet p kept d
IsVerdictOver limits p kept (Open cause) = (first : List Event) × IsOpen limits (kept_parts kept p) cause first

-- what the sentences of a problem come to without the one of a number
abbrev pub IsVerdictWithout : Limits → Parts → ℕ → Verdict → Type 0
IsVerdictWithout limits p n v = IsVerdictOver limits p (all_but p n) v
