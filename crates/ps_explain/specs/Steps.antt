-- What each step to an explanation finds.
use Rattle.std.specs.Prelude.{◌≡◌, ◌<◌, ℕ, Bool, true, false, Option, Some, None}
use Rattle.std.specs.Prelude.{List, get_or, take, ◌+◌, length, All}
use Rattle.std.specs.List.{AllZip}
use Rattle.ps_meaning.specs.Distribution.{Entry}
use Rattle.ps_meaning.specs.Bounds.{IsModelOf}
use Rattle.ps_problem.specs.Problems.{Parts}
use Rattle.ps_answer.specs.declared.answer.Model.{Model}
use Rattle.ps_runs.specs.Kept.{kept_parts, IsChoice}
use Rattle.ps_claims.specs.Printed.{IsPrintedModel, IsPrintedDual, IsPrintedCause}
use Rattle.ps_runs.specs.declared.limits.Limits.{Limits}
use Rattle.ps_generation.specs.Runs.{RunState, IsNew}
use Rattle.ps_explain.specs.declared.conflict.Conflict.{Conflict}
use Rattle.ps_explain.specs.declared.outcome.Outcome.{Outcome}
use Rattle.ps_explain.specs.declared.outcome.Outcome.TheVariants as outcome
use Rattle.ps_explain.specs.declared.outcome.Tried.{Tried}
use Rattle.ps_explain.specs.declared.outcome.Tried.TheVariants as tried
use Rattle.ps_explain.specs.declared.explained.Explained.{Explained}
use Rattle.ps_explain.specs.declared.witnesses.Witnesses.{Witnesses}
use Rattle.ps_explain.specs.declared.witnesses.Witnesses.TheVariants as witnesses
use Rattle.ps_explain.specs.Explanations.{without, kept_bounds, places_from, AreAmong, IsModelOfKept, IsModelWithout}
use Rattle.ps_explain.specs.Explanations.{IsShownBy, IsOpen, IsExplanation}

-- ---- parts of the sentences
-- the sentence at a place is kept by the second if it is by the first
abbrev pub IsAmongAt : List Bool → List Bool → ℕ → Type 0
IsAmongAt few many i = get_or few i false ≡ true → get_or many i false ≡ true

-- each of the first sentences, so many
pub record AreAmongTo (few many : List Bool) (n : ℕ) : Type 0 where
  pub at : (i : ℕ) → i < n → IsAmongAt few many i

-- some distribution meets the kept sentences
pub record CanBeMet (p : Parts) (kept : List Bool) : Type 0 where
  pub distribution : List Entry
  pub model : IsModelOf (length p.names) (kept_bounds p kept) distribution

-- of the first sentences, so many, each that is kept is needed: the other kept ones can be met
pub record AreNeeded (p : Parts) (kept : List Bool) (n : ℕ) : Type 0 where
  pub at : (i : ℕ) → i < n → get_or kept i false ≡ true → CanBeMet p (without kept i)

-- the sentences can't be met together, as the dual shows
pub record IsConflict (p : Parts) (c : Conflict) : Type 0 where
  pub choice : IsChoice c.kept p
  pub shown : IsShownBy p c.kept c.dual
  pub printed : IsPrintedDual c.dual

-- some of the kept sentences can't be met together
pub record IsConflictAmong (p : Parts) (kept : List Bool) (c : Conflict) : Type 0 where
  pub conflict : IsConflict p c
  pub among : AreAmong c.kept kept

-- ---- runs
-- what kept sentences come to: a model of them, some of them that can't be met together, or their run is open by a licence
abbrev pub IsOutcome : Limits → Parts → List Bool → Outcome → Type 0
IsOutcome limits p kept (outcome.Met m) = IsModelOfKept p kept m × IsPrintedModel m
IsOutcome limits p kept (outcome.NotMet c) = IsConflictAmong p kept c
IsOutcome limits p kept (outcome.Open cause first) = IsOpen limits (kept_parts kept p) cause first × IsPrintedCause cause

-- what a run at its start comes to, where that is over the kept sentences of a problem
abbrev pub IsOutcomeOfRun : Parts → RunState → Outcome → Type 0
IsOutcomeOfRun p r o = (kept : List Bool) → (limits : Limits) → IsNew p kept None limits r → IsChoice kept p
    → IsOutcome limits p kept o

-- what they come to without the sentence at a place: it is needed, some of the others can't be met together, or it is open
abbrev pub IsTried : Limits → Parts → List Bool → ℕ → Tried → Type 0
IsTried limits p kept i (tried.Needed m) = IsModelWithout p kept i m × IsPrintedModel m
IsTried limits p kept i (tried.Left c) = IsConflictAmong p (without kept i) c
IsTried limits p kept i (tried.Open e) = IsExplanation limits p e

-- ---- loops
-- one more sentence was looked at: it is needed, or was left out; or the explanation is open
abbrev pub IsNarrowedAt : Limits → Parts → ℕ → Conflict → Conflict → Option Explained → Type 0
IsNarrowedAt limits p i old new None = IsConflict p new × (AreNeeded p old.kept i → AreNeeded p new.kept (i + 1))
IsNarrowedAt limits p i old new (Some e) = IsExplanation limits p e

-- each sentence is needed, or the explanation is open
abbrev pub IsNarrowed : Limits → Parts → Conflict → Option Explained → Type 0
IsNarrowed limits p c None = IsConflict p c × AreNeeded p c.kept (length c.kept)
IsNarrowed limits p c (Some e) = IsExplanation limits p e

-- a model for each of these sentences, by their places, that meets the others
pub record AreModelsWithout (p : Parts) (kept : List Bool) (places : List ℕ) (models : List Model) : Type 0 where
  pub each : AllZip (IsModelWithout p kept) places models
  pub printed : All IsPrintedModel models

-- one more sentence was looked at: where it is kept it has a model
abbrev pub IsModelledAt : Parts → List Bool → ℕ → List Model → List Model → Type 0
IsModelledAt p kept i old new =
    AreModelsWithout p kept (places_from 0 (take i kept)) old → AreModelsWithout p kept (places_from 0 (take (i + 1) kept)) new

-- so it is, if no explanation is open
abbrev pub AddsModel : Parts → Conflict → ℕ → List Model → List Model → Option Explained → Type 0
AddsModel p core i old new None = IsModelledAt p core.kept i old new
AddsModel p core i old new (Some e) = Unit {0}

-- a model for each kept sentence, or the explanation is open
abbrev pub AreWitnesses : Limits → Parts → List Bool → Witnesses → Type 0
AreWitnesses limits p kept (witnesses.Found models) = AreModelsWithout p kept (places_from 0 kept) models
AreWitnesses limits p kept (witnesses.Open e) = IsExplanation limits p e
