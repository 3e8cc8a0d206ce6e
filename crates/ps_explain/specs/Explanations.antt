-- What an explanation is to be.
use Rattle.std.specs.Prelude.{◌≡◌, ◌⊎◌, ◌<◌, ℕ, suc, Bool, true, false, None, List, [], ◌∷◌, length, map, set, get_or, All}
use Rattle.std.specs.List.{AllZip}
use Rattle.ps_meaning.specs.Bounds.{Bound}
use Rattle.ps_problem.specs.Problems.{Parts, bounds_of}
use Rattle.ps_table.specs.declared.event.Event.{Event}
use Rattle.ps_answer.specs.declared.answer.Cause.{Cause}
use Rattle.ps_answer.specs.declared.answer.Dual.{Dual}
use Rattle.ps_answer.specs.declared.answer.Model.{Model}
use Rattle.ps_answer.specs.declared.answer.Verdict.TheVariants as verdict
use Rattle.ps_claims.specs.Queries.{IsInconsistent}
use Rattle.ps_claims.specs.Answers.{ShowsConsistent}
use Rattle.ps_claims.specs.Duals.{AreZeroElsewhere}
use Rattle.ps_claims.specs.Validity.{ShowsNothing}
use Rattle.ps_claims.specs.Certificates.{model_of, dual_of}
use Rattle.ps_runs.specs.Kept.{flags_of, kept_parts, IsChoice, AreAllKept}
use Rattle.ps_runs.specs.Verdicts.{IsLawfulVerdict}
use Rattle.ps_claims.specs.Printed.{IsPrintedModel, IsPrintedDual, IsPrintedCause}
use Rattle.ps_runs.specs.declared.limits.Limits.{Limits}
use Rattle.ps_explain.specs.declared.explained.Explained.{Explained}
use Rattle.ps_explain.specs.declared.explained.Explained.TheVariants as explained

-- ---- sentences
-- the places of the kept sentences, counted from here on
abbrev pub places_from : ℕ → List Bool → List ℕ
places_from i [] = []
places_from i (true ∷ ks) = i ∷ places_from (suc i) ks
places_from i (false ∷ ks) = places_from (suc i) ks

-- the numbers of the kept sentences, from 1, in rising order
abbrev pub numbers_of : List Bool → List ℕ
numbers_of kept = map suc (places_from 0 kept)

-- the kept sentences but for the one at a place
abbrev pub without : List Bool → ℕ → List Bool
without kept i = set kept i false

-- the sentences that are kept by the first are by the second
abbrev pub AreAmong : List Bool → List Bool → Type 0
AreAmong few many = AllZip (λ a b. a ≡ true → b ≡ true) few many

-- the bounds of the kept sentences
abbrev pub kept_bounds : Parts → List Bool → List Bound
kept_bounds p kept = bounds_of (kept_parts kept p)

-- no distribution meets the kept sentences together
abbrev pub CannotBeMet : Parts → List Bool → Type 0
CannotBeMet p kept = IsInconsistent (length p.names) (kept_bounds p kept)

-- ---- cores
-- the model is a distribution that meets the kept sentences, of at most one world more than these have bounds, with the sum of
-- its weights as total
abbrev pub IsModelOfKept : Parts → List Bool → Model → Type 0
IsModelOfKept p kept m = ShowsConsistent (length p.names) (kept_bounds p kept) (model_of m)

-- the model is one of the kept sentences but for the one at a place
abbrev pub IsModelWithout : Parts → List Bool → ℕ → Model → Type 0
IsModelWithout p kept i m = IsModelOfKept p (without kept i) m

-- the dual shows of the whole problem that no distribution meets it, and has multiplier 0 at each bound of a sentence that
-- isn't kept
pub record IsShownBy (p : Parts) (kept : List Bool) (d : Dual) : Type 0 where
  pub shown : ShowsNothing p None (dual_of d)
  pub others : AreZeroElsewhere (flags_of kept p.sentences) d.rows

-- the sentences of these numbers can't be met together, as the dual shows, and for each of them, in order, a model meets the
-- others
pub record IsCore (p : Parts) (sentences : List ℕ) (d : Dual) (models : List Model) : Type 0 where
  pub kept : List Bool
  pub choice : IsChoice kept p
  pub named : sentences ≡ numbers_of kept
  pub inconsistent : CannotBeMet p kept
  pub shown : IsShownBy p kept d
  pub needed : AllZip (IsModelWithout p kept) (places_from 0 kept) models

-- ---- what is open
-- there is one further sentence with which no distribution meets them
pub record IsOneShort (p : Parts) (kept : List Bool) : Type 0 where
  pub place : ℕ
  pub inside : place < length kept
  pub further : get_or kept place true ≡ false
  pub inconsistent : CannotBeMet p (set kept place true)

-- a lawful run over a problem is open for the cause, by a licence
abbrev pub IsOpen : Limits → Parts → Cause → List Event → Type 0
IsOpen limits p cause first = IsLawfulVerdict p limits (verdict.Open cause) first

-- the run over the sentences of these numbers is open, by a licence: over all sentences, or over such that no distribution meets
-- together with one further sentence
pub record IsOpenOver (limits : Limits) (p : Parts) (sentences : List ℕ) (cause : Cause) (first : List Event) : Type 0 where
  pub kept : List Bool
  pub choice : IsChoice kept p
  pub named : sentences ≡ numbers_of kept
  pub which : AreAllKept kept ⊎ IsOneShort p kept
  pub lawful : IsOpen limits (kept_parts kept p) cause first

-- ---- explanations
-- an explanation of a problem, within limits of pivots and conflicts, is right
abbrev pub IsRightExplanation : Limits → Parts → Explained → Type 0
IsRightExplanation limits p (explained.Consistent m) = ShowsConsistent (length p.names) (bounds_of p) (model_of m)
IsRightExplanation limits p (explained.Core sentences d models) = IsCore p sentences d models
IsRightExplanation limits p (explained.Open sentences cause first) = IsOpenOver limits p sentences cause first

-- the numbers of an explanation can be printed
abbrev pub IsPrintedExplanation : Explained → Type 0
IsPrintedExplanation (explained.Consistent m) = IsPrintedModel m
IsPrintedExplanation (explained.Core sentences d models) = IsPrintedDual d × All IsPrintedModel models
IsPrintedExplanation (explained.Open sentences cause first) = IsPrintedCause cause

-- an explanation is right, and can be printed
pub record IsExplanation (limits : Limits) (p : Parts) (e : Explained) : Type 0 where
  pub right : IsRightExplanation limits p e
  pub printed : IsPrintedExplanation e
