-- Which sentences of a problem clash.
use Rattle.std.specs.Prelude.{◌≡◌, ◌⊎◌, true, ℕ, List, length, map, All, Option, Some, None}
use Rattle.ps_problem.specs.Problems.{Parts, bounds_of}
use Rattle.ps_claims.specs.Queries.{IsInconsistent}
use Rattle.ps_table.specs.declared.event.Event.{Event}
use Rattle.ps_answer.specs.declared.answer.Cause.{Cause}
use Rattle.ps_answer.specs.declared.answer.Dual.{Dual}
use Rattle.ps_answer.specs.declared.answer.Model.{Model}
use Rattle.ps_answer.specs.declared.answer.Verdict.{Verdict}
use Rattle.ps_answer.specs.declared.answer.Verdict.TheVariants.{Consistent, Inconsistent, Open}
use Rattle.ps_runs.specs.declared.limits.Limits.{Limits}
use Rattle.ps_explain.specs.Explanations.{IsCore, IsModelOfKept, IsOpenOver}
use Rattle.ps_explain.specs.Rests.{all_but, AreShownNotMet, IsVerdictWithout}
use Rattle.ps_spoken.specs.declared.clash.Clash.{Clash}
use Rattle.ps_spoken.specs.declared.clash.Clash.TheVariants as clash
use Rattle.ps_spoken.specs.declared.clash.Clashing.{Clashing}
use Rattle.ps_spoken.specs.Spoken.{out_of_time}
use Rattle.ps_ask.specs.declared.cores.Core.{Core}
use Rattle.ps_ask.specs.declared.cores.Core.TheVariants as core
use Rattle.ps_ask.specs.declared.settings.Settings.{Settings}

-- no distribution meets the problem's sentences
abbrev pub IsShownInconsistent : Parts → Type 0
IsShownInconsistent p = IsInconsistent (length p.names) (bounds_of p)

-- the sentences of these numbers can't be met together, as a dual shows, and for each of them a distribution meets the others
pub record AreIrreducible (p : Parts) (sentences : List ℕ) : Type 0 where
  pub dual : Dual
  pub models : List Model
  pub core : IsCore p sentences dual models

-- a search for such sentences was stopped for a cause, by a licence
pub record IsStopped (limits : Limits) (p : Parts) (cause : Cause) : Type 0 where
  pub sentences : List ℕ
  pub events : List Event
  pub open_over : IsOpenOver limits p sentences cause events

-- time is limited, and what is sought is shown as not finished within it
pub record IsLateClash (s : Settings) (cause : Cause) : Type 0 where
  pub timed : s.is_timed ≡ true
  pub over : cause ≡ out_of_time

-- what is found within limits: sentences that can't be met together and are each needed for it, or what stopped the search
abbrev pub IsCoreWithin : Limits → Parts → Core → Type 0
IsCoreWithin limits p (core.Found ns) = AreIrreducible p ns
IsCoreWithin limits p (core.Open cause) = IsStopped limits p cause

-- what stopped the search for sentences that clash: a limit of the settings, or that of time
abbrev pub IsStoppedBy : Settings → Parts → Cause → Type 0
IsStoppedBy s p cause = IsStopped s.limits p cause ⊎ IsLateClash s cause

-- the same within the settings' limits, or, where time is limited, as far as it went
abbrev pub IsCoreFor : Settings → Parts → Core → Type 0
IsCoreFor s p (core.Found ns) = AreIrreducible p ns
IsCoreFor s p (core.Open cause) = IsStoppedBy s p cause

-- what the problem comes to without the sentence of a number: the others can be met together, or can't, or it wasn't found out
abbrev pub IsRestOf : Settings → Parts → ℕ → Verdict → Type 0
IsRestOf s p n (Consistent m) = IsModelOfKept p (all_but p n) m
IsRestOf s p n (Inconsistent d) = AreShownNotMet p (all_but p n) d
IsRestOf s p n (Open cause) = IsVerdictWithout s.limits p n (Open cause) ⊎ IsLateClash s cause

-- so it is told of a sentence that clashes
abbrev pub IsRestFor : Settings → Parts → Clashing → Type 0
IsRestFor s p c = IsRestOf s p c.number c.rest

-- the number of a sentence that clashes
abbrev pub number_of : Clashing → ℕ
number_of c = c.number

-- sentences that can't be met together and are each needed for it, with what the problem comes to without each
pub record IsClash (s : Settings) (p : Parts) (clashing : List Clashing) : Type 0 where
  pub irreducible : AreIrreducible p (map number_of clashing)
  pub rests : All (IsRestFor s p) clashing

-- what is found of the sentences that clash, or what stopped the search for them
abbrev pub IsFoundClash : Settings → Parts → Clash → Type 0
IsFoundClash s p (clash.Irreducible clashing) = IsClash s p clashing
IsFoundClash s p (clash.Open cause) = IsStoppedBy s p cause

-- what is shown of them: where the verdict is that the sentences are inconsistent what is found, and else nothing
abbrev pub IsClashAt : Settings → Parts → Verdict → Option Clash → Type 0
IsClashAt s p (Inconsistent d) (Some c) = IsFoundClash s p c
IsClashAt s p (Inconsistent d) None = ⊥
IsClashAt s p (Consistent m) c = c ≡ None
IsClashAt s p (Open cause) c = c ≡ None
