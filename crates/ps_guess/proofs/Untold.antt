-- No verdict, since what watches has refused, or a run left it open.
use Rattle.std.proofs.Common.{◌≡◌, ◌≢◌, ℕ, ◌+◌, Bool, true, List, Option, Some, None, inl, inr}
use Rattle.std.specs.Prelude.{Result, Ok, Err, IfOk, IsSome}
use Rattle.std.proofs.lemmas.Bool.{false≢true}
use Rattle.ps_problem.specs.Problems.{Parts}
use Rattle.ps_table.specs.declared.event.Event.{Event}
use Rattle.ps_answer.specs.declared.answer.Verdict.{Verdict}
use Rattle.ps_runs.specs.declared.limits.Limits.{Limits}
use Rattle.ps_guess.specs.declared.turns.TheConstants.{MOST_TURNS}
use Rattle.ps_guess.specs.Known.{IsRunOr, TakesVerdict}

pub refused_there : (so : Bool) (limits : Limits) (turn : ℕ) (p : Parts) → so ≡ true → IsRunOr so limits turn p None
refused_there so limits turn p h = inl h

pub run_or : {E : Type 0} (so : Bool) (limits : Limits) (turn : ℕ) (p : Parts) (r : Result (Option (Verdict × List Event)) E) → IfOk r (TakesVerdict limits turn p)
    → (turn + 1 ≡ MOST_TURNS → IfOk r IsSome) → IfOk r (IsRunOr so limits turn p)
run_or so limits turn p (Ok (Some found)) h last = tt
run_or so limits turn p (Ok None) h last = inr ((λ e. absurd (false≢true (last e))), h)
run_or so limits turn p (Err e) h last = tt

-- in the last turn no run leaves it open
pub last_refused : (so : Bool) (limits : Limits) (turn : ℕ) (p : Parts) → turn + 1 ≡ MOST_TURNS → IsRunOr so limits turn p None → so ≡ true
last_refused so limits turn p e (inl h) = h
last_refused so limits turn p e (inr k) = absurd (k.0 e)
