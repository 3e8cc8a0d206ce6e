-- A run stands as it did, or memory ran out.
use Rattle.std.proofs.Common.{◌≡◌, ◌∙◌, Bool, Result, Ok, Err, IfOk, sym}
use Rattle.std.specs.Prelude.{is_err}
use Rattle.std.proofs.lemmas.Bool.{true≢false}
use Rattle.ps_runs.specs.declared.state.State.{State}
use Rattle.ps_generation.specs.Phases.{LimitedSubject}
use Rattle.ps_generation.specs.States.{IsRun, HasRunTable}

pub run_kept : {A E : Type 0} (over : LimitedSubject) (old new : State) (was b : Bool) (r : Result A E) → IsRun over old was → IfOk r (λ _. HasRunTable over.subject new) → b ≡ is_err r
    → IsRun over new b
run_kept over old new was b (Ok x) run there e = record { asked = run.asked; limits = run.limits; there = λ _. there }
run_kept over old new was b (Err x) run there e = record { asked = run.asked; limits = run.limits; there = λ is. absurd (true≢false (sym e ∙ is)) }
