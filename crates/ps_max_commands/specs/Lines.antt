-- The statuses and the lines of what is answered of weighted clauses.
use Rattle.std.specs.Prelude.{◌≡◌, ◌≢◌, Option, Some, None}
use Rattle.ps_max_answer.specs.declared.answer.MaxAnswer.{MaxAnswer}
use Rattle.ps_max_answer.specs.declared.answer.MaxAnswer.TheVariants.{Optimum, Unsatisfiable, Open}
use Rattle.ps_max_answer.specs.declared.max_error.MaxError.{MaxError}
use Rattle.ps_max_answer.specs.declared.max_error.MaxError.TheVariants.{NoMemory}
use Rattle.ps_messages.specs.Lines.{Output, accepted, refused_maxsat}
use Rattle.ps_messages.specs.declared.status.Status.{Status}
use Rattle.ps_messages.specs.declared.status.Status.TheVariants.{Done, Inconsistent, Unfinished}

-- the status after an answer
abbrev pub status_of : MaxAnswer → Status
status_of (Optimum c w steps) = Done
status_of (Unsatisfiable steps) = Inconsistent
status_of (Open limit goal steps best) = Unfinished

-- the line for an answer that is accepted: one claim, or one part that is open
abbrev pub accepted_line : MaxAnswer → Output
accepted_line (Open limit goal steps best) = accepted 0 1
accepted_line a = accepted 1 0

-- an answer is accepted where no reason is against it, and else the first reason is named
abbrev pub judged_as : Option MaxError → MaxAnswer → Output
judged_as None a = accepted_line a
judged_as (Some e) a = refused_maxsat e

-- a reason against an answer is named, which isn't want of memory
pub record IsRefusal (e : MaxError) (o : Output) : Type 0 where
  pub other : e ≢ NoMemory
  pub is : o ≡ refused_maxsat e
