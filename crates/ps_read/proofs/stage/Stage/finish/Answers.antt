use Rattle.std.proofs.Common.{subst}
use Rattle.ps_read.specs.Stages.{StandsBehind, Knows}
use Rattle.ps_read.proofs.Knowing.{spelled_now, unread_now}
use Rattle.ps_read.proofs.stage.Stage.finish.Goals as goal

pub returns-in-Reading-clause-read : goal.returns-in-Reading-clause-read
returns-in-Reading-clause-read c = record { read = λ taken bytes p k. c.finish.ensures.read taken bytes (subst (λ s. StandsBehind s taken) c.in-Reading.is p) (subst (λ s. Knows s taken bytes) c.in-Reading.is k) }

pub returns-in-Followed-clause-read : goal.returns-in-Followed-clause-read
returns-in-Followed-clause-read c = record { read = λ taken bytes p k. spelled_now c.in-Followed.problem bytes taken (subst (λ s. Knows s taken bytes) c.in-Followed.is k) }

pub returns-in-Refused-clause-read : goal.returns-in-Refused-clause-read
returns-in-Refused-clause-read c = record { read = λ taken bytes p k. unread_now c.in-Refused.kind c.in-Refused.line c.in-Refused.column bytes taken (subst (λ s. Knows s taken bytes) c.in-Refused.is k) }
