-- The statuses with which solve ends behind a report.
use Rattle.std.proofs.Common.{ℕ, zero, suc}
use Rattle.ps_answer.specs.declared.answer.Verdict.{Verdict}
use Rattle.ps_answer.specs.declared.answer.Verdict.TheVariants as answer
use Rattle.ps_commands.specs.Due.{status_by}
use Rattle.ps_commands.specs.Statuses.{EndsSolve}

pub ends_solve : (v : Verdict) (n : ℕ) → EndsSolve (status_by v n)
ends_solve (answer.Inconsistent d) n = tt
ends_solve (answer.Consistent m) zero = tt
ends_solve (answer.Consistent m) (suc n) = tt
ends_solve (answer.Open c) zero = tt
ends_solve (answer.Open c) (suc n) = tt
