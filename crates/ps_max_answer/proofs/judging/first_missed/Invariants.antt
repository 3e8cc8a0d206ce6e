use Rattle.std.proofs.Common.{◌≡◌, ◌+◌, drop}
use Rattle.ps_max_answer.specs.Answers.{first_missed}
use Rattle.ps_max_answer.proofs.judging.first_missed.Given as goal

abbrev pub invariant-loop-i : goal.invariant-loop-i
invariant-loop-i l = first_missed l.values (l.i + 1) (drop l.i l.hard) ≡ first_missed l.values 1 l.hard
