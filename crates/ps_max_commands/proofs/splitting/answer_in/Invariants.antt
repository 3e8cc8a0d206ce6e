use Rattle.std.proofs.Common.{◌≡◌, option_copied}
use Rattle.ps_log.specs.Numbers.{left_of}
use Rattle.ps_max_commands.specs.Splits.{answer_of_input}
use Rattle.ps_max_commands.proofs.CutInputs.{answer_left}
use Rattle.ps_max_commands.proofs.splitting.answer_in.Given as goal

abbrev pub invariant-loop-rest : goal.invariant-loop-rest
invariant-loop-rest l = answer_of_input l.bytes ≡ answer_left (option_copied l.rest)

abbrev pub decreases-loop-rest : goal.decreases-loop-rest
decreases-loop-rest l = left_of (option_copied l.rest)
