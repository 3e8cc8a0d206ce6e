use Rattle.std.proofs.Common.{string_bytes}
use Rattle.ps_commands.proofs.RunWords.{pivots_set, conflicts_set, neither_unset}
use Rattle.ps_commands.proofs.command.settings_by.Goals as goal

pub returns-in-Some : goal.returns-in-Some
returns-in-Some c = pivots_set (string_bytes c.args.word.now) (string_bytes c.args.value.now) c.in-Some.pivots c.in-Some.ensures

pub returns-in_err-conflicts : goal.returns-in_err-conflicts
returns-in_err-conflicts c =
    rw c.from_residual.ensures (neither_unset (string_bytes c.args.word.now) (string_bytes c.args.value.now) c.in_default.ensures c.in_err-conflicts.ensures)

pub returns : goal.returns
returns c = conflicts_set (string_bytes c.args.word.now) (string_bytes c.args.value.now) c.in_ok-conflicts.conflicts c.in_ok-conflicts.ensures
