use Rattle.std.proofs.Common.{string_bytes}
use Rattle.ps_commands.proofs.RunWords.{pivots_conflicts_set, conflicts_pivots_set, first_unset, conflicts_unset, pivots_unset_behind}
use Rattle.ps_commands.proofs.command.settings_by_both.Goals as goal

pub returns-in_err-conflicts : goal.returns-in_err-conflicts
returns-in_err-conflicts c =
    rw c.from_residual.ensures (conflicts_unset (string_bytes c.args.first.now) (string_bytes c.args.m.now) (string_bytes c.args.second.now) (string_bytes c.args.n.now) c.in-Some.pivots
    c.in-Some.ensures c.in_err-conflicts.ensures)

pub returns-in-Some : goal.returns-in-Some
returns-in-Some c =
    pivots_conflicts_set (string_bytes c.args.first.now) (string_bytes c.args.m.now) (string_bytes c.args.second.now) (string_bytes c.args.n.now) c.in-Some.pivots
    c.in_ok-conflicts.conflicts c.in-Some.ensures c.in_ok-conflicts.ensures

pub returns-in_err-conflicts-2 : goal.returns-in_err-conflicts-2
returns-in_err-conflicts-2 c =
    rw c.from_residual-in_err-conflicts-2.ensures (first_unset (string_bytes c.args.first.now) (string_bytes c.args.m.now) (string_bytes c.args.second.now) (string_bytes c.args.n.now)
    c.in_default.ensures c.in_err-conflicts-2.ensures)

pub returns-in_err-pivots : goal.returns-in_err-pivots
returns-in_err-pivots c =
    rw c.from_residual-in_err-pivots.ensures (pivots_unset_behind (string_bytes c.args.first.now) (string_bytes c.args.m.now) (string_bytes c.args.second.now) (string_bytes c.args.n.now)
    c.in_default.ensures c.in_err-pivots.ensures)

pub returns : goal.returns
returns c =
    conflicts_pivots_set (string_bytes c.args.first.now) (string_bytes c.args.m.now) (string_bytes c.args.second.now) (string_bytes c.args.n.now) c.in_ok-pivots.pivots
    c.in_ok-conflicts-2.conflicts c.in_ok-conflicts-2.ensures c.in_ok-pivots.ensures
