use Rattle.std.proofs.Common.{◌≡◌, arith, Some}
use Rattle.ps_commands.proofs.CommandLaws.{none_spelled}
use Rattle.ps_commands.proofs.command.number.Goals as goal

pub returns-then-most-n-clause-none : goal.returns-then-most-n-clause-none
returns-then-most-n-clause-none c =
    none_spelled c.parse_number.result _ c.args.most (omega arith) c.parse_number.ensures
    (λ n e le f. let was : c.parse_number.result ≡ Some c.in_ok-n.n = c.in_ok-n.was in let same : c.in_ok-n.n ≡ n = cc in omega (arith, same))
