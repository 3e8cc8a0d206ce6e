use Rattle.std.proofs.Common.{◌∙◌}
use Rattle.ps_commands.specs.Runs.{Ran}
use Rattle.ps_commands.proofs.RunLaws.{ran_behind}
use Rattle.ps_commands.proofs.exit.run_program.Goals as goal

pub returns-clause-ran : goal.returns-clause-ran
returns-clause-ran g c =
    ran_behind (Ran _ _ _) c.args.all c.in-Ok.all c.deref.result.now c.behind_name.result.now c.run.result c.in-Ok.is (c.deref.ensures.value ∙ c.in_ok-all-in-Ok.ensures) c.behind_name.ensures
    c.run.ensures.ran
