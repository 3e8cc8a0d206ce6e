use Rattle.std.proofs.Common.{ℕ, ◌^◌, ◌<◌, subst, ◌∙◌}
use Rattle.ps_commands.proofs.EnoughPivots.{many_worlds}
use Rattle.ps_commands.proofs.solved.enough_for.Goals as goal

pub returns-in_err-worlds : goal.returns-in_err-worlds
returns-in_err-worlds c =
    rw c.from_residual.ensures (many_worlds c.args.problem.now
    (subst (λ (k : ℕ). ¬ (2 ^ k < 2 ^ 64)) (c.from.ensures ∙ c.atoms.ensures.atoms) c.in_err-worlds.ensures))
