use Rattle.std.proofs.Common.{rules}
use Rattle.ps_generation.proofs.Memory.{run_kept}
use Rattle.ps_generation.proofs.run.Run.phase_one.Goals as goal

pub invariant_of-self : goal.invariant_of-self
invariant_of-self c =
    run_kept c.self.inside.setting c.self.inside.state c.first-reached.new.state c.self.inside.broken _ c.first-reached.result c.self.invariant c.first-reached.ensures.there (search rules)
