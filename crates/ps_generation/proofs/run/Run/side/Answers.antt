use Rattle.std.proofs.Common.{rules}
use Rattle.std.proofs.lemmas.Result.{IfOk-weaker}
use Rattle.ps_generation.specs.Phases.{IsLeft}
use Rattle.ps_generation.specs.States.{HasRunTable}
use Rattle.ps_generation.proofs.Memory.{run_kept}
use Rattle.ps_generation.proofs.run.Run.side.Goals as goal

pub invariant_of-self : goal.invariant_of-self
invariant_of-self c =
    run_kept c.self.inside.setting c.self.inside.state c.side-answer.new.state c.self.inside.broken _ c.side-answer.result c.self.invariant
    (IfOk-weaker c.side-answer.result (λ _. IsLeft c.args.kind c.self.inside.setting.subject c.self.inside.state c.side-answer.new.state)
    (λ _. HasRunTable c.self.inside.setting.subject c.side-answer.new.state) (λ _ left. record { table = left.table; pool_kept = left.pool_kept }) c.side-answer.ensures.left)
    (search rules)
