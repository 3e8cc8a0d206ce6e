use Rattle.std.proofs.Common.{ap, ◌∙◌, subst}
use Rattle.ps_learn.specs.Trails.{Trail, AreLevels}
use Rattle.ps_learn.proofs.Cutting.{up_to_part}
use Rattle.ps_learn.proofs.trail.Trail.cut_to.Goals as goal

pub returns-clause-prefix : goal.returns-clause-prefix
returns-clause-prefix c =
    let levels : AreLevels c.args.self.now.entries = subst (λ (x : Trail). AreLevels x.entries) c.self.view_is c.self.invariant.levels in
    let p = up_to_part c.args.self.now c.args.most levels in
    (p.0, ap (λ (x : Trail). x.entries) c.cut_all.ensures.kept ∙ p.1)
