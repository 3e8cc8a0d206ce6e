use Rattle.std.proofs.Common.{◌≡◌, ap, sym, subst, arith}
use Rattle.ps_learn.specs.Trails.{Trail, up_to}
use Rattle.ps_learn.proofs.Cutting.{up_to-all}
use Rattle.ps_sat.specs.Sights.{Sighting}
use Rattle.ps_sat.proofs.sight.Sight.cut_to.Goals as goal

pub returns-else-most-level-clause-seen : goal.returns-else-most-level-clause-seen
returns-else-most-level-clause-seen c =
    let s = c.self.inside in
    let same : s.seen ≡ c.args.self.now.seen = ap (λ (z : Sighting). z.seen) c.self.view_is in
    let all : up_to c.args.most s.seen ≡ s.seen = up_to-all s.seen c.args.most c.entries-entries.ensures.levels (omega (arith, c.level.ensures, c.if-most-level.false)) in
    subst (λ (z : Trail). z ≡ up_to c.args.most z) same (sym all)
