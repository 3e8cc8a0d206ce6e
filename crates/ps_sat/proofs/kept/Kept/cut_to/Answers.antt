use Rattle.std.proofs.Common.{◌∙◌, ap, subst, vec_capacity}
use Rattle.ps_learn.specs.Trails.{Trail, AreLevels}
use Rattle.ps_sat.specs.Sights.{literals_of}
use Rattle.ps_sat.specs.Keeping.{Keeping, seen_to}
use Rattle.ps_sat.proofs.Sighted.{literals-to}
use Rattle.ps_sat.proofs.Keeping.{keeping-cut}
use Rattle.ps_sat.proofs.kept.Kept.cut_to.Goals as goal

pub invariant_of-self : goal.invariant_of-self
invariant_of-self c =
    let s = c.self.inside in
    keeping-cut s.known s.w s.scanned.items s.waiting.items (vec_capacity s.scanned) s.sight c.cut_to-2.new.self s.goal s.closed s.settled c.args.most c.self.invariant (subst (λ (z : Trail). AreLevels z.entries) c.trail.ensures c.entries-seen.ensures.levels) c.cut_to-2.ensures.goal c.cut_to-2.ensures.seen

pub returns-clause-seen : goal.returns-clause-seen
returns-clause-seen c =
    let s = c.self.inside in
    ap (λ (z : Trail). literals_of z.entries) c.cut_to-2.ensures.seen ∙ literals-to c.args.most s.sight.seen.entries ∙ ap (λ (z : Keeping). seen_to c.args.most z.seen) c.self.view_is
