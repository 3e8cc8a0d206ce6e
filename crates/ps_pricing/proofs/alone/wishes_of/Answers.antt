use Rattle.std.proofs.Common.{◌≡◌, ◌<◌, All, get_or, sym, subst}
use Rattle.ps_problem.specs.declared.row.Row.{Row}
use Rattle.ps_pricing.proofs.Wishes.{one-more, one-larger, goal-inside, first-inside}
use Rattle.ps_pricing.proofs.alone.wishes_of.Goals as goal

pub loop-row-preserved : goal.loop-row-preserved
loop-row-preserved c =
    let r = c.row-item.result in
    let is : r ≡ get_or c.args.rows.now c.loop-row.row-index r = c.row-item.is in
    let there = subst (λ (r : Row). All (λ t. t.0 < c.args.variables) r.terms) (sym is) (c.requires.inside c.loop-row.row-index r c.loop-row-test.true) in
    record {
      inside =
          one-more c.args.variables _ c.in-Some.wish c.of_place.result c.loop-row.wishes.items c.push.new.self.items c.in_ok-push.ensures.items c.of_place.ensures
          (first-inside c.args.variables c.in-Some.node r.terms c.in-Some.ensures there) c.loop-row.invariant.inside;
      size = one-larger c.of_place.result c.loop-row.wishes.items c.push.new.self.items c.loop-row.row-index c.in_ok-push.ensures.items c.loop-row.invariant.size;
    }

pub returns : goal.returns
returns c = goal-inside c.args.variables c.in_ok-from_weights.field-0 c.deref.result.now c.loop-row.wishes.items _ c.in_ok-from_weights.ensures.value c.deref.ensures.value c.loop-row.invariant.inside
