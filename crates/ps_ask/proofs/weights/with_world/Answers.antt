use Rattle.std.proofs.Common.{◌≡◌, ◌<◌, ℕ, rules, length, to_z, of_z, subst, sym}
use Rattle.std.specs.Prelude.{vec_len}
use mir.Syntax.{w128}
use Rattle.ps_formula.specs.Nodes.{truths}
use Rattle.ps_ask.proofs.ValueLaws.{world_added}
use Rattle.ps_ask.proofs.weights.with_world.Goals as goal

pub index-requires : goal.index-requires
index-requires c =
    let len : vec_len c.in-Some.values ≡ length c.args.problem.now.nodes = rw c.in-Some.is at c.in_ok-values.ensures.len in
    subst (λ (k : ℕ). c.args.node < k) (sym len) c.requires.node

pub returns : goal.returns
returns c =
    let p = c.args.problem.now in
    let w = c.args.weighted.now in
    let same : c.in-Some.values.items ≡ truths p.nodes w.world = rw c.in-Some.is at c.in_ok-values.ensures.truths in
    let fits : to_z w128 (of_z w128 w.weight) ≡ w.weight = search rules in
    let sum : to_z w128 (of_z w128 c.args.sum) ≡ c.args.sum = search rules in
    let share : to_z w128 (of_z w128 c.share.result) ≡ c.share.result = search rules in
    world_added c.plus.result p c.args.node w c.in-Some.values.items c.index.result.now c.share.result c.args.sum c.requires.node same c.index.ensures
    (rw fits at c.share.ensures) (rw (sum, share) at c.plus.ensures)
