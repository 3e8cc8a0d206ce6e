use Rattle.std.proofs.Common.{◌≡◌, ◌∙◌, ◌+ℤ◌, rules, to_z, of_z, sym, ap}
use mir.Syntax.{w128}
use Rattle.ps_problem.specs.Problems.{tree_at}
use Rattle.ps_claims.specs.Certificates.{entry_of}
use Rattle.ps_valid.proofs.Weights.{weight-more}
use Rattle.ps_ask.specs.Weights.{weight_in}
use Rattle.ps_ask.proofs.weights.weight_of.Goals as goal

pub loop-weighted-preserved : goal.loop-weighted-preserved
loop-weighted-preserved c =
    let w = c.weighted-item.result in
    let p = c.args.problem.now in
    let more = weight-more entry_of c.args.worlds.now c.loop-weighted.weighted-index w (tree_at p.nodes c.args.node) c.loop-weighted-test.true in
    let fits : to_z w128 (of_z w128 c.in-Some.more) ≡ c.in-Some.more = search rules in
    let step = rw c.in-Some.is at c.in_ok-more.ensures in
    fits ∙ step ∙ ap (λ z. z +ℤ weight_in p c.args.node w) c.loop-weighted.invariant ∙ sym (rw (← c.weighted-item.is) at more)
