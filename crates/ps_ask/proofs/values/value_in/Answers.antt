use Rattle.std.proofs.Common.{◌≡◌, rules, to_z, of_z}
use mir.Syntax.{w128}
use Rattle.ps_meaning.specs.Distribution.{weight}
use Rattle.ps_problem.specs.Problems.{given_at, tree_at}
use Rattle.ps_claims.specs.Certificates.{entries}
use Rattle.ps_ask.proofs.ValueLaws.{value_reached}
use Rattle.ps_ask.proofs.values.value_in.Goals as goal

pub returns : goal.returns
returns c =
    let p = c.args.problem.now in
    let q = c.args.query in
    let m = c.args.model.now in
    let both : c.in-Some-2.both ≡ weight (entries m.worlds) (tree_at p.nodes q.both) = rw (← c.as_slice.ensures) (rw c.in-Some-2.is at c.in_ok-both.ensures) in
    let evidence : c.in-Some.evidence ≡ weight (entries m.worlds) (given_at p.nodes q.given) = rw c.in-Some.is at c.in_ok-evidence.ensures in
    let over : to_z w128 (of_z w128 c.in-Some-2.both) ≡ c.in-Some-2.both = search rules in
    let under : to_z w128 (of_z w128 c.in-Some.evidence) ≡ c.in-Some.evidence = search rules in
    value_reached p q m c.quotient.result c.in-Some-2.both c.in-Some.evidence c.requires.query c.requires.model both evidence
    (rw under at c.quotient.ensures.positive) (rw (over, under) at c.quotient.ensures.equal) c.quotient.ensures.decimals
