use Rattle.std.proofs.Common.{ℕ, ℤ, pos, ap, ◌∙◌}
use Rattle.ps_problem.specs.Scales.{lowest}
use Rattle.ps_canonical.specs.Terms.{terms_text_of}
use Rattle.ps_canonical.proofs.Laid.{lines-all}
use Rattle.ps_canonical.proofs.TermLines.{number-back, number-small, terms-more-in}
use Rattle.ps_canonical.proofs.terms.write_terms.Goals as goal

pub lowest-coefficient-requires-clause-small : goal.lowest-coefficient-requires-clause-small
lowest-coefficient-requires-clause-small c =
    number-small c.args.problem.now.nodes c.args.linear.now c.requires c.as_slice-term-items.result.now c.as_slice-term-items.ensures c.loop-place.place _ c.loop-place-test.true

pub loop-place-preserved : goal.loop-place-preserved
loop-place-preserved c =
    let m = c.args.linear.now.scale in
    let d : ℕ × ℤ = (0, pos 0) in
    let back = number-back c.args.problem.now.nodes c.args.linear.now c.requires c.as_slice-term-items.result.now c.as_slice-term-items.ensures c.loop-place.place d c.loop-place-test.true in
    terms-more-in c.args.problem.now m c.as_slice-term-items.result.now c.args.linear.now.terms c.as_slice-term-items.ensures c.loop-place.place d c.loop-place-test.true
    c.args.out.now.items c.loop-place.out.items c.write_signed_term.new.out.items _ c.loop-place.invariant (c.lowest-coefficient.ensures.value ∙ ap (lowest m) back) c.in_ok-write_signed_term.ensures

pub returns : goal.returns
returns c =
    lines-all (terms_text_of c.args.problem.now c.args.linear.now.scale) c.as_slice-term-items.result.now c.args.linear.now.terms c.as_slice-term-items.ensures
    c.loop-place.place c.loop-place-test.false c.args.out.now.items c.loop-place.out.items c.loop-place.invariant
