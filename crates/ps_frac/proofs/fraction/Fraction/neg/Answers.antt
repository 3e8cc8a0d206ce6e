use Rattle.std.proofs.Common.{◌≡◌, neg_ℤ, arith, ◌∙◌}
use Rattle.std.proofs.lemmas.Int.{ints}
use Rattle.ps_frac.proofs.Reduced.{is_neg, lowest_by_abs}
use Rattle.ps_frac.proofs.fraction.Fraction.neg.Goals as goal

pub of_lowest-requires-clause-lowest : goal.of_lowest-requires-clause-lowest
of_lowest-requires-clause-lowest c = rw c.under.ensures.value (lowest_by_abs c.args.self.now.over _ _ c.args.self.now.lowest (omega (arith, ints)))

pub returns : goal.returns
returns c =
    let e : c.of_lowest.result.over ≡ neg_ℤ c.args.self.now.over = omega (arith, ints) in
    record { value = is_neg c.args.self.now c.of_lowest.result e (c.of_lowest.ensures.under ∙ c.under.ensures.value) }
