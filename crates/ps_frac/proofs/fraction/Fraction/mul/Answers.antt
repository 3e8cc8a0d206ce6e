use Rattle.std.proofs.Common.{FitsSigned, rules, ◌∙◌}
use Rattle.std.specs.Int.{w128}
use Rattle.std.proofs.lemmas.Int.{to_z-of_z}
use Rattle.ps_meaning.proofs.NamedNumbers.{product_lowest, is_product}
use Rattle.ps_frac.proofs.Reduced.{lowest_at}
use Rattle.ps_frac.proofs.fraction.Fraction.mul.Goals as goal

pub of_lowest-requires-clause-lowest : goal.of_lowest-requires-clause-lowest
of_lowest-requires-clause-lowest c =
    let f : FitsSigned w128 c.in-Some-Some.numerator = search rules in
    lowest_at _ _ _ _ (product_lowest c.args.self.now c.args.other.now) (to_z-of_z w128 _ f ∙ c.in-Some-Some.ensures.value.1) c.in-Some-Some.ensures'.value.1

pub returns-in-Some-Some-clause-value : goal.returns-in-Some-Some-clause-value
returns-in-Some-Some-clause-value c =
    let f : FitsSigned w128 c.in-Some-Some.numerator = search rules in
    is_product c.args.self.now c.args.other.now c.of_lowest.result (c.of_lowest.ensures.over ∙ to_z-of_z w128 _ f ∙ c.in-Some-Some.ensures.value.1) (c.of_lowest.ensures.under ∙ c.in-Some-Some.ensures'.value.1)
