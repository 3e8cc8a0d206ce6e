use Rattle.std.proofs.Common.{◌<◌, ◌^◌, ◌*◌, ◌/◌, FitsSigned, arith, subst, ap, rules, ◌∙◌}
use Rattle.std.specs.Int.{w128}
use Rattle.std.proofs.lemmas.Int.{to_z-of_z}
use Rattle.ps_meaning.proofs.NamedNumbers.{sum_lowest_terms, is_sum}
use Rattle.ps_frac.proofs.Reduced.{sum_over_at, sum_under_at, lowest_at}
use Rattle.ps_frac.proofs.fraction.Fraction.sum_from.Goals as goal

pub of_lowest-requires-clause-lowest : goal.of_lowest-requires-clause-lowest
of_lowest-requires-clause-lowest c =
    let f : FitsSigned w128 c.args.top = search rules in
    let k : FitsSigned w128 c.signed_quotient.result = search rules in
    let one = c.size_quotient.ensures.value ∙ ap (λ n. n / c.args.g) c.under.ensures.value in
    let two = c.size_quotient-2.ensures.value ∙ ap (λ n. n / c.gcd-h.result) c.under-2.ensures.value in
    let d = c.in-Some.ensures.value.1 ∙ (λ i. one i * two i) in
    lowest_at _ _ _ _ (sum_lowest_terms c.args.self.now c.args.other.now)
    (sum_over_at c.args.self.now c.args.other.now _ _ _ _ _ _ _ c.requires.g_is c.requires.top_is (to_z-of_z w128 _ f) c.unsigned_abs.ensures.value c.gcd-h.ensures.value c.signed_quotient.ensures.value (to_z-of_z w128 _ k))
    (d ∙ sum_under_at c.args.self.now c.args.other.now _ _ _ _ _ c.requires.g_is c.requires.top_is (to_z-of_z w128 _ f) c.unsigned_abs.ensures.value c.gcd-h.ensures.value)

pub returns-in-Some : goal.returns-in-Some
returns-in-Some c =
    let f : FitsSigned w128 c.args.top = search rules in
    let k : FitsSigned w128 c.signed_quotient.result = search rules in
    let one = c.size_quotient.ensures.value ∙ ap (λ n. n / c.args.g) c.under.ensures.value in
    let two = c.size_quotient-2.ensures.value ∙ ap (λ n. n / c.gcd-h.result) c.under-2.ensures.value in
    let d = c.in-Some.ensures.value.1 ∙ (λ i. one i * two i) in
    let u = d ∙ sum_under_at c.args.self.now c.args.other.now _ _ _ _ _ c.requires.g_is c.requires.top_is (to_z-of_z w128 _ f) c.unsigned_abs.ensures.value c.gcd-h.ensures.value in
    let o = sum_over_at c.args.self.now c.args.other.now _ _ _ _ _ _ _ c.requires.g_is c.requires.top_is (to_z-of_z w128 _ f) c.unsigned_abs.ensures.value c.gcd-h.ensures.value c.signed_quotient.ensures.value (to_z-of_z w128 _ k) in
    let small : c.in-Some.denominator < 2 ^ 127 = omega (arith, c.in-Some.ensures.value) in
    record { value = (subst (λ n. n < 2 ^ 127) u small, is_sum c.args.self.now c.args.other.now c.of_lowest.result (c.of_lowest.ensures.over ∙ o) (c.of_lowest.ensures.under ∙ u)) }
