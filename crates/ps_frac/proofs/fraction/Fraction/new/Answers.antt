use Rattle.std.proofs.Common.{◌≡◌, unsigned_abs, FitsSigned, arith, rules}
use Rattle.std.specs.Int.{w128}
use Rattle.std.proofs.lemmas.Int.{ints, to_z-of_z}
use Rattle.ps_frac.proofs.Reduced.{reduced_lowest, is_fraction}
use Rattle.ps_frac.proofs.fraction.Fraction.new.Goals as goal

pub of_lowest-requires-clause-lowest : goal.of_lowest-requires-clause-lowest
of_lowest-requires-clause-lowest c =
    let fn : FitsSigned w128 c.args.n = search rules in
    let fr : FitsSigned w128 c.signed_quotient.result = search rules in
    reduced_lowest _ _ _ _ _ _ _ (omega (arith, ints)) (to_z-of_z w128 _ fn) c.unsigned_abs.ensures.value c.gcd-g.ensures.value c.signed_quotient.ensures.value (to_z-of_z w128 _ fr)

pub returns : goal.returns
returns c =
    let fn : FitsSigned w128 c.args.n = search rules in
    let fr : FitsSigned w128 c.signed_quotient.result = search rules in
    let fd : FitsSigned w128 c.args.d = search rules in
    let d : c.unsigned_abs-bottom.result ≡ unsigned_abs c.args.d = simp to_z-of_z at c.unsigned_abs-bottom.ensures.value in
    record { value = rw (← d) (is_fraction c.of_lowest.result _ _ _ _ _ _ _ (omega (arith, ints)) (to_z-of_z w128 _ fn) c.unsigned_abs.ensures.value c.gcd-g.ensures.value c.signed_quotient.ensures.value (to_z-of_z w128 _ fr) c.of_lowest.ensures.over c.of_lowest.ensures.under) }
