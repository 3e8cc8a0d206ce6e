use Rattle.std.proofs.Common.{ℤ, List, length, arith, ap, ◌∙◌}
use Rattle.std.proofs.lemmas.Int.{ints}
use Rattle.ps_pb.specs.Weights.{turned, sum_below, terms_below, weighted}
use Rattle.ps_pb.proofs.Linear.{met-weight, weight-met}
use Rattle.ps_pb.specs.Coefficients.{number_at}
use Rattle.ps_pb.proofs.Filling.{small_of, first_fits, degree_fits, degree_value, normal_of, constraint_is}
use Rattle.ps_pb.proofs.weights.from_weights.Goals as goal

abbrev turns_of : List ℤ → ℤ
turns_of sums = sum_below (length sums) (λ p. turned (number_at sums p))

abbrev terms_of_sums : List ℤ → List (ℤ × ℤ)
terms_of_sums sums = weighted (terms_below (length sums) (number_at sums))

pub terms_of_coefficients-requires-clause-small : goal.terms_of_coefficients-requires-clause-small
terms_of_coefficients-requires-clause-small c =
    rw c.deref.ensures.value (small_of c.args.weights.now c.in_ok-sums.sums.items (omega (arith, c.requires)) c.in_ok-sums.ensures.sums)

pub turned_sum-requires : goal.turned_sum-requires
turned_sum-requires c =
    rw c.deref-2.ensures.value (small_of c.args.weights.now c.in_ok-sums.sums.items (omega (arith, c.requires)) c.in_ok-sums.ensures.sums)

pub overflow_sub-degree : goal.overflow_sub-degree
overflow_sub-degree c =
    let fits = first_fits c.args.weights.now c.args.least c.requires in
    omega (arith, ints, fits.0, fits.1, c.requires, c.constant.ensures)

pub overflow_add-degree : goal.overflow_add-degree
overflow_add-degree c =
    let e = c.turned_sum.ensures ∙ ap turns_of c.deref-2.ensures.value in
    let fits = degree_fits c.args.weights.now c.args.least c.in_ok-sums.sums.items c.turned_sum.result c.requires c.in_ok-sums.ensures.sums e in
    omega (arith, ints, fits.constant, fits.first, fits.turns_low, fits.turns_high, fits.whole, c.requires, c.constant.ensures)

pub of_normal-requires : goal.of_normal-requires
of_normal-requires c =
    let d = degree_value c.args.weights.now c.args.least c.in_ok-sums.sums.items c.constant.result c.turned_sum.result c.requires c.in_ok-sums.ensures.sums c.constant.ensures (c.turned_sum.ensures ∙ ap turns_of c.deref-2.ensures.value) in
    normal_of c.args.weights.now c.args.least c.in_ok-sums.sums.items c.in_ok-terms.terms _ c.requires c.in_ok-sums.ensures.sums (c.in_ok-terms.ensures ∙ ap terms_of_sums c.deref.ensures.value) d

pub returns-clause-value : goal.returns-clause-value
returns-clause-value c =
    let d = degree_value c.args.weights.now c.args.least c.in_ok-sums.sums.items c.constant.result c.turned_sum.result c.requires c.in_ok-sums.ensures.sums c.constant.ensures (c.turned_sum.ensures ∙ ap turns_of c.deref-2.ensures.value) in
    c.of_normal.ensures ∙ constraint_is c.args.weights.now c.args.least c.in_ok-sums.sums.items c.in_ok-terms.terms _ c.in_ok-sums.ensures.sums (c.in_ok-terms.ensures ∙ ap terms_of_sums c.deref.ensures.value) d

pub returns-clause-met : goal.returns-clause-met
returns-clause-met c =
    let e = returns-clause-value c in
    λ w. (λ m. met-weight w c.args.weights.now c.args.least (rw e at m), λ h. rw e (weight-met w c.args.weights.now c.args.least h))
