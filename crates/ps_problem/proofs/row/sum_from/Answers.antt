use Rattle.std.proofs.Common.{ℕ, ℤ, pos, ◌+◌, ◌+ℤ◌, get_or, ap, subst, ◌∙◌, to_z, w64}
use Rattle.ps_problem.specs.declared.limits.TheConstants.{MOST_SIZES}
use Rattle.ps_problem.specs.Rows.{term_over, terms_over}
use Rattle.ps_problem.proofs.RowSums.{IsSumTo, sum-next, sum-small, term-small, number-small, small-back, machine-sum}
use Rattle.ps_problem.proofs.row.sum_from.Goals as goal

pub loop-term-preserved : goal.loop-term-preserved
loop-term-preserved c =
    let truth = c.args.truth.now in
    let ts = c.args.terms.now in
    let i = c.loop-term.term-index in
    let t : ℕ × ℤ = (0, pos 0) in
    let k = c.loop-term-test.true in
    let r = c.loop-term.invariant in
    let number = small-back (get_or ts i t).1 (number-small truth ts i _ MOST_SIZES _ t k r) in
    let part = c.part-sum.ensures ∙ ap (λ n. term_over truth ((get_or ts i t).0, n)) number in
    subst (IsSumTo truth ts (i + 1) _ MOST_SIZES)
    (machine-sum (to_z w64 c.loop-term.sum-bits) c.part-sum.result (term_over truth (get_or ts i t)) part (term-small truth ts i _ MOST_SIZES _ t k r) (sum-small truth ts i _ MOST_SIZES _ t k r))
    (sum-next truth ts i _ MOST_SIZES _ t k r)
