use Rattle.std.proofs.Common.{◌≡◌, ◌<◌, ◌^◌, ◌+ℤ◌, unsigned_abs, arith, subst, sym, ap, ◌∙◌, rules, FitsSigned, to_z, of_z}
use Rattle.std.specs.Int.{w128}
use Rattle.std.proofs.lemmas.Int.{to_z-of_z}
use Rattle.ps_meaning.specs.Rational.{fraction}
use Rattle.ps_whole.specs.Sums.{IsSumOf}
use Rattle.ps_whole.proofs.Added.{same_sum}
use Rattle.ps_whole.proofs.sums.total.Goals as goal

pub returns-then-unsigned_abs-lt-SUM_LIMIT : goal.returns-then-unsigned_abs-lt-SUM_LIMIT
returns-then-unsigned_abs-lt-SUM_LIMIT c =
    let left = c.args.left in
    let right = c.args.right in
    let under = c.args.under in
    let v = c.plus-over.result in
    let fl : FitsSigned w128 left = search rules in
    let fr : FitsSigned w128 right = search rules in
    let fv : FitsSigned w128 v = search rules in
    let value : v ≡ left +ℤ right = simp to_z-of_z at c.plus-over.ensures.value in
    let is : to_z w128 (of_z w128 v) ≡ left +ℤ right = to_z-of_z w128 v fv ∙ value in
    let size : c.unsigned_abs.result ≡ unsigned_abs (left +ℤ right) = c.unsigned_abs.ensures.value ∙ ap unsigned_abs is in
    let small : unsigned_abs (left +ℤ right) < 2 ^ 126 = omega (arith, size, c.if-unsigned_abs-lt-SUM_LIMIT.true) in
    record {
      sum = subst (λ z. IsSumOf (fraction left under) (fraction right under) (record { over = z; under = under })) (sym is)
          (same_sum left right under c.requires.positive c.requires.left c.requires.right c.requires.under small);
    }
