use Rattle.std.proofs.Common.{◌≡◌, ◌%◌, ◌-◌, ◌<◌, arith, subst, sym, ◌∙◌}
use Rattle.std.specs.Int.{IsGcd}
use Rattle.std.proofs.lemmas.Nat.Gcd.{dvd_refl}
use Rattle.ps_frac.proofs.Halving.{step_less, step_more}
use Rattle.ps_frac.proofs.divisors.gcd_of_odds.Goals as goal
use Rattle.ps_frac.proofs.divisors.gcd_of_odds.Goals.{then-x-y, else-x-y}

pub loop-x-preserved : goal.loop-x-preserved
loop-x-preserved c = record {
  left = c.odd_part-x.ensures.odd;
  right = elim c.if-x-y.branch [
    | then-x-y w ↦ let e : c.if-x-y.low ≡ c.loop-x.x = omega arith in subst (λ n. n % 2 ≡ 1) (sym e) c.loop-x.invariant.left
    | else-x-y w ↦ let e : c.if-x-y.low ≡ c.loop-x.y = omega arith in subst (λ n. n % 2 ≡ 1) (sym e) c.loop-x.invariant.right
  ];
  same = λ g h. c.loop-x.invariant.same g (elim c.if-x-y.branch [
    | then-x-y w ↦
        let e : c.if-x-y.low ≡ c.loop-x.x = omega arith in
        let l : c.loop-x.x < c.loop-x.y = omega arith in
        let d : c.abs_diff.result ≡ c.loop-x.y - c.loop-x.x = omega (arith, c.abs_diff.ensures) in
        step_less c.loop-x.x c.loop-x.y c.odd_part-x.result _ g c.loop-x.invariant.left l (c.odd_part-x.ensures.exact ∙ d) (subst (λ n. IsGcd c.odd_part-x.result n g) e h)
    | else-x-y w ↦
        let e : c.if-x-y.low ≡ c.loop-x.y = omega arith in
        let l : c.loop-x.y < c.loop-x.x = omega arith in
        let d : c.abs_diff.result ≡ c.loop-x.x - c.loop-x.y = omega (arith, c.abs_diff.ensures) in
        step_more c.loop-x.x c.loop-x.y c.odd_part-x.result _ g c.loop-x.invariant.right l (c.odd_part-x.ensures.exact ∙ d) (subst (λ n. IsGcd c.odd_part-x.result n g) e h)
  ]);
}

pub returns : goal.returns
returns c =
    let e : c.loop-x.x ≡ c.loop-x.y = omega arith in
    record { value = c.loop-x.invariant.same c.loop-x.x (subst (λ n. IsGcd c.loop-x.x n c.loop-x.x) e (dvd_refl c.loop-x.x, dvd_refl c.loop-x.x, λ d p q. p)) }
