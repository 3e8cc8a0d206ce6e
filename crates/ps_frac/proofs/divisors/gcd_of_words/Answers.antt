use Rattle.std.proofs.Common.{◌≡◌, ◌*◌, ◌%◌, ◌^◌, ◌≤◌, arith, subst, sym}
use Rattle.std.specs.Int.{IsGcd, w64, trailing_zeros}
use Rattle.std.proofs.Math.Nat.{mod-eq_of_lt}
use Rattle.std.proofs.lemmas.Nat.Gcd.{le_of_dvd}
use Rattle.ps_frac.proofs.Halving.{twos_left, twos_right}
use Rattle.ps_frac.proofs.divisors.gcd_of_words.Goals as goal
use Rattle.ps_frac.proofs.divisors.gcd_of_words.Goals.{then-left-right, else-left-right}

pub returns : goal.returns
returns c =
    let a = c.args.a in
    let b = c.args.b in
    let i = trailing_zeros w64 a in
    let j = trailing_zeros w64 b in
    let p : IsGcd a b (c.gcd_of_odds.result * 2 ^ c.if-left-right.twos) = elim c.if-left-right.branch [
      | then-left-right w ↦
          let e : c.if-left-right.twos ≡ i = omega arith in
          let l : i ≤ j = omega arith in
          subst (λ n. IsGcd a b (c.gcd_of_odds.result * 2 ^ n)) (sym e) (twos_left a b _ _ i j _ c.odd_part.ensures.odd l c.odd_part.ensures.exact c.odd_part-2.ensures.exact c.gcd_of_odds.ensures.value)
      | else-left-right w ↦
          let e : c.if-left-right.twos ≡ j = omega arith in
          let l : j ≤ i = omega arith in
          subst (λ n. IsGcd a b (c.gcd_of_odds.result * 2 ^ n)) (sym e) (twos_right a b _ _ i j _ c.odd_part-2.ensures.odd l c.odd_part.ensures.exact c.odd_part-2.ensures.exact c.gcd_of_odds.ensures.value)
    ] in
    let small : c.gcd_of_odds.result * 2 ^ c.if-left-right.twos ≤ a = le_of_dvd (omega arith) p.0 in
    let e : c.gcd_of_odds.result * 2 ^ c.if-left-right.twos % 2 ^ 64 ≡ c.gcd_of_odds.result * 2 ^ c.if-left-right.twos = mod-eq_of_lt (omega (arith, small)) in
    record { value = subst (λ n. IsGcd a b n) (sym e) p }
