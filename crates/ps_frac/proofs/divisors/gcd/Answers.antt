use Rattle.std.proofs.Common.{◌≡◌, arith, subst, sym}
use Rattle.std.specs.Int.{IsGcd}
use Rattle.std.proofs.Math.Nat.{dvd_refl, one-dvd}
use Rattle.ps_meaning.specs.Coprime.{is_gcd, gcd_pos_right, gcd_le_right}
use Rattle.ps_frac.proofs.divisors.gcd.Goals as goal

pub returns-then-a-b-clause-value : goal.returns-then-a-b-clause-value
returns-then-a-b-clause-value c =
    let e : c.args.a ≡ c.args.b = omega arith in
    is_gcd c.args.a c.args.b c.args.a (subst (λ n. IsGcd c.args.a n c.args.a) e (dvd_refl c.args.a, dvd_refl c.args.a, λ d p q. p))

pub returns-then-b-eq1-clause-value : goal.returns-then-b-eq1-clause-value
returns-then-b-eq1-clause-value c =
    let e : c.args.b ≡ 1 = omega arith in
    is_gcd c.args.a c.args.b 1 (subst (λ n. IsGcd c.args.a n 1) (sym e) (one-dvd c.args.a, dvd_refl 1, λ d p q. q))

pub returns-then-b-lt-WORD-clause-value : goal.returns-then-b-lt-WORD-clause-value
returns-then-b-lt-WORD-clause-value c = is_gcd c.args.a c.args.b _ c.gcd_of_words.ensures.value

pub returns-then-b-lt-WORD-clause-positive : goal.returns-then-b-lt-WORD-clause-positive
returns-then-b-lt-WORD-clause-positive c = λ h. omega (arith, is_gcd c.args.a c.args.b _ c.gcd_of_words.ensures.value, gcd_pos_right c.args.a c.args.b h)

pub returns-then-b-lt-WORD-clause-at_most : goal.returns-then-b-lt-WORD-clause-at_most
returns-then-b-lt-WORD-clause-at_most c = λ h. omega (arith, is_gcd c.args.a c.args.b _ c.gcd_of_words.ensures.value, gcd_le_right c.args.a c.args.b h)

pub returns-clause-positive : goal.returns-clause-positive
returns-clause-positive c = λ h. omega (arith, c.gcd_by_remainders.ensures.value, gcd_pos_right c.args.a c.args.b h)

pub returns-clause-at_most : goal.returns-clause-at_most
returns-clause-at_most c = λ h. omega (arith, c.gcd_by_remainders.ensures.value, gcd_le_right c.args.a c.args.b h)
