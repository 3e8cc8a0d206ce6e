-- Whether a fraction has decimals, as a truth value and as a fact.
use Rattle.std.proofs.Common.{◌≡◌, ℕ, ◌≤◌, ℤ, pos, negsuc, ◌≤ℤ◌, ◌↔◌, unsigned_abs, Bool, true, false, ◌&&◌, nat_le, IsTrue, ◌∙◌, refl, sym, arith}
use Rattle.std.proofs.lemmas.Int.{ints}
use Rattle.std.proofs.lemmas.Bool.Decides.{nat_tests}
use Rattle.ps_meaning.specs.Rational.{Rational}
use Rattle.ps_meaning.specs.declared.limits.TheConstants.{PRINTED_LIMIT}
use Rattle.ps_frac.specs.Decimals.{HasDecimals, has_decimals, is_nonneg}

is-true : (z : ℤ) (d l : ℕ) → pos 0 ≤ℤ z → unsigned_abs z ≤ d → d ≤ l → (is_nonneg z && (nat_le (unsigned_abs z) d && nat_le d l)) ≡ true
is-true (pos n) d l h k m = grind (arith, nat_tests)
is-true (negsuc n) d l h k m = absurd (omega (arith, ints))

record InRange (z : ℤ) (d l : ℕ) : Type 0 where
  nonneg : pos 0 ≤ℤ z
  most : unsigned_abs z ≤ d
  small : d ≤ l

in-range : (z : ℤ) (d l : ℕ) → (is_nonneg z && (nat_le (unsigned_abs z) d && nat_le d l)) ≡ true → InRange z d l
in-range (pos n) d l h = record { nonneg = omega (arith, ints); most = grind (arith, nat_tests); small = grind (arith, nat_tests) }
in-range (negsuc n) d l h = absurd (grind arith)

-- a truth value that tells whether a fraction has decimals
pub decides : (b : Bool) (x : Rational) → (IsTrue b ↔ HasDecimals x) → b ≡ has_decimals x
unfolding has_decimals
decides true x h = let k = h.0 refl in sym (is-true x.over x.under PRINTED_LIMIT k.nonneg k.most k.printed)
decides false x h = by (has_decimals x) refl
  where
    by : (b : Bool) → has_decimals x ≡ b → false ≡ has_decimals x
    by false e = sym e
    by true e = let k = in-range x.over x.under PRINTED_LIMIT e in h.1 (record { nonneg = k.nonneg; most = k.most; printed = k.small }) ∙ sym e
