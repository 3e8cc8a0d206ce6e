-- The version and arities by what counts of their digits.
use Rattle.std.proofs.Common.{◌≡◌, ℕ, zero, suc, ◌+◌, ◌-◌, ◌==◌, Bool, true, false, ◌&&◌, [], ◌∷◌, Some, None, refl, ap, ◌∙◌, arith}
use Rattle.std.proofs.lemmas.Bool.Decides.{nat_tests}
use Rattle.std.specs.Prelude.{nat_eq, nat_le, bytes_eq, codes, if◌then◌else◌}
use Rattle.ps_text.specs.Tokens as text
use Rattle.ps_lex.specs.KeptTokens.{figures, decimal_of}
use Rattle.ps_domains.specs.DomainWords.{is_three, digit_of, arity_of}

one_digit : (v n : ℕ) → bytes_eq ((48 + v) ∷ []) ((48 + n) ∷ []) ≡ (v == n)
one_digit v n = and_true (nat_eq (48 + v) (48 + n)) (v == n) (grind (arith, nat_tests))
  where
    and_true : (b c : Bool) → b ≡ c → b && true ≡ c
    and_true true c e = e
    and_true false c e = e

pub whole_three : (count v : ℕ) → is_three (text.Number (text.Whole (figures count v))) ≡ ((count == 1) && (v == 3))
unfolding figures
whole_three count v = by (count == 1)
  where
    by : (b : Bool) → bytes_eq (if b then (48 + v) ∷ [] else 48 ∷ (48 + v) ∷ []) (codes "3") ≡ (b && (v == 3))
    by true = one_digit v 3
    by false = refl

pub decimal_three : (k v : ℕ) → is_three (text.Number (decimal_of k v)) ≡ false
unfolding decimal_of
decimal_three zero v = refl
decimal_three (suc k) v = refl

at_digit : (v : ℕ) → digit_of ((48 + v) ∷ []) ≡ (if nat_le v 3 then Some v else None)
at_digit v =
    let least : nat_le 48 (48 + v) ≡ true = grind (arith, nat_tests) in
    let most : nat_le (48 + v) 51 ≡ nat_le v 3 = grind (arith, nat_tests) in
    let value : (48 + v) - 48 ≡ v = omega arith in
    ap (λ b. if b && nat_le (48 + v) 51 then Some ((48 + v) - 48) else None) least
    ∙ ap (λ b. if b then Some ((48 + v) - 48) else None) most
    ∙ ap (λ n. if nat_le v 3 then Some n else None) value

pub whole_arity : (count v : ℕ) → arity_of (text.Number (text.Whole (figures count v))) ≡ (if (count == 1) && nat_le v 3 then Some v else None)
unfolding figures
whole_arity count v = by (count == 1)
  where
    by : (b : Bool) → digit_of (if b then (48 + v) ∷ [] else 48 ∷ (48 + v) ∷ []) ≡ (if b && nat_le v 3 then Some v else None)
    by true = at_digit v
    by false = refl

pub decimal_arity : (k v : ℕ) → arity_of (text.Number (decimal_of k v)) ≡ None
unfolding decimal_of
decimal_arity zero v = refl
decimal_arity (suc k) v = refl
