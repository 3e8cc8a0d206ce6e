-- Digits, one after the other.
use Rattle.std.proofs.Common.{◌≡◌, ℕ, ◌+◌, ◌-◌, ◌*◌, ◌/◌, ◌%◌, ◌^◌, ◌<◌, suc, List, [], ◌∷◌, ◌++◌, add-one, append_assoc, sym, ap, ◌∙◌, arith}
use Rattle.std.proofs.lemmas.List.{append-nil}
use Rattle.std.proofs.Math.Nat.{pow-suc, mul-div_left, div-div-eq-div-mul}
use Rattle.ps_frac.specs.Decimals.{last_digits}
use Rattle.ps_frac.specs.Powers.{ten_to_is_positive}

-- the place of the digit behind this one
next_place : (p c i : ℕ) → p ≡ 10 ^ (c - i) → i < c → p ≡ 10 ^ (c - (i + 1)) * 10
next_place p c i h l =
    let e : c - i ≡ suc (c - (i + 1)) = omega arith in
    h ∙ ap (λ k. 10 ^ k) e ∙ pow-suc 10 (c - (i + 1))

pub place_behind : (p c i : ℕ) → p ≡ 10 ^ (c - i) → i < c → p / 10 ≡ 10 ^ (c - (i + 1))
place_behind p c i h l = ap (λ k. k / 10) (next_place p c i h l) ∙ mul-div_left (10 ^ (c - (i + 1))) (omega arith)

pub some_place : (p c i : ℕ) → p ≡ 10 ^ (c - i) → i < c → 0 < p / 10
some_place p c i h l = let e = place_behind p c i h l in let f = ten_to_is_positive (c - (i + 1)) in omega (arith, e, f)

pub tenfold : (p c i : ℕ) → p ≡ 10 ^ (c - i) → i < c → p / 10 * 10 ≡ p
tenfold p c i h l = ap (λ k. k * 10) (place_behind p c i h l) ∙ sym (next_place p c i h l)

pub no_digits : (xs : List ℕ) (n : ℕ) → xs ≡ xs ++ last_digits 0 n
unfolding last_digits
no_digits xs n = sym (append-nil xs)

pub more_digits : (xs ys zs : List ℕ) (n p q i : ℕ) → ys ≡ xs ++ last_digits i (n / p) → q * 10 ≡ p → zs ≡ ys ++ (48 + (n / q) % 10) ∷ [] → zs ≡ xs ++ last_digits (i + 1) (n / q)
unfolding last_digits
more_digits xs ys zs n p q i h e g =
    let d : n / p ≡ n / q / 10 = ap (λ k. n / k) (sym e) ∙ sym (div-div-eq-div-mul n q 10) in
    g
    ∙ ap (λ k. k ++ (48 + (n / q) % 10) ∷ []) h
    ∙ append_assoc xs (last_digits i (n / p)) ((48 + (n / q) % 10) ∷ [])
    ∙ ap (λ m. xs ++ (last_digits i m ++ (48 + (n / q) % 10) ∷ [])) d
    ∙ ap (λ k. xs ++ last_digits k (n / q)) (sym (add-one i))
