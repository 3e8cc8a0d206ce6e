-- Numbers that digits spell.
use Rattle.std.proofs.Common.{◌≡◌, ℕ, zero, suc, ◌+◌, ◌*◌, ◌-◌, ◌<◌, ◌≤◌, min, Bool, true, false, List, length, take, get_or, arith, refl, sym, ap, ◌∙◌}
use Rattle.std.specs.Prelude.{nat_lt}
use Rattle.std.specs.Char.{digit_value}
use Rattle.std.specs.List.{list_all}
use Rattle.std.specs.Str.Parse.{digits_value}
use Rattle.std.proofs.lemmas.Int.Digits.{digits_value_more}
use Rattle.std.proofs.lemmas.List.{take_all}
use Rattle.std.proofs.lemmas.List.Folds.{list_all_more, list_all_at}
use Rattle.std.proofs.lemmas.Str.{digit_value_digit}
use Rattle.std.proofs.lemmas.Str.Parse.{digit_from_value}
use Rattle.ps_clause.proofs.Tidy.{by_bool}
use Rattle.ps_wcnf.specs.Spelling.{is_count}
use Rattle.ps_wcnf.specs.Counted.{most_count}

abbrev pub is_digit : ℕ → Bool
is_digit b = nat_lt (digit_value b) 10

-- the number that the digits before a place spell
pub record IsCounted (word : List ℕ) (i value : ℕ) : Type 0 where
  pub digits : list_all is_digit (take i word) ≡ true
  pub is : value ≡ min most_count (digits_value 10 (take i word))

pub counted-none : (word : List ℕ) → IsCounted word 0 0
counted-none word = record { digits = refl; is = refl }

pub counted-more : (word : List ℕ) (i value next : ℕ) → i < length word → IsCounted word i value → digit_value (get_or word i 0) < 10
    → next ≡ min most_count (10 * value + (get_or word i 0 - 48)) → IsCounted word (i + 1) next
counted-more word i value next lt so d e =
    let k = digit_value_digit (get_or word i 0) (digit_from_value (get_or word i 0) d) in
    let more = digits_value_more 10 word i lt in
    let so_far = so.is in
    record {
      digits = list_all_more is_digit word i 0 lt ∙ rw so.digits (grind (arith, d));
      is = omega (arith, k, more, so_far, e);
    }

no_count : (word : List ℕ) → list_all is_digit word ≡ false → is_count word ≡ false
no_count word e = rw e refl

pub not-counted : (word : List ℕ) (i : ℕ) → i < length word → 10 ≤ digit_value (get_or word i 0) → is_count word ≡ false
not-counted word i lt d = no_count word (list_all_at is_digit word i 0 lt (grind (arith, d)))

pub counted-zero : (word : List ℕ) (i value : ℕ) → length word ≤ i → IsCounted word i value → value ≡ 0 → is_count word ≡ false
counted-zero word i value most so none =
    let same = take_all i word most in
    let z : digits_value 10 word ≡ 0 = let e = so.is in let f = ap (digits_value 10) same in omega (arith, e, f, none) in
    by_bool (list_all is_digit word) (λ t. rw (t, z) refl) (λ f. rw f refl)

pub counted-all : (word : List ℕ) (i value : ℕ) → length word ≤ i → IsCounted word i value → (value ≡ 0 → ⊥) → (is_count word ≡ true) × (value ≡ min most_count (digits_value 10 word))
counted-all word i value most so some =
    let same = take_all i word most in
    let e : value ≡ min most_count (digits_value 10 word) = so.is ∙ ap (λ w. min most_count (digits_value 10 w)) same in
    let all : list_all is_digit word ≡ true = sym (ap (list_all is_digit) same) ∙ so.digits in
    let positive : 0 < digits_value 10 word = by_zero (digits_value 10 word) (λ z. some (omega (arith, e, z))) in
    (rw all (grind (arith, positive)), e)
  where
    by_zero : (n : ℕ) → (n ≡ 0 → ⊥) → 0 < n
    by_zero zero h = absurd (h refl)
    by_zero (suc n) h = omega arith
