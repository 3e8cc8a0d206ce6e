-- Words that spell numbers: their bytes, their values, and what is written of a number.
use Rattle.std.proofs.Common.{◌≡◌, ℕ, zero, suc, ◌+◌, ◌*◌, ◌-◌, ◌<◌, ◌≤◌, ◌^◌, ◌%◌, ◌/◌, ◌==◌, ℤ, pos, negsuc, neg_ℤ, Bool, true, false, List, [], ◌∷◌, ◌++◌, length, map, min, Option, None, Some, nat_lt, refl, sym, ap, subst, ◌∙◌, append_assoc, append-nil, arith, get_or, length-append, take, All, unsigned_abs}
use Rattle.std.specs.Prelude.{slice_index}
use Rattle.std.proofs.lemmas.List.{get_or_append_left, length-take}
use Rattle.std.specs.Fmt.{decimal, signed_decimal}
use Rattle.std.specs.Char.{digit_value}
use Rattle.std.specs.Str.Parse.{AllDigits, digits_value, digits_value_after}
use Rattle.std.proofs.lemmas.Fmt.{decimal_is_IsNumeral_wide, decimal_step_wide, decimal_by_steps_wide, decimal_digit}
use Rattle.std.proofs.lemmas.Str.Parse.{digit_from_value}
use Rattle.std.proofs.lemmas.Str.{digit_value_digit}
use Rattle.std.proofs.lemmas.Int.Digits.{digits_value_more, digits_value-lt}
use Rattle.std.proofs.Math.Nat.{pow-le-pow_right}
use Rattle.std.proofs.lemmas.List.Elements.{All-cons, All-nil}
use Rattle.std.proofs.lemmas.Bool.{eqb-true}
use Rattle.ps_log.specs.Told.{number_of}
use Rattle.ps_log.specs.Spellings.{IsPlain, IsDecimal, Spells, SpellAll}
use Rattle.ps_log.specs.Numbers.{capped_size, IsCount, IsNegative, IsNumber}

-- digits after a number, of a value that isn't too long
le_value_after : (n : ℕ) (ds : List ℕ) → n ≤ digits_value_after 10 n ds
le_value_after n [] = omega arith
le_value_after n (c ∷ cs) = omega (arith, le_value_after (n * 10 + digit_value c) cs)

decimal_value_after : (n : ℕ) (ds : List ℕ) → 0 < n → AllDigits 10 ds → digits_value_after 10 n ds < 10 ^ 64 → decimal (digits_value_after 10 n ds) ≡ decimal n ++ ds
decimal_value_after n [] some d small = sym (append-nil (decimal n))
decimal_value_after n (c ∷ cs) some d small =
    let m : ℕ = n * 10 + digit_value c in
    let k = digit_value_digit c (digit_from_value c d.0) in
    let front : m / 10 ≡ n = omega (arith, d.0) in
    let end : 48 + m % 10 ≡ c = omega (arith, d.0) in
    decimal_value_after m cs (omega arith) d.1 small
    ∙ ap (λ x. x ++ cs) (decimal_step_wide m (omega arith) (omega (arith, le_value_after m cs)) ∙ (λ i. decimal (front i) ++ (end i ∷ [])))
    ∙ append_assoc (decimal n) (c ∷ []) cs

decimal_value : (ds : List ℕ) → IsPlain ds → digits_value 10 ds < 10 ^ 64 → decimal (digits_value 10 ds) ≡ ds
decimal_value [] p small = absurd (omega (arith, p.digits.0))
decimal_value (c ∷ []) p small =
    let d = p.digits.1 in
    let k = digit_value_digit c (digit_from_value c d.0) in
    decimal_digit (0 * 10 + digit_value c) (omega (arith, d.0)) ∙ ap (λ x. x ∷ []) (omega arith)
decimal_value (c ∷ e ∷ cs) p small =
    let d = p.digits.1 in
    let k = digit_value_digit c (digit_from_value c d.0) in
    let no : c ≡ 48 → ⊥ = λ z. omega (arith, p.no_leading_zero z) in
    let is : 48 + (0 * 10 + digit_value c) ≡ c = omega arith in
    decimal_value_after (0 * 10 + digit_value c) (e ∷ cs) (omega arith) d.1 small
    ∙ ap (λ x. x ++ (e ∷ cs)) (decimal_digit (0 * 10 + digit_value c) (omega (arith, d.0)) ∙ ap (λ x. x ∷ []) is)

-- a word that spells a number that isn't too long is what is written of it
pub decimal_of : (word : List ℕ) (n : ℕ) → IsDecimal word n → n < 10 ^ 64 → word ≡ decimal n
decimal_of word n d h =
    let small : digits_value 10 word < 10 ^ 64 = rw d.value h in
    sym (decimal_value word d.plain small) ∙ ap decimal d.value

pub written_of : (word : List ℕ) (z : ℤ) → Spells word z → unsigned_abs z < 10 ^ 64 → word ≡ signed_decimal z
written_of word (pos n) s h = decimal_of word n s h
written_of [] (negsuc n) s h = absurd s
written_of (c ∷ cs) (negsuc n) s h = rw s.0 (ap (λ r. 45 ∷ r) (decimal_of cs (suc n) s.1 h))

-- what is written of a number that isn't too long spells it
first_wide : (n : ℕ) → 0 < n → n < 10 ^ 64 → 48 < get_or (decimal n) 0 0
first_wide n some small = (decimal_by_steps_wide (λ m ds. (0 < length ds) × (0 < m → 48 < get_or ds 0 0)) (λ m l. (omega arith, λ a. omega arith))
    (λ m ds l h. (omega (arith, length-append ds ((48 + m % 10) ∷ [])), λ a. omega (arith, get_or_append_left ds ((48 + m % 10) ∷ []) 0 0 h.0, h.1 (omega arith)))) n small).1 some

pub decimal-spells : (n : ℕ) → n < 10 ^ 64 → IsDecimal (decimal n) n
decimal-spells zero h = record {
  plain = record { digits = (decimal_is_IsNumeral_wide 0 h).0; no_leading_zero = λ e. ap length (decimal_digit 0 (omega arith)) };
  value = (decimal_is_IsNumeral_wide 0 h).1;
}
decimal-spells (suc n) h = record {
  plain = record {
    digits = (decimal_is_IsNumeral_wide (suc n) h).0;
    no_leading_zero = λ e. absurd (omega (arith, e, first_wide (suc n) (omega arith) h));
  };
  value = (decimal_is_IsNumeral_wide (suc n) h).1;
}

pub written-spells : (z : ℤ) → unsigned_abs z < 10 ^ 64 → Spells (signed_decimal z) z
written-spells (pos n) h = decimal-spells n h
written-spells (negsuc n) h = (refl, decimal-spells (suc n) h)

-- the value of a spelling
pub minus_first : (c : ℕ) (cs : List ℕ) → digit_value c < 10 → (c == 45) ≡ false
minus_first c cs d = by (c == 45) refl
  where
    by : (t : Bool) → (c == 45) ≡ t → t ≡ false
    by false e = refl
    by true e = absurd (bad (subst (λ n. digit_value n < 10) (eqb-true c 45 e) d))
      where
        bad : digit_value 45 < 10 → ⊥
        bad h = omega (arith, h)

pub value_of_spelling : (word : List ℕ) (z : ℤ) → Spells word z → number_of word ≡ z
value_of_spelling [] (pos n) s = absurd (omega (arith, s.plain.digits.0))
value_of_spelling (c ∷ cs) (pos n) s = rw (minus_first c cs s.plain.digits.1.0) (ap pos s.value)
value_of_spelling [] (negsuc n) s = absurd s
value_of_spelling (c ∷ cs) (negsuc n) s = rw (s.0, s.1.value) refl

-- words spell at most one list of numbers
pub spelled-values : (ws : List (List ℕ)) (zs : List ℤ) → SpellAll ws zs → map number_of ws ≡ zs
spelled-values [] [] s = refl
spelled-values [] (z ∷ zs) s = absurd s
spelled-values (w ∷ ws) [] s = absurd s
spelled-values (w ∷ ws) (z ∷ zs) s = rw (value_of_spelling w z s.0, spelled-values ws zs s.1) refl

pub spelled-unique : (ws : List (List ℕ)) (ys zs : List ℤ) → SpellAll ws ys → SpellAll ws zs → ys ≡ zs
spelled-unique ws ys zs p q = sym (spelled-values ws ys p) ∙ spelled-values ws zs q

-- one more spelling at the end
pub spelled-push : (ws : List (List ℕ)) (zs : List ℤ) (w : List ℕ) (z : ℤ) → SpellAll ws zs → Spells w z → SpellAll (ws ++ w ∷ []) (zs ++ z ∷ [])
spelled-push [] [] w z p q = (q, tt)
spelled-push [] (y ∷ ys) w z p q = absurd p
spelled-push (v ∷ vs) [] w z p q = absurd p
spelled-push (v ∷ vs) (y ∷ ys) w z p q = (p.0, spelled-push vs ys w z p.1 q)

-- a word among spellings spells something
pub spelled-middle : (ws : List (List ℕ)) (w : List ℕ) (more : List (List ℕ)) (zs : List ℤ) → SpellAll (ws ++ w ∷ more) zs → (z : ℤ) × Spells w z
spelled-middle [] w more [] s = absurd s
spelled-middle [] w more (z ∷ zs) s = (z, s.0)
spelled-middle (v ∷ vs) w more [] s = absurd s
spelled-middle (v ∷ vs) w more (z ∷ zs) s = spelled-middle vs w more zs s.1

-- digits as a set and along the list
pub digits_all : (ds : List ℕ) → AllDigits 10 ds → All (λ b. digit_value b < 10) ds
digits_all [] h = All-nil (λ b. digit_value b < 10)
digits_all (c ∷ cs) h = All-cons (λ b. digit_value b < 10) c cs h.0 (digits_all cs h.1)

pub all_digits : (ds : List ℕ) → All (λ b. digit_value b < 10) ds → AllDigits 10 ds
all_digits [] h = tt
all_digits (c ∷ cs) h = (h 0 c (omega arith), all_digits cs (λ k d lt. h (suc k) d (omega (arith, lt))))

-- one more digit of a size
pub capped_more : (digits : List ℕ) (i value r : ℕ) → All (λ b. digit_value b < 10) digits → i < length digits → value ≡ capped_size (digits_value 10 (take i digits))
    → r ≡ capped_size (10 * value + (get_or digits i 0 - 48)) → r ≡ capped_size (digits_value 10 (take (i + 1) digits))
capped_more digits i value r h lt e f =
    omega (arith, e, f, digits_value_more 10 digits i lt, digit_value_digit (get_or digits i 0) (digit_from_value (get_or digits i 0) (h i 0 lt)))

-- some of the digits are digits
first_digits : (ds : List ℕ) (i : ℕ) → AllDigits 10 ds → AllDigits 10 (take i ds)
first_digits ds zero h = tt
first_digits [] (suc i) h = tt
first_digits (c ∷ cs) (suc i) h = (h.0, first_digits cs i h.1)

-- the digits before a place of few digits are a number that one more digit leaves below 10 ^ 18
pub few_digits : (digits : List ℕ) (i : ℕ) → All (λ b. digit_value b < 10) digits → length digits ≤ 18 → i < length digits → digits_value 10 (take i digits) < 10 ^ 17
few_digits digits i h short lt =
    omega (arith, digits_value-lt 10 (take i digits) (first_digits digits i (all_digits digits h)), pow-le-pow_right {n = 10} (omega arith) (few digits i short lt))
  where
    few : (digits : List ℕ) (i : ℕ) → length digits ≤ 18 → i < length digits → length (take i digits) ≤ 17
    few digits i short lt = omega (arith, short, lt, length-take i digits)

-- one more digit of a short number
pub one_more : (digits : List ℕ) (i value : ℕ) → All (λ b. digit_value b < 10) digits → i < length digits → value ≡ digits_value 10 (take i digits)
    → 10 * value + (get_or digits i 0 - 48) ≡ digits_value 10 (take (i + 1) digits)
one_more digits i value h lt e =
    omega (arith, e, digits_value_more 10 digits i lt, digit_value_digit (get_or digits i 0) (digit_from_value (get_or digits i 0) (h i 0 lt)))

-- a number after a minus
pub number-minus : (word rest : List ℕ) (r : Option ℤ) → word ≡ 45 ∷ rest → IsNegative rest r → IsNumber word r
number-minus word rest (Some z) e h = (negsuc h.0, subst (λ w. Spells w (negsuc h.0)) (sym e) (refl, h.1), h.2)
number-minus word rest None e h = λ z s. none z (subst (λ w. Spells w z) e s)
  where
    none : (z : ℤ) → Spells (45 ∷ rest) z → ⊥
    none (pos n) s = omega (arith, s.plain.digits.1.0)
    none (negsuc n) s = h n s.1

-- a number without a minus
pub number-plain : (word : List ℕ) (r : Option ℤ) → ((rest : List ℕ) → word ≡ 45 ∷ rest → ⊥) → IsCount word r → IsNumber word r
number-plain word (Some z) n h = (pos (digits_value 10 word), record { plain = h.0; value = refl }, h.1)
number-plain word None n h = none word n h
  where
    none : (word : List ℕ) → ((rest : List ℕ) → word ≡ 45 ∷ rest → ⊥) → (IsPlain word → ⊥) → (z : ℤ) → Spells word z → ⊥
    none word n h (pos m) s = h s.plain
    none [] n h (negsuc m) s = s
    none (c ∷ cs) n h (negsuc m) s = n cs (ap (λ x. x ∷ cs) s.0)

pub negative-of : (digits : List ℕ) (size : ℕ) (z : ℤ) → IsPlain digits → size ≡ capped_size (digits_value 10 digits) → 0 < size → z ≡ neg_ℤ (pos size) → IsNegative digits (Some z)
negative-of digits zero z p e h f = absurd (omega (arith, h))
negative-of digits (suc m) z p e h f =
    let n = digits_value 10 digits - 1 in
    let same : m ≡ min (2 ^ 126) n = omega (arith, e) in
    (n, record { plain = p; value = omega (arith, e) }, f ∙ ap negsuc same)

-- the tests of a plain word
pub plain-made : (word : List ℕ) → 0 < length word → ((slice_index word 0 ≡ 48) × (1 < length word) → ⊥) → All (λ b. digit_value b < 10) word → IsPlain word
plain-made word n z h = record { digits = (n, all_digits word h); no_leading_zero = λ e. alone e }
  where
    alone : slice_index word 0 ≡ 48 → length word ≡ 1
    alone e = by (nat_lt 1 (length word)) refl
      where
        by : (t : Bool) → nat_lt 1 (length word) ≡ t → length word ≡ 1
        by true f = absurd (z (e, grind (arith, f)))
        by false f = grind (arith, f, n)

pub plain-all : (word : List ℕ) → IsPlain word → All (λ b. digit_value b < 10) word
plain-all word p = digits_all word p.digits.1
