-- Numbers that are cut off past every limit.
use Rattle.std.specs.Prelude.{⊤}
use Rattle.std.proofs.Common.{◌≡◌, ℕ, zero, suc, ◌+◌, ◌-◌, ◌*◌, ◌<◌, ◌≤◌, ℤ, pos, negsuc, List, [], ◌∷◌, All, length, take, get_or, Result, Ok, Err, refl, sym, ap, subst, ◌∙◌, arith, unsigned_abs, ◌≤ℤ◌}
use Rattle.std.specs.Char.{digit_value}
use Rattle.std.specs.Str.Parse.{digits_value}
use Rattle.std.proofs.lemmas.Str.Parse.{digit_from_value}
use Rattle.std.proofs.lemmas.Str.{digit_value_digit}
use Rattle.std.proofs.lemmas.Int.Digits.{digits_value_more}
use Rattle.std.proofs.lemmas.Int.{ints}
use Rattle.ps_log.specs.Spellings.{IsDecimal, Spells}
use Rattle.ps_reader.specs.declared.line_fault.LineFault.{LineFault}
use Rattle.ps_reader.specs.declared.line_fault.LineFault.TheVariants.{NotCanonical, TooLarge, NoMemory}
use Rattle.ps_table.specs.declared.col.Col.{Col}
use Rattle.ps_table.specs.declared.col.Col.TheVariants as col
use Rattle.ps_table.specs.declared.place.TableCol.{TableCol}
use Rattle.ps_table.specs.declared.place.TableCol.TheVariants as shown
use Rattle.ps_answer.specs.Items.{count, IsWorldWithin, IsColWithin, IsShownWithin, shown_word}
use Rattle.ps_answer.specs.Words.{Column, SpellsColumn, SpellsWord}
use Rattle.ps_reader.specs.Read.{IsRead, IsWordRead}
use Rattle.ps_reader.specs.Ratios.{IsUnder}
use Rattle.ps_reader.specs.Kinds.{IsHome, IsWorld, IsNotZero, IsVersion, of_any_size}
use Rattle.ps_reader.specs.Numerals.{capped_size, IsCountUpTo, IsNumberUpTo}

-- a reading of something, of what is made of it
abbrev pub mapped : {A B : Type 0} → (A → B) → Result A LineFault → Result B LineFault
mapped f (Ok a) = Ok (f a)
mapped f (Err why) = Err why

-- one more digit of a size
pub capped_more : (digits : List ℕ) (i value r : ℕ) → All (λ b. digit_value b < 10) digits → i < length digits → value ≡ capped_size (digits_value 10 (take i digits))
    → r ≡ capped_size (10 * value + (get_or digits i 0 - 48)) → r ≡ capped_size (digits_value 10 (take (i + 1) digits))
capped_more digits i value r h lt e f =
    omega (arith, e, f, digits_value_more 10 digits i lt, digit_value_digit (get_or digits i 0) (digit_from_value (get_or digits i 0) (h i 0 lt)))

-- a count that isn't read is no number without a minus
pub positive_refused : (limit : ℕ) (word : List ℕ) (why : LineFault) → ((rest : List ℕ) → word ≡ 45 ∷ rest → ⊥) → IsCountUpTo limit word (Err why) → IsNumberUpTo limit word (Err why)
positive_refused limit word NotCanonical n h = none word n h
  where
    none : (word : List ℕ) → ((rest : List ℕ) → word ≡ 45 ∷ rest → ⊥) → ((n : ℕ) → IsDecimal word n → ⊥) → (z : ℤ) → Spells word z → ⊥
    none word n h (pos m) s = h m s
    none [] n h (negsuc m) s = s
    none (c ∷ cs) n h (negsuc m) s = n cs (ap (λ x. x ∷ cs) s.0)
positive_refused limit word TooLarge n h = (pos h.0, h.1, h.2)
positive_refused limit word NoMemory n h = h

-- nor is it one behind a minus
pub negative_refused : (limit : ℕ) (digits : List ℕ) (why : LineFault) → IsCountUpTo limit digits (Err why) → IsNumberUpTo limit (45 ∷ digits) (Err why)
negative_refused limit digits NotCanonical h = none
  where
    none : (z : ℤ) → Spells (45 ∷ digits) z → ⊥
    none (pos n) s = omega (arith, s.plain.digits.1.0)
    none (negsuc n) s = h (suc n) s.1
negative_refused limit digits TooLarge h = large h.0 h.1 h.2
  where
    large : (n : ℕ) → IsDecimal digits n → (n ≤ limit → ⊥) → (z : ℤ) × Spells (45 ∷ digits) z × (unsigned_abs z ≤ limit → ⊥)
    large zero d p = absurd (p (omega arith))
    large (suc n) d p = (negsuc n, (refl, d), p)
negative_refused limit digits NoMemory h = h

-- a count that isn't read is no word of a count, and no denominator
pub count_refused : (limit : ℕ) (word : List ℕ) (why : LineFault) → IsCountUpTo limit word (Err why) → IsWordRead count (λ n. ⊤) (λ n. n ≤ limit) word (Err why)
count_refused limit word NotCanonical h = λ n s. h n s.0
count_refused limit word TooLarge h = (h.0, (h.1, tt), h.2)
count_refused limit word NoMemory h = h

pub under_refused : (limit : ℕ) (word : List ℕ) (why : LineFault) → IsCountUpTo limit word (Err why) → IsUnder limit word (Err why)
under_refused limit word NotCanonical h = λ n s. h n s.0
under_refused limit word TooLarge h = large h.0 h.1 h.2
  where
    large : (n : ℕ) → IsDecimal word n → (n ≤ limit → ⊥) → IsUnder limit word (Err TooLarge)
    large zero d p = absurd (p (omega arith))
    large (suc n) d p = (suc n, (d, omega arith), p)
under_refused limit word NoMemory h = h

-- a count that isn't read is no number that isn't negative
pub amount_refused : (limit : ℕ) (word : List ℕ) (why : LineFault) → IsCountUpTo limit word (Err why) → IsRead (λ z. Spells word z × pos 0 ≤ℤ z) (λ z. unsigned_abs z ≤ limit) (Err why)
amount_refused limit word NotCanonical h = none
  where
    none : (z : ℤ) → Spells word z × pos 0 ≤ℤ z → ⊥
    none (pos n) s = h n s.0
    none (negsuc n) s = omega (arith, ints, s.1)
amount_refused limit word TooLarge h = (pos h.0, (h.1, omega (arith, ints)), h.2)
amount_refused limit word NoMemory h = h

-- nor the number of a home, or of a world
pub home_refused : (digits : List ℕ) (why : LineFault) → IsCountUpTo 100 digits (Err why) → IsHome digits (Err why)
home_refused digits NotCanonical h = none
  where
    none : (c : Col) → SpellsColumn (104 ∷ digits) c × ⊤ → ⊥
    none (col.Home n) s = h n s.0.1
    none (col.World n) s = omega (arith, s.0.0)
home_refused digits TooLarge h = (col.Home h.0, ((refl, h.1), tt), h.2)
home_refused digits NoMemory h = h

pub world_refused : (word : List ℕ) (why : LineFault) → IsCountUpTo 1000001 word (Err why) → IsWordRead count (λ n. ⊤) IsWorldWithin word (Err why)
world_refused word NotCanonical h = λ n s. h n s.0
world_refused word TooLarge h = (h.0, (h.1, tt), λ w. h.2 w.1)
world_refused word NoMemory h = h

pub not_zero : (word : List ℕ) (n : ℕ) (r : Result ℕ LineFault) → IsDecimal word n → n ≤ 1000001 → IsNotZero n r → IsWordRead count (λ n. ⊤) IsWorldWithin word r
not_zero word n (Ok m) d l h = subst (λ x. IsWordRead count (λ n. ⊤) IsWorldWithin word (Ok x)) (sym h.0) ((d, tt), (h.1, l))
not_zero word n (Err why) d l h = subst (λ x. IsWordRead count (λ n. ⊤) IsWorldWithin word (Err x)) (sym h.0) (n, (d, tt), λ w. omega (arith, w.0, h.1))

pub world_digits : (digits : List ℕ) (r : Result ℕ LineFault) → IsWordRead count (λ n. ⊤) IsWorldWithin digits r → IsWorld digits (mapped (λ n. col.World n) r)
world_digits digits (Ok n) h = (((refl, h.0.0), tt), h.1)
world_digits digits (Err NotCanonical) h = none
  where
    none : (c : Col) → SpellsColumn (119 ∷ digits) c × ⊤ → ⊥
    none (col.Home n) s = omega (arith, s.0.0)
    none (col.World n) s = h n (s.0.1, tt)
world_digits digits (Err TooLarge) h = (col.World h.0, ((refl, h.1.0), tt), h.2)
world_digits digits (Err NoMemory) h = h

-- a number that is not the one that is due
pub other_number : (word : List ℕ) (limit due : ℕ) (why : LineFault) → due ≤ limit → IsCountUpTo limit word (Err why) → IsWordRead count (λ n. n ≡ due) (λ n. n ≤ 16) word (Err (of_any_size why))
other_number word limit due NotCanonical b h = λ n s. h n s.0
other_number word limit due TooLarge b h = λ n s. h.2 (omega (arith, b, s.1, sym h.1.value, s.0.value))
other_number word limit due NoMemory b h = h

pub other_version : (word : List ℕ) (why : LineFault) → IsCountUpTo 1 word (Err why) → IsWordRead {A = Unit {0}} (λ u. count 1) (λ u. ⊤) (λ u. ⊤) word (Err (of_any_size why))
other_version word NotCanonical h = λ u s. h 1 s.0
other_version word TooLarge h = λ u s. h.2 (omega (arith, sym h.1.value, s.0.value))
other_version word NoMemory h = h

pub version_is : (word : List ℕ) (n : ℕ) (r : Result (Unit {0}) LineFault) → IsDecimal word n → IsVersion n r → IsWordRead {A = Unit {0}} (λ u. count 1) (λ u. ⊤) (λ u. ⊤) word r
version_is word n (Ok u) d h = ((subst (IsDecimal word) h d, tt), tt)
version_is word n (Err why) d h = subst (λ x. IsWordRead {A = Unit {0}} (λ u. count 1) (λ u. ⊤) (λ u. ⊤) word (Err x)) (sym h.0) (λ u s. h.1 (sym d.value ∙ s.0.value))

pub column_shown : (word : List ℕ) (why : LineFault) → (word ≡ 114 ∷ [] → ⊥) → IsWordRead (λ c. Column c) (λ c. ⊤) IsColWithin word (Err why) → IsWordRead shown_word (λ c. ⊤) IsShownWithin word (Err why)
column_shown word NotCanonical n h = none
  where
    none : (c : TableCol) → SpellsWord word (shown_word c) × ⊤ → ⊥
    none shown.Right s = n s.0
    none (shown.Of c) s = h c s
column_shown word TooLarge n h = (shown.Of h.0, h.1, h.2)
column_shown word NoMemory n h = h
