-- Lists of bytes that pass a test, up to the first that doesn't.
use Rattle.std.proofs.Common.{◌≡◌, ℕ, ◌≤◌, Bool, true, false, not, ◌&&◌, List, [], ◌∷◌, ◌++◌, length, refl, arith}
use Rattle.std.proofs.lemmas.Bool.Decides.{nat_tests}
use Rattle.std.specs.Prelude.{◌==◌, IsTrue}
use Rattle.std.specs.List.{AllByRecursion}
use Rattle.ps_text.specs.Tokens.{is_letter, is_digit, is_word_byte, IsWord, AreDigits}

-- the first byte passes
abbrev pub starts : (ℕ → Bool) → List ℕ → Bool
starts p [] = false
starts p (b ∷ bs) = p b

-- a separator and then a digit come first
abbrev pub starts_behind : ℕ → List ℕ → Bool
starts_behind c [] = false
starts_behind c (b ∷ bs) = b == c && starts is_digit bs

-- each byte passes
abbrev pub Passes : (ℕ → Bool) → List ℕ → Type 0
Passes p bs = AllByRecursion (λ b. IsTrue (p b)) bs

pub false_true : {b : Bool} → b ≡ false → b ≡ true → ⊥
false_true p q = cc

-- what can't be true is false
pub refute : (b : Bool) → (b ≡ true → ⊥) → b ≡ false
refute true h = absurd (h refl)
refute false h = refl

pub not_true : (b : Bool) → not b ≡ true → b ≡ false
not_true true e = absurd cc
not_true false e = refl

pub both : (a b : Bool) → a && b ≡ true → (a ≡ true) × (b ≡ true)
both true b e = (refl, e)
both false b e = absurd cc

pub letter_no_digit : (b : ℕ) → is_letter b ≡ true → is_digit b ≡ true → ⊥
letter_no_digit b l d = grind (arith, nat_tests)

pub same_byte : (b c : ℕ) → (b == c) ≡ true → b ≡ c
same_byte b c h = grind (arith, nat_tests)

-- what passes isn't longer than what passes and stops
pub span_le : (p : ℕ → Bool) (xs ys more after : List ℕ) → Passes p xs → starts p after ≡ false → xs ++ more ≡ ys ++ after → length xs ≤ length ys
span_le p [] ys more after all stop e = omega arith
span_le p (x ∷ xs) [] more [] all stop e = absurd cc
span_le p (x ∷ xs) [] more (a ∷ rest) all stop e = let same : x ≡ a = cc in absurd (false_true stop (rw same at all.0))
span_le p (x ∷ xs) (y ∷ ys) more after all stop e = let le = span_le p xs ys more after all.1 stop cc in omega arith

-- two lists that pass, each up to its stop, are the same
pub span_same : (p : ℕ → Bool) (xs ys more after : List ℕ) → Passes p xs → Passes p ys → starts p more ≡ false → starts p after ≡ false → xs ++ more ≡ ys ++ after → (xs ≡ ys) × (more ≡ after)
span_same p [] [] more after all all2 stop stop2 e = (refl, e)
span_same p (x ∷ xs) [] more [] all all2 stop stop2 e = absurd cc
span_same p (x ∷ xs) [] more (a ∷ rest) all all2 stop stop2 e = let same : x ≡ a = cc in absurd (false_true stop2 (rw same at all.0))
span_same p [] (x ∷ xs) [] after all all2 stop stop2 e = absurd cc
span_same p [] (x ∷ xs) (a ∷ rest) after all all2 stop stop2 e = let same : x ≡ a = cc in absurd (false_true stop (rw same at all2.0))
span_same p (x ∷ xs) (y ∷ ys) more after all all2 stop stop2 e = let ih = span_same p xs ys more after all.1 all2.1 stop stop2 cc in (cc, ih.1)

-- one more byte at the end
pub passes-push : (p : ℕ → Bool) (xs : List ℕ) (b : ℕ) → Passes p xs → p b ≡ true → Passes p (xs ++ b ∷ [])
passes-push p [] b all h = (h, tt)
passes-push p (x ∷ xs) b all h = (all.0, passes-push p xs b all.1 h)

pub word-push : (w : List ℕ) (b : ℕ) → IsWord w → is_word_byte b ≡ true → IsWord (w ++ b ∷ [])
word-push [] b w h = absurd w
word-push (x ∷ xs) b w h = (w.0, passes-push is_word_byte xs b w.1 h)

pub digits-push : (w : List ℕ) (b : ℕ) → AreDigits w → is_digit b ≡ true → AreDigits (w ++ b ∷ [])
digits-push [] b w h = absurd w
digits-push (x ∷ xs) b w h = (w.0, passes-push is_digit xs b w.1 h)

pub digits_pass : (w : List ℕ) → AreDigits w → Passes is_digit w
digits_pass [] t = absurd t
digits_pass (x ∷ xs) t = t

pub letter_goes : (b : ℕ) → is_letter b ≡ true → is_word_byte b ≡ true
letter_goes b l = grind (arith, nat_tests)

pub word_passes : (w : List ℕ) → IsWord w → Passes is_word_byte w
word_passes [] t = absurd t
word_passes (x ∷ xs) t = (letter_goes x t.0, t.1)

pub word_starts : (w more : List ℕ) → IsWord w → starts is_letter (w ++ more) ≡ true
word_starts [] more t = absurd t
word_starts (b ∷ bs) more t = t.0

pub digits_start : (w more : List ℕ) → AreDigits w → starts is_digit (w ++ more) ≡ true
digits_start [] more t = absurd t
digits_start (b ∷ bs) more t = t.0

pub not_both : (bytes : List ℕ) → starts is_letter bytes ≡ true → starts is_digit bytes ≡ true → ⊥
not_both [] l d = false_true refl l
not_both (b ∷ bs) l d = letter_no_digit b l d
