-- Words of a line: what callers of this crate cite.
use Rattle.std.proofs.Common.{◌≤◌, ◌<◌, ◌+◌, ◌^◌, ◌%◌, ℕ, List, [], ◌∷◌, ◌++◌, length, refl, arith, length-append}
use Rattle.std.specs.Fmt.{decimal}
use Rattle.std.proofs.lemmas.Fmt.{decimal_by_steps_wide}
use Rattle.std.proofs.lemmas.List.Folds.{list_all-append}
use Rattle.ps_io.specs.LineText.{IsWord, with_word}

-- a line grows by the word and at most a space
pub length-with_word : (line word : List ℕ) → length (with_word line word) ≤ length line + length word + 1
length-with_word [] word = omega arith
length-with_word (x ∷ xs) word = omega (arith, length-append (x ∷ xs) (32 ∷ word))

-- two words without a space between them are one
pub IsWord-append : (xs ys : List ℕ) → IsWord xs → IsWord ys → IsWord (xs ++ ys)
IsWord-append xs ys p q = rw (list_all-append, p, q) refl

digit_is_word : (n : ℕ) → n < 10 → IsWord ((48 + n) ∷ [])
digit_is_word n h = grind arith

-- a number is a word
pub IsWord-decimal : (n : ℕ) → n < 10 ^ 64 → IsWord (decimal n)
IsWord-decimal = decimal_by_steps_wide (λ _ ds. IsWord ds) (λ n h. digit_is_word n h)
    (λ n ds lo p. IsWord-append ds ((48 + n % 10) ∷ []) p (digit_is_word (n % 10) (omega arith)))
