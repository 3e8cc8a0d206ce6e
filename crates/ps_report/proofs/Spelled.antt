-- The words of a report are words.
use Rattle.std.proofs.Common.{◌≡◌, ◌≢◌, ℕ, suc, ◌<◌, ◌^◌, ℤ, pos, negsuc, true, false, [], ◌∷◌, ◌++◌, length, map, unsigned_abs, refl, arith}
use Rattle.std.specs.Fmt.{decimal, signed_decimal}
use Rattle.ps_io.specs.LineText.{IsWord}
use Rattle.ps_io.proofs.WordLemmas.{IsWord-append, IsWord-decimal}
use Rattle.ps_meaning.specs.Formula.{World}
use Rattle.ps_answer.specs.Words.{digit_of, world_text}

signed_is_word : (z : ℤ) → unsigned_abs z < 2 ^ 127 → IsWord (signed_decimal z)
signed_is_word (pos n) h = IsWord-decimal n (omega (arith, h))
signed_is_word (negsuc n) h = IsWord-append (45 ∷ []) (decimal (suc n)) refl (IsWord-decimal (suc n) (omega (arith, h)))

pub fraction_is_word : (z : ℤ) (n : ℕ) → unsigned_abs z < 2 ^ 127 → n < 2 ^ 127 → IsWord (signed_decimal z ++ (47 ∷ []) ++ decimal n)
fraction_is_word z n h k =
    IsWord-append (signed_decimal z ++ 47 ∷ []) (decimal n) (IsWord-append (signed_decimal z) (47 ∷ []) (signed_is_word z h) refl) (IsWord-decimal n (omega (arith, k)))

pub lettered_is_word : (letter n : ℕ) → IsWord (letter ∷ []) → n < 2 ^ 32 → IsWord (letter ∷ decimal n)
lettered_is_word letter n h k = IsWord-append (letter ∷ []) (decimal n) h (IsWord-decimal n (omega (arith, k)))

-- the digits of a world
pub digits_are_word : (w : World) → IsWord (map digit_of w)
digits_are_word [] = refl
digits_are_word (false ∷ w) = digits_are_word w
digits_are_word (true ∷ w) = digits_are_word w

pub world_digits : (w : World) → length w ≢ 0 → world_text w ≡ map digit_of w
world_digits [] h = absurd (h refl)
world_digits (b ∷ w) h = refl
