-- Texts without commands to a terminal.
use Rattle.std.proofs.Common.{◌≡◌, ◌++◌, ◌∷◌, [], ℕ, List, false, refl, append-nil, subst, arith}
use Rattle.std.specs.Char.{encode_utf8}
use Rattle.std.proofs.lemmas.Str.{NoCharPasses-append, NoCharPasses-nil, encode_ascii}
use Rattle.ps_hints.specs.Shown.{is_command, IsHarmless}

-- one character that is none
one : (c : ℕ) → is_command c ≡ false → IsHarmless (encode_utf8 c)
unfolding IsHarmless
one c h = (c ∷ [], append-nil (encode_utf8 c), (h, tt))

-- one more
pub pushed : (text : List ℕ) (c : ℕ) → IsHarmless text → is_command c ≡ false → IsHarmless (text ++ encode_utf8 c)
unfolding IsHarmless
pushed text c harmless h = NoCharPasses-append is_command text (encode_utf8 c) harmless (one c h)

-- a line feed more
pub ended : (text : List ℕ) → IsHarmless text → IsHarmless (text ++ 10 ∷ [])
unfolding IsHarmless
ended text harmless = NoCharPasses-append is_command text (10 ∷ []) harmless (subst IsHarmless (encode_ascii 10 (omega arith)) (one 10 refl))

-- nothing is harmless
pub nothing : IsHarmless []
unfolding IsHarmless
nothing = NoCharPasses-nil is_command
