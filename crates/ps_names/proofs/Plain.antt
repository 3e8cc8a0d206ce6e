-- Texts without characters that may turn what a terminal shows.
use Rattle.std.proofs.Common.{◌≡◌, ◌++◌, ◌∷◌, [], ℕ, List, false, refl, append-nil}
use Rattle.std.specs.Prelude.{codes}
use Rattle.std.specs.Char.{encode_utf8}
use Rattle.std.proofs.lemmas.Str.{NoCharPasses-append, NoCharPasses-nil}
use Rattle.ps_names.specs.Names.{is_turning, IsPlain}

-- one character that is none
one : (c : ℕ) → is_turning c ≡ false → IsPlain (encode_utf8 c)
unfolding IsPlain
one c h = (c ∷ [], append-nil (encode_utf8 c), (h, tt))

-- one more
pub pushed : (text : List ℕ) (c : ℕ) → IsPlain text → is_turning c ≡ false → IsPlain (text ++ encode_utf8 c)
unfolding IsPlain
pushed text c plain h = NoCharPasses-append is_turning text (encode_utf8 c) plain (one c h)

-- nothing is plain
pub nothing : IsPlain []
unfolding IsPlain
nothing = NoCharPasses-nil is_turning

-- the mark behind it
pub marked : (text : List ℕ) → IsPlain text → IsPlain (text ++ codes "...")
unfolding IsPlain encode_utf8
marked text plain = NoCharPasses-append is_turning text (codes "...") plain (46 ∷ 46 ∷ 46 ∷ [], refl, (refl, (refl, (refl, tt))))
