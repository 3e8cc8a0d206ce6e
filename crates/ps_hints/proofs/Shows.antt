-- Characters that are shown one after the other.
use Rattle.std.proofs.Common.{◌≡◌, ℕ, [], ◌∷◌, ◌++◌, ◌+◌, refl, ◌∙◌, arith}
use Rattle.std.proofs.lemmas.List.{replicate-append-replicate}
use Rattle.std.proofs.lemmas.Str.{encode_ascii}
use Rattle.ps_hints.specs.Shown.{shown, glyph, spaces, blank}

-- one space more
pub spaces_push : (n : ℕ) → spaces n ++ 32 ∷ [] ≡ spaces (n + 1)
spaces_push n = replicate-append-replicate n 1 32

-- a space is shown as itself
pub shown_space : glyph 32 ≡ 32 ∷ []
unfolding glyph shown
shown_space = encode_ascii 32 (omega arith)

-- below a tab stands a tab
pub blank_tab : (c : ℕ) → c ≡ 9 → glyph 9 ≡ blank c
unfolding glyph shown blank
blank_tab c e = encode_ascii 9 (omega arith) ∙ rw e refl
