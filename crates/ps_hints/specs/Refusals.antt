-- The refusals of a text of which parts are left out.
use Rattle.std.specs.Prelude.{◌≡◌, ◌≢◌, ◌⊎◌, ℕ, List, [], ◌∷◌}
use Rattle.ps_read.specs.Readings.{IsUnreadWhole}
use Rattle.ps_hints.specs.declared.refusals.Refusal.{Refusal}

-- a byte stands as it is, or a space stands for it; a line feed stands as it is
abbrev pub IsKeptOrBlank : (old new : ℕ) → Type 0
IsKeptOrBlank old new = (new ≡ old) ⊎ ((new ≡ 32) × (old ≢ 10))

-- each byte stands as it is, or a space stands for it
unfoldable pub AreBlanked : (old new : List ℕ) → Type 0
AreBlanked [] [] = Unit {0}
AreBlanked (b ∷ old) (c ∷ new) = IsKeptOrBlank b c × AreBlanked old new
AreBlanked (b ∷ old) [] = ⊥
AreBlanked [] (c ∷ new) = ⊥

-- the bytes are refused so
abbrev pub IsRefusedSo : List ℕ → Refusal → Type 0
IsRefusedSo bytes r = IsUnreadWhole bytes r.kind (record { line = r.line; column = r.column })

-- the bytes are refused so where spaces stand for some of them
unfoldable pub IsToldOf : List ℕ → Refusal → Type 0
IsToldOf bytes r = (left : List ℕ) × AreBlanked bytes left × IsRefusedSo left r
