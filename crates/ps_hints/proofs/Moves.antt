-- Places behind one byte more.
use Rattle.std.proofs.Common.{◌≡◌, ℕ, suc, Bool, All, List, [], ◌∷◌, ◌++◌, ◌==◌, false, true, refl}
use Rattle.std.proofs.lemmas.List.Sums.{fold-append}
use Rattle.std.proofs.lemmas.List.Elements.{All-cons, All-nil}
use Rattle.ps_hints.specs.Places.{noted}
use Rattle.ps_text.specs.Positions.{Position, moved, position_behind}

-- a line feed ends the line
pub moved_line : (p : Position) (b : ℕ) → (b == 10) ≡ true → moved p b ≡ record { line = suc p.line; column = 1 }
unfolding moved
moved_line p b h = rw h refl

-- another byte stays on the line
pub moved_along : (p : Position) (b : ℕ) → (b == 10) ≡ false → moved p b ≡ record { line = p.line; column = suc p.column }
unfolding moved
moved_along p b h = rw h refl

-- the place behind one byte more
pub position-push : (bs : List ℕ) (b : ℕ) → position_behind (bs ++ b ∷ []) ≡ moved (position_behind bs) b
position-push bs b = fold-append moved (record { line = 1; column = 1 }) bs (b ∷ [])

-- what holds of a number holds of it where there is one
pub noted_are : (P : ℕ → Type 0) (b : Bool) (n : ℕ) → (b ≡ true → P n) → All P (noted b n)
noted_are P true n p = All-cons P n [] (p refl) (All-nil P)
noted_are P false n p = All-nil P
