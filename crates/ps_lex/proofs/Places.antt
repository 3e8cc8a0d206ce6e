-- Positions as they are kept are those of the text.
use Rattle.std.proofs.Common.{◌≡◌, ℕ, ◌+◌, suc, ◌==◌, Bool, true, false, List, [], ◌∷◌, length, refl, ap, ◌∙◌, arith, add-one}
use Rattle.std.specs.Prelude.{fold, if◌then◌else◌}
use Rattle.ps_text.specs.Positions as text
use Rattle.ps_lex.specs.declared.position.Position.{Position}
use Rattle.ps_lex.specs.Places.{line_and_column, start, behind}
use Rattle.ps_lex.specs.Seen.{behind_all}

moved_is : (p : Position) (b : ℕ) → line_and_column (behind p b) ≡ text.moved (line_and_column p) b
unfolding behind text.moved
moved_is p b = by (b == 10)
  where
    by : (x : Bool) → line_and_column (if x then record { line = p.line + 1; column = 1; offset = p.offset + 1 } else record { line = p.line; column = p.column + 1; offset = p.offset + 1 })
        ≡ (if x then record { line = suc p.line; column = 1 } else record { line = p.line; column = suc p.column })
    by true = ap (λ n. record { line = n; column = 1 }) (add-one p.line)
    by false = ap (λ n. record { line = p.line; column = n }) (add-one p.column)

from_place : (p : Position) (bs : List ℕ) → line_and_column (behind_all p bs) ≡ fold text.moved (line_and_column p) bs
from_place p [] = refl
from_place p (b ∷ bs) = from_place (behind p b) bs ∙ ap (λ q. fold text.moved q bs) (moved_is p b)

pub position_kept : (bytes : List ℕ) → line_and_column (behind_all start bytes) ≡ text.position_behind bytes
position_kept bytes = from_place start bytes

-- behind a line feed, or another byte
abbrev lined : Bool → Position → Position
lined x p = if x then record { line = p.line + 1; column = 1; offset = p.offset + 1 } else record { line = p.line; column = p.column + 1; offset = p.offset + 1 }

lined_offset : (x : Bool) (p : Position) → (lined x p).offset ≡ p.offset + 1
lined_offset true p = refl
lined_offset false p = refl

pub next_offset : (p : Position) (b : ℕ) → (behind p b).offset ≡ p.offset + 1
unfolding behind
next_offset p b = lined_offset (b == 10) p

offset_from : (p : Position) (bs : List ℕ) → (behind_all p bs).offset ≡ p.offset + length bs
offset_from p [] = omega arith
offset_from p (b ∷ bs) = offset_from (behind p b) bs ∙ ap (λ n. n + length bs) (next_offset p b) ∙ omega arith

pub offset_kept : (bytes : List ℕ) → (behind_all start bytes).offset ≡ length bytes
offset_kept bytes = offset_from start bytes ∙ omega arith
