-- The sentences whose bounds have multipliers other than 0.
use Rattle.std.specs.Prelude.{ℕ, zero, suc, ℤ, pos, negsuc, Bool, true, false, ◌||◌, List, [], ◌∷◌, length, drop, get_or}
use Rattle.ps_problem.specs.declared.sentence.Sentence.{Sentence}
use Rattle.ps_problem.specs.Problems.{bounds_of_sentence}

-- whether a number is another than 0
abbrev pub is_other : ℤ → Bool
is_other (pos zero) = false
is_other (pos (suc n)) = true
is_other (negsuc n) = true

-- whether the multiplier at a place is another than 0
abbrev pub is_used : List ℤ → ℕ → Bool
is_used ys at = is_other (get_or ys at (pos 0))

-- whether one of the first multipliers, of so many, is
abbrev pub has_other : ℕ → List ℤ → Bool
has_other zero ys = false
has_other (suc n) [] = false
has_other (suc n) (y ∷ ys) = is_other y || has_other n ys

-- whether each sentence has such a multiplier: the first ones are those of its bounds
abbrev pub used_of : List Sentence → List ℤ → List Bool
used_of [] ys = []
used_of (s ∷ ss) ys = has_other (length (bounds_of_sentence s)) ys ∷ used_of ss (drop (length (bounds_of_sentence s)) ys)
