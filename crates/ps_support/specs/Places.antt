-- Where the bounds of sentences stand.
use Rattle.std.specs.Prelude.{ℕ, suc, ◌==◌, if◌then◌else◌, List, [], ◌∷◌, ◌++◌, length}
use Rattle.ps_problem.specs.declared.sentence.Sentence.{Sentence}
use Rattle.ps_problem.specs.Problems.{bounds_of_sentence}
use Rattle.ps_support.specs.declared.places.End.{End}
use Rattle.ps_support.specs.declared.places.End.TheVariants.{Only, Lower, Upper}
use Rattle.ps_support.specs.declared.places.BoundPlace.{BoundPlace}

-- the place of a bound: the number of its sentence, and which number of that it is about
abbrev pub place_at : ℕ → End → BoundPlace
place_at n end = record { sentence = n; end = end }

-- the places of the bounds of a sentence: an interval has two
abbrev pub places_of : ℕ → ℕ → List BoundPlace
places_of n bounds = if bounds == 2 then place_at n Lower ∷ place_at n Upper ∷ [] else place_at n Only ∷ []

-- the places of the bounds of sentences, of which the first has this number
abbrev pub places_in : ℕ → List Sentence → List BoundPlace
places_in n [] = []
places_in n (s ∷ ss) = places_of n (length (bounds_of_sentence s)) ++ places_in (suc n) ss
