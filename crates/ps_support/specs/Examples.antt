-- The worlds of a distribution, by the atoms that are true in them.
use Rattle.std.specs.Prelude.{ℕ, suc, ℤ, pos, ◌<ℤ◌, unsigned_abs, true, false, List, [], ◌∷◌, map, All}
use Rattle.std.specs.List.Sorted.{IsPermutation, IsSortedByKey}
use Rattle.std.specs.Ordering.{int_cmp}
use Rattle.ps_meaning.specs.Formula.{World}
use Rattle.ps_meaning.specs.Rational.{fraction}
use Rattle.ps_meaning.specs.Wide.{Fits}
use Rattle.ps_answer.specs.declared.answer.Model.{Model}
use Rattle.ps_answer.specs.declared.answer.Weighted.{Weighted}
use Rattle.ps_support.specs.declared.example.Example.{Example}
use Rattle.ps_support.specs.declared.example.Likely.{Likely}

-- the numbers of the atoms that are true, of which the first has this number
abbrev pub true_from : ℕ → World → List ℕ
true_from n [] = []
true_from n (true ∷ vs) = n ∷ true_from (suc n) vs
true_from n (false ∷ vs) = true_from (suc n) vs

-- a world of a distribution of this total: its probability is its weight over the total
abbrev pub likely_of : ℤ → Weighted → Likely
likely_of total w = record {
  weight = w.weight;
  probability = fraction w.weight (unsigned_abs total);
  atoms = true_from 0 w.world;
}

-- the total is above 0
abbrev pub HasTotal : Model → Type 0
HasTotal m = pos 0 <ℤ m.total

-- each weight is within the limit of sizes
abbrev pub AreWeights : Model → Type 0
AreWeights m = All (λ w. Fits w.weight) m.worlds

-- worlds are sorted by weight, the greatest first
abbrev pub FallByWeight : List Likely → Type 0
FallByWeight ws = IsSortedByKey (λ w. w.weight) (λ a b. int_cmp b a) ws

-- the worlds that are told are those of the distribution
abbrev pub HasWorlds : Model → Example → Type 0
HasWorlds m e = IsPermutation (map (likely_of m.total) m.worlds) e.worlds
