-- The lines of a model that is printed are within the limits.
use Rattle.std.proofs.Common.{◌≡◌, ℕ, ◌≤◌, ℤ, pos, ◌+ℤ◌, ◌≤ℤ◌, List, [], ◌∷◌, length, map, All, sym, subst, arith}
use Rattle.std.specs.List.{AllByRecursion}
use Rattle.std.proofs.lemmas.Int.{ints}
use Rattle.std.proofs.lemmas.List.{length-map}
use Rattle.std.proofs.lemmas.List.Elements.{All-head, All-tail}
use Rattle.ps_meaning.specs.Formula.{Truth}
use Rattle.ps_meaning.specs.Distribution.{IsDistribution, weight, total}
use Rattle.ps_meaning.specs.Bounds.{Bound}
use Rattle.ps_meaning.proofs.Weights.{weight-nonneg}
use Rattle.ps_claims.specs.Answers as claimed
use Rattle.ps_answer.specs.declared.item.LineItem.{LineItem}
use Rattle.ps_formula.specs.declared.limits.TheConstants.{MOST_ATOMS}
use Rattle.ps_problem.specs.declared.limits.TheConstants.{MOST_BOUNDS}
use Rattle.ps_answer.specs.declared.answer.Weighted.{Weighted}
use Rattle.ps_answer.specs.declared.answer.Model.{Model}
use Rattle.ps_answer.specs.Items.{IsProper, IsWithin, IsPrintable}
use Rattle.ps_answer.specs.Answers.{entry_item, model_items}
use Rattle.ps_claims.specs.Printed.{IsPrintedModel}
use Rattle.ps_claims.specs.Certificates.{entry_of, entries, model_of}

-- what is asked of a line
abbrev pub IsFit : LineItem → Type 0
IsFit i = IsProper i × IsWithin i

-- from 0 to a number that is small
small_below : (z most : ℤ) → pos 0 ≤ℤ z → z ≤ℤ most → IsPrintable most → IsPrintable z
small_below z most low high small = omega (arith, ints, low, high, small)

-- each entry has its weight, at most the total, and a world of so many atoms
fit_entries : (atoms : ℕ) (ws : List Weighted) (most : ℤ) → atoms ≤ MOST_ATOMS → IsPrintable most → All (λ e. length e.world ≡ atoms) (entries ws) → All (λ e. pos 1 ≤ℤ e.weight) (entries ws)
    → total (entries ws) ≤ℤ most → AllByRecursion IsFit (map entry_item ws)
fit_entries atoms [] most few small sized weighed high = tt
fit_entries atoms (w ∷ ws) most few small sized weighed high =
    let one : pos 1 ≤ℤ w.weight = All-head (λ e. pos 1 ≤ℤ e.weight) (entry_of w) (entries ws) weighed in
    let rest = All-tail (λ e. pos 1 ≤ℤ e.weight) (entry_of w) (entries ws) weighed in
    let low : pos 0 ≤ℤ weight (entries ws) Truth = weight-nonneg (entries ws) Truth rest in
    let long : length w.world ≡ atoms = All-head (λ e. length e.world ≡ atoms) (entry_of w) (entries ws) sized in
    let sum : (w.weight +ℤ weight (entries ws) Truth) ≤ℤ most = high in (
      (omega (arith, ints, one), (small_below w.weight most (omega (arith, ints, one)) (omega (arith, ints, low, sum)) small, omega (arith, long, few))),
      fit_entries atoms ws most few small (All-tail (λ e. length e.world ≡ atoms) (entry_of w) (entries ws) sized) rest (omega (arith, ints, one, sum)),
    )

pub fit_model : (atoms : ℕ) (bounds : List Bound) (m : Model) → atoms ≤ MOST_ATOMS → length bounds ≤ MOST_BOUNDS → IsDistribution atoms (entries m.worlds) → claimed.IsBasicModel bounds (model_of m) → IsPrintedModel m
    → AllByRecursion IsFit (model_items m)
fit_model atoms bounds m few few_bounds distribution small printed =
    let low : pos 0 ≤ℤ total (entries m.worlds) = weight-nonneg (entries m.worlds) Truth distribution.weighed in
    let same : m.total ≡ total (entries m.worlds) = small.total in
    let worlds = small.few in
    let long = length-map m.worlds entry_of in (
      (subst (λ z. pos 0 ≤ℤ z) (sym same) low, (printed.total, omega (arith, worlds, long, few_bounds))),
      fit_entries atoms m.worlds m.total few printed.total distribution.worlds distribution.weighed (omega (arith, ints, same)),
    )
