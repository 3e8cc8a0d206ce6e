-- The worlds of a pool by their numbers, and their costs one after the other.
use Rattle.std.proofs.Common.{◌≡◌, ℕ, zero, suc, ◌+◌, ◌-◌, ◌<◌, ◌≤◌, ℤ, List, [], ◌∷◌, ◌++◌, get_or, length, map, take, Some, None, sym, ap, ◌∙◌, subst, arith}
use Rattle.std.specs.Prelude.{All}
use Rattle.std.proofs.lemmas.Option.{slice_get-get_or}
use Rattle.std.proofs.lemmas.List.{map-append}
use Rattle.std.proofs.Math.Seq.{take-suc}
use Rattle.ps_meaning.specs.Formula.{World}
use Rattle.ps_formula.specs.declared.node.Node.{Node}
use Rattle.ps_formula.specs.Nodes.{AtomBelow, truths}
use Rattle.ps_table.specs.Worlds.{world_of}
use Rattle.ps_simplex.specs.declared.phase.Phase.{Phase}
use Rattle.ps_runs.specs.Columns.{cost_over, costs_over}

-- the world of a number that is there
there : (ws : List World) (n : ℕ) → 0 < n → n ≤ length ws → world_of ws n ≡ Some (get_or ws (n - 1) [])
there ws zero h l = absurd (omega (arith, h))
there ws (suc i) h l = let e : suc i - 1 ≡ i = omega arith in rw e (slice_get-get_or ws i [] (omega (arith, l)))

pub world_is : (ws : List World) (n : ℕ) (w : World) → 0 < n → n ≤ length ws → Some w ≡ world_of ws n → w ≡ get_or ws (n - 1) []
world_is ws n w h l e = let f : Some w ≡ Some (get_or ws (n - 1) []) = e ∙ there ws n h l in cc

pub no_world : (ws : List World) (n : ℕ) → 0 < n → n ≤ length ws → None ≡ world_of ws n → ⊥
no_world ws n h l e = let f : None ≡ Some (get_or ws (n - 1) []) = e ∙ there ws n h l in cc

-- each world has a value for each atom of the nodes
pub atoms_below : (nodes : List Node) (ws : List World) (w : World) (i : ℕ) → All (λ u. All (AtomBelow (length u)) nodes) ws → i < length ws → w ≡ get_or ws (i + 1 - 1) []
    → All (AtomBelow (length w)) nodes
atoms_below nodes ws w i h l e =
    let same : i + 1 - 1 ≡ i = omega arith in
    let is : w ≡ get_or ws i [] = e ∙ ap (λ k. get_or ws k []) same in
    subst (λ (u : World). All (AtomBelow (length u)) nodes) (sym is) (h i [] l)

-- one more cost
pub next_cost : (phase : Phase) (nodes : List Node) (both : ℕ) (ws : List World) (w : World) (i : ℕ) (costs more : List ℤ) (z : ℤ)
    → costs ≡ costs_over phase nodes both (take i ws) → i < length ws → w ≡ get_or ws (i + 1 - 1) [] → z ≡ cost_over phase both (truths nodes w)
    → more ≡ costs ++ z ∷ [] → more ≡ costs_over phase nodes both (take (i + 1) ws)
next_cost phase nodes both ws w i costs more z so_far l e is grown =
    let f : World → ℤ = λ u. cost_over phase both (truths nodes u) in
    let same : i + 1 - 1 ≡ i = omega arith in
    let here : z ≡ f (get_or ws i []) = is ∙ ap f (e ∙ ap (λ k. get_or ws k []) same) in
    let next : i + 1 ≡ suc i = omega arith in
    let split : take (i + 1) ws ≡ take i ws ++ get_or ws i [] ∷ [] = ap (λ k. take k ws) next ∙ take-suc ws i [] l in
    grown ∙ (λ k. so_far k ++ here k ∷ []) ∙ sym (map-append f (take i ws) (get_or ws i [] ∷ [])) ∙ ap (λ us. map f us) (sym split)
