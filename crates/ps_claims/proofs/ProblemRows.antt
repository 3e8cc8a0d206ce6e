-- The bounds of a problem are met exactly where their rows are.
use Rattle.std.proofs.Common.{◌≡◌, ℕ, zero, suc, Bool, true, false, List, [], ◌∷◌, length, map, take, All, sym, ◌∙◌}
use Rattle.std.specs.Prelude.{slice_get, IsSomeAnd}
use Rattle.std.proofs.lemmas.List.{length-map}
use Rattle.std.proofs.lemmas.List.Elements.{All-nil, All-cons, All-head, All-tail}
use Rattle.ps_meaning.specs.Distribution.{Entry}
use Rattle.ps_meaning.specs.Bounds.{Bound, MeetsBound, MeetsAll}
use Rattle.ps_meaning.specs.Rows.{Row, MeetsRow}
use Rattle.ps_formula.specs.declared.node.Node.{Node}
use Rattle.ps_problem.specs.Problems.{Parts, AreParts, BoundIn, AreBounds, IsBoundIn, bounds_in, bound_of, bounds_of}
use Rattle.ps_problem.specs.Rows.{row_at, row_of, rows_in}
use Rattle.ps_problem.proofs.BoundRows.{bounds-rows, rows-length}
use Rattle.ps_claims.specs.Duals.{kept_of}
use Rattle.ps_claims.specs.Claims.{IsFirstWithout, MissesFirst}
use Rattle.ps_claims.specs.Rows.{problem_rows, AreRowsOf, MeetsRows}

pub rows-of_bounds : (ns : List Node) (bs : List BoundIn) → AreBounds ns bs → AreRowsOf (map (bound_of ns) bs) (map (row_of ns) (map row_at bs))
rows-of_bounds ns [] are = tt
rows-of_bounds ns (b ∷ bs) are = ((λ d. bounds-rows ns b d (All-head (IsBoundIn ns) b bs are)), rows-of_bounds ns bs (All-tail (IsBoundIn ns) b bs are))

pub problem-rows : (p : Parts) → AreParts p → AreRowsOf (bounds_of p) (problem_rows p)
problem-rows p are = rows-of_bounds p.nodes (bounds_in p.sentences) are.bounds

-- there are as many rows as bounds
pub rows_many : (p : Parts) → length (problem_rows p) ≡ length (bounds_of p)
rows_many p = length-map (rows_in p.sentences) (row_of p.nodes) ∙ rows-length p.sentences ∙ sym (length-map (bounds_in p.sentences) (bound_of p.nodes))

-- a distribution that meets each bound meets each row
pub rows-met : (bs : List Bound) (rs : List Row) (d : List Entry) → AreRowsOf bs rs → MeetsAll bs d → MeetsRows rs d
rows-met [] [] d are met = All-nil (λ r. MeetsRow r d)
rows-met [] (r ∷ rs) d are met = absurd are
rows-met (b ∷ bs) [] d are met = absurd are
rows-met (b ∷ bs) (r ∷ rs) d are met =
    All-cons (λ x. MeetsRow x d) r rs ((are.0 d).0 (All-head (λ x. MeetsBound x d) b bs met)) (rows-met bs rs d are.1 (All-tail (λ x. MeetsBound x d) b bs met))

-- and the other way round
pub bounds-met : (bs : List Bound) (rs : List Row) (d : List Entry) → AreRowsOf bs rs → MeetsRows rs d → MeetsAll bs d
bounds-met [] [] d are met = All-nil (λ b. MeetsBound b d)
bounds-met [] (r ∷ rs) d are met = absurd are
bounds-met (b ∷ bs) [] d are met = absurd are
bounds-met (b ∷ bs) (r ∷ rs) d are met =
    All-cons (λ x. MeetsBound x d) b bs ((are.0 d).1 (All-head (λ x. MeetsRow x d) r rs met)) (bounds-met bs rs d are.1 (All-tail (λ x. MeetsRow x d) r rs met))

-- the rows of the bounds that are kept
pub kept-rows : (kept : List Bool) (bs : List Bound) (rs : List Row) → AreRowsOf bs rs → AreRowsOf (kept_of kept bs) (kept_of kept rs)
kept-rows [] bs rs are = tt
kept-rows (k ∷ ks) [] [] are = tt
kept-rows (k ∷ ks) [] (r ∷ rs) are = absurd are
kept-rows (k ∷ ks) (b ∷ bs) [] are = absurd are
kept-rows (true ∷ ks) (b ∷ bs) (r ∷ rs) are = (are.0, kept-rows ks bs rs are.1)
kept-rows (false ∷ ks) (b ∷ bs) (r ∷ rs) are = kept-rows ks bs rs are.1

-- the bounds before a place are met, and the one there isn't
abbrev Stops : List Bound → List Entry → ℕ → Type 0
Stops bs d i = All (λ b. MeetsBound b d) (take i bs) × IsSomeAnd (slice_get bs i) (λ b. ¬ MeetsBound b d)

stops : (bs : List Bound) (rs : List Row) (d : List Entry) (i : ℕ) → AreRowsOf bs rs → All (λ r. MeetsRow r d) (take i rs) → IsSomeAnd (slice_get rs i) (λ r. ¬ MeetsRow r d) → Stops bs d i
stops [] [] d i are before missed = absurd missed
stops [] (r ∷ rs) d i are before missed = absurd are
stops (b ∷ bs) [] d i are before missed = absurd are
stops (b ∷ bs) (r ∷ rs) d zero are before missed = (All-nil (λ x. MeetsBound x d), λ met. missed ((are.0 d).0 met))
stops (b ∷ bs) (r ∷ rs) d (suc i) are before missed =
    let more = stops bs rs d i are.1 (All-tail (λ x. MeetsRow x d) r (take i rs) before) missed in
    (All-cons (λ x. MeetsBound x d) b (take i bs) ((are.0 d).1 (All-head (λ x. MeetsRow x d) r (take i rs) before)) more.0, more.1)

-- the first bound that isn't met is that of the first row that isn't
pub missed-bound : (bs : List Bound) (rs : List Row) (d : List Entry) (n : ℕ) → AreRowsOf bs rs → IsFirstWithout (λ r. MeetsRow r d) rs n → MissesFirst bs d n
missed-bound bs rs d n are (i, is, before, missed) = let s = stops bs rs d i are before missed in (i, is, s.0, s.1)
