-- The multipliers of rows one after the other.
use Rattle.std.proofs.Common.{◌≡◌, ℕ, suc, ◌+◌, ◌<◌, ℤ, pos, List, [], ◌∷◌, ◌++◌, get_or, length, map, take, All, refl, sym, ap, ◌∙◌, subst, arith}
use Rattle.std.proofs.Math.Seq.{take-suc}
use Rattle.std.proofs.lemmas.List.{length-map, length-take-le}
use Rattle.std.proofs.lemmas.List.Elements.{All-nil, All-append, All-cons}
use Rattle.ps_formula.specs.declared.node.Node.{Node}
use Rattle.ps_problem.specs.declared.row.Row.{Row}
use Rattle.ps_problem.specs.Rows.{row_of, signed_by}
use Rattle.ps_runs.specs.Certificates.{signed, top_of, head_of}
use Rattle.ps_runs.proofs.Combination.{signed-length}
use Rattle.ps_table.specs.declared.costs.Costs.{Costs}
use Rattle.ps_table.specs.Tableau.{Tableau, rows_of}
use Rattle.ps_claims.specs.declared.claim_kind.ClaimKind.{ClaimKind}
use Rattle.ps_answer.specs.declared.answer.Dual.{Dual}
use Rattle.ps_claims.specs.Certificates.{IsMultiplier}
use Rattle.ps_generation.specs.declared.scaled.Scaled.{Scaled}
use Rattle.ps_generation.specs.Multiples.{whole_multiplier, AreScaled}
use Rattle.ps_generation.specs.Duals.{AreSigned, IsTableDual, row_numbers}

-- one more row
signed_one : (ns : List Node) (rs : List Row) (r : Row) (P : ℕ → ℤ)
    → signed (map (row_of ns) (rs ++ r ∷ [])) P ≡ signed (map (row_of ns) rs) P ++ signed_by r.side (P (length rs)) ∷ []
signed_one ns [] r P = refl
signed_one ns (s ∷ rs) r P = ap (λ ys. signed_by s.side (P 0) ∷ ys) (signed_one ns rs r (λ i. P (suc i)))

pub next_row : (rs : List Row) (P : ℕ → ℤ) (i : ℕ) (numbers more : List ℤ) (d : Row) (y z : ℤ) → i < length rs → AreSigned (take i rs) P numbers
    → y ≡ P i → z ≡ signed_by (get_or rs i d).side y → more ≡ numbers ++ z ∷ [] → AreSigned (take (i + 1) rs) P more
next_row rs P i numbers more d y z h so_far ey ez grown = λ ns.
    let r = get_or rs i d in
    let next : i + 1 ≡ suc i = omega arith in
    let split : take (i + 1) rs ≡ take i rs ++ r ∷ [] = ap (λ k. take k rs) next ∙ take-suc rs i d h in
    let place : length (take i rs) ≡ i = length-take-le i rs (omega (arith, h)) in
    let here : z ≡ signed_by r.side (P (length (take i rs))) = ez ∙ ap (signed_by r.side) ey ∙ ap (λ k. signed_by r.side (P k)) (sym place) in
    grown ∙ (λ k. so_far ns k ++ here k ∷ []) ∙ sym (signed_one ns (take i rs) r P) ∙ ap (λ ss. signed (map (row_of ns) ss) P) (sym split)

pub next_small : (rows more : List ℤ) (z : ℤ) → All IsMultiplier rows → IsMultiplier z → more ≡ rows ++ z ∷ [] → All IsMultiplier more
next_small rows more z h hz grown = subst (All IsMultiplier) (sym grown) (All-append IsMultiplier rows (z ∷ []) h (All-cons IsMultiplier z [] hz (All-nil IsMultiplier)))

-- the numbers of a table's rows
pub signed_same : (ns : List Node) (rs : List Row) (P Q : ℕ → ℤ) → ((i : ℕ) → i < length rs → P i ≡ Q i)
    → signed (map (row_of ns) rs) P ≡ signed (map (row_of ns) rs) Q
signed_same ns [] P Q h = refl
signed_same ns (r ∷ rs) P Q h =
    let here : P 0 ≡ Q 0 = h 0 (omega arith) in
    let rest = signed_same ns rs (λ i. P (suc i)) (λ i. Q (suc i)) (λ i l. h (suc i) (omega (arith, l))) in
    λ k. signed_by r.side (here k) ∷ rest k

pub count_rows : (rs : List Row) (P : ℕ → ℤ) (numbers : List ℤ) → AreSigned rs P numbers → length numbers ≡ length rs
count_rows rs P numbers h = ap length (h []) ∙ signed-length (map (row_of []) rs) P ∙ length-map rs (row_of [])

-- ---- the dual of a table
pub is_dual : (kind : ClaimKind) (rs : List Row) (t : Tableau) (costs : Costs) (s : Scaled) (d : Dual)
    → AreScaled t costs s → rows_of t ≡ suc (length rs) → d.top ≡ top_of kind s.multiple → d.head ≡ head_of kind (get_or s.numbers 0 (pos 0))
    → AreSigned rs (row_numbers s.numbers) d.rows → IsTableDual kind rs t costs d
is_dual kind rs t costs s d scaled count top head rows = λ ns q. record {
  top = top ∙ ap (top_of kind) scaled.multiple;
  head = head ∙ ap (head_of kind) (scaled.numbers 0 (omega (arith, count)));
  rows = rows ns ∙ signed_same ns rs (row_numbers s.numbers) (λ i. whole_multiplier t costs (suc i))
      (λ i l. scaled.numbers (suc i) (omega (arith, count, l)));
}
