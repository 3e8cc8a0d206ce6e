-- The columns and costs of a run, place by place.
use Rattle.std.proofs.Common.{◌≡◌, ℕ, suc, ◌+◌, ◌-◌, ◌<◌, ◌≤◌, pos, true, false, cond, List, [], map, length, get_or, get_or-append-add, sym, refl, ap, ◌∙◌, subst, arith}
use Rattle.std.proofs.lemmas.Bool.{lt-leb}
use Rattle.std.proofs.Common.{le-leb}
use Rattle.std.proofs.lemmas.List.{get_or-map, get_or_append_left, length-map}
use Rattle.ps_meaning.specs.Rational.{fraction, whole, zero_q, one_q}
use Rattle.ps_meaning.proofs.Field.{zero_is_fraction, one_is_fraction}
use Rattle.ps_meaning.specs.Formula.{World}
use Rattle.ps_simplex.specs.Table.{unit_at, HasHomes}
use Rattle.ps_simplex.proofs.Units.{less_one}
use Rattle.ps_runs.specs.Rows.{Setting, is_exact, entries_of, artificial_rows, rows_of, columns_of, home_cost, world_cost, costs_of, cost_of}
use Rattle.ps_claims.specs.declared.claim_kind.ClaimKind.{ClaimKind}
use Rattle.ps_claims.specs.declared.claim_kind.ClaimKind.TheVariants.{Nothing, Lower, Upper}

pub home_at : (s : Setting) (pool : List World) (m j : ℕ) → j ≤ rows_of s → columns_of s pool m j ≡ unit_at m (j - 1)
home_at s pool m j h = ap (λ b. cond b (unit_at m (j - 1)) (fraction (get_or (entries_of s (get_or pool (j - suc (rows_of s)) [])) m (pos 0)) 1)) (le-leb j (rows_of s) h)

pub has_homes : (s : Setting) (pool : List World) → HasHomes (rows_of s) (columns_of s pool)
has_homes s pool = λ m j l h. home_at s pool m j h

pub world_at : (s : Setting) (pool : List World) (m k : ℕ) → columns_of s pool m (suc (rows_of s + k)) ≡ whole (get_or (entries_of s (get_or pool k [])) m (pos 0))
world_at s pool m k =
    ap (λ b. cond b (unit_at m (suc (rows_of s + k) - 1)) (fraction (get_or (entries_of s (get_or pool (suc (rows_of s + k) - suc (rows_of s)) [])) m (pos 0)) 1)) (lt-leb (suc (rows_of s + k)) (rows_of s) (omega arith))
    ∙ ap (λ i. fraction (get_or (entries_of s (get_or pool i [])) m (pos 0)) 1) (place k)
  where
    place : (i : ℕ) → suc (rows_of s + i) - suc (rows_of s) ≡ i
    place i = omega arith

pub rows_length : (s : Setting) → length (artificial_rows s) ≡ rows_of s
rows_length s = ap suc (length-map s.rows (λ r. is_exact r.side))

costs_length : (kind : ClaimKind) (s : Setting) → length (map (home_cost kind) (artificial_rows s)) ≡ rows_of s
costs_length kind s = length-map (artificial_rows s) (home_cost kind) ∙ rows_length s

-- the cost of a home
pub home_cost_at : (kind : ClaimKind) (s : Setting) (pool : List World) (i : ℕ) → i < rows_of s → cost_of kind s pool (suc i) ≡ whole (home_cost kind (get_or (artificial_rows s) i false))
home_cost_at kind s pool i h =
    ap (λ k. fraction (get_or (costs_of kind s pool) k (pos 0)) 1) (less_one i)
    ∙ ap whole (get_or_append_left (map (home_cost kind) (artificial_rows s)) (map (world_cost kind s) pool) (pos 0) i (subst (λ n. i < n) (sym (costs_length kind s)) h) ∙ get_or-map (home_cost kind) (artificial_rows s) i false (pos 0) (subst (λ n. i < n) (sym (rows_length s)) h))

-- the cost of a world
pub world_cost_at : (kind : ClaimKind) (s : Setting) (pool : List World) (k : ℕ) → k < length pool → cost_of kind s pool (suc (rows_of s + k)) ≡ whole (world_cost kind s (get_or pool k []))
world_cost_at kind s pool k h =
    ap (λ i. fraction (get_or (costs_of kind s pool) i (pos 0)) 1) (less_one (rows_of s + k) ∙ ap (λ n. n + k) (sym (costs_length kind s)))
    ∙ ap whole (get_or-append-add (map (home_cost kind) (artificial_rows s)) (map (world_cost kind s) pool) k (pos 0) ∙ get_or-map (world_cost kind s) pool k [] (pos 0) h)

plain_cost : (kind : ClaimKind) → home_cost kind false ≡ pos 0
plain_cost Nothing = refl
plain_cost Lower = refl
plain_cost Upper = refl

-- a slack costs nothing
pub slack_cost : (kind : ClaimKind) (s : Setting) (pool : List World) (i : ℕ) → i < rows_of s → get_or (artificial_rows s) i false ≡ false → cost_of kind s pool (suc i) ≡ zero_q
slack_cost kind s pool i h e = home_cost_at kind s pool i h ∙ ap whole (ap (home_cost kind) e ∙ plain_cost kind) ∙ zero_is_fraction

-- in phase one an artificial costs 1
pub artificial_cost : (s : Setting) (pool : List World) (i : ℕ) → i < rows_of s → get_or (artificial_rows s) i false ≡ true → cost_of Nothing s pool (suc i) ≡ one_q
artificial_cost s pool i h e = home_cost_at Nothing s pool i h ∙ ap whole (ap (home_cost Nothing) e) ∙ one_is_fraction
