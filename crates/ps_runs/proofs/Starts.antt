-- The first table, a table with one world more, and what each phase finds at its start.
use Rattle.std.proofs.Common.{◌≡◌, ◌≢◌, ◌⊎◌, ℕ, zero, suc, ◌+◌, ◌-◌, ◌<◌, ◌≤◌, pos, neg_ℤ, Bool, true, false, ◌&&◌, cond, eqb, leb, List, [], ◌∷◌, ◌++◌, length, get_or, sym, refl, ap, ◌∙◌, subst, arith, inl, inr}
use Rattle.std.proofs.lemmas.Bool.{cases_lt, true≢false}
use Rattle.std.proofs.lemmas.List.{length-append, get_or_append_left, get_or_past}
use Rattle.ps_meaning.specs.Rational.{Rational, fraction, whole, mul, neg, zero_q, one_q}
use Rattle.ps_meaning.specs.Order.{IsNonneg}
use Rattle.ps_meaning.proofs.Field.{zero_is_fraction, one_is_fraction, minus_one_is_fraction, ring_q, one_not_zero}
use Rattle.ps_meaning.proofs.Ring.{var, minus, none}
use Rattle.ps_meaning.proofs.Order.{zero_nonneg, above_nonneg, one_above}
use Rattle.ps_meaning.proofs.Sums.{sum_same}
use Rattle.ps_meaning.specs.Formula.{World, is_true}
use Rattle.ps_simplex.specs.Table.{unit_at, HasHomes, IsBasisTable, IsFirst, Widened}
use Rattle.ps_simplex.proofs.Columns.{stands_new, stands_more}
use Rattle.ps_simplex.proofs.Units.{less_one}
use Rattle.ps_runs.specs.Rows.{Setting, both_of, entries_of, artificial_rows, rows_of, columns_of, width_of, home_cost, cost_of, IsTable}
use Rattle.ps_runs.proofs.Columns.{home_at, has_homes, world_at, rows_length, home_cost_at, world_cost_at}
use Rattle.ps_runs.proofs.BasicSolution.{column_cases}
use Rattle.ps_claims.specs.declared.claim_kind.ClaimKind.{ClaimKind}
use Rattle.ps_claims.specs.declared.claim_kind.ClaimKind.TheVariants.{Nothing, Lower, Upper}

cond_nonneg : (b : Bool) → IsNonneg (cond b one_q zero_q)
cond_nonneg true = above_nonneg one_q one_above
cond_nonneg false = zero_nonneg

pub unit_nonneg : (i j : ℕ) → IsNonneg (unit_at i j)
unit_nonneg i j = cond_nonneg (eqb i j)

-- the table of the homes
pub first_table : (s : Setting) (basic : ℕ → ℕ) (X : ℕ → ℕ → Rational) → IsFirst (rows_of s) basic X → IsTable s [] basic X
first_table s basic X h = record {
  stands = stands_new (rows_of s) (width_of s []) (columns_of s []) X basic (omega arith) (omega arith) (has_homes s []) (λ i j l k. h.entries i j l (omega arith)) h.basics (omega arith);
  first = λ i l. let e = h.basics i l in omega (arith, e);
  last = λ i l. let e = h.basics i l in omega (arith, e);
  values = λ i l. subst IsNonneg (sym (h.entries i 0 l (omega arith))) (unit_nonneg i (0 - 1));
}

-- columns that are the same below the width may take each other's place
pub stands_same : (n w : ℕ) (A B X : ℕ → ℕ → Rational) (basic : ℕ → ℕ) → ((i : ℕ) → i < n → basic i < w) → HasHomes n B → ((m j : ℕ) → j < w → A m j ≡ B m j) → IsBasisTable n w A basic X → IsBasisTable n w B basic X
stands_same n w A B X basic hb homes same stands = record {
  homes = homes;
  belongs = λ m j hm hj.
      sum_same n (λ i. mul (X i j) (B m (basic i))) (λ i. mul (X i j) (A m (basic i))) (λ i l. ap (mul (X i j)) (sym (same m (basic i) (hb i l))))
      ∙ stands.belongs m j hm hj ∙ same m j hj;
  rows = λ i j l hj.
      stands.rows i j l hj ∙ sum_same n (λ m. mul (X i (suc m)) (A m j)) (λ m. mul (X i (suc m)) (B m j)) (λ m k. ap (mul (X i (suc m))) (same m j hj));
  here = stands.here;
  apart = stands.apart;
}

pub more_worlds : (s : Setting) (pool : List World) (w : World) (m j : ℕ) → j < width_of s pool → columns_of s pool m j ≡ columns_of s (pool ++ w ∷ []) m j
more_worlds s pool w m j h =
    elim (cases_lt j (suc (rows_of s))) [
      | inl l ↦ home_at s pool m j (omega arith) ∙ sym (home_at s (pool ++ w ∷ []) m j (omega arith))
      | inr l ↦
          ap (λ v. cond (leb j (rows_of s)) (unit_at m (j - 1)) (fraction (get_or (entries_of s v) m (pos 0)) 1)) (sym (get_or_append_left pool (w ∷ []) [] (j - suc (rows_of s)) (omega arith)))
    ]

pub longer : (s : Setting) (pool : List World) (w : World) → width_of s (pool ++ w ∷ []) ≡ suc (width_of s pool)
longer s pool w = let e = length-append pool (w ∷ []) in omega (arith, e)

-- a table with one world more
pub added_table : (s : Setting) (pool : List World) (w : World) (basic : ℕ → ℕ) (X Z : ℕ → ℕ → Rational) → IsTable s pool basic X
    → Widened (rows_of s) (width_of s pool) (columns_of s (pool ++ w ∷ [])) X Z
    → IsTable s (pool ++ w ∷ []) basic Z
added_table s pool w basic X Z t wide = record {
  stands =
      subst (λ k. IsBasisTable (rows_of s) k (columns_of s (pool ++ w ∷ [])) basic Z) (sym (longer s pool w))
      (stands_more (rows_of s) (width_of s pool) (columns_of s (pool ++ w ∷ [])) X Z basic (omega arith) t.last wide.same wide.made
      (stands_same (rows_of s) (width_of s pool) (columns_of s pool) (columns_of s (pool ++ w ∷ [])) X basic t.last (has_homes s (pool ++ w ∷ [])) (λ m j l. more_worlds s pool w m j l) t.stands));
  first = t.first;
  last = λ i l. let a = t.last i l in let e = longer s pool w in omega (arith, a, e);
  values = λ i l. subst IsNonneg (sym (wide.same i 0 l (omega arith))) (t.values i l);
}

-- ---- costs
whole_cond : (b : Bool) → whole (cond b (pos 1) (pos 0)) ≡ cond b one_q zero_q
whole_cond true = one_is_fraction
whole_cond false = zero_is_fraction

pub first_costs : (s : Setting) (pool : List World) (j : ℕ) → 0 < j → j < width_of s pool → cost_of Nothing s pool j ≡ cond (get_or (artificial_rows s) (j - 1) false) one_q zero_q
first_costs s pool j h k =
    elim (column_cases (rows_of s) (length pool) j h k) [
      | inl p ↦
          ap (cost_of Nothing s pool) p.2 ∙ home_cost_at Nothing s pool p.0 p.1 ∙ whole_cond (get_or (artificial_rows s) p.0 false)
          ∙ ap (λ i. cond (get_or (artificial_rows s) i false) one_q zero_q) (sym (ap (λ i. i - 1) p.2 ∙ less_one p.0))
      | inr p ↦
          ap (cost_of Nothing s pool) p.2 ∙ world_cost_at Nothing s pool p.0 p.1 ∙ zero_is_fraction
          ∙ ap (λ b. cond b one_q zero_q) (sym (ap (λ i. get_or (artificial_rows s) i false) (ap (λ i. i - 1) p.2 ∙ less_one (rows_of s + p.0)) ∙ get_or_past (artificial_rows s) (rows_of s + p.0) false (omega (arith, rows_length s))))
    ]

pub side_homes : (kind : ClaimKind) (s : Setting) (pool : List World) (j : ℕ) → kind ≢ Nothing → 0 < j → j ≤ rows_of s → cost_of kind s pool j ≡ zero_q
side_homes kind s pool zero side h k = absurd (omega arith)
side_homes kind s pool (suc i) side h k = home_cost_at kind s pool i (omega arith) ∙ ap whole (free kind (get_or (artificial_rows s) i false) side) ∙ zero_is_fraction
  where
    free : (kind : ClaimKind) (b : Bool) → kind ≢ Nothing → home_cost kind b ≡ pos 0
    free Nothing b n = absurd (n refl)
    free Lower b n = refl
    free Upper b n = refl

abbrev Unit_value : Rational → Rational → Type 0
Unit_value x one = (x ≡ zero_q) ⊎ (x ≡ one)

world_place : (s : Setting) (pool : List World) (j : ℕ) → rows_of s < j → j < width_of s pool → (k : ℕ) × (k < length pool) × (j ≡ suc (rows_of s + k))
world_place s pool j h k = (j - suc (rows_of s), omega arith, omega arith)

lower_value : (b : Bool) → Unit_value (whole (cond b (pos 1) (pos 0))) one_q
lower_value true = inr one_is_fraction
lower_value false = inl zero_is_fraction

upper_value : (b : Bool) → Unit_value (whole (neg_ℤ (cond b (pos 1) (pos 0)))) (neg one_q)
upper_value true = inr minus_one_is_fraction
upper_value false = inl zero_is_fraction

pub lower_worlds : (s : Setting) (pool : List World) (j : ℕ) → rows_of s < j → j < width_of s pool → (cost_of Lower s pool j ≡ zero_q) ⊎ (cost_of Lower s pool j ≡ one_q)
lower_worlds s pool j h l =
    let p = world_place s pool j h l in
    subst (λ x. Unit_value x one_q) (sym (ap (cost_of Lower s pool) p.2 ∙ world_cost_at Lower s pool p.0 p.1)) (lower_value (is_true (both_of s) (get_or pool p.0 [])))

pub upper_worlds : (s : Setting) (pool : List World) (j : ℕ) → rows_of s < j → j < width_of s pool → (cost_of Upper s pool j ≡ zero_q) ⊎ (cost_of Upper s pool j ≡ neg one_q)
upper_worlds s pool j h l =
    let p = world_place s pool j h l in
    subst (λ x. Unit_value x (neg one_q)) (sym (ap (cost_of Upper s pool) p.2 ∙ world_cost_at Upper s pool p.0 p.1)) (upper_value (is_true (both_of s) (get_or pool p.0 [])))

-- ---- row 0
pub row_homes : (s : Setting) (pool : List World) (j : ℕ) → j ≤ rows_of s → IsNonneg (columns_of s pool 0 j)
row_homes s pool j h = subst IsNonneg (sym (home_at s pool 0 j h)) (unit_nonneg 0 (j - 1))

pub row_worlds : (s : Setting) (pool : List World) (j : ℕ) → rows_of s < j → j < width_of s pool → (columns_of s pool 0 j ≡ zero_q) ⊎ (columns_of s pool 0 j ≡ one_q)
row_worlds s pool j h l =
    let p = world_place s pool j h l in
    subst (λ x. Unit_value x one_q) (sym (ap (columns_of s pool 0) p.2 ∙ world_at s pool 0 p.0)) (lower_value (is_true s.query.evidence (get_or pool p.0 [])))

minus_one_not_zero : zero_q ≡ neg one_q → ⊥
minus_one_not_zero e =
    one_not_zero
    (ring_q (one_q ∷ []) (var 0) (minus (minus (var 0))) refl
    ∙ ap neg (sym e) ∙ ring_q [] (minus none) none refl)

pub row_costly : (s : Setting) (pool : List World) (j : ℕ) → rows_of s < j → j < width_of s pool → cost_of Upper s pool j ≡ neg one_q → columns_of s pool 0 j ≡ one_q
row_costly s pool j h l e =
    let p = world_place s pool j h l in
    let w = get_or pool p.0 [] in
    ap (columns_of s pool 0) p.2 ∙ world_at s pool 0 p.0
    ∙ ap (λ b. whole (cond b (pos 1) (pos 0))) (evidence_true (is_true s.query.formula w) (is_true s.query.evidence w) (both_true (is_true (both_of s) w) (sym (ap (cost_of Upper s pool) p.2 ∙ world_cost_at Upper s pool p.0 p.1) ∙ e))) ∙ one_is_fraction
  where
    evidence_true : (a b : Bool) → (a && b) ≡ true → b ≡ true
    evidence_true true b e = e
    evidence_true false b e = absurd (true≢false (sym e))

    both_true : (b : Bool) → whole (neg_ℤ (cond b (pos 1) (pos 0))) ≡ neg one_q → b ≡ true
    both_true true e = refl
    both_true false e = absurd (minus_one_not_zero (sym zero_is_fraction ∙ e))
