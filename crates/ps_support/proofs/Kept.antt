-- Multipliers that are 0 drop out of the sum of a dual.
use Rattle.std.proofs.Common.{◌≡◌, ℕ, zero, suc, ℤ, pos, negsuc, ◌+ℤ◌, ◌*ℤ◌, Bool, true, false, List, [], ◌∷◌, map, refl, ap, arith}
use Rattle.std.proofs.lemmas.Int.{ints}
use Rattle.std.proofs.Math.IntN.{zero-*ℤ}
use Rattle.ps_meaning.specs.Formula.{World}
use Rattle.ps_meaning.specs.Bounds.{Bound}
use Rattle.ps_meaning.specs.Rows.{Row, row_in}
use Rattle.ps_meaning.specs.Rational.{Rational}
use Rattle.ps_claims.specs.Queries.{Query, Holds}
use Rattle.ps_claims.specs.Duals.{Dual, HaveSigns, HasValueHead, AreZeroElsewhere, IsNeverAbove, claimed_in, combination, kept_of, sum_of_rows}
use Rattle.ps_claims.specs.declared.claim_kind.ClaimKind.{ClaimKind}
use Rattle.ps_claims.specs.declared.claim_kind.ClaimKind.TheVariants as claimed
use Rattle.ps_claims.specs.Rows.{AreRowsOf}
use Rattle.ps_claims.proofs.ProblemRows.{kept-rows}
use Rattle.ps_claims.proofs.Duality.{shows_lower, shows_upper}
use Rattle.ps_support.specs.declared.bound_side.BoundSide.{BoundSide}
use Rattle.ps_support.specs.declared.bound_side.BoundSide.TheVariants.{Lower, Upper}
use Rattle.ps_support.specs.Supports.{is_other, kind_of, side_of}

-- ---- plain lists
zero-of : (y : ℤ) → is_other y ≡ false → y ≡ pos 0
zero-of (pos zero) h = refl
zero-of (pos (suc n)) h = absurd (cc)
zero-of (negsuc n) h = absurd (cc)

-- those that are kept are the multipliers other than 0
pub zero_elsewhere : (ys : List ℤ) → AreZeroElsewhere (map is_other ys) ys
zero_elsewhere [] = tt
zero_elsewhere (y ∷ ys) = (zero-of y, zero_elsewhere ys)

-- in each world the rows that are kept sum, each times its multiplier, to what all rows do
pub sum_kept : (kept : List Bool) (rows : List Row) (ys : List ℤ) (w : World) → AreZeroElsewhere kept ys
    → sum_of_rows (kept_of kept rows) (kept_of kept ys) w ≡ sum_of_rows rows ys w
sum_kept [] [] [] w zeros = refl
sum_kept [] (r ∷ rs) [] w zeros = refl
sum_kept [] rows (y ∷ ys) w zeros = absurd zeros
sum_kept (k ∷ ks) rows [] w zeros = absurd zeros
sum_kept (k ∷ ks) [] (y ∷ ys) w zeros = refl
sum_kept (true ∷ ks) (r ∷ rs) (y ∷ ys) w zeros = ap (λ n. (y *ℤ row_in r w) +ℤ n) (sum_kept ks rs ys w zeros.1)
sum_kept (false ∷ ks) (r ∷ rs) (y ∷ ys) w zeros =
    let none : (y *ℤ row_in r w) ≡ pos 0 = rw (zeros.0 refl) (zero-*ℤ (row_in r w)) in
    omega (arith, ints, none, sum_kept ks rs ys w zeros.1)

signs-kept : (kept : List Bool) (rows : List Row) (ys : List ℤ) → HaveSigns rows ys → HaveSigns (kept_of kept rows) (kept_of kept ys)
signs-kept [] rows ys signs = tt
signs-kept (k ∷ ks) [] [] signs = tt
signs-kept (k ∷ ks) [] (y ∷ ys) signs = absurd signs
signs-kept (k ∷ ks) (r ∷ rs) [] signs = absurd signs
signs-kept (true ∷ ks) (r ∷ rs) (y ∷ ys) signs = (signs.0, signs-kept ks rs ys signs.1)
signs-kept (false ∷ ks) (r ∷ rs) (y ∷ ys) signs = signs-kept ks rs ys signs.1

-- ---- duals
-- a dual with the multipliers alone that are kept
abbrev of-kept : List Bool → Dual → Dual
of-kept kept d = record { top = d.top; head = d.head; rows = kept_of kept d.rows; steps = d.steps }

claimed-same : (kind : ClaimKind) (kept : List Bool) (q : Query) (d : Dual) (w : World) → claimed_in kind q (of-kept kept d) w ≡ claimed_in kind q d w
claimed-same claimed.Nothing kept q d w = refl
claimed-same claimed.Lower kept q d w = refl
claimed-same claimed.Upper kept q d w = refl

never-kept : (atoms : ℕ) (kind : ClaimKind) (kept : List Bool) (rows : List Row) (q : Query) (d : Dual) → AreZeroElsewhere kept d.rows → IsNeverAbove atoms (combination kind rows q d)
    → IsNeverAbove atoms (combination kind (kept_of kept rows) q (of-kept kept d))
never-kept atoms kind kept rows q d zeros never = record {
  at = λ w long.
      let least = never.at w long in
      omega (arith, ints, least, claimed-same kind kept q d w, sum_kept kept rows d.rows w zeros);
}

-- so a bound that a dual shows holds by those bounds alone whose multipliers aren't 0
pub holds_kept : (atoms : ℕ) (side : BoundSide) (kept : List Bool) (bounds : List Bound) (rows : List Row) (q : Query) (value : Rational) (d : Dual) → AreRowsOf bounds rows → HaveSigns rows d.rows
    → AreZeroElsewhere kept d.rows → HasValueHead value d → IsNeverAbove atoms (combination (kind_of side) rows q d) → Holds atoms (kept_of kept bounds) q (side_of side) value
holds_kept atoms Lower kept bounds rows q value d are signs zeros head never =
    shows_lower atoms (kept_of kept bounds) (kept_of kept rows) q value (of-kept kept d) (kept-rows kept bounds rows are) (signs-kept kept rows d.rows signs)
    (record { top = head.top; ratio = head.ratio }) (never-kept atoms claimed.Lower kept rows q d zeros never)
holds_kept atoms Upper kept bounds rows q value d are signs zeros head never =
    shows_upper atoms (kept_of kept bounds) (kept_of kept rows) q value (of-kept kept d) (kept-rows kept bounds rows are) (signs-kept kept rows d.rows signs)
    (record { top = head.top; ratio = head.ratio }) (never-kept atoms claimed.Upper kept rows q d zeros never)
