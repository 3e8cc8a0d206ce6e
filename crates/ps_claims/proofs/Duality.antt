-- Weak duality: what a dual's head says is true of every distribution, where the combination is above 0 in no world.
use Rattle.std.proofs.Common.{ℕ, pos, ◌-ℤ◌, ◌*ℤ◌, ◌≤ℤ◌, Bool, List, arith}
use Rattle.std.proofs.lemmas.Int.{ints}
use Rattle.ps_meaning.specs.Formula.{And}
use Rattle.ps_meaning.specs.Distribution.{Entry, weight, IsDistribution}
use Rattle.ps_meaning.specs.declared.side.Side.TheVariants.{AtLeast, AtMost}
use Rattle.ps_meaning.specs.Bounds.{Bound}
use Rattle.ps_meaning.specs.Rows.{Row, indicator, weighted_sum}
use Rattle.ps_meaning.proofs.Integers.{mul-nonneg, mul_sub, mul-one}
use Rattle.ps_meaning.proofs.Rows.{weighted_sum-add, weighted_sum-sub}
use Rattle.ps_meaning.specs.Rational.{Rational}
use Rattle.ps_claims.specs.Queries.{Query, IsImpossible, Holds}
use Rattle.ps_claims.specs.Duals.{Dual, ClaimKind, Nothing, Lower, Upper, HaveSigns, kept_of, AreZeroElsewhere, sum_of_rows, claimed_in, combination, IsNeverAbove, HasNothingHead, HasValueHead}
use Rattle.ps_claims.specs.Rows.{AreRowsOf}
use Rattle.ps_claims.proofs.ProblemRows.{rows-met, kept-rows}
use Rattle.ps_claims.proofs.Products.{ratio-least, ratio-most}
use Rattle.ps_claims.proofs.Sums.{weighted_sum-rows, weighted_sum-kept, weighted_sum-times, weighted_sum-never_above}

-- over a distribution the claim alone sums to at most 0, where the rows sum to at least 0
claim-most : (kind : ClaimKind) (atoms : ℕ) (rows : List Row) (q : Query) (a : Dual) (d : List Entry) → IsDistribution atoms d → IsNeverAbove atoms (combination kind rows q a)
    → pos 0 ≤ℤ weighted_sum d (sum_of_rows rows a.rows) → weighted_sum d (claimed_in kind q a) ≤ℤ pos 0
claim-most kind atoms rows q a d is never least =
    let all = weighted_sum-never_above atoms d (combination kind rows q a) is never in
    omega (arith, ints, all, least, weighted_sum-add d (claimed_in kind q a) (sum_of_rows rows a.rows))

nothing_weighs : (atoms : ℕ) (rows : List Row) (q : Query) (a : Dual) (d : List Entry) → IsDistribution atoms d → HasNothingHead a → IsNeverAbove atoms (combination Nothing rows q a)
    → pos 0 ≤ℤ weighted_sum d (sum_of_rows rows a.rows) → pos 1 ≤ℤ weight d q.evidence → ⊥
nothing_weighs atoms rows q a d is head never least positive =
    let e = weight d q.evidence in
    let most = claim-most Nothing atoms rows q a d is never least in
    let sum = weighted_sum-times d a.head q.evidence in
    let more : pos 0 ≤ℤ (a.head *ℤ (e -ℤ pos 1)) = mul-nonneg a.head (e -ℤ pos 1) (omega (arith, ints, head.head)) (omega (arith, ints, positive)) in
    omega (arith, ints, most, sum, more, mul_sub a.head e (pos 1), mul-one a.head, head.head)

pub shows_nothing : (atoms : ℕ) (bounds : List Bound) (rows : List Row) (q : Query) (a : Dual) → AreRowsOf bounds rows → HaveSigns rows a.rows → HasNothingHead a → IsNeverAbove atoms (combination Nothing rows q a) → IsImpossible atoms bounds q.evidence
shows_nothing atoms bounds rows q a are signs head never = record {
  none = λ d h. nothing_weighs atoms rows q a d h.model.distribution head never (weighted_sum-rows rows a.rows d signs (rows-met bounds rows d are h.model.met)) h.positive;
}

-- the bounds with a multiplier other than 0 allow nothing by themselves
pub shows_nothing_kept : (atoms : ℕ) (kept : List Bool) (bounds : List Bound) (rows : List Row) (q : Query) (a : Dual) → AreRowsOf bounds rows → HaveSigns rows a.rows → AreZeroElsewhere kept a.rows → HasNothingHead a
    → IsNeverAbove atoms (combination Nothing rows q a) → IsImpossible atoms (kept_of kept bounds) q.evidence
shows_nothing_kept atoms kept bounds rows q a are signs zero head never = record {
  none = λ d h. nothing_weighs atoms rows q a d h.model.distribution head never (weighted_sum-kept kept rows a.rows d signs zero (rows-met (kept_of kept bounds) (kept_of kept rows) d (kept-rows kept bounds rows are) h.model.met)) h.positive;
}

pub shows_lower : (atoms : ℕ) (bounds : List Bound) (rows : List Row) (q : Query) (value : Rational) (a : Dual) → AreRowsOf bounds rows → HaveSigns rows a.rows → HasValueHead value a → IsNeverAbove atoms (combination Lower rows q a) → Holds atoms bounds q AtLeast value
shows_lower atoms bounds rows q value a are signs head never = record {
  met = λ d h.
      let e = weight d q.evidence in
      let b = weight d (And q.formula q.evidence) in
      let most = claim-most Lower atoms rows q a d h.model.distribution never (weighted_sum-rows rows a.rows d signs (rows-met bounds rows d are h.model.met)) in
      let sum = weighted_sum-sub d (λ w. a.head *ℤ indicator q.evidence w) (λ w. a.top *ℤ indicator (And q.formula q.evidence) w) in
      let claim : (a.head *ℤ e) ≤ℤ (a.top *ℤ b) = omega (arith, ints, most, sum, weighted_sum-times d a.head q.evidence, weighted_sum-times d a.top (And q.formula q.evidence)) in
      ratio-least a.head a.top value.over (pos value.under) e b head.ratio head.top (omega (arith, ints)) claim;
}

pub shows_upper : (atoms : ℕ) (bounds : List Bound) (rows : List Row) (q : Query) (value : Rational) (a : Dual) → AreRowsOf bounds rows → HaveSigns rows a.rows → HasValueHead value a → IsNeverAbove atoms (combination Upper rows q a) → Holds atoms bounds q AtMost value
shows_upper atoms bounds rows q value a are signs head never = record {
  met = λ d h.
      let e = weight d q.evidence in
      let b = weight d (And q.formula q.evidence) in
      let most = claim-most Upper atoms rows q a d h.model.distribution never (weighted_sum-rows rows a.rows d signs (rows-met bounds rows d are h.model.met)) in
      let sum = weighted_sum-sub d (λ w. a.top *ℤ indicator (And q.formula q.evidence) w) (λ w. a.head *ℤ indicator q.evidence w) in
      let claim : (a.top *ℤ b) ≤ℤ (a.head *ℤ e) = omega (arith, ints, most, sum, weighted_sum-times d a.head q.evidence, weighted_sum-times d a.top (And q.formula q.evidence)) in
      ratio-most a.head a.top value.over (pos value.under) e b head.ratio head.top (omega (arith, ints)) claim;
}
