-- What is told beneath the bounds of queries is true.
use Rattle.std.proofs.Common.{◌≡◌, pos, ◌≤ℤ◌, inl, inr, List, [], ◌∷◌, map, length, All, sym, subst, arith}
use Rattle.std.specs.Prelude.{◌⊎◌, Option, Some, None, IfSome}
use Rattle.std.specs.List.Sorted.{IsPermutation}
use Rattle.std.proofs.lemmas.Int.{ints}
use Rattle.std.proofs.lemmas.List.Elements.{All-nil, All-cons, All-head, All-tail}
use Rattle.ps_meaning.specs.Distribution.{Entry, total}
use Rattle.ps_meaning.specs.Formula.{Truth}
use Rattle.ps_meaning.specs.Rational.{Rational}
use Rattle.ps_meaning.proofs.Weights.{total-positive, weight-nonneg}
use Rattle.ps_problem.specs.declared.query.Query.{Query}
use Rattle.ps_problem.specs.Problems.{Parts}
use Rattle.ps_table.specs.declared.event.Event.{Event}
use Rattle.ps_answer.specs.declared.answer.Dual.{Dual}
use Rattle.ps_answer.specs.declared.answer.Model.{Model}
use Rattle.ps_answer.specs.declared.answer.Weighted.{Weighted}
use Rattle.ps_answer.specs.declared.answer.QueryPart.{QueryPart}
use Rattle.ps_answer.specs.declared.answer.QueryAnswer.{QueryAnswer}
use Rattle.ps_answer.specs.declared.answer.QueryAnswer.TheVariants as query
use Rattle.ps_answer.specs.declared.answer.SideAnswer.{SideAnswer}
use Rattle.ps_answer.specs.declared.answer.SideAnswer.TheVariants.{Bound, Open}
use Rattle.ps_claims.specs.Certificates.{entries}
use Rattle.ps_claims.specs.declared.claim_kind.ClaimKind.{ClaimKind}
use Rattle.ps_claims.specs.declared.claim_kind.ClaimKind.TheVariants.{Lower, Upper}
use Rattle.ps_guess.specs.Solutions.{IsAnsweredPart}
use Rattle.ps_guess.specs.Trials.{IsFoundSide}
use Rattle.ps_support.specs.declared.bound_side.BoundSide.{BoundSide}
use Rattle.ps_support.specs.declared.example.Example.{Example}
use Rattle.ps_support.specs.Examples.{AreWeights, HasTotal, likely_of}
use Rattle.ps_support.specs.Supports.{kind_of}
use Rattle.ps_ask.specs.declared.settings.Settings.{Settings}
use Rattle.ps_ask.specs.Details.{HasDual, IsDualFor, IsExample, last_of}
use Rattle.ps_ask.specs.Fronts.{IsLatePart, IsShownPart}
use Rattle.ps_ask.specs.Known.{IsBoundAt, IsProvedFor, IsProvedSide}

-- ---- what is shown is proved
pub proved_for : (s : Settings) (p : Parts) (q : Query) (part : QueryPart) → IsShownPart s p q part → IsProvedFor p q part.answer
proved_for s p q part h = by h.judged
  where
    by : IsAnsweredPart s.limits p q part ⊎ IsLatePart s p q part → IsProvedFor p q part.answer
    by (inl answered) = record { valid = answered.valid; printed = answered.printed }
    by (inr late) = record { valid = late.valid; printed = late.printed }

both-proved : (p : Parts) (q : Query) (lower upper : SideAnswer) (below above : List Event) → IsProvedFor p q (query.Bounds lower below upper above)
    → IsProvedSide p Lower q lower × IsProvedSide p Upper q upper
both-proved p q lower upper below above h = (record { valid = h.valid.0; printed = h.printed.0 }, record { valid = h.valid.1; printed = h.printed.1 })

pub proved_lower : (p : Parts) (q : Query) (a : QueryAnswer) (lower upper : SideAnswer) (below above : List Event) → a ≡ query.Bounds lower below upper above → IsProvedFor p q a
    → IsProvedSide p Lower q lower
proved_lower p q a lower upper below above e h = (both-proved p q lower upper below above (subst (IsProvedFor p q) e h)).0

pub proved_upper : (p : Parts) (q : Query) (a : QueryAnswer) (lower upper : SideAnswer) (below above : List Event) → a ≡ query.Bounds lower below upper above → IsProvedFor p q a
    → IsProvedSide p Upper q upper
proved_upper p q a lower upper below above e h = (both-proved p q lower upper below above (subst (IsProvedFor p q) e h)).1

-- ---- duals
of-proved : (p : Parts) (side : BoundSide) (q : Query) (value : Rational) (m : Model) (d : Dual) → IsProvedSide p (kind_of side) q (Bound value m d) → IsDualFor p side q value d
of-proved p side q value m d h = record { shown = record { head = h.valid.head; refuted = h.valid.refuted }; small = h.printed.1.numbers }

of-found : (p : Parts) (side : BoundSide) (q : Query) (value : Rational) (m : Model) (d : Dual) → IsFoundSide p (kind_of side) q (Bound value m d) → IsDualFor p side q value d
of-found p side q value m d h = record { shown = record { head = h.0.head; refuted = h.0.refuted }; small = h.2.numbers }

pub shown_by : (p : Parts) (side : BoundSide) (q : Query) (value : Rational) (m : Model) (d : Dual) (a : SideAnswer) → a ≡ Bound value m d → IsProvedSide p (kind_of side) q a
    → IsDualFor p side q value d
shown_by p side q value m d a e h = of-proved p side q value m d (subst (IsProvedSide p (kind_of side) q) e h)

pub found_by : (p : Parts) (side : BoundSide) (q : Query) (value : Rational) (a : SideAnswer) (o : Option Dual) → IfSome o (HasDual a) → IsBoundAt a value → IsFoundSide p (kind_of side) q a
    → IfSome o (IsDualFor p side q value)
found_by p side q value (Bound x m d) (Some e) is at h =
    subst (IsDualFor p side q value) (sym is) (subst (λ (y : Rational). IsDualFor p side q y d) at (of-found p side q x m d h))
found_by p side q value (Open c) (Some e) is at h = absurd is
found_by p side q value a None is at h = tt

-- the last of two duals that there is shows what both do
pub last_shows : (p : Parts) (side : BoundSide) (q : Query) (value : Rational) (before last : Option Dual) → IfSome before (IsDualFor p side q value) → IfSome last (IsDualFor p side q value)
    → IfSome (last_of before last) (IsDualFor p side q value)
last_shows p side q value before (Some d) h k = k
last_shows p side q value before None h k = h

-- ---- examples
-- no world of a distribution weighs more than all
each-most : (ws : List Weighted) → All (λ (e : Entry). pos 1 ≤ℤ e.weight) (entries ws) → All (λ (w : Weighted). (pos 1 ≤ℤ w.weight) × (w.weight ≤ℤ total (entries ws))) ws
each-most [] h = All-nil _
each-most (w ∷ ws) h =
    let first : pos 1 ≤ℤ w.weight = All-head (λ (e : Entry). pos 1 ≤ℤ e.weight) _ (entries ws) h in
    let later = All-tail (λ (e : Entry). pos 1 ≤ℤ e.weight) _ (entries ws) h in
    let more : pos 0 ≤ℤ total (entries ws) = weight-nonneg (entries ws) Truth later in
    All-cons (λ (x : Weighted). (pos 1 ≤ℤ x.weight) × (x.weight ≤ℤ total (entries (w ∷ ws)))) w ws (first, omega (arith, ints, more))
    (λ i x lt. (let k = each-most ws later i x lt in (k.0, omega (arith, ints, k.1, first))))

module _ (p : Parts) (kind : ClaimKind) (q : Query) (value : Rational) (m : Model) (d : Dual) (h : IsProvedSide p kind q (Bound value m d)) where
  total-of : HasTotal m
  total-of =
      let most = total-positive (length p.names) (entries m.worlds) h.valid.reached.allowed.model.distribution in
      let same = h.valid.basic.total in
      omega (arith, ints, most, same)

  weights-of : AreWeights m
  weights-of = λ i w lt.
      let each = each-most m.worlds h.valid.reached.allowed.model.distribution.weighed i w lt in
      let same = h.valid.basic.total in
      let few = h.printed.0.total in
      omega (arith, ints, each.0, each.1, same, few)

  example-of : (e : Example) → e.value ≡ value → IsPermutation (map (likely_of m.total) m.worlds) e.worlds → IsExample p q e
  example-of e same moved = record {
    model = m;
    reached = rw same h.valid.reached;
    total = h.valid.basic.total;
    worlds = moved;
  }

-- the same of a side that is this bound
module _ (p : Parts) (kind : ClaimKind) (q : Query) (value : Rational) (m : Model) (d : Dual) (a : SideAnswer) (is : a ≡ Bound value m d) (h : IsProvedSide p kind q a) where
  so : IsProvedSide p kind q (Bound value m d)
  so = subst (IsProvedSide p kind q) is h

  pub example_total : HasTotal m
  example_total = total-of p kind q value m d so

  pub example_weights : AreWeights m
  example_weights = weights-of p kind q value m d so

  pub example_is : (e : Example) → e.value ≡ value → IsPermutation (map (likely_of m.total) m.worlds) e.worlds → IsExample p q e
  example_is e same moved = example-of p kind q value m d so e same moved
