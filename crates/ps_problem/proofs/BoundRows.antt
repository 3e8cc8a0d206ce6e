-- Bounds over nodes and their rows.
use Rattle.std.proofs.Common.{◌≡◌, ◌↔◌, ℕ, ℤ, pos, neg_ℤ, ◌+◌, ◌<◌, ◌≤◌, ◌+ℤ◌, ◌*ℤ◌, Bool, true, false, List, [], ◌∷◌, map, length, All, Option, Some, None, IfSome, unwrap_or, unsigned_abs, refl, sym, ap, subst, ◌∙◌, arith}
use Rattle.std.proofs.lemmas.Int.{ints}
use Rattle.std.proofs.lemmas.List.{length-map}
use Rattle.std.proofs.lemmas.List.Elements.{All-nil, All-cons, All-map, All-weaker}
use Rattle.ps_meaning.specs.Formula.{Formula, And, Truth}
use Rattle.ps_meaning.specs.Distribution.{Entry, weight, total}
use Rattle.ps_meaning.specs.Bounds as meaning
use Rattle.ps_meaning.specs.Bounds.{Compares, MeetsBound, sum_of_weights}
use Rattle.ps_meaning.specs.Rows as rows
use Rattle.ps_meaning.specs.Rows.{weighted_sum, row_in, MeetsRow}
use Rattle.ps_meaning.proofs.BoundRows.{bounds_are_rows, row-sum}
use Rattle.ps_meaning.proofs.Weights.{weight-and_truth}
use Rattle.ps_meaning.proofs.Integers.{mul-zero}
use Rattle.ps_meaning.proofs.IntRing.{*ℤ_comm}
use Rattle.ps_formula.specs.declared.node.Node.{Node}
use Rattle.ps_problem.specs.declared.limits.TheConstants.{GREATEST_SCALE, MOST_SIZES}
use Rattle.ps_problem.specs.declared.bound.Bound.{Bound}
use Rattle.ps_problem.specs.declared.sentence.Linear.{Linear}
use Rattle.ps_problem.specs.declared.sentence.Sentence.{Sentence}
use Rattle.ps_problem.specs.Problems.{BoundIn, PlainIn, LinearIn, bounds_in, bound_of, tree_at, given_at, IsBoth, IsBound, IsBoundIn, IsTerm, IsLinear, AreBounds, AreSmall, right_at}
use Rattle.ps_problem.specs.Rows.{plain_row, row_at, row_of, IsRow, BoundsAreRows, rows_in, row_size}

-- the bound that a plain bound's numbers stand for, under a condition
abbrev plain_bound : List Node → Bound → Option ℕ → meaning.Bound
plain_bound ns b given = meaning.Plain (record { formula = tree_at ns b.formula; given = given_at ns given; side = b.side; num = pos b.num; den = pos b.den })

total-truth : (d : List Entry) → weight d Truth ≡ total d
total-truth d = refl

plain-sum : (ns : List Node) (b : Bound) (given : Option ℕ) (d : List Entry) → IsBoth ns b.formula given b.both
    → weighted_sum d (row_in (row_of ns (plain_row b given))) ≡ weighted_sum d (row_in (rows.row_of (plain_bound ns b given)))
plain-sum ns b (Some g) d both = ap (λ f. weighted_sum d (row_in (record { side = b.side; base = pos 0; terms = (f, pos b.den) ∷ (tree_at ns g, neg_ℤ (pos b.num)) ∷ [] }))) both
plain-sum ns b None d both =
    let e : weight d (tree_at ns b.both) ≡ weight d (And (tree_at ns b.formula) Truth) = ap (λ n. weight d (tree_at ns n)) both ∙ sym (weight-and_truth d (tree_at ns b.formula)) in
    let x = row-sum (row_of ns (plain_row b None)) d in
    let y = row-sum (rows.row_of (plain_bound ns b None)) d in
    let p = ap (λ z. pos b.den *ℤ z) e in
    let q = ap (λ z. neg_ℤ (pos b.num) *ℤ z) (total-truth d) in
    let z = mul-zero (total d) in
    let c = *ℤ_comm (pos 0) (total d) in
    omega (arith, ints, x, y, p, q, z, c)

pub bounds-rows : BoundsAreRows
bounds-rows ns (LinearIn l upper) d h = bounds_are_rows (bound_of ns (LinearIn l upper)) d
bounds-rows ns (PlainIn b) d h = by b.given h.nodes.both_is
  where
    by : (given : Option ℕ) → IsBoth ns b.formula given b.both → MeetsBound (plain_bound ns b given) d ↔ MeetsRow (row_of ns (plain_row b given)) d
    by None both = subst (λ z. MeetsBound (plain_bound ns b None) d ↔ Compares b.side z (pos 0)) (sym (plain-sum ns b None d both)) (bounds_are_rows (plain_bound ns b None) d)
    by (Some g) both = subst (λ z. MeetsBound (plain_bound ns b (Some g)) d ↔ Compares b.side z (pos 0)) (sym (plain-sum ns b (Some g) d both)) (bounds_are_rows (plain_bound ns b (Some g)) d)

size-neg : (z : ℤ) → unsigned_abs (neg_ℤ z) ≡ unsigned_abs z
size-neg z = omega (arith, ints)

-- the right side of a bound of a linear sentence in order is small
small-right : (ts : List (ℕ × ℤ)) (right : ℤ) (upper : Option ℤ) → AreSmall ts right → IfSome upper (AreSmall ts) → AreSmall ts (unwrap_or upper right)
small-right ts right None h k = h
small-right ts right (Some r) h k = k

pub small-at : (ns : List Node) (l : Linear) (upper : Bool) → IsLinear ns l → AreSmall l.terms (right_at l upper)
small-at ns l false h = h.small
small-at ns l true h = small-right l.terms l.right l.upper h.small h.small_upper

-- the row of a bound in order is in order
is-row : (ns : List Node) (b : BoundIn) → IsBoundIn ns b → IsRow ns (row_at b)
is-row ns (LinearIn l upper) h = record {
  nodes = h.0.nodes;
  unit_least = h.0.scale_least;
  unit_most = h.0.scale_most;
  small = (let s = small-at ns l upper h.0 in let n = size-neg (right_at l upper) in omega (arith, s, n));
}
is-row ns (PlainIn b) h = by b.given h.nodes.given_there
  where
    least : 1 ≤ b.den
    least = h.den_least

    most : b.den ≤ 1000000
    most = h.den_most

    num : b.num ≤ b.den
    num = h.num_most

    by : (given : Option ℕ) → IfSome given (λ g. g < length ns) → IsRow ns (plain_row b given)
    by None t = record {
      nodes = All-cons (IsTerm ns) (b.both, pos b.den) [] h.nodes.both_there (All-nil (IsTerm ns));
      unit_least = least;
      unit_most = most;
      small = (let n = size-neg (pos b.num) in omega (arith, n, least, most, num));
    }
    by (Some g) t = record {
      nodes = All-cons (IsTerm ns) (b.both, pos b.den) ((g, neg_ℤ (pos b.num)) ∷ []) h.nodes.both_there
          (All-cons (IsTerm ns) (g, neg_ℤ (pos b.num)) [] t (All-nil (IsTerm ns)));
      unit_least = least;
      unit_most = most;
      small = (let n = size-neg (pos b.num) in omega (arith, n, least, most, num));
    }

pub are-rows : (ns : List Node) (ss : List Sentence) → AreBounds ns (bounds_in ss) → All (IsRow ns) (rows_in ss)
are-rows ns ss h = All-map (IsRow ns) row_at (bounds_in ss) (All-weaker (IsBoundIn ns) (λ b. IsRow ns (row_at b)) (is-row ns) (bounds_in ss) h)

pub rows-length : (ss : List Sentence) → length (rows_in ss) ≡ length (bounds_in ss)
rows-length ss = length-map (bounds_in ss) row_at
