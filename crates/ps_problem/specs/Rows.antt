-- The rows of bounds over nodes, and what they have in a world, by the truth values of nodes there.
use Rattle.std.specs.Prelude.{◌↔◌, ℕ, ◌<◌, ◌≤◌, ◌+◌, ℤ, pos, neg_ℤ, ◌+ℤ◌, ◌-ℤ◌, ◌*ℤ◌, unsigned_abs, Bool, true, All}
use Rattle.std.specs.Prelude.{if◌then◌else◌, List, [], ◌∷◌, map, length, slice_index_or, Option, Some, None, IfSome}
use Rattle.ps_meaning.specs.declared.side.Side.{Side}
use Rattle.ps_meaning.specs.declared.side.Side.TheVariants.{AtLeast, AtMost, Exactly}
use Rattle.ps_meaning.specs.Distribution.{Entry}
use Rattle.ps_meaning.specs.Bounds.{MeetsBound}
use Rattle.ps_meaning.specs.Rows as meaning
use Rattle.ps_meaning.specs.Rows.{MeetsRow}
use Rattle.ps_formula.specs.declared.node.Node.{Node}
use Rattle.ps_problem.specs.declared.limits.TheConstants.{GREATEST_SCALE, MOST_SIZES}
use Rattle.ps_problem.specs.declared.bound.Bound.{Bound}
use Rattle.ps_problem.specs.declared.row.Row.{Row}
use Rattle.ps_problem.specs.declared.sentence.Sentence.{Sentence}
use Rattle.ps_problem.specs.declared.sentence.Sentence.TheVariants as sentence
use Rattle.ps_problem.specs.Problems.{BoundIn, PlainIn, LinearIn, bounds_in, bound_of, side_at, right_at, weights_at, terms_size}
use Rattle.ps_problem.specs.Problems.{AreSmall, HasUpper, IsBoundIn, IsTerm}

-- the node is there
abbrev pub HasNode : List Bool → ℕ → Type 0
HasNode truth i = i < length truth

-- the node of a term is there
abbrev pub HasTerm : List Bool → ℕ × ℤ → Type 0
HasTerm truth t = HasNode truth t.0

-- the nodes of a bound's formula and condition are there
pub record HasNodesIn (truth : List Bool) (b : Bound) : Type 0 where
  pub both : b.both < length truth
  pub given : IfSome b.given (HasNode truth)

-- the nodes of a bound are there, and the numbers of a linear one are within their limit
abbrev pub HasRow : List Bool → BoundIn → Type 0
HasRow truth (PlainIn b) = HasNodesIn truth b
HasRow truth (LinearIn l upper) = All (HasTerm truth) l.terms × AreSmall l.terms (right_at l upper) × HasUpper l upper

-- 1 where a node is true, else 0
abbrev pub indicator_of : List Bool → ℕ → ℤ
indicator_of truth i = if slice_index_or truth i true then pos 1 else pos 0

-- 1 where a condition is true, which it always is where nothing is given
abbrev pub given_indicator : List Bool → Option ℕ → ℤ
given_indicator truth None = pos 1
given_indicator truth (Some i) = indicator_of truth i

-- a term's number where its node is true, else 0
abbrev pub term_over : List Bool → ℕ × ℤ → ℤ
term_over truth t = if slice_index_or truth t.0 true then t.1 else pos 0

-- the sum of the numbers of the terms whose nodes are true
abbrev pub terms_over : List Bool → List (ℕ × ℤ) → ℤ
terms_over truth [] = pos 0
terms_over truth (t ∷ ts) = term_over truth t +ℤ terms_over truth ts

-- what a bound's row has: of a plain one the denominator where formula and condition are true, less the numerator where the
-- condition is; of a linear one the numbers of the terms whose nodes are true, less the right side
abbrev pub bound_over : List Bool → BoundIn → ℤ
bound_over truth (PlainIn b) = (pos b.den *ℤ indicator_of truth b.both) -ℤ (pos b.num *ℤ given_indicator truth b.given)
bound_over truth (LinearIn l upper) = terms_over truth l.terms -ℤ right_at l upper

-- what a row has: the number that always counts, and those of the terms whose nodes are true
abbrev pub row_over : List Bool → Row → ℤ
row_over truth r = r.base +ℤ terms_over truth r.terms

-- the sizes of a row's numbers
abbrev pub row_size : Row → ℕ
row_size r = unsigned_abs r.base + terms_size r.terms

-- the row of a plain bound: the denominator at formula and condition together, less the numerator at the condition, or always
-- where nothing is given
abbrev pub plain_row : Bound → Option ℕ → Row
plain_row b None = record { side = b.side; unit = b.den; base = neg_ℤ (pos b.num); terms = (b.both, pos b.den) ∷ [] }
plain_row b (Some g) = record {
  side = b.side;
  unit = b.den;
  base = pos 0;
  terms = (b.both, pos b.den) ∷ (g, neg_ℤ (pos b.num)) ∷ [];
}

-- the row of a bound
abbrev pub row_at : BoundIn → Row
row_at (PlainIn b) = plain_row b b.given
row_at (LinearIn l upper) = record { side = side_at l upper; unit = l.scale; base = neg_ℤ (right_at l upper); terms = l.terms }

-- the rows of the bounds of sentences, in order
abbrev pub rows_in : List Sentence → List Row
rows_in ss = map row_at (bounds_in ss)

-- the row that a row's numbers stand for
abbrev pub row_of : List Node → Row → meaning.Row
row_of ns r = record { side = r.side; base = r.base; terms = weights_at ns r.terms }

-- the right sides of a linear sentence are within their limit
abbrev pub HasSmallRights : Sentence → Type 0
HasSmallRights (sentence.Plain first second) = Unit {0}
HasSmallRights (sentence.Linear l) = (unsigned_abs l.right ≤ MOST_SIZES) × (unsigned_abs (right_at l true) ≤ MOST_SIZES)

-- a row over nodes that are there, whose numbers are within their limits
pub record IsRow (ns : List Node) (r : Row) : Type 0 where
  pub nodes : All (IsTerm ns) r.terms
  pub unit_least : 1 ≤ r.unit
  pub unit_most : r.unit ≤ GREATEST_SCALE
  pub small : row_size r ≤ MOST_SIZES

-- a bound over nodes that are there is met exactly where its row is
abbrev pub BoundsAreRows : Type 0
BoundsAreRows = (ns : List Node) (b : BoundIn) (d : List Entry) → IsBoundIn ns b
    → MeetsBound (bound_of ns b) d ↔ MeetsRow (row_of ns (row_at b)) d

-- a number of a bound's row, with the sign that leaves it at most 0 where the bound is met: turned round at a lower bound
abbrev pub signed_by : Side → ℤ → ℤ
signed_by AtLeast z = neg_ℤ z
signed_by AtMost z = z
signed_by Exactly z = z
