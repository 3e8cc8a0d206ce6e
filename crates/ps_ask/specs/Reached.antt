-- Values of a query in distributions that meet all bounds, and between which numbers they show that its own bounds lie.
use Rattle.std.specs.Prelude.{ℕ, List, Option, Some, None, IfSome, length}
use Rattle.std.specs.List.{AllZip}
use Rattle.ps_meaning.specs.Bounds.{Bound}
use Rattle.ps_meaning.specs.Distribution.{Entry}
use Rattle.ps_meaning.specs.Order.{AtMost}
use Rattle.ps_meaning.specs.Rational.{Rational, zero_q, one_q}
use Rattle.ps_meaning.specs.declared.side.Side.TheVariants as side
use Rattle.ps_problem.specs.declared.query.Query as stored
use Rattle.ps_problem.specs.Problems.{Parts, bounds_of}
use Rattle.ps_frac.specs.Decimals.{HasDecimals}
use Rattle.ps_claims.specs.Queries.{Query, Holds, Reaches}
use Rattle.ps_claims.specs.Validity.{query_of}
use Rattle.ps_spoken.specs.declared.reached.Reached.{Reached}

-- some distribution that meets each bound and gives the evidence positive probability gives the query this value, which has
-- decimals
pub record IsReached (p : Parts) (q : stored.Query) (value : Rational) : Type 0 where
  pub worlds : List Entry
  pub reached : Reaches (length p.names) (bounds_of p) (query_of p.nodes q) value worlds
  pub decimals : HasDecimals value

-- both values are reached
pub record AreReached (p : Parts) (q : stored.Query) (r : Reached) : Type 0 where
  pub least : IsReached p q r.least
  pub greatest : IsReached p q r.greatest

-- what is told as reached is
abbrev pub IsReachedAsTold : Parts → stored.Query → Option Reached → Type 0
IsReachedAsTold p q o = IfSome o (AreReached p q)

-- so it is of each of these queries
abbrev pub AreReachedAsTold : Parts → List stored.Query → List (Option Reached) → Type 0
AreReachedAsTold p qs rs = AllZip (IsReachedAsTold p) qs rs

-- of every problem and query: what is told with one more value is reached where both are
abbrev pub KeepsReached : Option Reached → Option Rational → Option Reached → Type 0
KeepsReached old value new = (p : Parts) (q : stored.Query) → IsReachedAsTold p q old → IfSome value (IsReached p q)
    → IsReachedAsTold p q new

-- the values are from the least one to the greatest one
abbrev pub IsWithin : Reached → Rational → Type 0
IsWithin r value = AtMost r.least value × AtMost value r.greatest

-- a value is among what is reached, where there is one
abbrev pub IsAmong : Option Reached → Rational → Type 0
IsAmong (Some r) value = IsWithin r value
IsAmong None value = ⊥

-- what was among it before still is, and so is one more value, where there is one
pub record IsTakenIn (old : Option Reached) (value : Option Rational) (new : Option Reached) : Type 0 where
  pub kept : (x : Rational) → IsAmong old x → IsAmong new x
  pub taken : IfSome value (IsAmong new)

-- ---- bounds
-- the greatest lower bound of a query lies between two numbers: one is a lower bound, and no lower bound is above the other
pub record HasLowerBetween (atoms : ℕ) (bounds : List Bound) (q : Query) (proved reached : Rational) : Type 0 where
  pub holds : Holds atoms bounds q side.AtLeast proved
  pub none_above : (x : Rational) → Holds atoms bounds q side.AtLeast x → AtMost x reached

-- its least upper bound lies between two numbers: one is an upper bound, and no upper bound is below the other
pub record HasUpperBetween (atoms : ℕ) (bounds : List Bound) (q : Query) (reached proved : Rational) : Type 0 where
  pub holds : Holds atoms bounds q side.AtMost proved
  pub none_below : (x : Rational) → Holds atoms bounds q side.AtMost x → AtMost reached x

-- the bounds of a query lie between 0 and the least value that is reached, and between the greatest one and 1
pub record LieBetween (p : Parts) (q : stored.Query) (r : Reached) : Type 0 where
  pub lower : HasLowerBetween (length p.names) (bounds_of p) (query_of p.nodes q) zero_q r.least
  pub upper : HasUpperBetween (length p.names) (bounds_of p) (query_of p.nodes q) r.greatest one_q

-- so they do of every problem and query of which these values are reached
abbrev pub ReachedValuesBound : Type 0
ReachedValuesBound = (p : Parts) (q : stored.Query) (r : Reached) → AreReached p q r → LieBetween p q r
