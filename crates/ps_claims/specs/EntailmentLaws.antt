-- Laws of tight bounds.
use Rattle.std.specs.Prelude.{◌≡◌, ◌<◌, ◌↔◌, ℕ, pos, List}
use Rattle.ps_meaning.specs.Formula.{And}
use Rattle.ps_meaning.specs.Distribution.{Entry, weight}
use Rattle.ps_meaning.specs.declared.side.Side.TheVariants.{AtLeast, AtMost, Exactly}
use Rattle.ps_meaning.specs.Bounds.{Bound, MeetsBound}
use Rattle.ps_meaning.specs.Rational.{Rational, fraction}
use Rattle.ps_meaning.specs.Order as order
use Rattle.ps_claims.specs.Queries.{Query, bound_on, Holds, Reaches}

-- no lower bound of a query is above a value that an allowed distribution reaches
abbrev pub NoLowerBoundIsAboveReached : Type 0
NoLowerBoundIsAboveReached = (atoms : ℕ) (bounds : List Bound) (q : Query) (reached other : Rational) (d : List Entry)
    → Reaches atoms bounds q reached d → Holds atoms bounds q AtLeast other → order.AtMost other reached

-- no upper bound of a query is below a value that an allowed distribution reaches
abbrev pub NoUpperBoundIsBelowReached : Type 0
NoUpperBoundIsBelowReached = (atoms : ℕ) (bounds : List Bound) (q : Query) (reached other : Rational) (d : List Entry)
    → Reaches atoms bounds q reached d → Holds atoms bounds q AtMost other → order.AtMost reached other

-- a distribution that gives the evidence the weight e above 0 gives the query the value that is the weight of formula and
-- evidence over e
abbrev pub ReachedValuesAreQuotients : Type 0
ReachedValuesAreQuotients = (q : Query) (value : Rational) (d : List Entry) (e : ℕ) → 0 < e → weight d q.evidence ≡ pos e
    → MeetsBound (bound_on q Exactly value) d ↔ (fraction (weight d (And q.formula q.evidence)) e ≡ value)
