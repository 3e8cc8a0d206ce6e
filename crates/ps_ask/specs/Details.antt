-- What is told of the queries of a problem, and when it is true.
use Rattle.std.specs.Prelude.{◌≡◌, ◌&&◌, Bool, true, false, List, map, length, Option, Some, None, is_some, IfSome}
use Rattle.std.specs.List.{AllZip}
use Rattle.std.specs.List.Sorted.{IsPermutation}
use Rattle.ps_meaning.specs.Distribution.{total}
use Rattle.ps_meaning.specs.Rational.{Rational}
use Rattle.ps_problem.specs.declared.query.Query.{Query}
use Rattle.ps_problem.specs.Problems.{Parts, bounds_of}
use Rattle.ps_answer.specs.declared.answer.Dual.{Dual}
use Rattle.ps_answer.specs.declared.answer.Model.{Model}
use Rattle.ps_answer.specs.declared.answer.QueryAnswer.{QueryAnswer}
use Rattle.ps_answer.specs.declared.answer.QueryAnswer.TheVariants as query
use Rattle.ps_answer.specs.declared.answer.QueryPart.{QueryPart}
use Rattle.ps_answer.specs.declared.answer.SideAnswer.{SideAnswer}
use Rattle.ps_answer.specs.declared.answer.SideAnswer.TheVariants.{Bound, Open}
use Rattle.ps_claims.specs.Certificates.{IsSmallDual, entries}
use Rattle.ps_claims.specs.Queries.{Reaches}
use Rattle.ps_claims.specs.Validity.{query_of}
use Rattle.ps_support.specs.declared.bound_side.BoundSide.{BoundSide}
use Rattle.ps_support.specs.declared.bound_side.BoundSide.TheVariants.{Lower, Upper}
use Rattle.ps_support.specs.declared.example.Example.{Example}
use Rattle.ps_support.specs.Examples.{likely_of}
use Rattle.ps_support.specs.Supports.{IsShownBy, IsSupport}
use Rattle.ps_spoken.specs.declared.details.Details.{Details}
use Rattle.ps_spoken.specs.declared.details.SideDetails.{SideDetails}
use Rattle.ps_spoken.specs.Details.{no_side}
use Rattle.ps_ask.specs.declared.settings.Settings.{Settings}
use Rattle.ps_ask.specs.Known.{IsBoundAt}
use Rattle.ps_ask.specs.Reached.{IsReachedAsTold}

-- a dual that shows a bound of a query, with numbers that are small enough to tell of
pub record IsDualFor (p : Parts) (side : BoundSide) (q : Query) (value : Rational) (d : Dual) : Type 0 where
  pub shown : IsShownBy p side q value d
  pub small : IsSmallDual d

-- the side is a bound, and this is its dual
abbrev pub HasDual : SideAnswer → Dual → Type 0
HasDual (Bound value m d) x = x ≡ d
HasDual (Open c) x = ⊥

-- the last of two that there is
abbrev pub last_of : Option Dual → Option Dual → Option Dual
last_of before (Some d) = Some d
last_of before None = before

-- the worlds that are told are those of a distribution that meets all sentences, gives the condition weight and the query
-- the value
pub record IsExample (p : Parts) (q : Query) (e : Example) : Type 0 where
  pub model : Model
  pub reached : Reaches (length p.names) (bounds_of p) (query_of p.nodes q) e.value (entries model.worlds)
  pub total : model.total ≡ total (entries model.worlds)
  pub worlds : IsPermutation (map (likely_of model.total) model.worlds) e.worlds

-- what is told of a bound is true
pub record IsTrueOfSide (p : Parts) (q : Query) (side : BoundSide) (t : SideDetails) : Type 0 where
  pub support : IfSome t.support (IsSupport p q side)
  pub example : IfSome t.example (IsExample p q)

-- what is told of a query is true
pub record IsTrueOf (p : Parts) (q : Query) (t : Details) : Type 0 where
  pub reached : IsReachedAsTold p q t.reached
  pub lower : IsTrueOfSide p q Lower t.lower
  pub upper : IsTrueOfSide p q Upper t.upper

-- so it is of each of these queries
abbrev pub AreTrueOf : Parts → List Query → List Details → Type 0
AreTrueOf p qs ts = AllZip (IsTrueOf p) qs ts

-- ---- what is asked for
-- the side is a bound
abbrev pub is_bound : SideAnswer → Bool
is_bound (Bound value m d) = true
is_bound (Open c) = false

-- of a bound it is told what is asked for, at its value, and of a side that is open nothing
pub record IsAsAsked (s : Settings) (a : SideAnswer) (t : SideDetails) : Type 0 where
  pub support : is_some t.support ≡ s.tells_support && is_bound a
  pub supported : IfSome t.support (λ x. IsBoundAt a x.value)
  pub example : is_some t.example ≡ s.tells_examples && is_bound a
  pub reached : IfSome t.example (λ x. IsBoundAt a x.value)

-- so it is of both sides of an answer to a query, and nothing is told beneath one that has none
abbrev pub AreAsAsked : Settings → QueryAnswer → SideDetails → SideDetails → Type 0
AreAsAsked s (query.Bounds lower lower_trace upper upper_trace) below above = IsAsAsked s lower below × IsAsAsked s upper above
AreAsAsked s (query.Impossible d) below above = (below ≡ no_side) × (above ≡ no_side)
AreAsAsked s (query.Open c) below above = (below ≡ no_side) × (above ≡ no_side)

-- so it is told with a part
abbrev pub IsToldAsAsked : Settings → QueryPart → Details → Type 0
IsToldAsAsked s part t = AreAsAsked s part.answer t.lower t.upper

-- so it is with each of these parts
abbrev pub AreToldAsAsked : Settings → List QueryPart → List Details → Type 0
AreToldAsAsked s parts ts = AllZip (IsToldAsAsked s) parts ts
