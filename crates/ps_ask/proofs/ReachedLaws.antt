-- What is reached of queries that are shown.
use Rattle.std.proofs.Common.{◌≡◌, List, Option, Some, None, length, subst}
use Rattle.std.specs.Prelude.{IfSome}
use Rattle.ps_meaning.specs.Rational.{Rational}
use Rattle.ps_problem.specs.declared.query.Query.{Query}
use Rattle.ps_problem.specs.Problems.{Parts, bounds_of}
use Rattle.ps_table.specs.declared.event.Event.{Event}
use Rattle.ps_frac.specs.Decimals.{HasDecimals}
use Rattle.ps_answer.specs.declared.answer.Model.{Model}
use Rattle.ps_answer.specs.declared.answer.QueryAnswer.{QueryAnswer}
use Rattle.ps_answer.specs.declared.answer.QueryPart.{QueryPart}
use Rattle.ps_answer.specs.declared.answer.QueryAnswer.TheVariants as query
use Rattle.ps_answer.specs.declared.answer.SideAnswer.{SideAnswer}
use Rattle.ps_answer.specs.declared.answer.SideAnswer.TheVariants as side
use Rattle.ps_answer.specs.declared.answer.Verdict.{Verdict}
use Rattle.ps_answer.specs.declared.answer.Verdict.TheVariants.{Consistent}
use Rattle.ps_meaning.specs.declared.side.Side.{Side}
use Rattle.ps_claims.specs.Answers.{IsRightSide, IsRightVerdict, ShowsConsistent}
use Rattle.ps_claims.specs.Certificates.{entries, model_of}
use Rattle.ps_claims.specs.Queries.{Reaches}
use Rattle.ps_claims.specs.Validity.{query_of}
use Rattle.ps_valid.specs.Answers.{side_of, verdict_of}
use Rattle.ps_spoken.specs.declared.reached.Reached.{Reached}
use Rattle.ps_ask.specs.Reached.{IsReached, IsReachedAsTold, KeepsReached}
use Rattle.ps_ask.specs.declared.settings.Settings.{Settings}
use Rattle.ps_ask.specs.Fronts.{IsShownPart}
use Rattle.ps_ask.specs.Known.{IsBoundAt, IsRightFor, KeepsKnownSides}

-- the bound of a right side is reached
side_reached : (p : Parts) (q : Query) (on : Side) (a : SideAnswer) (x : Rational) → IsRightSide (length p.names) (bounds_of p) (query_of p.nodes q) on (side_of a) → IsBoundAt a x → HasDecimals x → IsReached p q x
side_reached p q on (side.Bound value m d) x h is decimals = record {
  worlds = entries m.worlds;
  reached = subst (λ (v : Rational). Reaches (length p.names) (bounds_of p) (query_of p.nodes q) v (entries m.worlds)) is h.reached;
  decimals = decimals;
}
side_reached p q on (side.Open c) x h is decimals = absurd is

pub bound_reached : (p : Parts) (q : Query) (on : Side) (a : SideAnswer) (o : Option Rational) → IsRightSide (length p.names) (bounds_of p) (query_of p.nodes q) on (side_of a) → IfSome o (IsBoundAt a) → IfSome o HasDecimals
    → IfSome o (IsReached p q)
bound_reached p q on a (Some x) h is decimals = side_reached p q on a x h is decimals
bound_reached p q on a None h is decimals = tt

-- what is told with both sides of a query
pub with_sides : (lower upper : SideAnswer) (below above : List Event) (old mid new : Option Reached) (x y : Option Rational) → IfSome x (IsBoundAt lower) → IfSome x HasDecimals → IfSome y (IsBoundAt upper) → IfSome y HasDecimals
    → KeepsReached old x mid → KeepsReached mid y new → KeepsKnownSides old (query.Bounds lower below upper above) new
with_sides lower upper below above old mid new x y xs xd ys yd first second = λ p q right before.
    second p q (first p q before (bound_reached p q _ lower x right.0 xs xd)) (bound_reached p q _ upper y right.1 ys yd)

pub known_sides : (p : Parts) (q : Query) (a : QueryAnswer) (first last : Option Reached) (value : Option Rational) → IsRightFor p q a → IfSome value (IsReached p q) → KeepsReached None value first
    → KeepsKnownSides first a last → IsReachedAsTold p q last
known_sides p q a first last value right is one all = all p q right (one p q tt is)

-- a part that is shown is right
pub right_shown : (s : Settings) (p : Parts) (q : Query) (part : QueryPart) → IsShownPart s p q part → IsRightFor p q part.answer
right_shown s p q part h = h.right

-- the distribution of a right verdict
pub shown_model : (p : Parts) (v : Verdict) (m : Model) → IsRightVerdict (length p.names) (bounds_of p) (verdict_of v) → v ≡ Consistent m → ShowsConsistent (length p.names) (bounds_of p) (model_of m)
shown_model p v m right e = rw e at right
