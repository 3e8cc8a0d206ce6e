-- When the claims of an answer are valid: what its models and duals have to be.
use Rattle.std.specs.Prelude.{ℕ, Option, None, List, length, map}
use Rattle.std.specs.List.{AllZip}
use Rattle.ps_formula.specs.declared.node.Node.{Node}
use Rattle.ps_problem.specs.declared.query.Query as stored
use Rattle.ps_problem.specs.Problems.{Parts, bounds_of, tree_at, given_at}
use Rattle.ps_problem.specs.Rows.{rows_in}
use Rattle.ps_meaning.specs.Rational.{Rational}
use Rattle.ps_pb.specs.Steps.{Refutes}
use Rattle.ps_clause.specs.Forms.{form_of, first_known}
use Rattle.ps_claims.specs.Queries.{Query, Reaches}
use Rattle.ps_claims.specs.Answers.{Model, Verdict, Consistent, Inconsistent, OpenVerdict, SideAnswer}
use Rattle.ps_claims.specs.Answers.{Value, OpenSide, QueryAnswer, Interval, Impossible, OpenQuery}
use Rattle.ps_claims.specs.Answers.{Answer, IsBasicModel, ShowsConsistent, asked_under, IsRight}
use Rattle.ps_claims.specs.Duals.{Dual, ClaimKind, Nothing, Lower, Upper, HaveSigns, HasNothingHead, HasValueHead}
use Rattle.ps_claims.specs.Goals.{combination_of, goal_of}
use Rattle.ps_claims.specs.Rows.{problem_rows}

-- the query that a query's numbers stand for
abbrev pub query_of : List Node → stored.Query → Query
query_of ns q = record { formula = tree_at ns q.formula; evidence = given_at ns q.given }

-- no multiplier is of the wrong sign, and the steps refute, with the clause form, that the combination is at least 1
pub record IsRefuted (p : Parts) (kind : ClaimKind) (given : Option ℕ) (both : ℕ) (d : Dual) : Type 0 where
  pub signs : HaveSigns (problem_rows p) d.rows
  pub steps : Refutes (length p.nodes) (first_known (form_of p.nodes)
      (goal_of (combination_of kind given both (rows_in p.sentences) d))) d.steps

-- a dual that shows that no distribution gives the evidence positive probability
pub record ShowsNothing (p : Parts) (given : Option ℕ) (d : Dual) : Type 0 where
  pub head : HasNothingHead d
  pub refuted : IsRefuted p Nothing given 0 d

-- a distribution of at most one world more than there are bounds, with the sum of its weights as total, reaches the value, and a
-- dual shows that it is a bound
pub record ShowsTight (p : Parts) (kind : ClaimKind) (q : stored.Query) (value : Rational) (m : Model) (d : Dual) : Type 0 where
  pub reached : Reaches (length p.names) (bounds_of p) (query_of p.nodes q) value m.worlds
  pub basic : IsBasicModel (bounds_of p) m
  pub head : HasValueHead value d
  pub refuted : IsRefuted p kind q.given q.both d

-- a verdict is valid: its model shows that the bounds are consistent, its dual that they are not, or it is open
abbrev pub IsValidVerdict : Parts → Verdict Dual → Type 0
IsValidVerdict p (Consistent m) = ShowsConsistent (length p.names) (bounds_of p) m
IsValidVerdict p (Inconsistent d) = ShowsNothing p None d
IsValidVerdict p OpenVerdict = Unit {0}

-- a side of a query is valid: its model and its dual show that the value is tight, or it is open
abbrev pub IsValidSide : Parts → ClaimKind → stored.Query → SideAnswer Dual → Type 0
IsValidSide p kind q (Value value m d) = ShowsTight p kind q value m d
IsValidSide p kind q OpenSide = Unit {0}

-- a part is valid: each of its sides is, its dual shows that the evidence is impossible, or it is open
abbrev pub IsValidPart : Parts → stored.Query → QueryAnswer Dual → Type 0
IsValidPart p q (Interval lower upper) = IsValidSide p Lower q lower × IsValidSide p Upper q upper
IsValidPart p q (Impossible d) = ShowsNothing p q.given d
IsValidPart p q OpenQuery = Unit {0}

-- each claim is valid, and the parts are those of the queries where the verdict is consistent, and none otherwise
pub record IsValid (p : Parts) (a : Answer Dual) : Type 0 where
  pub verdict : IsValidVerdict p a.verdict
  pub parts : AllZip (IsValidPart p) (asked_under a.verdict p.queries) a.parts

-- the answer is right for the problem
abbrev pub IsRightFor : Parts → Answer Dual → Type 0
IsRightFor p a = IsRight (length p.names) (bounds_of p) (map (query_of p.nodes) p.queries) a
