-- The limits of an answer's numbers. Those of a report's text are within them.
use Rattle.std.specs.Prelude.{ℤ, pos, ◌≤◌, ◌≤ℤ◌, List, length, All}
use Rattle.ps_answer.specs.declared.answer.Weighted.{Weighted}
use Rattle.ps_answer.specs.declared.answer.Model.{Model}
use Rattle.ps_answer.specs.declared.answer.Verdict.{Verdict}
use Rattle.ps_answer.specs.declared.answer.Verdict.TheVariants.{Consistent, Inconsistent, Open}
use Rattle.ps_answer.specs.declared.answer.SideAnswer.{SideAnswer}
use Rattle.ps_answer.specs.declared.answer.SideAnswer.TheVariants as side
use Rattle.ps_answer.specs.declared.answer.QueryAnswer.{QueryAnswer}
use Rattle.ps_answer.specs.declared.answer.QueryAnswer.TheVariants as query
use Rattle.ps_answer.specs.declared.answer.Answer.{Answer}
use Rattle.ps_answer.specs.declared.limits.TheConstants.{MOST_ENTRIES}
use Rattle.ps_claims.specs.Certificates.{IsSmallDual}
use Rattle.ps_meaning.specs.declared.limits.TheConstants.{PRINTED_LIMIT}

-- from 0 to the most that is printed
pub record IsAmount (z : ℤ) : Type 0 where
  pub low : pos 0 ≤ℤ z
  pub high : z ≤ℤ pos PRINTED_LIMIT

-- few worlds, each of a small weight
pub record AreSmall (ws : List Weighted) : Type 0 where
  pub few : length ws ≤ MOST_ENTRIES
  pub weights : All (λ w. IsAmount w.weight) ws

-- a model with a small total and such worlds
pub record IsSmallModel (m : Model) : Type 0 where
  pub total : IsAmount m.total
  pub worlds : AreSmall m.worlds

-- the model or the dual of a verdict is within these limits, if it has one
abbrev pub IsSmallVerdict : Verdict → Type 0
IsSmallVerdict (Consistent m) = IsSmallModel m
IsSmallVerdict (Inconsistent d) = IsSmallDual d
IsSmallVerdict (Open cause) = Unit {0}

-- the model and the dual of a side are within these limits, if it isn't open
abbrev pub IsSmallSide : SideAnswer → Type 0
IsSmallSide (side.Bound value m d) = IsSmallModel m × IsSmallDual d
IsSmallSide (side.Open cause) = Unit {0}

-- each model and each dual of the answer to a query is within these limits
abbrev pub IsSmallPart : QueryAnswer → Type 0
IsSmallPart (query.Bounds lower lower_trace upper upper_trace) = IsSmallSide lower × IsSmallSide upper
IsSmallPart (query.Impossible d) = IsSmallDual d
IsSmallPart (query.Open cause) = Unit {0}

-- each model and dual of an answer is within these limits
pub record IsSmallAnswer (a : Answer) : Type 0 where
  pub verdict : IsSmallVerdict a.verdict
  pub parts : All (λ part. IsSmallPart part.answer) a.parts
