-- Decimals of answers.
use Rattle.std.specs.Prelude.{All}
use Rattle.ps_problem.specs.Problems.{Parts}
use Rattle.ps_answer.specs.declared.answer.SideAnswer.{SideAnswer}
use Rattle.ps_answer.specs.declared.answer.SideAnswer.TheVariants as side
use Rattle.ps_answer.specs.declared.answer.QueryAnswer.{QueryAnswer}
use Rattle.ps_answer.specs.declared.answer.QueryAnswer.TheVariants as query
use Rattle.ps_answer.specs.declared.answer.Answer.{Answer}
use Rattle.ps_frac.specs.Decimals.{HasDecimals}
use Rattle.ps_ask.specs.declared.settings.Settings.{Settings}
use Rattle.ps_ask.specs.Fronts.{IsUnderWay}

-- the bound of a side, where it has one, is a number that has decimals
abbrev pub HasBoundWithDecimals : SideAnswer → Type 0
HasBoundWithDecimals (side.Bound value m d) = HasDecimals value
HasBoundWithDecimals (side.Open cause) = Unit {0}

-- so is each bound of a query
abbrev pub HaveBoundsDecimals : QueryAnswer → Type 0
HaveBoundsDecimals (query.Bounds lower lower_trace upper upper_trace) = HasBoundWithDecimals lower × HasBoundWithDecimals upper
HaveBoundsDecimals (query.Impossible d) = Unit {0}
HaveBoundsDecimals (query.Open cause) = Unit {0}

-- each bound of an answer that is shown, as far as it goes, has decimals
abbrev pub BoundsHaveDecimals : Type 0
BoundsHaveDecimals = (s : Settings) (p : Parts) (a : Answer) → IsUnderWay s p a
    → All (λ part. HaveBoundsDecimals part.answer) a.parts
