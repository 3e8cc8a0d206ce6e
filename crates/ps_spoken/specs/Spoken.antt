-- What is written of an answer for people.
use Rattle.std.specs.Prelude.{ℕ, pos, ◌==◌, if◌then◌else◌, List, [], ◌∷◌, ◌++◌, codes, Option}
use Rattle.std.specs.Fmt.{signed_decimal}
use Rattle.ps_problem.specs.declared.query.Query.{Query}
use Rattle.ps_problem.specs.Problems.{Parts}
use Rattle.ps_canonical.specs.Lines.{probability_text}
use Rattle.ps_answer.specs.declared.answer.Cause.{Cause}
use Rattle.ps_answer.specs.declared.answer.Cause.TheVariants.{Pivots, Conflicts, Wide}
use Rattle.ps_answer.specs.declared.answer.Verdict.{Verdict}
use Rattle.ps_answer.specs.declared.answer.Verdict.TheVariants.{Consistent, Inconsistent, Open}
use Rattle.ps_answer.specs.declared.answer.SideAnswer.{SideAnswer}
use Rattle.ps_answer.specs.declared.answer.SideAnswer.TheVariants as side
use Rattle.ps_answer.specs.declared.answer.QueryAnswer.{QueryAnswer}
use Rattle.ps_answer.specs.declared.answer.QueryAnswer.TheVariants as query
use Rattle.ps_answer.specs.declared.answer.QueryPart.{QueryPart}
use Rattle.ps_answer.specs.declared.answer.Answer.{Answer}
use Rattle.ps_spoken.specs.declared.cause.TheConstants.{OUT_OF_TIME}
use Rattle.ps_spoken.specs.Between.{between_text, least_text, most_text}
use Rattle.ps_spoken.specs.declared.reached.Reached.{Reached}
use Rattle.ps_spoken.specs.Reached.{lower_between, upper_between}
use Rattle.ps_spoken.specs.declared.details.Details.{Details}
use Rattle.ps_spoken.specs.Details.{beneath_text}

-- a limit between words
abbrev pub limit_text : List ℕ → ℕ → List ℕ → List ℕ
limit_text before limit behind = before ++ (signed_decimal (pos limit) ++ behind)

-- the cause of what wasn't finished within a limit of time
abbrev pub out_of_time : Cause
out_of_time = Pivots OUT_OF_TIME

-- no pivots were left; a limit of pivots that no run has stands for a limit of time
unfoldable pub pivots_text : ℕ → List ℕ
pivots_text limit = if limit == OUT_OF_TIME then codes "not finished within the time limit; allow more by --time-limit"
    else limit_text (codes "stopped at the limit of ") limit (codes " pivots; allow more by --pivots")

-- what stopped a part, and what to do about it
abbrev pub cause_text : Cause → List ℕ
cause_text (Pivots limit) = pivots_text limit
cause_text (Conflicts limit goal steps) =
    limit_text (codes "a search stopped at the limit of ") limit (codes " conflicts; allow more by --conflicts")
cause_text (Wide at) = codes "a number needs more than 127 bits; values of fewer digits may help"

-- what stopped a side, behind between which numbers it lies
abbrev pub stopped_text : Cause → List ℕ
stopped_text c = codes ": " ++ (cause_text c ++ codes "\n")

-- the lower side of a query: its bound, or between which numbers it lies, and what stopped it
abbrev pub lower_text : ℕ → SideAnswer → Option Reached → List ℕ
lower_text digits (side.Bound x m d) r = least_text digits x
lower_text digits (side.Open c) r = codes "  " ++ (lower_between digits r ++ stopped_text c)

-- the upper side of a query: its bound, or between which numbers it lies, and what stopped it
abbrev pub upper_text : ℕ → SideAnswer → Option Reached → List ℕ
upper_text digits (side.Bound x m d) r = most_text digits x
upper_text digits (side.Open c) r = codes "  " ++ (upper_between digits r ++ stopped_text c)

-- each side of a query
abbrev pub sides_text : ℕ → SideAnswer → SideAnswer → Option Reached → List ℕ
sides_text digits lower upper r = lower_text digits lower r ++ upper_text digits upper r

-- both bounds, or each side
abbrev pub bounds_text : ℕ → SideAnswer → SideAnswer → Option Reached → List ℕ
bounds_text digits (side.Bound x m d) (side.Bound y n e) r = between_text digits x y
bounds_text digits (side.Bound x m d) (side.Open c) r = sides_text digits (side.Bound x m d) (side.Open c) r
bounds_text digits (side.Open c) upper r = sides_text digits (side.Open c) upper r

-- between which numbers both bounds of a query lie
unfoldable pub between_both : ℕ → Option Reached → List ℕ
between_both digits r = codes "  " ++ (lower_between digits r ++ (codes "\n  " ++ (upper_between digits r ++ codes "\n")))

-- the answer to a query, and what is reached of it where it is open
abbrev pub answer_text : ℕ → QueryAnswer → Option Reached → List ℕ
answer_text digits (query.Bounds lower lower_trace upper upper_trace) r = bounds_text digits lower upper r
answer_text digits (query.Impossible d) r = codes "  impossible: the sentences give the condition probability 0\n"
answer_text digits (query.Open c) r = codes "  open: " ++ (cause_text c ++ (codes "\n" ++ between_both digits r))

-- a query by its own text, the answer to it, and what is told of it
abbrev pub part_text : ℕ → Parts → Query → QueryPart → Details → List ℕ
part_text digits p q part t = probability_text p q.formula q.given
    ++ (codes "\n" ++ (answer_text digits part.answer t.reached ++ beneath_text digits p t))

-- the queries, each with the answer to it and what is told of it, as far as all three lists go
abbrev pub parts_text : ℕ → Parts → List Query → List QueryPart → List Details → List ℕ
parts_text digits p [] parts ts = []
parts_text digits p (q ∷ qs) [] ts = []
parts_text digits p (q ∷ qs) (part ∷ parts) [] = []
parts_text digits p (q ∷ qs) (part ∷ parts) (t ∷ ts) = part_text digits p q part t ++ parts_text digits p qs parts ts

-- the verdict
abbrev pub verdict_text : Verdict → List ℕ
verdict_text (Consistent m) = codes "consistent: some distribution meets all sentences\n"
verdict_text (Inconsistent d) = codes "inconsistent: no distribution meets all sentences\n"
verdict_text (Open c) = codes "open: whether a distribution meets all sentences isn't known; " ++ (cause_text c ++ codes "\n")

-- what is written of an answer to a problem: the verdict, and each query with the answer to it and what is told of it
unfoldable pub spoken : ℕ → Parts → Answer → List Details → List ℕ
spoken digits p a ts = verdict_text a.verdict ++ parts_text digits p p.queries a.parts ts
