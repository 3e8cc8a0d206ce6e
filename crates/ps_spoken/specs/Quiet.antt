-- The values of an answer alone.
use Rattle.std.specs.Prelude.{ℕ, List, [], ◌∷◌, ◌++◌, codes}
use Rattle.ps_answer.specs.declared.answer.Verdict.{Verdict}
use Rattle.ps_answer.specs.declared.answer.Verdict.TheVariants.{Consistent, Inconsistent, Open}
use Rattle.ps_answer.specs.declared.answer.SideAnswer.{SideAnswer}
use Rattle.ps_answer.specs.declared.answer.SideAnswer.TheVariants as side
use Rattle.ps_answer.specs.declared.answer.QueryAnswer.{QueryAnswer}
use Rattle.ps_answer.specs.declared.answer.QueryAnswer.TheVariants as query
use Rattle.ps_answer.specs.declared.answer.QueryPart.{QueryPart}
use Rattle.ps_answer.specs.declared.answer.Answer.{Answer}
use Rattle.ps_spoken.specs.Numbers.{low_text, high_text}

-- a lower bound, rounded down, or a sign where it is open
abbrev pub lower_value : ℕ → SideAnswer → List ℕ
lower_value digits (side.Bound x m d) = low_text digits x
lower_value digits (side.Open c) = codes "?"

-- an upper bound, rounded up, or a sign where it is open
abbrev pub upper_value : ℕ → SideAnswer → List ℕ
upper_value digits (side.Bound x m d) = high_text digits x
upper_value digits (side.Open c) = codes "?"

-- the values of a query, in one line
abbrev pub query_values : ℕ → QueryAnswer → List ℕ
query_values digits (query.Bounds lower lower_trace upper upper_trace) =
    lower_value digits lower ++ (codes " " ++ (upper_value digits upper ++ codes "\n"))
query_values digits (query.Impossible d) = codes "impossible\n"
query_values digits (query.Open c) = codes "? ?\n"

-- the values of queries, one line each
abbrev pub parts_values : ℕ → List QueryPart → List ℕ
parts_values digits [] = []
parts_values digits (part ∷ parts) = query_values digits part.answer ++ parts_values digits parts

-- the verdict in a word
abbrev pub verdict_value : Verdict → List ℕ
verdict_value (Consistent m) = codes "consistent\n"
verdict_value (Inconsistent d) = codes "inconsistent\n"
verdict_value (Open c) = codes "open\n"

-- the verdict in a word, and the values of each query in a line
unfoldable pub values_of : ℕ → Answer → List ℕ
values_of digits a = verdict_value a.verdict ++ parts_values digits a.parts
