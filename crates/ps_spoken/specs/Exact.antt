-- The exact values of an answer alone.
use Rattle.std.specs.Prelude.{ℕ, List, [], ◌∷◌, ◌++◌, codes}
use Rattle.ps_answer.specs.declared.answer.SideAnswer.{SideAnswer}
use Rattle.ps_answer.specs.declared.answer.SideAnswer.TheVariants as side
use Rattle.ps_answer.specs.declared.answer.QueryAnswer.{QueryAnswer}
use Rattle.ps_answer.specs.declared.answer.QueryAnswer.TheVariants as query
use Rattle.ps_answer.specs.declared.answer.QueryPart.{QueryPart}
use Rattle.ps_answer.specs.declared.answer.Answer.{Answer}
use Rattle.ps_spoken.specs.Numbers.{fraction_text}
use Rattle.ps_spoken.specs.Quiet.{verdict_value}

-- a bound as a fraction, or a sign where it is open
abbrev pub exact_value : SideAnswer → List ℕ
exact_value (side.Bound x m d) = fraction_text x
exact_value (side.Open c) = codes "?"

-- the exact values of a query, in one line
abbrev pub query_exact : QueryAnswer → List ℕ
query_exact (query.Bounds lower lower_trace upper upper_trace) =
    exact_value lower ++ (codes " " ++ (exact_value upper ++ codes "\n"))
query_exact (query.Impossible d) = codes "impossible\n"
query_exact (query.Open c) = codes "? ?\n"

-- those of queries, one line each
abbrev pub parts_exact : List QueryPart → List ℕ
parts_exact [] = []
parts_exact (part ∷ parts) = query_exact part.answer ++ parts_exact parts

-- the verdict in a word, and the exact values of each query in a line
abbrev pub exact_of : Answer → List ℕ
exact_of a = verdict_value a.verdict ++ parts_exact a.parts
