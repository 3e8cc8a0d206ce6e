-- The queries of a problem, each with the answer to it, as objects.
use Rattle.std.specs.Prelude.{ℕ, List, [], ◌++◌, codes, Option, Some, None, slice_get, unwrap_or}
use Rattle.ps_problem.specs.declared.query.Query.{Query}
use Rattle.ps_problem.specs.Problems.{Parts}
use Rattle.ps_canonical.specs.Lines.{probability_text}
use Rattle.ps_answer.specs.declared.answer.QueryAnswer.{QueryAnswer}
use Rattle.ps_answer.specs.declared.answer.QueryAnswer.TheVariants.{Bounds, Impossible, Open}
use Rattle.ps_answer.specs.declared.answer.QueryPart.{QueryPart}
use Rattle.ps_spoken.specs.declared.details.Details.{Details}
use Rattle.ps_spoken.specs.Details.{no_details}
use Rattle.ps_spoken.specs.Bounds.{two_bounds, open_members}
use Rattle.ps_spoken.specs.Listings.{comma_before, texts_of}

-- the members of an answer to a query, from its status on
abbrev pub answer_members : ℕ → Parts → QueryAnswer → Details → List ℕ
answer_members digits p (Bounds lower lower_trace upper upper_trace) t = two_bounds digits p lower upper t
answer_members digits p (Impossible d) t = codes "impossible\",\"why\":null,\"lower\":null,\"upper\":null}"
answer_members digits p (Open c) t = open_members digits c t.reached

-- a query by its own text, with the answer to it and what is told of it
unfoldable pub query_object : ℕ → Parts → Query → QueryPart → Details → List ℕ
query_object digits p q part t =
    codes "{\"query\":\"" ++ (probability_text p q.formula q.given
    ++ (codes "\",\"status\":\"" ++ answer_members digits p part.answer t))

-- the query at a place, where there is one, with the answer to it and what is told of it
abbrev pub asked_text : ℕ → Parts → ℕ → Option Query → QueryPart → Details → List ℕ
asked_text digits p place (Some q) part t = comma_before place ++ query_object digits p q part t
asked_text digits p place None part t = []

abbrev pub asked_at : ℕ → Parts → ℕ → QueryPart → Details → List ℕ
asked_at digits p place part t = asked_text digits p place (slice_get p.queries place) part t

-- what is told of the query at a place, where something is
abbrev pub details_at : List Details → ℕ → Details
details_at ts place = unwrap_or (slice_get ts place) no_details

-- the query at a place with the answer to it and what is told of it
abbrev pub entry_text : ℕ → Parts → List Details → ℕ → QueryPart → List ℕ
entry_text digits p ts place part = asked_at digits p place part (details_at ts place)

-- the queries of a problem, each with the answer to it and what is told of it
abbrev pub queries_text : ℕ → Parts → List QueryPart → List Details → List ℕ
queries_text digits p parts ts = texts_of (entry_text digits p ts) parts
