-- Exact values of queries, one line after the other.
use Rattle.std.proofs.Common.{◌≡◌, ℕ, List, [], ◌∷◌, ◌++◌, sym, ap, ◌∙◌, append_assoc, append-nil}
use Rattle.ps_answer.specs.declared.answer.QueryPart.{QueryPart}
use Rattle.ps_spoken.specs.Exact.{parts_exact, query_exact}

pub exact-push : (ps : List QueryPart) (part : QueryPart) → parts_exact (ps ++ part ∷ []) ≡ parts_exact ps ++ query_exact part.answer
exact-push [] part = append-nil (query_exact part.answer)
exact-push (p ∷ ps) part =
    ap (λ bs. query_exact p.answer ++ bs) (exact-push ps part) ∙ sym (append_assoc (query_exact p.answer) (parts_exact ps) (query_exact part.answer))
