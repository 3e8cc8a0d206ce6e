-- Values of queries, one line after the other.
use Rattle.std.proofs.Common.{◌≡◌, ℕ, List, [], ◌∷◌, ◌++◌, sym, ap, ◌∙◌, append_assoc, append-nil}
use Rattle.ps_answer.specs.declared.answer.QueryPart.{QueryPart}
use Rattle.ps_spoken.specs.Quiet.{parts_values, query_values}

pub values-push : (digits : ℕ) (ps : List QueryPart) (part : QueryPart) → parts_values digits (ps ++ part ∷ []) ≡ parts_values digits ps ++ query_values digits part.answer
values-push digits [] part = append-nil (query_values digits part.answer)
values-push digits (p ∷ ps) part =
    ap (λ bs. query_values digits p.answer ++ bs) (values-push digits ps part) ∙ sym (append_assoc (query_values digits p.answer) (parts_values digits ps) (query_values digits part.answer))
