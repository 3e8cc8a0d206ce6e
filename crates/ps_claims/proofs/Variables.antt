-- The literals of a combination are of the nodes' variables.
use Rattle.std.proofs.Common.{ℕ, ◌<◌, ℤ, neg_ℤ, ◌*ℤ◌, List, [], ◌∷◌, length, map, All, Option, Some, None, IfSome, arith}
use Rattle.std.proofs.lemmas.List.Elements.{All-nil, All-append, All-cons, All-head, All-tail}
use Rattle.ps_pb.proofs.Full.{Below}
use Rattle.ps_clause.specs.Clauses.{positive}
use Rattle.ps_formula.specs.declared.node.Node.{Node}
use Rattle.ps_problem.specs.declared.row.Row.{Row}
use Rattle.ps_problem.specs.Rows.{IsRow}
use Rattle.ps_claims.specs.Duals.{Dual}
use Rattle.ps_claims.specs.declared.claim_kind.ClaimKind.{ClaimKind}
use Rattle.ps_claims.specs.declared.claim_kind.ClaimKind.TheVariants.{Nothing, Lower, Upper}
use Rattle.ps_claims.specs.Goals.{at_node, at_condition, term_times, row_times, rows_times, claimed_of, combination_of}
use Rattle.ps_claims.specs.Certificates.{HasQuery}

node_below : (n i : ℕ) (k : ℤ) → i < n → All (Below n) (at_node k i).terms
node_below n i k h = All-cons (Below n) (positive i, k) [] (omega (arith, h)) (All-nil (Below n))

condition_below : (n : ℕ) (k : ℤ) (given : Option ℕ) → IfSome given (λ g. g < n) → All (Below n) (at_condition k given).terms
condition_below n k None h = All-nil (Below n)
condition_below n k (Some i) h = node_below n i k h

terms_below : (n : ℕ) (y : ℤ) (ts : List (ℕ × ℤ)) → All (λ t. t.0 < n) ts → All (Below n) (map (term_times y) ts)
terms_below n y [] h = All-nil (Below n)
terms_below n y (t ∷ ts) h =
    let lt : t.0 < n = All-head (λ u. u.0 < n) t ts h in
    All-cons (Below n) (positive t.0, y *ℤ t.1) (map (term_times y) ts) (omega (arith, lt)) (terms_below n y ts (All-tail (λ u. u.0 < n) t ts h))

row_below : (ns : List Node) (y : ℤ) (r : Row) → IsRow ns r → All (Below (length ns)) (row_times y r).terms
row_below ns y r h = terms_below (length ns) y r.terms h.nodes

rows_below : (ns : List Node) (ys : List ℤ) (rs : List Row) → All (IsRow ns) rs → All (Below (length ns)) (rows_times ys rs).terms
rows_below ns ys [] h = All-nil (Below (length ns))
rows_below ns [] (r ∷ rs) h = All-nil (Below (length ns))
rows_below ns (y ∷ ys) (r ∷ rs) h =
    All-append (Below (length ns)) (row_times y r).terms (rows_times ys rs).terms
    (row_below ns y r (All-head (IsRow ns) r rs h)) (rows_below ns ys rs (All-tail (IsRow ns) r rs h))

claimed_below : (kind : ClaimKind) (n : ℕ) (given : Option ℕ) (both : ℕ) (d : Dual) → IfSome given (λ g. g < n) → (HasQuery kind → both < n)
    → All (Below n) (claimed_of kind given both d).terms
claimed_below Nothing n given both d h there = condition_below n d.head given h
claimed_below Lower n given both d h there =
    All-append (Below n) (at_condition d.head given).terms (at_node (neg_ℤ d.top) both).terms
    (condition_below n d.head given h) (node_below n both (neg_ℤ d.top) (there (λ e. cc)))
claimed_below Upper n given both d h there =
    All-append (Below n) (at_node d.top both).terms (at_condition (neg_ℤ d.head) given).terms
    (node_below n both d.top (there (λ e. cc))) (condition_below n (neg_ℤ d.head) given h)

pub combination_below : (kind : ClaimKind) (ns : List Node) (given : Option ℕ) (both : ℕ) (rs : List Row) (d : Dual) → All (IsRow ns) rs
    → IfSome given (λ g. g < length ns) → (HasQuery kind → both < length ns) → All (Below (length ns)) (combination_of kind given both rs d).terms
combination_below kind ns given both rs d h there query =
    All-append (Below (length ns)) (claimed_of kind given both d).terms (rows_times d.rows rs).terms
    (claimed_below kind (length ns) given both d there query) (rows_below ns d.rows rs h)
