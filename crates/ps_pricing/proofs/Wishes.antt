-- The literals of nodes that make all rows hold alone.
use Rattle.std.proofs.Common.{◌≡◌, ◌<◌, ◌+◌, ◌++◌, ◌∷◌, [], ℕ, ℤ, pos, Bool, List, All, length, subst, arith}
use Rattle.std.specs.Prelude.{IsSomeAnd, slice_get}
use Rattle.std.proofs.lemmas.List.Elements.{All-nil, All-append, All-cons}
use Rattle.ps_pb.specs.Assignments.{literal_at, place}
use Rattle.ps_pb.specs.Constraints.{Constraint}
use Rattle.ps_pb.specs.Weights.{Weighted, size_sum, constraint_of, IsWithin}
use Rattle.ps_pb.proofs.Bounds.{size_sum-append}
use Rattle.ps_pb.proofs.Clauses.{place_of}
use Rattle.ps_pb.proofs.Full.{Below}
use Rattle.ps_pb.proofs.Within.{constraint-within}
use Rattle.ps_formula.specs.declared.node.Node.{Node}
use Rattle.ps_problem.specs.declared.row.Row.{Row}
use Rattle.ps_problem.specs.Rows.{IsRow}

-- one more literal of these variables
pub one-more : (n p : ℕ) (s : Bool) (l : ℤ) (ts us : Weighted) → us ≡ ts ++ (l, pos 1) ∷ [] → l ≡ literal_at p s → p < n → All (Below n) ts → All (Below n) us
one-more n p s l ts us e q below h =
    let here : place (literal_at p s) < n = omega (arith, below, place_of p s) in
    rw (e, q) (All-append (Below n) ts ((literal_at p s, pos 1) ∷ []) h (All-cons (Below n) (literal_at p s, pos 1) [] here (All-nil (Below n))))

-- one more weight of 1
pub one-larger : (l : ℤ) (ts us : Weighted) (i : ℕ) → us ≡ ts ++ (l, pos 1) ∷ [] → size_sum ts ≡ i → size_sum us ≡ i + 1
one-larger l ts us i e h = rw e (omega (arith, size_sum-append ts ((l, pos 1) ∷ []), h))

-- the constraint of such literals
pub goal-inside : (n : ℕ) (g : Constraint) (ts us : Weighted) (least : ℤ) → g ≡ constraint_of ts least → ts ≡ us → All (Below n) us → IsWithin n g
goal-inside n g ts us least e q h = rw (e, q) (constraint-within n us least h)

-- the nodes of rows are there
pub nodes-inside : (ns : List Node) (rs ss : List Row) (n : ℕ) → ss ≡ rs → n ≡ length ns → All (IsRow ns) rs → All (λ r. All (λ t. t.0 < n) r.terms) ss
nodes-inside ns rs ss n e q are = rw (e, q) (λ i r lt. (are i r lt).nodes)

-- and so is that of a first term
pub first-inside : (n node : ℕ) (ts : List (ℕ × ℤ)) → IsSomeAnd (slice_get ts 0) (λ t. t.0 ≡ node) → All (λ t. t.0 < n) ts → node < n
first-inside n node [] is inside = absurd is
first-inside n node (t ∷ ts) is inside = subst (λ k. k < n) is (inside 0 t (omega arith))
