-- What the truth of each node in each world tells of the distribution itself.
use Rattle.std.proofs.Common.{◌≡◌, ℕ, ◌+◌, ◌<◌, ℤ, ◌+ℤ◌, pos, true, false, List, [], ◌∷◌, ◌++◌, Option, Some, None, All, length, map, take, get_or, slice_get, refl, sym, ap, subst, ◌∙◌}
use Rattle.std.specs.Prelude.{IfSome, IsSomeAnd, MatchOption, option_map}
use Rattle.std.proofs.Math.ListN.{get_or-map as read-map}
use Rattle.std.proofs.lemmas.List.{length-map, get_or-map, get_or_default, map-append, take-map, take_more}
use Rattle.std.proofs.lemmas.List.Elements.{All-map, All-push, All-take, All-head, All-tail}
use Rattle.std.proofs.lemmas.Option.{slice_get-map, slice_get_within, get_or_from_slice_get}
use Rattle.ps_meaning.specs.Formula.{World, Truth, Atom, And, is_true}
use Rattle.ps_meaning.specs.Distribution.{Entry, weight, total}
use Rattle.ps_meaning.specs.Bounds.{Compares, sum_of_weights}
use Rattle.ps_meaning.specs.Rows.{weighted_sum, row_in, MeetsRow}
use Rattle.ps_meaning.proofs.BoundRows.{row-sum}
use Rattle.ps_formula.specs.declared.node.Node.{Node}
use Rattle.ps_formula.specs.Nodes.{trees, truths}
use Rattle.ps_formula.proofs.Trees.{length-truths}
use Rattle.ps_problem.specs.declared.row.Row.{Row}
use Rattle.ps_problem.specs.Problems.{tree_at, given_at, weights_at, IsBoth, IsTerm}
use Rattle.ps_problem.specs.Rows.{row_of, IsRow}
use Rattle.ps_answer.specs.declared.answer.Weighted.{Weighted}
use Rattle.ps_valid.specs.declared.truth.Valuation.{Valuation}
use Rattle.ps_claims.specs.Certificates.{entry_of, entries}
use Rattle.ps_valid.specs.Limits.{AreSmall}
use Rattle.ps_valid.specs.Valuations.{valued_entry, valued_entries, over_nodes, AreValuations, HaveNode, IsTableOf, node_at, atom_terms, Covers, row_sum, MeetsAt}
use Rattle.ps_valid.specs.Tests.{HaveShape, MissesRowFirst}
use Rattle.ps_claims.specs.Claims.{IsFirstWithout}
use Rattle.ps_claims.specs.Rows.{MeetsRows}
use Rattle.ps_meaning.proofs.Weights.{weight-and_truth}

-- the truth of a node is that of its tree
truth_at : (ns : List Node) (w : World) (n : ℕ) → n < length ns → get_or (truths ns w) n false ≡ is_true (tree_at ns n) w
truth_at ns w n lt = get_or_default (truths ns w) n false true (rw length-truths lt) ∙ read-map (λ f. is_true f w) (trees ns) n Truth

pub weight-node : (ns : List Node) (d : List Entry) (n : ℕ) → n < length ns → weight (map (over_nodes ns) d) (Atom n) ≡ weight d (tree_at ns n)
weight-node ns [] n lt = refl
weight-node ns (e ∷ d) n lt = rw (truth_at ns e.world n lt, weight-node ns d n lt) refl

pub total-nodes : (ns : List Node) (d : List Entry) → total (map (over_nodes ns) d) ≡ total d
total-nodes ns [] = refl
total-nodes ns (e ∷ d) = ap (λ z. e.weight +ℤ z) (total-nodes ns d)

pub weight-given : (ns : List Node) (d : List Entry) (given : Option ℕ) → IfSome given (λ g. g < length ns) → weight (map (over_nodes ns) d) (node_at given) ≡ weight d (given_at ns given)
weight-given ns d None there = total-nodes ns d
weight-given ns d (Some g) there = weight-node ns d g there

pub weight-both : (ns : List Node) (d : List Entry) (formula : ℕ) (given : Option ℕ) (both : ℕ) → IsBoth ns formula given both
    → weight d (tree_at ns both) ≡ weight d (And (tree_at ns formula) (given_at ns given))
weight-both ns d formula None both e = rw e (sym (weight-and_truth d (tree_at ns formula)))
weight-both ns d formula (Some g) both e = ap (weight d) e

sum-nodes : (ns : List Node) (d : List Entry) (ts : List (ℕ × ℤ)) → All (IsTerm ns) ts → sum_of_weights (atom_terms ts) (map (over_nodes ns) d) ≡ sum_of_weights (weights_at ns ts) d
sum-nodes ns d [] are = refl
sum-nodes ns d (t ∷ ts) are =
    let lt : t.0 < length ns = All-head (IsTerm ns) t ts are in
    rw (weight-node ns d t.0 lt, sum-nodes ns d ts (All-tail (IsTerm ns) t ts are)) refl

-- the sum of a row over nodes is that of the row that it stands for
row-nodes : (ns : List Node) (d : List Entry) (r : Row) → IsRow ns r → row_sum (map (over_nodes ns) d) r ≡ weighted_sum d (row_in (row_of ns r))
row-nodes ns d r is = rw (total-nodes ns d, sum-nodes ns d r.terms is.nodes) (sym (row-sum (row_of ns r) d))

meets : (ns : List Node) (d : List Entry) (r : Row) → IsRow ns r → MeetsAt (map (over_nodes ns) d) r → MeetsRow (row_of ns r) d
unfolding MeetsAt
meets ns d r is met = subst (λ z. Compares r.side z (pos 0)) (row-nodes ns d r is) met

is_met : (ns : List Node) (d : List Entry) (r : Row) → IsRow ns r → MeetsRow (row_of ns r) d → MeetsAt (map (over_nodes ns) d) r
unfolding MeetsAt
is_met ns d r is met = subst (λ z. Compares r.side z (pos 0)) (sym (row-nodes ns d r is)) met

meets_all : (ns : List Node) (d : List Entry) (rs : List Row) → All (IsRow ns) rs → All (MeetsAt (map (over_nodes ns) d)) rs → MeetsRows (map (row_of ns) rs) d
meets_all ns d rs are all = All-map (λ r. MeetsRow r d) (row_of ns) rs (λ k r lt. meets ns d (get_or rs k r) (are k r lt) (all k r lt))

misses : (ns : List Node) (d : List Entry) (o : Option Row) → IfSome o (IsRow ns) → IsSomeAnd o (λ r. ¬ MeetsAt (map (over_nodes ns) d) r) → IsSomeAnd (option_map (row_of ns) o) (λ r. ¬ MeetsRow r d)
misses ns d None is some = some
misses ns d (Some r) is some = λ met. some (is_met ns d r is met)

row_at : (ns : List Node) (rs : List Row) (i : ℕ) (o : Option Row) → slice_get rs i ≡ o → All (IsRow ns) rs → IfSome o (IsRow ns)
row_at ns rs i None e are = tt
row_at ns rs i (Some r) e are = rw (get_or_from_slice_get rs i r r e) at (are i r (slice_get_within rs i r e))

misses_first : (ns : List Node) (d : List Entry) (rs : List Row) (n : ℕ) → All (IsRow ns) rs → IsFirstWithout (MeetsAt (map (over_nodes ns) d)) rs n → MissesRowFirst (map (row_of ns) rs) d n
misses_first ns d rs n are (i, is, before, missed) =
    let met : MeetsRows (map (row_of ns) (take i rs)) d = meets_all ns d (take i rs) (All-take (IsRow ns) i rs are) before in
    let at : IsSomeAnd (option_map (row_of ns) (slice_get rs i)) (λ r. ¬ MeetsRow r d) = misses ns d (slice_get rs i) (row_at ns rs i (slice_get rs i) refl are) missed in
    (i, is, rw (take-map (row_of ns) i rs) met, rw (slice_get-map (row_of ns) rs i) at)

judged_rows : (ns : List Node) (d : List Entry) (rs : List Row) (missed : Option ℕ) → All (IsRow ns) rs
    → MatchOption missed (All (MeetsAt (map (over_nodes ns) d)) rs) (IsFirstWithout (MeetsAt (map (over_nodes ns) d)) rs)
    → MatchOption missed (MeetsRows (map (row_of ns) rs) d) (MissesRowFirst (map (row_of ns) rs) d)
judged_rows ns d rs None are met = meets_all ns d rs are met
judged_rows ns d rs (Some n) are missed = misses_first ns d rs n are missed

some_world : Weighted
some_world = record { weight = pos 0; world = [] }

length-valued : (ns : List Node) (ws : List Weighted) (vs : List Valuation) → IsTableOf ns (entries ws) vs → length vs ≡ length ws
length-valued ns ws vs table = sym (length-map vs valued_entry) ∙ ap length table.entries ∙ length-map (entries ws) (over_nodes ns) ∙ length-map ws entry_of

weight-at : (ns : List Node) (ws : List Weighted) (vs : List Valuation) (k : ℕ) (v : Valuation) → IsTableOf ns (entries ws) vs → k < length vs → (get_or vs k v).weight ≡ (get_or ws k some_world).weight
weight-at ns ws vs k v table lt =
    let there : k < length ws = rw (length-valued ns ws vs table) at lt in
    let there' : k < length (entries ws) = rw length-map there in
    let here : valued_entry (get_or vs k v) ≡ get_or (valued_entries vs) k (valued_entry v) = sym (get_or-map valued_entry vs k v (valued_entry v) lt) in
    let over : get_or (map (over_nodes ns) (entries ws)) k (valued_entry v) ≡ over_nodes ns (get_or (entries ws) k (entry_of some_world)) = get_or-map (over_nodes ns) (entries ws) k (entry_of some_world) (valued_entry v) there' in
    let same : get_or (entries ws) k (entry_of some_world) ≡ entry_of (get_or ws k some_world) = get_or-map entry_of ws k some_world (entry_of some_world) there in
    ap (λ e. e.weight) (here ∙ ap (λ es. get_or es k (valued_entry v)) table.entries ∙ over ∙ ap (over_nodes ns) same)

pub valuations_small : (ns : List Node) (ws : List Weighted) (vs : List Valuation) → AreSmall ws → IsTableOf ns (entries ws) vs → AreValuations vs
valuations_small ns ws vs small table = record {
  few = rw (length-valued ns ws vs table) small.few;
  weights = λ k v lt. rw (weight-at ns ws vs k v table lt) (small.weights k some_world (rw (length-valued ns ws vs table) at lt));
}

pub have_node : (ns : List Node) (vs : List Valuation) (n : ℕ) → All (λ v. length v.values.items ≡ length ns) vs → n < length ns → HaveNode vs n
have_node ns vs n widths there k v lt = rw (widths k v lt) there

pub have_given : (ns : List Node) (vs : List Valuation) (given : Option ℕ) → All (λ v. length v.values.items ≡ length ns) vs → IfSome given (λ g. g < length ns) → IfSome given (HaveNode vs)
have_given ns vs None widths there = tt
have_given ns vs (Some g) widths there = have_node ns vs g widths there

pub rows_cover : (ns : List Node) (vs : List Valuation) (rs : List Row) → All (λ v. length v.values.items ≡ length ns) vs → All (IsRow ns) rs → All (Covers vs) rs
rows_cover ns vs rs widths are k r lt = let is = are k r lt in record {
  nodes = λ i t within j v in'. rw (widths j v in') (is.nodes i t within);
  small = is.small;
}

pub table-more : (ns : List Node) (ws : List Weighted) (vs : List Valuation) (i : ℕ) (w : Weighted) (v : Valuation) → i < length ws → IsTableOf ns (entries (take i ws)) vs
    → v.weight ≡ (get_or ws i w).weight → v.values.items ≡ truths ns (get_or ws i w).world → IsTableOf ns (entries (take (i + 1) ws)) (vs ++ v ∷ [])
table-more ns ws vs i w v lt table weight values =
    let more : entries (take (i + 1) ws) ≡ entries (take i ws) ++ entry_of (get_or ws i w) ∷ [] = ap entries (take_more ws i w lt) ∙ map-append entry_of (take i ws) (get_or ws i w ∷ []) in
    let same : valued_entry v ≡ over_nodes ns (entry_of (get_or ws i w)) = rw (weight, values) refl in
    record {
      entries = rw (more, map-append valued_entry vs (v ∷ []), map-append (over_nodes ns) (entries (take i ws)) (entry_of (get_or ws i w) ∷ []), table.entries, same) refl;
      widths = All-push (λ v. length v.values.items ≡ length ns) vs v table.widths (ap length values ∙ length-truths ns (get_or ws i w).world);
    }

pub total-valued : (ns : List Node) (ws : List Weighted) (vs : List Valuation) → IsTableOf ns (entries ws) vs → total (valued_entries vs) ≡ total (entries ws)
total-valued ns ws vs table = rw table.entries (total-nodes ns (entries ws))

pub judged_valued : (ns : List Node) (ws : List Weighted) (vs : List Valuation) (rs : List Row) (missed : Option ℕ) → IsTableOf ns (entries ws) vs → All (IsRow ns) rs
    → MatchOption missed (All (MeetsAt (valued_entries vs)) rs) (IsFirstWithout (MeetsAt (valued_entries vs)) rs)
    → MatchOption missed (MeetsRows (map (row_of ns) rs) (entries ws)) (MissesRowFirst (map (row_of ns) rs) (entries ws))
judged_valued ns ws vs rs missed table are judged = judged_rows ns (entries ws) rs missed are (rw table.entries at judged)

pub shape_of_worlds : (n : ℕ) (ws : List Weighted) → HaveShape n (entries ws) → All (λ w. length w.world ≡ n) ws
shape_of_worlds n ws shape k w lt = rw (get_or-map entry_of ws k w (entry_of w) lt) at (shape k (entry_of w) (rw length-map lt))
