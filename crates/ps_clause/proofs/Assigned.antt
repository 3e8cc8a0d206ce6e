-- Variables set one after another.
use Rattle.std.proofs.Common.{◌≡◌, ℕ, zero, suc, ◌+◌, ◌<◌, ◌≤◌, Bool, Some, None, List, [], ◌∷◌, length, map, set, get_or, refl, ap, arith}
use Rattle.ps_meaning.specs.Formula.{World}
use Rattle.ps_formula.specs.declared.node.Node.{Node}
use Rattle.ps_formula.specs.Nodes.{truths}
use Rattle.ps_formula.proofs.Trees.{length-truths}
use Rattle.ps_pb.specs.Assignments.{Assignment, literal_at, with_true, all_unset}
use Rattle.ps_pb.proofs.Clauses.{place_of, sign_of}

-- the variables at the first places set, and the others unset
abbrev pub set_below : ℕ → List Bool → Assignment
set_below zero [] = []
set_below (suc p) [] = []
set_below zero (t ∷ ts) = None ∷ set_below zero ts
set_below (suc p) (t ∷ ts) = Some t ∷ set_below p ts

pub none_set : (ts : List Bool) → all_unset (length ts) ≡ set_below 0 ts
none_set [] = refl
none_set (t ∷ ts) = ap (λ r. None ∷ r) (none_set ts)

pub all_set : (p : ℕ) (ts : List Bool) → length ts ≤ p → set_below p ts ≡ map Some ts
all_set zero [] past = refl
all_set (suc p) [] past = refl
all_set zero (t ∷ ts) past = absurd (omega arith)
all_set (suc p) (t ∷ ts) past = ap (λ r. Some t ∷ r) (all_set p ts (omega arith))

set_next : (p : ℕ) (ts : List Bool) (d : Bool) → p < length ts → set (set_below p ts) p (Some (get_or ts p d)) ≡ set_below (suc p) ts
set_next p [] d lt = absurd (omega arith)
set_next zero (t ∷ ts) d lt = refl
set_next (suc p) (t ∷ ts) d lt = ap (λ r. Some t ∷ r) (set_next p ts d (omega arith))

pub one_set : (p : ℕ) (ts : List Bool) (d : Bool) → p < length ts → with_true (set_below p ts) (literal_at p (get_or ts p d)) ≡ set_below (p + 1) ts
unfolding with_true
one_set p ts d lt =
    let e : p + 1 ≡ suc p = omega arith in
    rw (place_of p (get_or ts p d), sign_of p (get_or ts p d), e) (set_next p ts d lt)

pub extension_length : (ns : List Node) (world : World) → length (truths ns world) ≡ length ns
extension_length ns world = length-truths ns world
