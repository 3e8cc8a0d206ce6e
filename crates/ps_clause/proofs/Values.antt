-- The world of a partial assignment, and one node more.
use Rattle.std.proofs.Common.{◌≡◌, ◌≢◌, inl, inr, ℕ, zero, suc, ◌+◌, ◌<◌, ◌==◌, Bool, false, Some, None, List, [], ◌∷◌, ◌++◌, length, set, take, get_or, get_or-set_same, get_or-set_other, length-set, replicate, refl, sym, ap, ◌∙◌, subst, arith, All}
use Rattle.std.proofs.lemmas.Bool.{cases_eq}
use Rattle.std.proofs.lemmas.List.{get_or_default, replicate_more, take_more, length-take-le, get_or-take, ext_get_or}
use Rattle.ps_meaning.specs.Formula.{World}
use Rattle.ps_formula.specs.declared.node.Node.{Node}
use Rattle.ps_formula.specs.declared.node.Node.TheVariants as node
use Rattle.ps_formula.specs.Nodes.{AreNodes, AtomBelow}
use Rattle.ps_pb.specs.Assignments.{Assignment, value_at}
use Rattle.ps_clause.specs.Extensions.{extension, AgreesAt, is_atom, value_from, world_of, value_or_false, values_of, HasAtomAt, HasAtoms, HasEachAtom}
use Rattle.ps_clause.specs.Forms.{form_of}
use Rattle.ps_clause.specs.Decided.{AtomsAreSet}
use Rattle.ps_clause.proofs.Deciding.{atom-variable, set-value}
use Rattle.ps_clause.proofs.Tidy.{by_bool}
use Rattle.ps_clause.proofs.Worlds.{same_atom, same_number, eq_test-true, length-world_of, world_of-at, world_of-agrees, extension-agrees}

-- without nodes each atom is false
pub no_nodes : (atoms : ℕ) (w : List Bool) → replicate atoms false ≡ world_of atoms [] w
no_nodes zero w = refl
no_nodes (suc n) w = let e : suc n ≡ n + 1 = omega arith in ap (λ m. replicate m false) e ∙ (sym (replicate_more n false) ∙ ap (λ r. r ++ false ∷ []) (no_nodes n w))

-- no node is this atom
abbrev pub IsAbsent : ℕ → List Node → Type 0
IsAbsent n [] = Unit {0}
IsAbsent n (m ∷ ms) = (is_atom n m ≡ false) × IsAbsent n ms

other_number : (n k : ℕ) → k ≢ n → (n == k) ≡ false
other_number n k ne = by_bool (n == k) (λ t. absurd (ne (sym (same_number n k t)))) (λ f. f)

from-new : (x : ℕ) (ms : List Node) (w : List Bool) (n : ℕ) → IsAbsent n ms → value_from x (ms ++ node.Atom n ∷ []) w n ≡ get_or w (x + length ms) false
from-new x [] w n h = let e : x + 0 ≡ x = omega arith in rw (e, eq_test-true n) refl
from-new x (m ∷ ms) w n h = let e : x + suc (length ms) ≡ suc x + length ms = omega arith in rw (h.0, e) (from-new (suc x) ms w n h.1)

from-other : (x : ℕ) (ms : List Node) (w : List Bool) (m : Node) (k : ℕ) → is_atom k m ≡ false → value_from x (ms ++ m ∷ []) w k ≡ value_from x ms w k
from-other x [] w m k h = rw h refl
from-other x (n ∷ ms) w m k h = by_bool (is_atom k n) (λ t. rw t refl) (λ f. rw f (from-other (suc x) ms w m k h))

-- a node that is no atom changes no world
abbrev pub IsNoAtom : Node → Type 0
IsNoAtom m = (k : ℕ) → is_atom k m ≡ false

pub other_node : (atoms : ℕ) (ms : List Node) (w : List Bool) (m : Node) → IsNoAtom m → world_of atoms (ms ++ m ∷ []) w ≡ world_of atoms ms w
other_node zero ms w m h = refl
other_node (suc n) ms w m h = rw (from-other 0 ms w m n (h n), other_node n ms w m h) refl

-- an atom that is new gets the value of its variable
pub atom_node : (atoms : ℕ) (ms : List Node) (w : List Bool) (n : ℕ) → n < atoms → IsAbsent n ms → world_of atoms (ms ++ node.Atom n ∷ []) w ≡ set (world_of atoms ms w) n (get_or w (length ms) false)
atom_node atoms ms w n lt absent =
    let old = world_of atoms ms w in
    let new = world_of atoms (ms ++ node.Atom n ∷ []) w in
    let v = get_or w (length ms) false in
    let e : 0 + length ms ≡ length ms = omega arith in
    ext_get_or false new (set old n v) (length-world_of atoms (ms ++ node.Atom n ∷ []) w ∙ sym (length-set old n v ∙ length-world_of atoms ms w)) (λ k below.
    let within : k < atoms = omega (arith, below, length-world_of atoms (ms ++ node.Atom n ∷ []) w) in
    world_of-at atoms (ms ++ node.Atom n ∷ []) w k within ∙ elim (cases_eq k n) [
      | inl same ↦ rw same (from-new 0 ms w n absent ∙ ap (λ p. get_or w p false) e ∙ sym (get_or-set_same old n v false (omega (arith, length-world_of atoms ms w))))
      | inr ne ↦ from-other 0 ms w (node.Atom n) k (other_number n k ne) ∙ sym (world_of-at atoms ms w k within) ∙ sym (get_or-set_other old n k v false ne)
    ])

absent : (n : ℕ) (ms : List Node) → ((k : ℕ) → k < length ms → get_or ms k node.True ≢ node.Atom n) → IsAbsent n ms
absent n [] h = tt
absent n (m ∷ ms) h = (by_bool (is_atom n m) (λ t. absurd (h 0 (omega arith) (sym (same_atom n m t)))) (λ f. f), absent n ms (λ k lt. h (suc k) (omega arith)))

absent-before : (ns : List Node) (i n : ℕ) → AreNodes ns → i < length ns → get_or ns i node.True ≡ node.Atom n → IsAbsent n (take i ns)
absent-before ns i n are lt e = absent n (take i ns) (λ k below same.
    let less : k < i = omega (arith, below, length-take-le i ns (omega arith)) in
    are.once k i node.True less lt (sym (get_or-take i ns k node.True less) ∙ same ∙ sym e))

-- one more of the nodes: an atom
pub next_atom : (atoms : ℕ) (ns : List Node) (w : List Bool) (i n : ℕ) (d : Node) → AreNodes ns → i < length ns → get_or ns i d ≡ node.Atom n → n < atoms
    → set (world_of atoms (take i ns) w) n (get_or w i false) ≡ world_of atoms (take (i + 1) ns) w
next_atom atoms ns w i n d are lt e below =
    let here : get_or ns i node.True ≡ node.Atom n = get_or_default ns i node.True d lt ∙ e in
    let long : length (take i ns) ≡ i = length-take-le i ns (omega arith) in
    rw (take_more ns i node.True lt, here) (ap (λ p. set (world_of atoms (take i ns) w) n (get_or w p false)) (sym long) ∙ sym (atom_node atoms (take i ns) w n below (absent-before ns i n are lt here)))

-- one more of the nodes: no atom
pub next_other : (atoms : ℕ) (ns : List Node) (w : List Bool) (i : ℕ) (d : Node) → i < length ns → IsNoAtom (get_or ns i d)
    → world_of atoms (take i ns) w ≡ world_of atoms (take (i + 1) ns) w
next_other atoms ns w i d lt none = rw (take_more ns i d lt) (sym (other_node atoms (take i ns) w (get_or ns i d) none))

pub values-at : (a : Assignment) (i : ℕ) → get_or (values_of a) i false ≡ value_or_false (get_or a i None)
values-at [] i = refl
values-at (o ∷ a) zero = refl
values-at (o ∷ a) (suc i) = values-at a i

-- where the atoms' variables have values, the world has them
pub world-has : (atoms : ℕ) (ns : List Node) (a : Assignment) → AreNodes ns → All (AtomBelow atoms) ns → AtomsAreSet (form_of ns) a → HasAtoms ns a (world_of atoms ns (values_of a))
unfolding value_at
world-has atoms ns a are below atoms_set = record { at = λ i d lt. by_node i (get_or ns i d) lt (get_or_default ns i (get_or ns i d) d lt) ((world_of-agrees atoms ns (values_of a) are below).at i d lt) }
  where
    world : World
    world = world_of atoms ns (values_of a)

    by_node : (i : ℕ) (m : Node) → i < length ns → get_or ns i m ≡ m → AgreesAt i (values_of a) world m → HasAtomAt i a world m
    by_node i (node.Atom n) lt e agree =
        set-value (get_or a i None) (atoms_set.at (suc i) (atom-variable ns i n (node.Atom n) lt e)) ∙ ap Some (sym (values-at a i) ∙ agree)
    by_node i node.True lt e agree = tt
    by_node i node.False lt e agree = tt
    by_node i (node.Not b) lt e agree = tt
    by_node i (node.And b c) lt e agree = tt
    by_node i (node.Or b c) lt e agree = tt
    by_node i (node.Implies b c) lt e agree = tt
    by_node i (node.Iff b c) lt e agree = tt

-- worlds that agree with one assignment on atoms, each of which has a node, are one
pub extended-back : (ns : List Node) (world : World) → AreNodes ns → All (AtomBelow (length world)) ns → HasEachAtom (length world) ns → world_of (length world) ns (extension ns world) ≡ world
extended-back ns world are below each =
    let w = extension ns world in
    let back = world_of (length world) ns w in
    ext_get_or false back world (length-world_of (length world) ns w) (λ n lt.
    let there = each.at n (omega (arith, lt, length-world_of (length world) ns w)) in
    let i = there.0 in
    let from_back : AgreesAt i w back (node.Atom n) = subst (AgreesAt i w back) there.2 ((world_of-agrees (length world) ns w are below).at i (node.Atom n) there.1) in
    let from_world : AgreesAt i w world (node.Atom n) = subst (AgreesAt i w world) there.2 ((extension-agrees ns world are).at i (node.Atom n) there.1) in
    sym from_back ∙ from_world)
