-- The world that an assignment gives, and the assignment that a world gives.
use Rattle.std.proofs.Common.{◌≡◌, ◌≢◌, ◌⊎◌, inl, inr, ℕ, zero, suc, ◌+◌, ◌<◌, ◌≤◌, ◌==◌, Bool, true, false, List, [], ◌∷◌, ◌++◌, length, get_or, refl, sym, ap, ◌∙◌, arith, true≢false, All}
use Rattle.std.proofs.lemmas.Bool.{cases_lt}
use Rattle.std.proofs.lemmas.List.{get_or_default, get_or_push, get_or_append_left, length_push}
use Rattle.ps_meaning.specs.Formula.{World}
use Rattle.ps_formula.specs.declared.node.Node.{Node}
use Rattle.ps_formula.specs.declared.node.Node.TheVariants as node
use Rattle.ps_formula.specs.Nodes.{AreNodes, AtomBelow, truths, value_over}
use Rattle.ps_formula.proofs.Trees.{length-truths}
use Rattle.ps_formula.proofs.Different.{values-at}
use Rattle.ps_clause.proofs.Tidy.{by_bool}
use Rattle.ps_clause.specs.Extensions.{extension, AgreesAt, AgreeOnAtoms, is_atom, value_from, world_of}

pub eq_test-true : (i : ℕ) → (i == i) ≡ true
eq_test-true i = grind arith

pub same_number : (i j : ℕ) → (i == j) ≡ true → i ≡ j
same_number i j h = grind (arith, h)

pub same_atom : (n : ℕ) (m : Node) → is_atom n m ≡ true → node.Atom n ≡ m
same_atom n (node.Atom m) h = ap node.Atom (sym (same_number m n h))
same_atom n node.True h = absurd (true≢false (sym h))
same_atom n node.False h = absurd (true≢false (sym h))
same_atom n (node.Not a) h = absurd (true≢false (sym h))
same_atom n (node.And a b) h = absurd (true≢false (sym h))
same_atom n (node.Or a b) h = absurd (true≢false (sym h))
same_atom n (node.Implies a b) h = absurd (true≢false (sym h))
same_atom n (node.Iff a b) h = absurd (true≢false (sym h))

-- no earlier node is this atom
abbrev pub FirstAt : ℕ → List Node → ℕ → Type 0
FirstAt n ms j = (k : ℕ) → k < j → get_or ms k node.True ≢ node.Atom n

-- the value of an atom is that of its variable
value_from-at : (x : ℕ) (ms : List Node) (w : List Bool) (n j : ℕ) → j < length ms → get_or ms j node.True ≡ node.Atom n → FirstAt n ms j
    → value_from x ms w n ≡ get_or w (x + j) false
value_from-at x [] w n j lt e first = absurd (omega arith)
value_from-at x (m ∷ ms) w n zero lt e first =
    let p : x + 0 ≡ x = omega arith in
    rw (e, eq_test-true n, p) refl
value_from-at x (m ∷ ms) w n (suc j) lt e first = by_bool (is_atom n m)
    (λ t. absurd (first 0 (omega arith) (sym (same_atom n m t))))
    (λ f.
    let p : x + suc j ≡ suc x + j = omega arith in
    rw (f, p) (value_from-at (suc x) ms w n j (omega arith) e (λ k below. first (suc k) (omega arith))))

pub length-world_of : (atoms : ℕ) (ns : List Node) (w : List Bool) → length (world_of atoms ns w) ≡ atoms
length-world_of zero ns w = refl
length-world_of (suc n) ns w = omega (arith, length-world_of n ns w, length_push (world_of n ns w) (value_from 0 ns w n))

pub world_of-at : (atoms : ℕ) (ns : List Node) (w : List Bool) (n : ℕ) → n < atoms → get_or (world_of atoms ns w) n false ≡ value_from 0 ns w n
world_of-at zero ns w n lt = absurd (omega arith)
world_of-at (suc k) ns w n lt = by_place (cases_lt n k) (world_of-at k ns w n)
  where
    by_place : (n < k) ⊎ (k ≤ n) → (n < k → get_or (world_of k ns w) n false ≡ value_from 0 ns w n)
        → get_or (world_of k ns w ++ value_from 0 ns w k ∷ []) n false ≡ value_from 0 ns w n
    by_place (inl below) earlier =
        let inside : n < length (world_of k ns w) = omega (arith, length-world_of k ns w) in
        get_or_append_left (world_of k ns w) (value_from 0 ns w k ∷ []) false n inside ∙ earlier below
    by_place (inr last) earlier =
        let here : k ≡ n = omega arith in
        let at_end : length (world_of k ns w) ≡ n = length-world_of k ns w ∙ here in
        get_or_push (world_of k ns w) (value_from 0 ns w k) false n at_end ∙ ap (value_from 0 ns w) here

-- the agreement at a node, from that at an atom
agrees-by_atom : (i : ℕ) (w : List Bool) (world : World) (m : Node)
    → ((n : ℕ) → m ≡ node.Atom n → get_or w i false ≡ get_or world n false) → AgreesAt i w world m
agrees-by_atom i w world (node.Atom n) h = h n refl
agrees-by_atom i w world node.True h = tt
agrees-by_atom i w world node.False h = tt
agrees-by_atom i w world (node.Not a) h = tt
agrees-by_atom i w world (node.And a b) h = tt
agrees-by_atom i w world (node.Or a b) h = tt
agrees-by_atom i w world (node.Implies a b) h = tt
agrees-by_atom i w world (node.Iff a b) h = tt

pub atom_below : (atoms n : ℕ) (m : Node) → AtomBelow atoms m → m ≡ node.Atom n → n < atoms
atom_below atoms n m h e = rw e at h

pub world_of-agrees : (atoms : ℕ) (ns : List Node) (w : List Bool) → AreNodes ns → All (AtomBelow atoms) ns → AgreeOnAtoms ns w (world_of atoms ns w)
world_of-agrees atoms ns w are within = record {
  at = λ i d lt. agrees-by_atom i w (world_of atoms ns w) (get_or ns i d) (λ n e.
      let here : get_or ns i node.True ≡ node.Atom n = get_or_default ns i node.True d lt ∙ e in
      let below : n < atoms = atom_below atoms n (get_or ns i d) (within i d lt) e in
      let first : FirstAt n ns i = λ k before same. are.once k i node.True before lt (same ∙ sym here) in
      let p : 0 + i ≡ i = omega arith in
      ap (λ k. get_or w k false) (sym p) ∙ sym (value_from-at 0 ns w n i lt here first) ∙ sym (world_of-at atoms ns w n below));
}

value_over-atom : (v : List Bool) (world : World) (m : Node) (n : ℕ) → m ≡ node.Atom n → value_over v world m ≡ get_or world n false
value_over-atom v world m n e = ap (value_over v world) e

-- the extension of a world agrees with it on atoms
pub extension-agrees : (ns : List Node) (world : World) → AreNodes ns → AgreeOnAtoms ns (extension ns world) world
extension-agrees ns world are = record {
  at = λ i d lt. agrees-by_atom i (extension ns world) world (get_or ns i d) (λ n e.
      get_or_default (truths ns world) i false true (rw (length-truths ns world) lt) ∙ values-at ns world are i d lt ∙ value_over-atom (truths ns world) world (get_or ns i d) n e);
}
