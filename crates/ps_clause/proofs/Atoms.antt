-- The values of atoms, node by node.
use Rattle.std.proofs.Common.{◌≡◌, ◌≢◌, ℕ, suc, ◌+◌, ◌<◌, Bool, false, Option, Some, None, Result, Ok, Err, IfOk, List, length, map, set, take, get_or, refl, sym, ap, ◌∙◌, arith, All}
use Rattle.std.specs.Option.{unwrap_or}
use Rattle.ps_meaning.specs.Formula.{World}
use Rattle.ps_formula.specs.declared.node.Node.{Node}
use Rattle.ps_formula.specs.declared.node.Node.TheVariants as node
use Rattle.ps_formula.specs.Nodes.{AreNodes, AtomBelow}
use Rattle.ps_pb.specs.Assignments.{Assignment, value_at}
use Rattle.ps_clause.specs.Extensions.{value_or_false, values_of, world_of, is_atom, HasSetAtoms}
use Rattle.ps_clause.proofs.Values.{next_atom, next_other, values-at, world-has}
use Rattle.ps_pb.proofs.Full.{values-full}
use Rattle.ps_clause.proofs.Tidy.{by_bool}
use Rattle.ps_clause.proofs.Worlds.{same_atom, atom_below}

or_false : (o : Option Bool) → unwrap_or o false ≡ value_or_false o
or_false None = refl
or_false (Some b) = refl

value_is : (a : Assignment) (i : ℕ) → unwrap_or (value_at a (i + 1)) false ≡ get_or (values_of a) i false
unfolding value_at
value_is a i = let e : i + 1 ≡ suc i = omega arith in rw e (or_false (get_or a i None) ∙ sym (values-at a i))

-- one node more, which is an atom
pub atom_set : (atoms : ℕ) (ns : List Node) (a : Assignment) (i n : ℕ) (old new : List Bool) (v : Bool) → AreNodes ns → All (AtomBelow atoms) ns → i < length ns → get_or ns i node.True ≡ node.Atom n
    → v ≡ unwrap_or (value_at a (i + 1)) false → new ≡ set old n v → old ≡ world_of atoms (take i ns) (values_of a) → new ≡ world_of atoms (take (i + 1) ns) (values_of a)
atom_set atoms ns a i n old new v are within lt at is set_to before =
    set_to ∙ ap (λ x. set old n x) (is ∙ value_is a i) ∙ ap (λ x. set x n (get_or (values_of a) i false)) before ∙ next_atom atoms ns (values_of a) i n node.True are lt at (atom_below atoms n (get_or ns i node.True) (within i node.True lt) at)

-- one node more, which is no atom
pub other_passed : (atoms : ℕ) (ns : List Node) (a : Assignment) (i : ℕ) (old new : List Bool) → i < length ns → ((n : ℕ) → get_or ns i node.True ≢ node.Atom n)
    → new ≡ old → old ≡ world_of atoms (take i ns) (values_of a) → new ≡ world_of atoms (take (i + 1) ns) (values_of a)
other_passed atoms ns a i old new lt other same before =
    same ∙ before ∙ next_other atoms ns (values_of a) i node.True lt (λ k. by_bool (is_atom k (get_or ns i node.True)) (λ t. absurd (other k (sym (same_atom k (get_or ns i node.True) t)))) (λ f. f))

pub world_has : {E : Type 0} (r : Result World E) (atoms : ℕ) (ns : List Node) (a : Assignment) → AreNodes ns → All (AtomBelow atoms) ns → IfOk r (λ world. world ≡ world_of atoms ns (values_of a)) → IfOk r (λ world. HasSetAtoms ns a world)
world_has (Ok world) atoms ns a are within is = λ are_set. rw is (world-has atoms ns a are within are_set)
world_has (Err e) atoms ns a are within is = tt

pub world_full : {E : Type 0} (r : Result World E) (atoms : ℕ) (ns : List Node) (a : Assignment) → IfOk r (λ world. world ≡ world_of atoms ns (values_of a)) → (w : List Bool) → a ≡ map Some w → IfOk r (λ world. world ≡ world_of atoms ns w)
world_full (Ok world) atoms ns a is w full = is ∙ ap (world_of atoms ns) (ap values_of full ∙ values-full w)
world_full (Err e) atoms ns a is w full = tt
