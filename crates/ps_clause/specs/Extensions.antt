-- Worlds and the full assignments of the nodes' variables.
use Rattle.std.specs.Prelude.{ℕ, zero, suc, ◌<◌, ◌≡◌, ◌==◌, Bool, false, if◌then◌else◌}
use Rattle.std.specs.Prelude.{Some, List, [], ◌∷◌, ◌++◌, length, slice_index_or, Contains}
use Rattle.ps_meaning.specs.Formula.{World}
use Rattle.ps_formula.specs.declared.node.Node.{Node}
use Rattle.ps_formula.specs.declared.node.Node.TheVariants as node
use Rattle.ps_formula.specs.Nodes.{truths}
use Rattle.ps_pb.specs.Assignments.{Assignment, value_at}
use Rattle.ps_clause.specs.Forms.{form_of}
use Rattle.ps_clause.specs.Decided.{AtomsAreSet}
pub use Rattle.ps_pb.specs.Assignments.{values_of, value_or_false}

-- the extension of a world gives each node's variable the truth of the node
abbrev pub extension : List Node → World → List Bool
extension ns world = truths ns world

-- an assignment gives an atom's variable the truth value of the atom in the world
abbrev pub AgreesAt : ℕ → List Bool → World → Node → Type 0
AgreesAt i w world (node.Atom n) = slice_index_or w i false ≡ slice_index_or world n false
AgreesAt i w world other = Unit {0}

-- an assignment and a world agree on each atom among the nodes
pub record AgreeOnAtoms (ns : List Node) (w : List Bool) (world : World) : Type 0 where
  pub at : (i : ℕ) (d : Node) → i < length ns → AgreesAt i w world (slice_index_or ns i d)

-- whether a node is the atom of number n
abbrev pub is_atom : ℕ → Node → Bool
is_atom n (node.Atom m) = m == n
is_atom n other = false

-- the value that an assignment gives the variable of an atom's node, among nodes that are numbered from here on;
-- false where no node is this atom
abbrev pub value_from : ℕ → List Node → List Bool → ℕ → Bool
value_from i [] w n = false
value_from i (m ∷ ms) w n = if is_atom n m then slice_index_or w i false else value_from (suc i) ms w n

-- the world of so many atoms that an assignment of the nodes' variables gives
abbrev pub world_of : ℕ → List Node → List Bool → World
world_of zero ns w = []
world_of (suc n) ns w = world_of n ns w ++ value_from 0 ns w n ∷ []

-- the world is the one that an assignment gives
abbrev pub IsWorldOf : ℕ → List Node → List Bool → World → Type 0
IsWorldOf atoms ns w world = world ≡ world_of atoms ns w

-- a partial assignment has for an atom's variable the truth value of the atom in the world
abbrev pub HasAtomAt : ℕ → Assignment → World → Node → Type 0
HasAtomAt i a world (node.Atom n) = value_at a (suc i) ≡ Some (slice_index_or world n false)
HasAtomAt i a world other = Unit {0}

-- a partial assignment has the truth value of each atom among the nodes
pub record HasAtoms (ns : List Node) (a : Assignment) (world : World) : Type 0 where
  pub at : (i : ℕ) (d : Node) → i < length ns → HasAtomAt i a world (slice_index_or ns i d)

-- the atoms below a number each have a node
pub record HasEachAtom (atoms : ℕ) (ns : List Node) : Type 0 where
  pub at : (n : ℕ) → n < atoms → Contains ns (node.Atom n)

-- the world has the values of the atoms' variables, where these are set
abbrev pub HasSetAtoms : List Node → Assignment → World → Type 0
HasSetAtoms ns a world = AtomsAreSet (form_of ns) a → HasAtoms ns a world
