-- What holds of forms.
use Rattle.std.specs.Prelude.{ℕ, ◌<◌, ◌≡◌, ℤ, Bool, true, false, List, length, All, ◌↔◌}
use Rattle.std.specs.List.{list_all}
use Rattle.ps_meaning.specs.Formula.{World}
use Rattle.ps_formula.specs.declared.node.Node.{Node}
use Rattle.ps_formula.specs.Nodes.{AreNodes, AtomBelow}
use Rattle.ps_pb.specs.Assignments.{Assignment, place, full, values_of, AreDifferent}
use Rattle.ps_pb.specs.Constraints.{Constraint, IsMet, is_violated, Forces}
use Rattle.ps_pb.specs.Weights.{clause_of, IsWithin}
use Rattle.ps_pb.specs.Steps.{Known, AreWithin, AreMet, Entails, IsUnmet}
use Rattle.ps_clause.specs.Clauses.{meets, clause_form}
use Rattle.ps_clause.specs.Extensions.{extension, AgreeOnAtoms, world_of, HasAtoms, HasEachAtom}
use Rattle.ps_clause.specs.Forms.{Form, form_of, empty_form, with_clause, MeetsForm, AreInside, HasClauses, first_known}
use Rattle.ps_clause.specs.Decided.{IsIdle, AtomsAreSet, AllAreSet, AtomsDecide}

-- ---- what clauses mean
-- an assignment and a world that agree on atoms: the one meets the clauses exactly where it is the extension of the other
abbrev pub ClausesSayExtensions : Type 0
ClausesSayExtensions = (ns : List Node) (w : List Bool) (world : World) → AreNodes ns → length w ≡ length ns
    → AgreeOnAtoms ns w world
    → (list_all (meets w) (clause_form ns) ≡ true) ↔ (w ≡ extension ns world)

-- an assignment meets the clauses exactly where it is the extension of the world that its atoms' variables give
abbrev pub ClausesSayWorlds : Type 0
ClausesSayWorlds = (ns : List Node) (w : List Bool) (atoms : ℕ) → AreNodes ns → length w ≡ length ns → All (AtomBelow atoms) ns
    → (list_all (meets w) (clause_form ns) ≡ true) ↔ (w ≡ extension ns (world_of atoms ns w))

-- the constraints of the form say what its clauses say
abbrev pub ConstraintsSayClauses : Type 0
ConstraintsSayClauses = (ns : List Node) (w : List Bool) → MeetsForm w (form_of ns) ↔ (list_all (meets w) (clause_form ns) ≡ true)

-- the extension of a world agrees with it on atoms
abbrev pub ExtensionsAgree : Type 0
ExtensionsAgree = (ns : List Node) (world : World) → AreNodes ns → AgreeOnAtoms ns (extension ns world) world

-- ---- forms that their atoms decide
-- the form of all nodes is decided by its atoms
abbrev pub AtomsDecideNodes : Type 0
AtomsDecideNodes = (ns : List Node) → AreNodes ns → AtomsDecide (form_of ns)

-- a form without clauses, in which each variable is an atom's, is decided by its atoms
abbrev pub AtomsDecideEmptyForms : Type 0
AtomsDecideEmptyForms = (variables : ℕ) → AtomsDecide (empty_form variables)

-- a form that its atoms decide is decided by them with one more clause too
abbrev pub DecidingStays : Type 0
DecidingStays = (f : Form) (c : Constraint) → AtomsDecide f → AtomsDecide (with_clause f c)

-- a constraint is idle exactly where it is neither violated nor forces a literal
abbrev pub IdleForceNothing : Type 0
IdleForceNothing = (c : Constraint) (a : Assignment) → IsIdle c a ↔ ((is_violated c a ≡ false) × ((l : ℤ) → ¬ Forces c a l))

-- an assignment of the form's variables in which all are set is the full one of its values
abbrev pub AllSetAreFull : Type 0
AllSetAreFull = (f : Form) (a : Assignment) → length a ≡ f.variables → AllAreSet f a → a ≡ full (values_of a)

-- ---- worlds
-- where the atoms' variables are set, they have the values of the atoms in the assignment's world
abbrev pub WorldsHaveAtoms : Type 0
WorldsHaveAtoms = (atoms : ℕ) (ns : List Node) (a : Assignment) → AreNodes ns → All (AtomBelow atoms) ns
    → AtomsAreSet (form_of ns) a
    → HasAtoms ns a (world_of atoms ns (values_of a))

-- the world of an extension is the world that was extended, where each atom has a node
abbrev pub ExtendedComeBack : Type 0
ExtendedComeBack = (ns : List Node) (world : World) → AreNodes ns → All (AtomBelow (length world)) ns
    → HasEachAtom (length world) ns
    → world_of (length world) ns (extension ns world) ≡ world

-- ---- clauses of a form's variables
-- each clause of all nodes is one of the form's variables
abbrev pub NodesHaveClauses : Type 0
NodesHaveClauses = (ns : List Node) → AreNodes ns → HasClauses (form_of ns)

-- a form whose clauses are of its variables stays so with one more clause of different literals of them
abbrev pub OneMoreClause : Type 0
OneMoreClause = (f : Form) (lits : List ℤ) → HasClauses f → All (λ l. place l < f.variables) lits → AreDifferent lits
    → HasClauses (with_clause f (clause_of lits))

-- where each clause is one of the form's variables, its literals are of them
abbrev pub ClausesAreInside : Type 0
ClausesAreInside = (f : Form) → HasClauses f → AreInside f

-- ---- a form and a goal
-- what is known at first is met exactly where the form and the goal are
abbrev pub StartSaysBoth : Type 0
StartSaysBoth = (f : Form) (goal : Constraint) (w : List Bool) → AreMet w (first_known f goal) ↔ (MeetsForm w f × IsMet w goal)

-- what is known at first is of the form's variables where the form and the goal are
abbrev pub StartIsWithin : Type 0
StartIsWithin = (f : Form) (goal : Constraint) → AreInside f → IsWithin f.variables goal
    → AreWithin f.variables (first_known f goal)

-- where nothing meets what follows from what is known at first, nothing that meets the form meets the goal
abbrev pub UnmetRefutesGoal : Type 0
UnmetRefutesGoal = (f : Form) (goal : Constraint) (later : Known) → Entails (first_known f goal) later → IsUnmet later
    → (w : List Bool) → MeetsForm w f → ¬ IsMet w goal
