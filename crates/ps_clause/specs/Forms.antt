-- Forms: clauses over some variables, as constraints.
use Rattle.std.specs.Prelude.{ℕ, zero, suc, ◌<◌, ◌≡◌, ℤ, Bool, true, false, not, ◌&&◌, nat_lt}
use Rattle.std.specs.Prelude.{Option, None, List, [], ◌∷◌, ◌++◌, length, map, slice_get, slice_index_or, All}
use Rattle.ps_formula.specs.declared.node.Node.{Node}
use Rattle.ps_formula.specs.declared.node.Node.TheVariants as node
use Rattle.ps_pb.specs.Assignments.{place, AreDifferent}
use Rattle.ps_pb.specs.Constraints.{Constraint, IsMet}
use Rattle.ps_pb.specs.Weights.{clause_of}
use Rattle.ps_pb.specs.Steps.{Known, known_of}
pub use Rattle.ps_pb.specs.Weights.{IsWithin}
use Rattle.ps_clause.specs.Clauses.{clause_form}

-- clauses over variables from 1 on; a variable is an atom's unless it is marked, at its place, as that of another node
pub record Form : Type 0 where
  pub variables : ℕ
  pub others : List Bool
  pub clauses : List Constraint

-- the form of these parts
abbrev pub form_over : ℕ → List Bool → List Constraint → Form
form_over variables others clauses = record { variables = variables; others = others; clauses = clauses }

-- whether a node is no atom
abbrev pub is_other : Node → Bool
is_other (node.Atom n) = false
is_other n = true

-- the form of all nodes
abbrev pub form_of : List Node → Form
form_of ns = record { variables = length ns; others = map is_other ns; clauses = map clause_of (clause_form ns) }

-- a form without clauses, in which each variable is an atom's
abbrev pub empty_form : ℕ → Form
empty_form variables = record { variables = variables; others = []; clauses = [] }

-- whether a variable, by its number, is an atom's
abbrev pub is_atom_variable : Form → ℕ → Bool
is_atom_variable f zero = false
is_atom_variable f (suc p) = nat_lt p f.variables && not (slice_index_or f.others p false)

-- the clause of a number, from 1 on
abbrev pub clause_at : Form → ℕ → Option Constraint
clause_at f zero = None
clause_at f (suc i) = slice_get f.clauses i

-- one more clause, at the end
abbrev pub with_clause : Form → Constraint → Form
with_clause f c = record { variables = f.variables; others = f.others; clauses = f.clauses ++ c ∷ [] }

-- a full assignment meets each clause
abbrev pub MeetsForm : List Bool → Form → Type 0
MeetsForm w f = All (IsMet w) f.clauses

-- the literals of each clause are of the form's variables
abbrev pub AreInside : Form → Type 0
AreInside f = All (IsWithin f.variables) f.clauses

-- a constraint is the clause of different literals of these variables
pub record IsClause (variables : ℕ) (c : Constraint) : Type 0 where
  pub lits : List ℤ
  pub is : c ≡ clause_of lits
  pub within : All (λ l. place l < variables) lits
  pub different : AreDifferent lits

-- each of the form's clauses is one of its variables
abbrev pub HasClauses : Form → Type 0
HasClauses f = All (IsClause f.variables) f.clauses

-- what is known at first: the clauses, under their numbers, and then the goal
abbrev pub first_known : Form → Constraint → Known
first_known f goal = known_of (f.clauses ++ goal ∷ [])
