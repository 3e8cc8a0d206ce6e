-- Lawful pivots of a system of rows and columns, told by bases alone.
use Rattle.std.specs.Prelude.{ℕ, Bool, List, [], ◌∷◌, ◌++◌}
use Rattle.ps_meaning.specs.Rational.{Rational}
use Rattle.ps_simplex.specs.Table.{Belongs, Based}
use Rattle.ps_simplex.specs.declared.phase.Phase.{Phase}
use Rattle.ps_simplex.specs.Rule.{SimplexTable, table_of, Enters, IsDueToEnd, Leaves}

-- rows and columns: column 0 is the right side, then come the homes, then the worlds
pub record System : Type 0 where
  pub rows : ℕ
  pub artificial : ℕ → Bool
  pub columns : ℕ → ℕ → Rational

-- the system of n rows with these artificials and columns
abbrev pub system_of : ℕ → (ℕ → Bool) → (ℕ → ℕ → Rational) → System
system_of n artificial A = record { rows = n; artificial = artificial; columns = A }

-- a table of the system, of w columns, as the rule sees it
abbrev pub simplex_table : System → ℕ → (ℕ → ℕ) → (ℕ → ℕ → Rational) → SimplexTable
simplex_table s w basic X = table_of s.rows w basic s.artificial X

-- a phase on a system: what its columns cost, and how many there are
pub record LinearProgram : Type 0 where
  pub phase : Phase
  pub system : System
  pub cost : ℕ → Rational
  pub width : ℕ

-- the phase on the system at this cost, with w columns
abbrev pub linear_program : Phase → System → (ℕ → Rational) → ℕ → LinearProgram
linear_program phase s cost w = record { phase = phase; system = s; cost = cost; width = w }

-- a pivot by the rule at a table of the basis
pub record IsLawfulAt (l : LinearProgram) (basic : ℕ → ℕ) (q p : ℕ) : Type 0 where
  pub table : ℕ → ℕ → Rational
  pub belongs : Belongs l.system.rows l.width l.system.columns basic table
  pub unfinished : IsDueToEnd l.phase (simplex_table l.system l.width basic table) → ⊥
  pub enters : Enters (simplex_table l.system l.width basic table) l.cost q
  pub leaves : Leaves l.phase (simplex_table l.system l.width basic table) q p

-- the column that enters and the row that leaves
pub record Pivot : Type 0 where
  pub enter : ℕ
  pub leave : ℕ

-- lawful pivots lead from one basis to another
pub data Pivots (l : LinearProgram) : (ℕ → ℕ) → List Pivot → (ℕ → ℕ) → Type 0 where
  still : (a : ℕ → ℕ) → Pivots l a [] a
  more : (a b c : ℕ → ℕ) (pivots : List Pivot) (q p : ℕ) → Pivots l a pivots b → IsLawfulAt l b q p → Based l.system.rows p q b c
      → Pivots l a (pivots ++ record { enter = q; leave = p } ∷ []) c
