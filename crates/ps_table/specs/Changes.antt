-- Changes of cells, and the cells with them.
use Rattle.std.specs.Prelude.{◌≡◌, ℕ, ◌+◌, ◌*◌, ◌/◌, ◌%◌, ◌<◌, ◌≤◌, List, [], ◌∷◌, length, get_or, set}
use Rattle.std.specs.List.{All}
use Rattle.ps_meaning.specs.Rational.{Rational, zero_q}
use Rattle.ps_table.specs.declared.change.Change.{Change}
use Rattle.ps_table.specs.declared.pivot.Pivot.{Pivot}
use Rattle.ps_table.specs.Grids.{GridCells, pivoted_in, IsNarrowBeside, ArePivoted}

-- the cells with these changes, made one after the other
abbrev pub written : List Rational → List Change → List Rational
written cells [] = cells
written cells (change ∷ changes) = written (set cells change.place change.entry) changes

-- there is a cell at the place of each change
abbrev pub AreInside : List Rational → List Change → Type 0
AreInside cells changes = All (λ (change : Change). change.place < length cells) changes

-- with these changes the cells before place k are those after the pivot, and the others are as they were
pub record IsUpTo (g : GridCells) (p : Pivot) (k : ℕ) (changes : List Change) : Type 0 where
  pub inside : AreInside g.cells changes
  pub done : (m : ℕ) → m < k → get_or (written g.cells changes) m zero_q ≡ pivoted_in g p (m % g.rows) (m / g.rows)
  pub rest : (m : ℕ) → k ≤ m → get_or (written g.cells changes) m zero_q ≡ get_or g.cells m zero_q
  pub narrow : (m : ℕ) → m < k → IsNarrowBeside g p (m % g.rows) (m / g.rows)

-- the changes of the columns before column j
abbrev pub IsUpToColumn : GridCells → Pivot → ℕ → List Change → Type 0
IsUpToColumn g p j changes = IsUpTo g p (j * g.rows) changes

-- the changes of the columns before column j, and of its cells before row i
abbrev pub IsUpToRow : GridCells → Pivot → ℕ → ℕ → List Change → Type 0
IsUpToRow g p i j changes = IsUpTo g p (j * g.rows + i) changes

-- the changes of a pivot: with them the cells are those after it
abbrev pub ArePivotChanges : GridCells → Pivot → List Change → Type 0
ArePivotChanges g p changes = ArePivoted g p (written g.cells changes)
