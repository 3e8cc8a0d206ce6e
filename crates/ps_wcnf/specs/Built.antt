-- Forms that are built clause by clause.
use Rattle.std.specs.Prelude.{ℕ, ◌≤◌, ℤ, unsigned_abs, List, ◌++◌, map, All}
use Rattle.ps_pb.specs.Weights.{clause_of}
use Rattle.ps_clause.specs.Clauses.{Clause, tidy}
use Rattle.ps_clause.specs.Forms.{Form, form_over}
use Rattle.ps_wcnf.specs.Costs.{Soft}

-- a form with more clauses, those left out that have a literal and its opposite, and each literal once
abbrev pub with_clauses : Form → List Clause → Form
with_clauses f cs = form_over f.variables f.others (f.clauses ++ map clause_of (tidy cs))

-- a literal of the variables up to a number
pub record IsNamedBelow (n : ℕ) (l : ℤ) : Type 0 where
  pub some : 1 ≤ unsigned_abs l
  pub most : unsigned_abs l ≤ n

abbrev pub AreNamedBelow : ℕ → Clause → Type 0
AreNamedBelow n c = All (IsNamedBelow n) c

abbrev pub HardNamed : ℕ → List Clause → Type 0
HardNamed n cs = All (AreNamedBelow n) cs

abbrev pub SoftNamed : ℕ → List Soft → Type 0
SoftNamed n ss = All (λ s. AreNamedBelow n s.1) ss
