-- Distributions in which each world is replaced by the truth of each node in it.
use Rattle.std.specs.Prelude.{◌≡◌, ◌≤◌, ◌<◌, ℕ, ℤ, pos, ◌+ℤ◌, ◌*ℤ◌, List, Option, Some, None, length, map, All}
use Rattle.ps_meaning.specs.Formula.{Formula, Truth, Atom}
use Rattle.ps_meaning.specs.Distribution.{Entry, total}
use Rattle.ps_meaning.specs.Bounds.{Compares, Weights, sum_of_weights}
use Rattle.ps_formula.specs.Nodes.{truths}
use Rattle.ps_formula.specs.declared.node.Node.{Node}
use Rattle.ps_problem.specs.declared.row.Row.{Row}
use Rattle.ps_problem.specs.declared.limits.TheConstants.{MOST_SIZES}
use Rattle.ps_problem.specs.Rows.{row_size}
use Rattle.ps_valid.specs.declared.truth.Valuation.{Valuation}
use Rattle.ps_valid.specs.Limits.{IsAmount}
use Rattle.ps_answer.specs.declared.limits.TheConstants.{MOST_ENTRIES}

-- a valuation as an entry: its weight, and its truth values as a world
abbrev pub valued_entry : Valuation → Entry
valued_entry v = record { weight = v.weight; world = v.values.items }

-- each valuation as an entry
abbrev pub valued_entries : List Valuation → List Entry
valued_entries vs = map valued_entry vs

-- the entry over nodes: each node has its truth, so that node n is atom n
abbrev pub over_nodes : List Node → Entry → Entry
over_nodes ns e = record { weight = e.weight; world = truths ns e.world }

-- few valuations, each of a small weight
pub record AreValuations (vs : List Valuation) : Type 0 where
  pub few : length vs ≤ MOST_ENTRIES
  pub weights : All (λ v. IsAmount v.weight) vs

-- each valuation has the truth of this node
abbrev pub HaveNode : List Valuation → ℕ → Type 0
HaveNode vs n = All (λ v. n < length v.values.items) vs

-- the valuations have the entries' weights, and the truth of each node in the entries' worlds
pub record IsTableOf (ns : List Node) (d : List Entry) (vs : List Valuation) : Type 0 where
  pub entries : valued_entries vs ≡ map (over_nodes ns) d
  pub widths : All (λ v. length v.values.items ≡ length ns) vs

-- the condition as an atom over nodes, or truth where nothing is given
abbrev pub node_at : Option ℕ → Formula ℕ
node_at None = Truth
node_at (Some n) = Atom n

-- terms over nodes, each node as an atom
abbrev pub atom_terms : List (ℕ × ℤ) → Weights
atom_terms ts = map (λ t. (Atom t.0, t.1)) ts

-- each valuation has the truth of a row's nodes, and the row's numbers are small
pub record Covers (vs : List Valuation) (r : Row) : Type 0 where
  pub nodes : All (λ t. HaveNode vs t.0) r.terms
  pub small : row_size r ≤ MOST_SIZES

-- the sum of terms over entries over nodes: of each node the weight times its number
abbrev pub terms_sum : List Entry → List (ℕ × ℤ) → ℤ
terms_sum d ts = sum_of_weights (atom_terms ts) d

-- the sum of a row over entries over nodes
abbrev pub row_sum : List Entry → Row → ℤ
row_sum d r = (r.base *ℤ total d) +ℤ sum_of_weights (atom_terms r.terms) d

-- entries over nodes meet the row
unfoldable pub MeetsAt : List Entry → Row → Type 0
MeetsAt d r = Compares r.side (row_sum d r) (pos 0)
