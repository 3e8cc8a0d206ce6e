-- The whole numbers that certify an answer: duals, from the multipliers of a table, and models, from its values.
use Rattle.std.specs.Prelude.{◌≡◌, ℕ, zero, suc, ◌+◌, ℤ, pos, neg_ℤ, Bool}
use Rattle.std.specs.Prelude.{cond, if◌then◌else◌, List, [], ◌∷◌, ◌++◌, length, get_or}
use Rattle.std.specs.Int.{is_positive}
use Rattle.std.proofs.Common.{eqb}
use Rattle.ps_meaning.specs.Rational.{Rational, whole, mul, zero_q}
use Rattle.ps_meaning.specs.Scaled.{scaled}
use Rattle.ps_meaning.specs.Sums.{sum_to}
use Rattle.ps_meaning.specs.Formula.{World}
use Rattle.ps_meaning.specs.Distribution.{Entry, total}
use Rattle.ps_meaning.specs.Rows.{Row}
use Rattle.ps_simplex.specs.Rule.{SimplexTable}
use Rattle.ps_simplex.specs.RuleLaws.{multipliers}
use Rattle.ps_table.specs.Places as places
use Rattle.ps_claims.specs.Answers.{Model}
use Rattle.ps_claims.specs.declared.claim_kind.ClaimKind.{ClaimKind}
use Rattle.ps_claims.specs.declared.claim_kind.ClaimKind.TheVariants.{Nothing, Lower, Upper}
use Rattle.ps_claims.specs.Duals.{Dual, combination}
use Rattle.ps_problem.specs.Rows.{signed_by}
use Rattle.ps_runs.specs.Rows.{Setting, rows_of, entries_of}

-- ---- duals
-- the least common multiple of the multipliers' denominators
abbrev pub multiple_of : SimplexTable → (ℕ → Rational) → ℕ
multiple_of t cost = places.multiple_to t.rows cost t.basic t.entry t.rows

-- the multiplier of a row times this multiple, a whole number
abbrev pub whole_multiplier : SimplexTable → (ℕ → Rational) → ℕ → ℤ
whole_multiplier t cost m = scaled (multiple_of t cost) (multipliers t cost m)

-- the whole numbers of rows, turned round at those of lower bounds
abbrev pub signed : List Row → (ℕ → ℤ) → List ℤ
signed [] P = []
signed (r ∷ rs) P = signed_by r.side (P 0) ∷ signed rs (λ i. P (suc i))

-- the head of a dual, from the whole multiplier of the evidence's row: turned round for the upper side
abbrev pub head_of : ClaimKind → ℤ → ℤ
head_of Nothing z = z
head_of Lower z = z
head_of Upper z = neg_ℤ z

-- the top of a dual: the multiple of its multipliers for a side of a query, and 0 to show that nothing is allowed
abbrev pub top_of : ClaimKind → ℕ → ℤ
top_of Nothing big = pos 0
top_of Lower big = pos big
top_of Upper big = pos big

-- the dual of a table: the whole multiples of its multipliers, without steps
abbrev pub table_dual : ClaimKind → Setting → SimplexTable → (ℕ → Rational) → Dual
table_dual kind s t cost = record {
  top = top_of kind (multiple_of t cost);
  head = head_of kind (whole_multiplier t cost 0);
  rows = signed s.rows (λ i. whole_multiplier t cost (suc i));
  steps = [];
}

-- two duals have the same numbers, whatever their steps
pub record HaveSameNumbers (d e : Dual) : Type 0 where
  pub top : d.top ≡ e.top
  pub head : d.head ≡ e.head
  pub rows : d.rows ≡ e.rows

-- what the combination of a table's dual is in a world
abbrev pub combination_at : ClaimKind → Setting → SimplexTable → (ℕ → Rational) → World → ℤ
combination_at kind s t cost w = combination kind s.rows s.query (table_dual kind s t cost) w

-- what the multipliers make of a world's column
abbrev pub price : Setting → SimplexTable → (ℕ → Rational) → World → Rational
price s t cost w = sum_to (rows_of s) (λ m. mul (multipliers t cost m) (whole (get_or (entries_of s w) m (pos 0))))

-- ---- models
-- the value of a column: that of its row where it is basic, else 0
abbrev pub value_of : SimplexTable → ℕ → Rational
value_of t j = sum_to t.rows (λ i. cond (eqb (t.basic i) j) (t.entry i 0) zero_q)

-- whether a number is above 0
abbrev pub is_above : Rational → Bool
is_above x = is_positive x.over

-- the least common multiple of the denominators of the values of basic worlds
abbrev pub weight_multiple : SimplexTable → ℕ
weight_multiple t = places.weight_multiple_to t.rows t.basic t.entry t.rows

-- the entry of a world with this value: the value times the multiple is its weight; none unless the value is above 0
abbrev pub entry_for : ℕ → Rational → World → List Entry
entry_for big x w = if is_above x then record { weight = scaled big x; world = w } ∷ [] else []

-- the entry of a world with this weight; none unless the weight is above 0
abbrev pub entry_weighing : ℤ → World → List Entry
entry_weighing z w = if is_positive z then record { weight = z; world = w } ∷ [] else []

-- of the first worlds of the pool, those of value above 0, each with its value times the multiple
abbrev pub entries_to : SimplexTable → ℕ → List World → ℕ → List Entry
entries_to t big pool zero = []
entries_to t big pool (suc k) = entries_to t big pool k ++ entry_for big (value_of t (suc (t.rows + k))) (get_or pool k [])

-- the worlds of value above 0 by rising number, each with its value times the multiple
abbrev pub weighted_worlds : SimplexTable → List World → List Entry
weighted_worlds t pool = entries_to t (weight_multiple t) pool (length pool)

-- the model of a table
abbrev pub table_model : SimplexTable → List World → Model
table_model t pool = record { total = total (weighted_worlds t pool); worlds = weighted_worlds t pool }
