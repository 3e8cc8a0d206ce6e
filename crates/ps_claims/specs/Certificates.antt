-- The models and duals that certificates hold, as claims speak of them, and how great the numbers of duals may be.
use Rattle.std.specs.Prelude.{◌≢◌, ℕ, ℤ, ◌≤◌, List, map, Option, All, unsigned_abs}
use Rattle.ps_meaning.specs.Distribution.{Entry}
use Rattle.ps_problem.specs.declared.row.Row.{Row}
use Rattle.ps_problem.specs.Problems.{Parts}
use Rattle.ps_problem.specs.Rows.{rows_in}
use Rattle.ps_answer.specs.declared.answer.Weighted.{Weighted}
use Rattle.ps_answer.specs.declared.answer.Model.{Model}
use Rattle.ps_answer.specs.declared.answer.Dual.{Dual}
use Rattle.ps_claims.specs.Answers as answers
use Rattle.ps_claims.specs.Duals as claimed
use Rattle.ps_claims.specs.declared.claim_kind.ClaimKind.{ClaimKind}
use Rattle.ps_claims.specs.declared.claim_kind.ClaimKind.TheVariants.{Nothing}
use Rattle.ps_claims.specs.declared.weighted_sum.Combination.{Combination}
use Rattle.ps_claims.specs.Goals.{combination_of}
use Rattle.ps_meaning.specs.declared.limits.TheConstants.{PRINTED_LIMIT}

-- the entry that a weighted world stands for
abbrev pub entry_of : Weighted → Entry
entry_of w = record { weight = w.weight; world = w.world }

-- the entries that weighted worlds stand for
abbrev pub entries : List Weighted → List Entry
entries ws = map entry_of ws

-- the model of which claims speak
abbrev pub model_of : Model → answers.Model
model_of m = record { total = m.total; worlds = entries m.worlds }

-- the dual of which claims speak
abbrev pub dual_of : Dual → claimed.Dual
dual_of d = record { top = d.top; head = d.head; rows = d.rows; steps = d.steps }

-- small enough for a number of a dual
abbrev pub IsMultiplier : ℤ → Type 0
IsMultiplier y = unsigned_abs y ≤ PRINTED_LIMIT

-- each number of the dual is small enough
pub record IsSmallDual (d : Dual) : Type 0 where
  pub top : IsMultiplier d.top
  pub head : IsMultiplier d.head
  pub rows : All IsMultiplier d.rows

-- the combination of a claim and rows, by a dual
abbrev pub combination_by : List Row → ClaimKind → Option ℕ → ℕ → Dual → Combination
combination_by rows kind given both d = combination_of kind given both rows (dual_of d)

-- the combination of a claim on a problem and the rows of its bounds, by a dual
abbrev pub combination_on : Parts → ClaimKind → Option ℕ → ℕ → Dual → Combination
combination_on p kind given both d = combination_by (rows_in p.sentences) kind given both d

-- a claim of this kind is on a query
abbrev pub HasQuery : ClaimKind → Type 0
HasQuery kind = kind ≢ Nothing
