-- Which assignments are allowed, what one costs, and which is the best.
use Rattle.std.specs.Prelude.{◌≡◌, ℤ, pos, ◌+ℤ◌, ◌≤ℤ◌, Bool, true, if◌then◌else◌, List, [], ◌∷◌, length}
use Rattle.std.specs.List.{list_all}
use Rattle.ps_clause.specs.Clauses.{Clause, meets}
use Rattle.ps_wcnf.specs.declared.text.WcnfText.{WcnfText}

-- a soft clause: its weight and its literals
abbrev pub Soft : Type 0
Soft = ℤ × Clause

-- a soft clause's weight where none of its literals is true, else 0
abbrev pub cost_part : List Bool → Soft → ℤ
cost_part w s = if meets w s.1 then pos 0 else s.0

-- a soft clause's weight where one of its literals is true, else 0
abbrev pub gain_part : List Bool → Soft → ℤ
gain_part w s = if meets w s.1 then s.0 else pos 0

-- the weight of the soft clauses in which no literal is true
abbrev pub cost : List Bool → List Soft → ℤ
cost w [] = pos 0
cost w (s ∷ ss) = cost_part w s +ℤ cost w ss

-- the weight of the soft clauses in which a literal is true
abbrev pub gain : List Bool → List Soft → ℤ
gain w [] = pos 0
gain w (s ∷ ss) = gain_part w s +ℤ gain w ss

-- an assignment gives each variable a value, and each hard clause has a true literal
pub record IsAllowed (t : WcnfText) (w : List Bool) : Type 0 where
  pub values : length w ≡ t.variables
  pub met : list_all (meets w) t.hard ≡ true

-- an allowed assignment has this cost, and none costs less
pub record IsOptimum (t : WcnfText) (w : List Bool) (least : ℤ) : Type 0 where
  pub allowed : IsAllowed t w
  pub is : least ≡ cost w t.soft
  pub most : (v : List Bool) → IsAllowed t v → least ≤ℤ cost v t.soft

-- no assignment is allowed
abbrev pub NoneIsAllowed : WcnfText → Type 0
NoneIsAllowed t = (w : List Bool) → ¬ IsAllowed t w
