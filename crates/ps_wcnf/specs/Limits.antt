-- The limits of texts.
use Rattle.std.specs.Prelude.{ℕ, ◌+◌, ◌≡◌, ◌≤◌, ◌^◌, max, ℤ, pos, ◌+ℤ◌, ◌≤ℤ◌, unsigned_abs, List, [], ◌∷◌, length, All}
use Rattle.ps_clause.specs.Clauses.{Clause}
use Rattle.ps_wcnf.specs.Costs.{Soft}
use Rattle.ps_wcnf.specs.Valued.{variables_after}
use Rattle.ps_wcnf.specs.declared.text.WcnfText.{WcnfText}

-- the greatest variable of literals, 0 for none
abbrev pub last_in : Clause → ℕ
last_in [] = 0
last_in (l ∷ ls) = max (unsigned_abs l) (last_in ls)

-- the greatest variable of hard clauses
abbrev pub last_hard : List Clause → ℕ
last_hard [] = 0
last_hard (c ∷ cs) = max (last_in c) (last_hard cs)

-- the greatest variable of soft clauses
abbrev pub last_soft : List Soft → ℕ
last_soft [] = 0
last_soft (s ∷ ss) = max (last_in s.1) (last_soft ss)

-- the sum of the weights
abbrev pub weight_sum : List Soft → ℤ
weight_sum [] = pos 0
weight_sum (s ∷ ss) = s.0 +ℤ weight_sum ss

-- the variables are those up to the greatest that is named
abbrev pub HasVariables : WcnfText → Type 0
HasVariables t = t.variables ≡ max (last_hard t.hard) (last_soft t.soft)

-- a weight is at least 1
abbrev pub IsWeight : Soft → Type 0
IsWeight s = pos 1 ≤ℤ s.0

-- a text is within the limits
pub record IsWithin (t : WcnfText) : Type 0 where
  pub weights : All (λ s. s.0 ≤ℤ pos (2 ^ 62)) t.soft
  pub sum : weight_sum t.soft ≤ℤ pos (2 ^ 90)
  pub clauses : length t.hard + length t.soft ≤ 1000000
  pub variables : variables_after t.variables t.soft ≤ 1024

-- a text that may be asked about: within the limits, with weights of at least 1, and the variables that it names
pub record IsText (t : WcnfText) : Type 0 where
  pub named : HasVariables t
  pub weights : All IsWeight t.soft
  pub within : IsWithin t

-- no literal is 0
abbrev pub AreLiterals : Clause → Type 0
AreLiterals c = All (λ l. 1 ≤ unsigned_abs l) c

-- no literal of the clauses is 0
pub record HasLiterals (t : WcnfText) : Type 0 where
  pub hard : All AreLiterals t.hard
  pub soft : All (λ s. AreLiterals s.1) t.soft
