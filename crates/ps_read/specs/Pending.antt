-- Operators that wait for their last operand, and the draft whose open formulas are their first ones.
use Rattle.std.specs.Prelude.{◌≡◌, ◌≤◌, All, ℕ, suc, nat_le, if◌then◌else◌, Bool, true}
use Rattle.std.specs.Prelude.{false, List, [], ◌∷◌, length, Option, Some, None}
use Rattle.ps_problem.specs.declared.mark.Mark.{Mark}
use Rattle.ps_problem.specs.declared.mark.Mark.TheVariants as mark
use Rattle.ps_problem.specs.declared.limits.TheConstants.{MOST_NESTING}
use Rattle.ps_text.specs.Canonical.{canonical_nesting}
use Rattle.ps_problem.specs.Drafts.{Drafted, with_mark}
use Rattle.ps_read.specs.declared.operator.Operator.{Operator}
use Rattle.ps_read.specs.declared.operator.Operator.TheVariants as operator

-- how tightly an operator binds; a `(` waits for its `)`
abbrev pub binding : Operator → ℕ
binding operator.Group = 0
binding operator.Iff = 1
binding operator.Implies = 2
binding operator.Or = 3
binding operator.And = 4
binding operator.Not = 5

-- the mark of an operator; a `(` has none of its own, and is never marked
abbrev pub mark_of : Operator → Mark
mark_of operator.Not = mark.Not
mark_of operator.And = mark.And
mark_of operator.Or = mark.Or
mark_of operator.Implies = mark.Implies
mark_of operator.Iff = mark.Iff
mark_of operator.Group = mark.Not

-- the operators that wait, the last one first, and the draft
pub record Pending : Type 0 where
  pub operators : List Operator
  pub draft : Drafted

-- one more operator waits
abbrev pub waiting : Operator → Pending → Pending
waiting o p = record { operators = o ∷ p.operators; draft = p.draft }

-- each operator that waits last and binds at least so tightly is reduced: it is marked, and waits no more
abbrev pub reduced_from : ℕ → List Operator → Drafted → Pending
reduced_from k [] d = record { operators = []; draft = d }
reduced_from k (o ∷ os) d = if nat_le k (binding o) then reduced_from k os (with_mark d (mark_of o))
    else record { operators = o ∷ os; draft = d }

-- the same of all operators that wait
abbrev pub reduced : ℕ → Pending → Pending
reduced k p = reduced_from k p.operators p.draft

-- the operator that is to be reduced next: the one that waits last, if it binds at least so tightly
abbrev pub reducible : ℕ → List Operator → Option Operator
reducible k [] = None
reducible k (o ∷ os) = if nat_le k (binding o) then Some o else None

-- something waits
abbrev pub is_waiting : List Operator → Bool
is_waiting [] = false
is_waiting (o ∷ os) = true

-- a `(` is open: something waits that isn't reduced at a `)`
abbrev pub is_grouped : Pending → Bool
is_grouped p = is_waiting (reduced 1 p).operators

-- behind a `)`: the `(` that waits last waits no more, and each `!` before it is reduced
abbrev pub group_ended : List Operator → Drafted → Pending
group_ended [] d = record { operators = []; draft = d }
group_ended (o ∷ os) d = reduced 5 (record { operators = os; draft = d })

-- at a `)` all is reduced that waits behind the last `(`, or all that waits
abbrev pub group_closed : Pending → Pending
group_closed p = group_ended (reduced 1 p).operators (reduced 1 p).draft

-- how many operators have a first operand
abbrev pub firsts : List Operator → ℕ
firsts [] = 0
firsts (operator.Not ∷ os) = firsts os
firsts (operator.Group ∷ os) = firsts os
firsts (operator.And ∷ os) = suc (firsts os)
firsts (operator.Or ∷ os) = suc (firsts os)
firsts (operator.Implies ∷ os) = suc (firsts os)
firsts (operator.Iff ∷ os) = suc (firsts os)

-- the first operands of what waits stand open, and no formula behind them
abbrev pub HaveFirst : Pending → Type 0
HaveFirst p = length p.draft.«open» ≡ firsts p.operators

-- the first operands of what waits stand open, and one formula behind them
abbrev pub HaveAll : Pending → Type 0
HaveAll p = length p.draft.«open» ≡ suc (firsts p.operators)

-- one formula stands open, and its canonical spelling doesn't nest too deep
pub record IsEndable (d : Drafted) : Type 0 where
  pub one : length d.«open» ≡ 1
  pub nesting : All (λ f. canonical_nesting f ≤ MOST_NESTING) d.«open»
