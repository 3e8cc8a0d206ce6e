-- What is still to be written of a formula: the tasks on a stack, the last one first.
use Rattle.std.specs.Prelude.{◌≡◌, ℕ, ◌+◌, ◌<◌, ◌≤◌, Bool, List, [], ◌∷◌}
use Rattle.std.specs.Prelude.{◌++◌, All, Result, OnOk, length, codes, nat_lt, if◌then◌else◌}
use Rattle.ps_io.specs.declared.no_memory.NoMemory.{NoMemory}
use Rattle.ps_meaning.specs.Formula as formula
use Rattle.ps_meaning.specs.Statements.{Name}
use Rattle.ps_text.specs.Grammar.{And, Or, Implies, Iff}
use Rattle.ps_text.specs.Canonical.{fitted, canonical_formula, syntax_text}
use Rattle.ps_problem.specs.Problems.{Parts}
use Rattle.ps_problem.specs.Written.{named_at}
use Rattle.ps_canonical.specs.declared.connective.Connective.{Connective}
use Rattle.ps_canonical.specs.declared.connective.Connective.TheVariants as connective
use Rattle.ps_canonical.specs.declared.task.Task.{Task}
use Rattle.ps_canonical.specs.declared.task.Task.TheVariants as task

-- a connective's level
abbrev pub level_of : Connective → ℕ
level_of connective.And = 4
level_of connective.Or = 3
level_of connective.Implies = 2
level_of connective.Iff = 1

-- the level that its left operand needs
abbrev pub left_of : Connective → ℕ
left_of connective.And = 4
left_of connective.Or = 3
left_of connective.Implies = 3
left_of connective.Iff = 1

-- the level that its right operand needs
abbrev pub right_of : Connective → ℕ
right_of connective.And = 5
right_of connective.Or = 4
right_of connective.Implies = 2
right_of connective.Iff = 2

-- its sign, between spaces
abbrev pub sign_of : Connective → List ℕ
sign_of connective.And = codes " & "
sign_of connective.Or = codes " | "
sign_of connective.Implies = codes " -> "
sign_of connective.Iff = codes " <-> "

-- a formula of two formulas
abbrev pub joined : Connective → formula.Formula Name → formula.Formula Name → formula.Formula Name
joined connective.And f g = formula.And f g
joined connective.Or f g = formula.Or f g
joined connective.Implies f g = formula.Implies f g
joined connective.Iff f g = formula.Iff f g

-- the text of a formula where an operand of this level is required
abbrev pub operand_text : ℕ → formula.Formula Name → List ℕ
operand_text k f = syntax_text (fitted k (canonical_formula f))

-- the text of a task
abbrev pub task_text : Parts → Task → List ℕ
task_text p (task.Formula i k) = operand_text k (named_at p i)
task_text p (task.Connective c) = sign_of c
task_text p task.Close = codes ")"

-- the text of the tasks on a stack
abbrev pub tasks_text : Parts → List Task → List ℕ
tasks_text p [] = []
tasks_text p (t ∷ ts) = tasks_text p ts ++ task_text p t

-- the node of a task is there, and the required level is one of the five
abbrev pub IsTask : ℕ → Task → Type 0
IsTask n (task.Formula i k) = (i < n) × (k ≤ 5)
IsTask n other = Unit {0}

-- the `(` of a formula, where it needs one
abbrev pub opening : Bool → List ℕ
opening b = if b then codes "(" else []

-- the `)` of a formula, where it needs one
abbrev pub closing : Bool → List ℕ
closing b = if b then codes ")" else []

-- the task of that `)`
abbrev pub closing_task : Bool → List Task
closing_task b = if b then task.Close ∷ [] else []

-- the tasks of two operands and the connective between them, behind others
abbrev pub with_operands : List Task → Bool → ℕ → Connective → ℕ → List Task
with_operands ts b l c r =
    (((ts ++ closing_task b) ++ task.Formula r (right_of c) ∷ []) ++ task.Connective c ∷ []) ++ task.Formula l (left_of c) ∷ []

-- the same where an operand of this level is required
abbrev pub with_join : List Task → ℕ → ℕ → Connective → ℕ → List Task
with_join ts k l c r = with_operands ts (nat_lt (level_of c) k) l c r

-- the `(` of two operands where an operand of this level is required, if they need one
abbrev pub join_opening : Connective → ℕ → List ℕ
join_opening c k = opening (nat_lt (level_of c) k)

-- how many steps a formula takes at most
abbrev pub steps_of : {A : Type 0} → formula.Formula A → ℕ
steps_of formula.Truth = 1
steps_of formula.Falsity = 1
steps_of (formula.Atom a) = 1
steps_of (formula.Not f) = 1 + steps_of f
steps_of (formula.And f g) = 3 + steps_of f + steps_of g
steps_of (formula.Or f g) = 3 + steps_of f + steps_of g
steps_of (formula.Implies f g) = 3 + steps_of f + steps_of g
steps_of (formula.Iff f g) = 3 + steps_of f + steps_of g

-- how many steps a task takes at most
abbrev pub task_steps : Parts → Task → ℕ
task_steps p (task.Formula i k) = steps_of (named_at p i)
task_steps p (task.Connective c) = 1
task_steps p task.Close = 1

-- how many steps the tasks on a stack take at most
abbrev pub tasks_steps : Parts → List Task → ℕ
tasks_steps p [] = 0
tasks_steps p (t ∷ ts) = task_steps p t + tasks_steps p ts

-- a task was carried out: what was written and what is to be written is the same text, and fewer steps are left
pub record IsCarriedOut (p : Parts) (t : Task) (ts : List Task) (out : List ℕ) (ts' : List Task) (out' : List ℕ) : Type 0 where
  pub text : out' ++ tasks_text p ts' ≡ out ++ (task_text p t ++ tasks_text p ts)
  pub there : All (IsTask (length p.nodes)) ts'
  pub fewer : tasks_steps p ts' < task_steps p t + tasks_steps p ts

-- a text on the way: the tasks that are left of it, and what is written
abbrev pub Writing : Type 0
Writing = List Task × List ℕ

-- so a task was carried out, unless memory ran out
abbrev pub CarriesOut : Parts → Task → Writing → Writing → Result (Unit {0}) NoMemory → Type 0
CarriesOut p t (ts, out) (ts', out') result = OnOk result (IsCarriedOut p t ts out ts' out')

-- so a node was written as far as its operands where an operand of this level is required, unless memory ran out
abbrev pub Begins : Parts → ℕ → ℕ → Writing → Writing → Result (Unit {0}) NoMemory → Type 0
Begins p i level old new result = CarriesOut p (task.Formula i level) old new result
