-- Hard clauses and weighted literals that say what hard and soft clauses say.
use Rattle.std.specs.Prelude.{ℕ, suc, nat_lt, ℤ, pos, ◌+ℤ◌, ◌-ℤ◌, Bool, not, ◌&&◌, if◌then◌else◌, List, [], ◌∷◌, ◌++◌, length}
use Rattle.std.specs.Prelude.{map}
use Rattle.ps_pb.specs.Constraints.{Constraint}
use Rattle.ps_pb.specs.Weights.{Weighted, clause_of, constraint_of, true_weight}
use Rattle.ps_clause.specs.Clauses.{Clause, positive, negative, once, is_tautology, tidy}
use Rattle.ps_clause.specs.Forms.{Form, form_over}
use Rattle.ps_wcnf.specs.Costs.{Soft}
use Rattle.ps_wcnf.specs.declared.text.WcnfText.{WcnfText}

-- whether a clause has two or more different literals
abbrev pub has_several : Clause → Bool
has_several c = nat_lt 1 (length (once c))

-- whether a soft clause gets a variable of its own: it has two or more different literals, none the opposite of another
abbrev pub is_long : Clause → Bool
is_long c = not (is_tautology c) && has_several c

-- the number of variables after a soft clause
abbrev pub after : ℕ → Soft → ℕ
after n s = if is_long s.1 then suc n else n

-- the number of variables after soft clauses
abbrev pub variables_after : ℕ → List Soft → ℕ
variables_after n [] = n
variables_after n (s ∷ ss) = variables_after (after n s) ss

-- the clause that says of a soft clause's own variable that it is true only where one of the literals is
abbrev pub own_clause : ℕ → Soft → List Clause
own_clause n s = if is_long s.1 then (s.1 ++ negative n ∷ []) ∷ [] else []

-- the clauses of the soft clauses' own variables, from the next variable on
abbrev pub own_clauses : ℕ → List Soft → List Clause
own_clauses n [] = []
own_clauses n (s ∷ ss) = own_clause n s ++ own_clauses (after n s) ss

-- the weighted literal that stands for a soft clause: its own variable, or its single literal. None where it has no literal,
-- or a literal and its opposite
abbrev pub own_literal : ℕ → Soft → Weighted
own_literal n s =
    if is_tautology s.1 then [] else (if has_several s.1 then (positive n, s.0) ∷ [] else map (λ l. (l, s.0)) (once s.1))

-- the weighted literals that stand for soft clauses, from the next variable on
abbrev pub own_literals : ℕ → List Soft → Weighted
own_literals n [] = []
own_literals n (s ∷ ss) = own_literal n s ++ own_literals (after n s) ss

-- the weight of the soft clauses that have a literal and its opposite
abbrev pub always : List Soft → ℤ
always [] = pos 0
always (s ∷ ss) = (if is_tautology s.1 then s.0 else pos 0) +ℤ always ss

-- the clauses of a text's form: the hard ones, and those of the soft clauses' own variables; without those that have a literal
-- and its opposite, and each literal once
abbrev pub clauses_of : WcnfText → List Clause
clauses_of t = tidy (t.hard ++ own_clauses t.variables t.soft)

-- a text's form
abbrev pub form_of : WcnfText → Form
form_of t = form_over (variables_after t.variables t.soft) [] (map clause_of (clauses_of t))

-- the weighted literals of a text
abbrev pub literals_of : WcnfText → Weighted
literals_of t = own_literals t.variables t.soft

-- what a value is without any of the weighted literals
abbrev pub base_of : WcnfText → ℤ
base_of t = pos 1 +ℤ always t.soft

-- the value of an assignment of the form's variables
abbrev pub value : WcnfText → List Bool → ℤ
value t v = base_of t +ℤ true_weight v (literals_of t)

-- the goal that the value is at least so much
abbrev pub goal_of : WcnfText → ℤ → Constraint
goal_of t least = constraint_of (literals_of t) (least -ℤ base_of t)
