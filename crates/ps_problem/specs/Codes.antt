-- A code for formulas over names, by which values that hold them are told apart.
use Rattle.std.specs.Prelude.{◌≡◌, ℕ, ◌==◌, List, [], ◌∷◌, if◌then◌else◌}
use mathlib.Core.Path.{refl, ◌∙◌}
use Rattle.std.specs.Coded.{Coded, code_by, coded_ℕ, coded_list, coded×}
use Rattle.ps_meaning.specs.Formula.{Formula, Truth, Falsity, Atom, Not, And, Or, Implies, Iff}
use Rattle.ps_meaning.specs.Statements.{Name}

-- the symbols of a formula in postfix order, each a number for its kind with a name, and then a rest
abbrev pub postfix : Formula Name → List (ℕ × Name) → List (ℕ × Name)
postfix Truth rest = (0, []) ∷ rest
postfix Falsity rest = (1, []) ∷ rest
postfix (Atom a) rest = (2, a) ∷ rest
postfix (Not f) rest = postfix f ((3, []) ∷ rest)
postfix (And f g) rest = postfix f (postfix g ((4, []) ∷ rest))
postfix (Or f g) rest = postfix f (postfix g ((5, []) ∷ rest))
postfix (Implies f g) rest = postfix f (postfix g ((6, []) ∷ rest))
postfix (Iff f g) rest = postfix f (postfix g ((7, []) ∷ rest))

-- the last formula of a stack negated
abbrev pub over_one : List (Formula Name) → List (Formula Name)
over_one [] = []
over_one (f ∷ fs) = Not f ∷ fs

-- the last two formulas of a stack joined by the connective of a kind
abbrev pub over_two : ℕ → List (Formula Name) → List (Formula Name)
over_two kind [] = []
over_two kind (g ∷ []) = []
over_two kind (g ∷ f ∷ fs) = (if kind == 4 then And f g
    else (if kind == 5 then Or f g else (if kind == 6 then Implies f g else Iff f g))) ∷ fs

-- the formulas, the last one first, after a symbol
abbrev pub after_symbol : List (Formula Name) → ℕ × Name → List (Formula Name)
after_symbol fs e = if e.0 == 0 then Truth ∷ fs else (if e.0 == 1 then Falsity ∷ fs else (if e.0 == 2 then Atom e.1 ∷ fs
    else (if e.0 == 3 then over_one fs else over_two e.0 fs)))

-- the formulas, the last one first, after several symbols
abbrev pub after_symbols : List (Formula Name) → List (ℕ × Name) → List (Formula Name)
after_symbols fs [] = fs
after_symbols fs (e ∷ es) = after_symbols (after_symbol fs e) es

-- the last formula of a stack
abbrev pub first_of_stack : List (Formula Name) → Formula Name
first_of_stack [] = Truth
first_of_stack (f ∷ fs) = f

-- the symbols of a formula put it on the stack
abbrev pub postfix_back : (f : Formula Name) (fs : List (Formula Name)) (rest : List (ℕ × Name))
    → after_symbols fs (postfix f rest) ≡ after_symbols (f ∷ fs) rest
postfix_back Truth fs rest = refl
postfix_back Falsity fs rest = refl
postfix_back (Atom a) fs rest = refl
postfix_back (Not f) fs rest = postfix_back f fs ((3, []) ∷ rest)
postfix_back (And f g) fs rest = postfix_back f fs (postfix g ((4, []) ∷ rest)) ∙ postfix_back g (f ∷ fs) ((4, []) ∷ rest)
postfix_back (Or f g) fs rest = postfix_back f fs (postfix g ((5, []) ∷ rest)) ∙ postfix_back g (f ∷ fs) ((5, []) ∷ rest)
postfix_back (Implies f g) fs rest = postfix_back f fs (postfix g ((6, []) ∷ rest)) ∙ postfix_back g (f ∷ fs) ((6, []) ∷ rest)
postfix_back (Iff f g) fs rest = postfix_back f fs (postfix g ((7, []) ∷ rest)) ∙ postfix_back g (f ∷ fs) ((7, []) ∷ rest)

-- formulas told apart by their postfix order
abbrev pub formula_code : Coded (Formula Name)
formula_code = code_by (List (ℕ × Name)) (coded_list (coded× coded_ℕ (coded_list coded_ℕ))) (λ f. postfix f []) (λ es.
    first_of_stack (after_symbols [] es))
    (λ f i. first_of_stack (postfix_back f [] [] i))
