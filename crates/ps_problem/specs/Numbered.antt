-- Formulas of a draft as far as they are numbered.
use Rattle.std.specs.Prelude.{◌≡◌, ◌≤◌, ◌<◌, ◌-◌, ℕ, ℤ, true, List, [], ◌∷◌, ◌++◌, Option}
use Rattle.std.specs.Prelude.{Result, Ok, Err, length, map, take, drop, All, Contains, IfSome, slice_index_or}
use Rattle.std.specs.List.{list_any}
use Rattle.ps_meaning.specs.Formula.{Formula, subformulas}
use Rattle.ps_meaning.specs.Formula as formula
use Rattle.ps_meaning.specs.Statements.{Name, Summand, Question}
use Rattle.ps_formula.specs.declared.node.Node.{Node}
use Rattle.ps_formula.specs.declared.node.Node.TheVariants as node
use Rattle.ps_formula.specs.declared.limits.TheConstants.{MOST_ATOMS, MOST_NODES}
use Rattle.ps_problem.specs.declared.mark.Mark.{Mark}
use Rattle.ps_problem.specs.declared.mark.Mark.TheVariants as mark
use Rattle.ps_problem.specs.declared.term.Term.{Term}
use Rattle.ps_problem.specs.declared.query.Query.{Query}
use Rattle.ps_problem.specs.declared.fault.Fault.{Fault}
use Rattle.ps_problem.specs.declared.fault.Fault.TheVariants as fault
use Rattle.ps_formula.specs.Nodes.{Adds}
use Rattle.ps_problem.specs.declared.excess.Excess.{Excess}
use Rattle.ps_problem.specs.declared.excess.Excess.TheVariants.{Nodes}
use Rattle.ps_problem.specs.Counts.{with_formulas}
use Rattle.ps_problem.specs.Drafts.{Drafted, NameBelow, made_by, marked, formula_at, question_at, summand_at}
use Rattle.ps_problem.specs.DraftLists.{open_after}
use Rattle.ps_problem.specs.declared.building.Building.{Building}
use Rattle.ps_problem.specs.Problems.{name_at}
use Rattle.ps_problem.specs.Numbering.{AreOnce, same_name, same_formula, place_in, names_among}
use Rattle.ps_problem.specs.Numbering.{node_in, both_of, query_in, term_in, numbered_for, numbered_in_terms}

-- a formula is among some
abbrev pub IsAmong : List (Formula Name) → Formula Name → Type 0
IsAmong fs f = list_any (same_formula f) fs ≡ true

-- a formula's operands are among some formulas, and an atom's name among theirs
abbrev pub AreOperandsAmong : List (Formula Name) → Formula Name → Type 0
AreOperandsAmong fs formula.Truth = Unit {0}
AreOperandsAmong fs formula.Falsity = Unit {0}
AreOperandsAmong fs (formula.Atom a) = list_any (same_name a) (names_among fs) ≡ true
AreOperandsAmong fs (formula.Not f) = IsAmong fs f
AreOperandsAmong fs (formula.And f g) = IsAmong fs f × IsAmong fs g
AreOperandsAmong fs (formula.Or f g) = IsAmong fs f × IsAmong fs g
AreOperandsAmong fs (formula.Implies f g) = IsAmong fs f × IsAmong fs g
AreOperandsAmong fs (formula.Iff f g) = IsAmong fs f × IsAmong fs g

-- some formulas whose atoms' names have these numbers among all names, and whose nodes are these
pub record Built (names : List Name) (atoms : List ℕ) (nodes : List Node) : Type 0 where
  pub formulas : List (Formula Name)
  pub different : AreOnce same_name names
  pub atoms_are : map (name_at names) atoms ≡ names_among formulas
  pub nodes_are : nodes ≡ map (node_in formulas) formulas
  pub operands : All (AreOperandsAmong formulas) formulas
  pub once : AreOnce same_formula formulas
  pub within : All (λ a. a < length names) atoms
  pub few_atoms : length atoms ≤ MOST_ATOMS
  pub few : length formulas ≤ MOST_NODES

-- the number of a formula that is there
abbrev pub IsNumberOf : List (Formula Name) → Formula Name → ℕ → Type 0
IsNumberOf fs f i = IsAmong fs f × (i ≡ place_in same_formula fs f)

-- the number so far below the top of a stack, 1 for the top
abbrev pub operand : List ℕ → ℕ → ℕ
operand ps k = slice_index_or ps (length ps - k) 0

-- the node of a mark over the nodes that stand open; of a name, whose node depends on the names, it says nothing
abbrev pub node_over : List ℕ → Mark → Node
node_over ps mark.True = node.True
node_over ps mark.False = node.False
node_over ps (mark.Name n) = node.True
node_over ps mark.Not = node.Not (operand ps 1)
node_over ps mark.And = node.And (operand ps 2) (operand ps 1)
node_over ps mark.Or = node.Or (operand ps 2) (operand ps 1)
node_over ps mark.Implies = node.Implies (operand ps 2) (operand ps 1)
node_over ps mark.Iff = node.Iff (operand ps 2) (operand ps 1)

-- a fault is the excess that is expected, or that memory ran out
abbrev pub IsFaultOf : Result (List (Formula Name)) Excess → Fault → Type 0
IsFaultOf expected (fault.TooMany e) = expected ≡ Err e
IsFaultOf expected fault.NoMemory = Unit {0}

-- the node was added, or stood there; a fault is that there was no place for it, or that memory ran out
abbrev pub IsAdded : List Node → Node → List Node → Result ℕ Fault → Type 0
IsAdded old n new (Ok i) = Adds old n i new × (length old ≡ MOST_NODES → ¬ Contains old n → ⊥)
IsAdded old n new (Err (fault.TooMany Nodes)) = (length old ≡ MOST_NODES) × ¬ Contains old n
IsAdded old n new (Err fault.NoMemory) = Unit {0}
IsAdded old n new (Err other) = ⊥

-- what is expected was built, and the formula has this number; or there is the excess that is expected
abbrev pub GivesNumber : List Name → Result (List (Formula Name)) Excess → Formula Name → List ℕ → List Node
    → Result ℕ Fault → Type 0
GivesNumber names expected f atoms nodes (Ok i) =
    (h : Built names atoms nodes) × (expected ≡ Ok h.formulas) × IsNumberOf h.formulas f i
GivesNumber names expected f atoms nodes (Err x) = IsFaultOf expected x

-- a stack holds the numbers of formulas that stand open
pub record IsStack (fs opened : List (Formula Name)) (numbers : List ℕ) : Type 0 where
  pub places : numbers ≡ map (place_in same_formula fs) opened
  pub among : All (IsAmong fs) opened

-- the formulas that marks make over those that stand open, in order
abbrev pub tops : List Name → List (Formula Name) → List Mark → List (Formula Name)
tops names fs [] = []
tops names fs (m ∷ ms) = made_by names fs m ∷ tops names (marked names fs m) ms

-- as far as a list of marks has been gone through: what is left to be numbered gives what all of them give
pub record MarksNumbered (names : List Name) (start : List (Formula Name)) (all : List Mark) (i : ℕ) (b : Building)
    (stack : List ℕ) : Type 0 where
  pub built : Built names b.atoms b.formulas
  pub stack_is : IsStack built.formulas (open_after names [] (take i all)) stack
  pub rest : with_formulas built.formulas (tops names (open_after names [] (take i all)) (drop i all))
      ≡ with_formulas start (tops names [] all)

-- the formulas of a question are among some
pub record HasQuestion (fs : List (Formula Name)) (q : Question) : Type 0 where
  pub formula : IsAmong fs q.formula
  pub given : IfSome q.given (IsAmong fs)
  pub both : IsAmong fs (both_of q.formula q.given)

-- the formula of a summand is among some
abbrev pub HasSummand : List (Formula Name) → Summand → Type 0
HasSummand fs t = IsAmong fs t.formula

-- what is expected was built, and the summands have these numbers, their coefficients times a scale; or there is the excess that
-- is expected
abbrev pub GivesTerms : List Name → Result (List (Formula Name)) Excess → ℕ → List Summand → Building
    → Result (List (ℕ × ℤ)) Fault → Type 0
GivesTerms names expected m ss b (Ok ts) = (h : Built names b.atoms b.formulas) × (expected ≡ Ok h.formulas)
    × All (HasSummand h.formulas) ss × (ts ≡ map (term_in h.formulas m) ss)
GivesTerms names expected m ss b (Err x) = IsFaultOf expected x

-- as far as terms have been gone through: those so far have their numbers, and what is left gives what all of them give
pub record TermsNumbered (names : List Name) (start : List (Formula Name)) (m : ℕ) (all : List Summand) (i : ℕ) (b : Building)
    (ts : List (ℕ × ℤ)) : Type 0 where
  pub built : Built names b.atoms b.formulas
  pub among : All (HasSummand built.formulas) (take i all)
  pub terms_are : ts ≡ map (term_in built.formulas m) (take i all)
  pub rest : with_formulas built.formulas (numbered_in_terms (drop i all)) ≡ with_formulas start (numbered_in_terms all)

-- whatever formulas of a draft were numbered before, all subformulas of some terms are behind them, and these have the numbers
-- of the result, their coefficients times a scale; or there is the excess at one of them
abbrev pub NumbersTerms : Drafted → Building → ℕ → List Term → Building → Result (List (ℕ × ℤ)) Fault → Type 0
NumbersTerms d old m ts new result = (h : Built d.names old.atoms old.formulas)
    → GivesTerms d.names (with_formulas h.formulas (numbered_in_terms (map (summand_at d.formulas) ts))) m
    (map (summand_at d.formulas) ts) new result

-- what is expected was built, and the question has these numbers; or there is the excess that is expected
abbrev pub GivesQuery : List Name → Result (List (Formula Name)) Excess → Question → List ℕ → List Node
    → Result Query Fault → Type 0
GivesQuery names expected q atoms nodes (Ok r) =
    (h : Built names atoms nodes) × (expected ≡ Ok h.formulas) × HasQuestion h.formulas q × (r ≡ query_in h.formulas q)
GivesQuery names expected q atoms nodes (Err x) = IsFaultOf expected x

-- a formula is behind some others and has this number; or there is the excess at it
abbrev pub IsNumbered : List Name → List (Formula Name) → Formula Name → Building → Result ℕ Fault → Type 0
IsNumbered names fs f b result = GivesNumber names (with_formulas fs (f ∷ [])) f b.atoms b.formulas result

-- all subformulas of a formula are behind some others, and it has this number; or there is the excess at one of them
abbrev pub ArePartsNumbered : List Name → List (Formula Name) → Formula Name → Building → Result ℕ Fault → Type 0
ArePartsNumbered names fs f b result = GivesNumber names (with_formulas fs (subformulas f)) f b.atoms b.formulas result

-- all formulas of a question are behind some others, and it has these numbers; or there is the excess at one of them
abbrev pub IsQuestionNumbered : List Name → List (Formula Name) → Question → Building → Result Query Fault → Type 0
IsQuestionNumbered names fs q b result =
    GivesQuery names (with_formulas fs (numbered_for q.formula q.given)) q b.atoms b.formulas result

-- whatever the names are and the formulas that were numbered before, the atom of the name with this number is behind them
-- and has the number of the result; or there is the excess at it
pub record NumbersAtom (old : Building) (name : ℕ) (new : Building) (result : Result ℕ Fault) : Type 0 where
  pub each : (names : List Name) (h : Built names old.atoms old.formulas) → name < length names
      → IsNumbered names h.formulas (formula.Atom (name_at names name)) new result

-- the same of the formula of a mark over the numbers of formulas that stand open
pub record NumbersMark (old : Building) (stack : List ℕ) (m : Mark) (new : Building) (result : Result ℕ Fault) : Type 0 where
  pub each : (names : List Name) (h : Built names old.atoms old.formulas) → NameBelow (length names) m
      → (fs : List (Formula Name)) → IsStack h.formulas fs stack → IsNumbered names h.formulas (made_by names fs m) new result

-- whatever formulas of a draft were numbered before, all subformulas of one, by its number in the draft, are behind them and
-- it has the number of the result; or there is the excess at one of them
abbrev pub NumbersParts : Drafted → Building → ℕ → Building → Result ℕ Fault → Type 0
NumbersParts d old f new result = (h : Built d.names old.atoms old.formulas)
    → ArePartsNumbered d.names h.formulas (formula_at d.formulas f) new result

-- the same of all formulas of a question over formulas of the draft
abbrev pub NumbersQuestion : Drafted → Building → ℕ → Option ℕ → Building → Result Query Fault → Type 0
NumbersQuestion d old f g new result = (h : Built d.names old.atoms old.formulas)
    → IsQuestionNumbered d.names h.formulas (question_at d.formulas f g) new result

-- a stack with a number in the place of its last ones, so many
abbrev pub replaced : List ℕ → ℕ → ℕ → List ℕ
replaced stack count number = take (length stack - count) stack ++ number ∷ []
