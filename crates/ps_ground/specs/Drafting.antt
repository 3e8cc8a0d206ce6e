-- The formula that marks of a ground formula make in a draft.
use Rattle.std.specs.Prelude.{◌≡◌, ◌≤◌, ◌+◌, ◌-◌, ℕ, List, [], ◌∷◌, ◌++◌, length, take}
use Rattle.ps_meaning.specs.Formula.{Formula}
use Rattle.ps_meaning.specs.Formula as formula
use Rattle.ps_meaning.specs.declared.limits.TheConstants.{LONGEST_NAME}
use Rattle.ps_meaning.specs.Names.{IsName}
use Rattle.ps_meaning.specs.Statements.{Name}
use Rattle.ps_text.specs.Canonical.{canonical_nesting, HasNames}
use Rattle.ps_problem.specs.declared.limits.TheConstants.{MOST_NESTING}
use Rattle.ps_problem.specs.Drafts.{Drafted, from_top}
use Rattle.ps_first_order.specs.declared.part.Connective.{Connective}
use Rattle.ps_first_order.specs.declared.part.Connective.TheVariants as connective
use Rattle.ps_ground.specs.declared.mark.GroundMark.{GroundMark}
use Rattle.ps_ground.specs.declared.mark.GroundMark.TheVariants as mark
use Rattle.ps_ground.specs.GroundParts.{marks_of}

-- two formulas by name, joined by a connective
abbrev pub connected : Connective → Formula Name → Formula Name → Formula Name
connected connective.And f g = formula.And f g
connected connective.Or f g = formula.Or f g
connected connective.Implies f g = formula.Implies f g
connected connective.Iff f g = formula.Iff f g

-- how many formulas a mark takes
abbrev pub taken_by : GroundMark → ℕ
taken_by mark.True = 0
taken_by mark.False = 0
taken_by (mark.Name a) = 0
taken_by mark.Not = 1
taken_by (mark.Joined c) = 2

-- the formula that a mark makes over the formulas that stand open
abbrev pub made_of : List (Formula Name) → GroundMark → Formula Name
made_of fs mark.True = formula.Truth
made_of fs mark.False = formula.Falsity
made_of fs (mark.Name a) = formula.Atom a
made_of fs mark.Not = formula.Not (from_top fs 1)
made_of fs (mark.Joined c) = connected c (from_top fs 2) (from_top fs 1)

-- the formulas that stand open after a mark
abbrev pub behind_mark : List (Formula Name) → GroundMark → List (Formula Name)
behind_mark fs m = take (length fs - taken_by m) fs ++ made_of fs m ∷ []

-- the formulas that stand open after some marks
abbrev pub behind_marks : List (Formula Name) → List GroundMark → List (Formula Name)
behind_marks fs [] = fs
behind_marks fs (m ∷ ms) = behind_marks (behind_mark fs m) ms

-- each mark finds its operands
abbrev pub FindOperands : List (Formula Name) → List GroundMark → Type 0
FindOperands fs [] = Unit {0}
FindOperands fs (m ∷ ms) = (taken_by m ≤ length fs) × FindOperands (behind_mark fs m) ms

-- where the mark is an atom, its name is a name
abbrev pub IsNamed : GroundMark → Type 0
IsNamed (mark.Name a) = IsName a
IsNamed other = Unit {0}

-- where the mark is an atom, its name isn't too long
abbrev pub IsShort : GroundMark → Type 0
IsShort (mark.Name a) = length a ≤ LONGEST_NAME
IsShort other = Unit {0}

-- the marks are those of a formula that a draft may hold
pub record AreDraftable (ms : List GroundMark) : Type 0 where
  pub formula : Formula Name
  pub is : ms ≡ marks_of formula
  pub named : HasNames formula
  pub nesting : canonical_nesting formula ≤ MOST_NESTING

-- one mark more: its formula stands open, and at most one name is new
pub record IsMarked (old : Drafted) (m : GroundMark) (new : Drafted) : Type 0 where
  pub opened : new.«open» ≡ behind_mark old.«open» m
  pub formulas : new.formulas ≡ old.formulas
  pub items : new.items ≡ old.items
  pub names : length new.names ≤ length old.names + 1

-- the formula of the marks is behind those of the draft, whose items stay, and it has this number
pub record HasFormula (old : Drafted) (ms : List GroundMark) (number : ℕ) (new : Drafted) : Type 0 where
  pub number_is : number ≡ length old.formulas
  pub formulas : (f : Formula Name) → ms ≡ marks_of f → new.formulas ≡ old.formulas ++ f ∷ []
  pub closed : new.«open» ≡ []
  pub items : new.items ≡ old.items
