-- The ground formulas of numbered parts, and their marks.
use Rattle.std.specs.Prelude.{◌≡◌, ◌<◌, ◌≤◌, ◌-◌, ◌+◌, ◌*◌, ℕ, min, List, length, map, All}
use Rattle.std.specs.Prelude.{slice_index_or, Result, Ok, Err}
use Rattle.ps_meaning.specs.Formula.{Formula, subformulas}
use Rattle.ps_meaning.specs.Formula as formula
use Rattle.ps_meaning.specs.Statements.{Name}
use Rattle.ps_problem.specs.Problems.{name_at}
use Rattle.ps_problem.specs.Numbering.{same_name, place_in}
use Rattle.ps_first_order.specs.declared.part.Connective.TheVariants as connective
use Rattle.ps_first_order.specs.declared.part.Part.{Part}
use Rattle.ps_first_order.specs.declared.part.Part.TheVariants as part
use Rattle.ps_first_order.specs.declared.part.FirstOrderParts.{FirstOrderParts}
use Rattle.ps_first_order.specs.FirstOrder.{FirstOrder, Assignment, Signature, Term, IsSentence, constant_of}
use Rattle.ps_first_order.specs.FirstOrder as first_order
use Rattle.ps_first_order.specs.Parts.{operand, formulas_in, formula_over, terms_of}
use Rattle.ps_ground.specs.declared.limits.TheConstants.{MOST_MARKS}
use Rattle.ps_ground.specs.declared.mark.GroundMark.{GroundMark}
use Rattle.ps_ground.specs.declared.mark.GroundMark.TheVariants as mark
use Rattle.ps_ground.specs.declared.mark.GroundFault.{GroundFault}
use Rattle.ps_ground.specs.declared.mark.GroundFault.TheVariants as fault
use Rattle.ps_ground.specs.Grounding.{atom_name, ground_under, ground_formula}

-- the assignment in which each variable stands for the constant of a number
abbrev pub assignment_in : FirstOrderParts → List ℕ → Assignment
assignment_in p numbers x = name_at p.constants (slice_index_or numbers (place_in same_name p.variables x) 0)

-- the constant that a term stands for there
abbrev pub constant_in : FirstOrderParts → List ℕ → Term → Name
constant_in p numbers t = constant_of (assignment_in p numbers) t

-- the name of a predicate with the constants that its terms, from one place to another, stand for there
abbrev pub name_in : FirstOrderParts → List ℕ → ℕ → ℕ → ℕ → Name
name_in p numbers i start end = atom_name (name_at p.predicates i) (map (constant_in p numbers) (terms_of p start end))

-- there is a constant for each variable
pub record AreNumbers (p : FirstOrderParts) (numbers : List ℕ) : Type 0 where
  pub each : length numbers ≡ length p.variables
  pub within : All (λ n. n < length p.constants) numbers

-- the mark of a formula's outermost part
abbrev pub mark_of : Formula Name → GroundMark
mark_of formula.Truth = mark.True
mark_of formula.Falsity = mark.False
mark_of (formula.Atom a) = mark.Name a
mark_of (formula.Not f) = mark.Not
mark_of (formula.And f g) = mark.Joined connective.And
mark_of (formula.Or f g) = mark.Joined connective.Or
mark_of (formula.Implies f g) = mark.Joined connective.Implies
mark_of (formula.Iff f g) = mark.Joined connective.Iff

-- the marks of a formula in postfix order
abbrev pub marks_of : Formula Name → List GroundMark
marks_of f = map mark_of (subformulas f)

-- the ground formula of a part
abbrev pub ground_part : FirstOrderParts → ℕ → Assignment → Formula Name
ground_part p i a = ground_under (operand (formulas_in p) i) p.constants a

-- the marks of a part's ground formula, where each variable stands for the constant of a number
abbrev pub marks_in : FirstOrderParts → ℕ → List ℕ → List GroundMark
marks_in p i numbers = marks_of (ground_part p i (assignment_in p numbers))

-- the formula of a place is that of its part over those of the parts
abbrev pub IsFormulaOf : FirstOrderParts → ℕ → Part → Type 0
IsFormulaOf p i x = operand (formulas_in p) i ≡ formula_over p (formulas_in p) x

-- how many marks the ground formula of a formula has over so many constants, at least one
abbrev pub count_marks : ℕ → FirstOrder → ℕ
count_marks n first_order.Truth = 1
count_marks n first_order.Falsity = 1
count_marks n (first_order.Holds p ts) = 1
count_marks n (first_order.Not f) = count_marks n f + 1
count_marks n (first_order.And f g) = count_marks n f + count_marks n g + 1
count_marks n (first_order.Or f g) = count_marks n f + count_marks n g + 1
count_marks n (first_order.Implies f g) = count_marks n f + count_marks n g + 1
count_marks n (first_order.Iff f g) = count_marks n f + count_marks n g + 1
count_marks n (first_order.ForAll x f) = n * count_marks n f + (n - 1)
count_marks n (first_order.Exists x f) = n * count_marks n f + (n - 1)

-- the result is the marks of a ground formula, which together with so many others are within the limit; or they are not
abbrev pub IsGrounded : Formula Name → ℕ → Result (List GroundMark) GroundFault → Type 0
IsGrounded f before (Ok marks) = (marks ≡ marks_of f) × (before + length (marks_of f) ≤ MOST_MARKS)
IsGrounded f before (Err fault.TooLarge) = MOST_MARKS < before + length (marks_of f)
IsGrounded f before (Err fault.NoMemory) = Unit {0}

-- a count, and one more than the limit where it is above
abbrev pub capped : ℕ → ℕ
capped n = min n (MOST_MARKS + 1)

-- a part's count over those of its operands
abbrev pub capped_over : ℕ → List ℕ → Part → ℕ
capped_over n counts part.True = 1
capped_over n counts part.False = 1
capped_over n counts (part.Holds i start end) = 1
capped_over n counts (part.Not a) = capped (slice_index_or counts a 0 + 1)
capped_over n counts (part.Joined c a b) = capped (slice_index_or counts a 0 + slice_index_or counts b 0 + 1)
capped_over n counts (part.Bound q x a) = capped (n * slice_index_or counts a 0 + (n - 1))

-- each count is at most one more than the limit
abbrev pub AreCapped : List ℕ → Type 0
AreCapped counts = All (λ n. n ≤ MOST_MARKS + 1) counts

-- there are the counts of so many parts' ground formulas
pub record AreCounted (p : FirstOrderParts) (i : ℕ) (counts : List ℕ) : Type 0 where
  pub each : length counts ≡ i
  pub counted : (k : ℕ) → k < i
      → slice_index_or counts k 0 ≡ capped (count_marks (length p.constants) (operand (formulas_in p) k))

-- whatever signature has these constants and the part's formula as a sentence, the result is that of its ground formula
abbrev pub IsGroundedPart : FirstOrderParts → ℕ → ℕ → Result (List GroundMark) GroundFault → Type 0
IsGroundedPart p i before result = (s : Signature) → s.constants ≡ p.constants → IsSentence s (operand (formulas_in p) i)
    → IsGrounded (ground_formula s (operand (formulas_in p) i)) before result
