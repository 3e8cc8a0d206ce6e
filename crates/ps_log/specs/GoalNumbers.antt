-- The numbers of a goal, and its parts among them.
use Rattle.std.specs.Prelude.{ℕ, ◌==◌, ◌≡◌, nat_lt, int_le, ℤ, pos, Bool, true, false, ◌&&◌}
use Rattle.std.specs.Prelude.{if◌then◌else◌, List, [], ◌∷◌, ◌++◌, All, Result, Ok, Err, Option, ⊤}
use Rattle.ps_pb.specs.Constraints.{Constraint}
use Rattle.ps_pb.specs.Weights.{Weighted, are_rising}
use Rattle.ps_pb.specs.Limits.{IsLiteral}
use Rattle.ps_pb.specs.Weighing.{linear}
use Rattle.ps_log.specs.Limits.{IsGoalWithin}
use Rattle.ps_log.specs.Spellings.{words_of, IsDecimal, SpellAll}
use Rattle.ps_log.specs.Numbers.{words_after}
use Rattle.ps_log.specs.declared.line_error.LineError.{LineError}
use Rattle.ps_log.specs.declared.line_error.LineError.TheVariants.{Truncated, BadByte, NotCanonical, TooLarge, NoMemory}

-- the terms that have these coefficients and literals
abbrev pub pairs_from : List ℤ → Weighted
pairs_from [] = []
pairs_from (k ∷ []) = []
pairs_from (k ∷ l ∷ zs) = (l, k) ∷ pairs_from zs

-- coefficients of at least 1, each with a literal behind it
abbrev pub are_terms : List ℤ → Bool
are_terms [] = true
are_terms (k ∷ []) = false
are_terms (k ∷ l ∷ zs) = int_le (pos 1) k && are_terms zs

-- numbers are those of a goal: its degree, coefficient and literal for each term, 0
pub record AreGoalParts (numbers : List ℤ) (degree : ℤ) (terms : List ℤ) : Type 0 where
  pub is : numbers ≡ degree ∷ (terms ++ pos 0 ∷ [])
  pub fit : are_terms terms ≡ true

-- numbers are those of some goal
pub record HasGoalParts (numbers : List ℤ) : Type 0 where
  pub degree : ℤ
  pub terms : List ℤ
  pub parts : AreGoalParts numbers degree terms

-- numbers are not those of terms and a 0
pub record LacksTerms (numbers : List ℤ) : Type 0 where
  pub none : (terms : List ℤ) → numbers ≡ terms ++ pos 0 ∷ [] → are_terms terms ≡ true → ⊥

-- a term has a literal
abbrev pub HasLiteral : (ℤ × ℤ) → Type 0
HasLiteral t = IsLiteral t.0

-- the terms that have these numbers
abbrev pub AreTermsOf : List ℤ → Result Weighted LineError → Type 0
AreTermsOf numbers (Ok ts) = (ts ≡ pairs_from numbers) × All HasLiteral ts
AreTermsOf numbers (Err Truncated) = ⊥
AreTermsOf numbers (Err BadByte) = ⊥
AreTermsOf numbers (Err NotCanonical) = ⊥
AreTermsOf numbers (Err TooLarge) = All HasLiteral (pairs_from numbers) → ⊥
AreTermsOf numbers (Err NoMemory) = ⊤

-- the goal within the limits that has these parts
abbrev pub IsGoalOf : ℤ → List ℤ → Result Constraint LineError → Type 0
IsGoalOf degree terms (Ok g) = (g ≡ linear (pairs_from terms) degree) × IsGoalWithin g
IsGoalOf degree terms (Err Truncated) = ⊥
IsGoalOf degree terms (Err BadByte) = ⊥
IsGoalOf degree terms (Err NotCanonical) = ⊥
IsGoalOf degree terms (Err TooLarge) = IsGoalWithin (linear (pairs_from terms) degree) → ⊥
IsGoalOf degree terms (Err NoMemory) = ⊤

-- a word without its minus
abbrev pub size_word : List ℕ → List ℕ
size_word [] = []
size_word (c ∷ cs) = if c == 45 then cs else c ∷ cs

-- whether one word spells less than another, where both spell a number
pub record TellsLess (a b : List ℕ) (less : Bool) : Type 0 where
  pub at : (m n : ℕ) → IsDecimal a m → IsDecimal b n → less ≡ nat_lt m n

-- the literal of the first term without its minus, and what follows it
pub record HasVariable (bytes variable : List ℕ) (after : Option (List ℕ)) : Type 0 where
  pub coefficient : List ℕ
  pub literal : List ℕ
  pub words : words_of bytes ≡ coefficient ∷ literal ∷ words_after after
  pub size : variable ≡ size_word literal

-- nothing follows the first word
pub record HasOneWord (bytes : List ℕ) : Type 0 where
  pub word : List ℕ
  pub words : words_of bytes ≡ word ∷ []

-- whether the variables rise, where words spell a degree and then terms
pub record TellsRising (words : List (List ℕ)) (rising : Bool) : Type 0 where
  pub at : (degree : ℤ) (zs : List ℤ) → SpellAll words (degree ∷ zs) → rising ≡ are_rising 0 (pairs_from zs)
