-- Numbers that are cut off past every limit, and what words, lines and texts are read as.
use Rattle.std.specs.Prelude.{ℕ, ◌≡◌, ◌≤◌, ◌<◌, ◌+◌, ◌^◌, min, ℤ, pos, neg_ℤ, ◌<ℤ◌, ◌≤ℤ◌, unsigned_abs, Bool, true, false}
use Rattle.std.specs.Prelude.{if◌then◌else◌, Option, Some, None, Result, Ok, Err, List, [], ◌∷◌, ◌++◌, ◌⊎◌}
use Rattle.std.specs.Str.Parse.{digits_value}
use Rattle.ps_io.specs.declared.no_memory.NoMemory.{NoMemory}
use Rattle.ps_wcnf.specs.Costs.{Soft as SoftClause}
use Rattle.ps_wcnf.specs.Limits.{IsText, IsWithin, last_in, weight_sum}
use Rattle.ps_wcnf.specs.Readings.{with_line, IsAtFault}
use Rattle.ps_wcnf.specs.declared.wcnf_error.WcnfKind.{WcnfKind}
use Rattle.ps_wcnf.specs.declared.wcnf_error.WcnfKind.TheVariants.{TooLarge}
use Rattle.ps_wcnf.specs.Spelling.{is_count, is_literal, literal_of, literals_in, hard_of, soft_of}
use Rattle.ps_wcnf.specs.Spelling.{Line, Nothing, Hard, Soft, line_of}
use Rattle.ps_wcnf.specs.Valued.{is_long}
use Rattle.ps_wcnf.specs.declared.spelling.Spelled.{Spelled}
use Rattle.ps_wcnf.specs.declared.spelling.Spelled.TheVariants as word
use Rattle.ps_wcnf.specs.declared.line.Ended.{Ended}
use Rattle.ps_wcnf.specs.declared.line.Ended.TheVariants as ended
use Rattle.ps_wcnf.specs.declared.line.Told.{Told}
use Rattle.ps_wcnf.specs.declared.line.Told.TheVariants as told
use Rattle.ps_wcnf.specs.declared.text.WcnfText.{WcnfText}

-- one more than the greatest weight
abbrev pub most_count : ℕ
most_count = 2 ^ 62 + 1

-- the number that digits spell, cut off past every limit
abbrev pub IsCount : List ℕ → Option ℕ → Type 0
IsCount word None = is_count word ≡ false
IsCount word (Some n) = (is_count word ≡ true) × (n ≡ min most_count (digits_value 10 word))

-- the number of a size and a sign
abbrev pub signed_of : Bool → ℕ → ℤ
signed_of negative n = if negative then neg_ℤ (pos n) else pos n

-- the literal of a size and a sign
abbrev pub IsOfSize : ℕ → Bool → Spelled → Type 0
IsOfSize size negative word.Nothing = ⊥
IsOfSize size negative word.Large = 1024 < size
IsOfSize size negative (word.Literal l) = (size ≤ 1024) × (l ≡ signed_of negative size)

-- the literal that digits spell behind a sign
abbrev pub IsSigned : List ℕ → Bool → Spelled → Type 0
IsSigned digits negative word.Nothing = is_count digits ≡ false
IsSigned digits negative word.Large = (is_count digits ≡ true) × (1024 < digits_value 10 digits)
IsSigned digits negative (word.Literal l) = (is_count digits ≡ true) × (l ≡ signed_of negative (digits_value 10 digits))

-- the literal that a word spells
abbrev pub IsLiteralOf : List ℕ → Spelled → Type 0
IsLiteralOf w word.Nothing = is_literal w ≡ false
IsLiteralOf w word.Large = (is_literal w ≡ true) × (1024 < unsigned_abs (literal_of w))
IsLiteralOf w (word.Literal l) = (is_literal w ≡ true) × (l ≡ literal_of w)

-- one more literal is among others, or has been too large
pub record IsTaken (w : List ℕ) (old new : List ℤ) (large now : Bool) : Type 0 where
  pub literal : is_literal w ≡ true
  pub small : now ≡ false → (large ≡ false) × (new ≡ old ++ literal_of w ∷ [])
  pub big : now ≡ true → (large ≡ true) ⊎ (1024 < unsigned_abs (literal_of w))

-- what is taken of a word, if it is a literal
abbrev pub Takes : List ℕ → List ℤ → List ℤ → Bool → Option Bool → Type 0
Takes w old new large None = is_literal w ≡ false
Takes w old new large (Some now) = IsTaken w old new large now

-- the literals that words spell up to a closing 0
abbrev pub AreEnded : List (List ℕ) → Ended → Type 0
AreEnded words ended.Bad = literals_in words ≡ None
AreEnded words ended.Large = (ls : List ℤ) × (literals_in words ≡ Some ls) × (1024 < last_in ls)
AreEnded words (ended.Literals ls) = literals_in words ≡ Some ls

-- a weight or a literal of a line is past its limit
abbrev pub IsLarge : Line → Type 0
IsLarge Nothing = ⊥
IsLarge (Hard ls) = 1024 < last_in ls
IsLarge (Soft k ls) = (pos (2 ^ 62) <ℤ k) ⊎ (1024 < last_in ls)

-- what is told of a line that says this, if it has one of the forms
abbrev pub IsTold : Option Line → Told → Type 0
IsTold o told.Bad = o ≡ None
IsTold o told.Large = (l : Line) × (o ≡ Some l) × IsLarge l
IsTold o told.Nothing = o ≡ Some Nothing
IsTold o (told.Hard ls) = o ≡ Some (Hard ls)
IsTold o (told.Soft k ls) = (o ≡ Some (Soft k ls)) × (pos 1 ≤ℤ k) × (k ≤ℤ pos (2 ^ 62))

-- whatever words have these literals, they are told as a hard clause
abbrev pub TellsHard : Ended → Told → Type 0
TellsHard literals t = (words : List (List ℕ)) → AreEnded words literals → IsTold (hard_of (literals_in words)) t

-- and as a soft clause of a weight, which is known up to the most that is counted
abbrev pub TellsSoft : ℕ → Ended → Told → Type 0
TellsSoft weight literals t = (words : List (List ℕ)) (k : ℕ) → AreEnded words literals → weight ≡ min most_count k
    → IsTold (soft_of (pos k) (literals_in words)) t

-- what is told of a line
abbrev pub IsLine : List ℕ → Told → Type 0
IsLine line t = IsTold (line_of line) t

-- how many soft clauses get a variable of their own
abbrev pub long_count : List SoftClause → ℕ
long_count [] = 0
long_count (s ∷ ss) = (if is_long s.1 then 1 else 0) + long_count ss

-- a text within the limits, with the sum of its weights and the number of its long soft clauses
pub record IsKept (t : WcnfText) (sum : ℤ) (long : ℕ) : Type 0 where
  pub text : IsText t
  pub sum_is : sum ≡ weight_sum t.soft
  pub long_is : long ≡ long_count t.soft

-- a line is added where the text stays within the limits
abbrev pub Adds : WcnfText → WcnfText → Line → Result Bool NoMemory → Type 0
Adds old new l (Ok true) = (new ≡ with_line old l) × IsText new
Adds old new l (Ok false) = ¬ IsWithin (with_line old l)
Adds old new l (Err e) = Unit {0}

-- a line is taken: what it says is added, or it is at fault
abbrev pub TakesLine : WcnfText → WcnfText → List ℕ → Option WcnfKind → Type 0
TakesLine old new line None = (l : Line) × (line_of line ≡ Some l) × (new ≡ with_line old l) × (IsText old → IsText new)
TakesLine old new line (Some kind) = IsAtFault old line kind

-- a text is too large where the line wasn't added
abbrev pub IsLargeUnless : Bool → Option WcnfKind → Type 0
IsLargeUnless true o = o ≡ None
IsLargeUnless false o = o ≡ Some TooLarge
