-- Texts of steps, with numbers of any size, and what is answered of the first line of some bytes.
use Rattle.std.specs.Prelude.{ℕ, ◌≡◌, ◌≤◌, Bool, List, [], ◌∷◌, All, unsigned_abs, Result}
use Rattle.ps_pb.specs.Steps.{Step}
use Rattle.ps_log.specs.Texts.{step_numbers, step_line}
use Rattle.ps_log.specs.Limits.{IsStepWithin}
use Rattle.ps_log.specs.Spellings.{words_of, SpellAll}
use Rattle.ps_log.specs.FirstLines.{is_text_byte, IsFirstLineOf, IsRefused, IsAnswer}
use Rattle.ps_log.specs.declared.line_error.LineError.{LineError}

-- a line is `s` and a spelling of each number of a step, whose numbers may have any size
pub record IsStepText (line : List ℕ) (s : Step) : Type 0 where
  pub spellings : List (List ℕ)
  pub words : words_of line ≡ (115 ∷ []) ∷ spellings
  pub spelled : SpellAll spellings (step_numbers s.id s.lits s.hints)
  pub nonzero : All (λ l. 1 ≤ unsigned_abs l) s.lits

-- a byte that a step's text may have: `s`, a digit, `-`, or a space
abbrev pub is_step_byte : ℕ → Bool
is_step_byte = is_text_byte 115

-- the first line is that of this step, which is within the limits, and has with its line feed this many bytes
abbrev pub HasStep : List ℕ → Step → ℕ → Type 0
HasStep bytes s count = IsFirstLineOf step_line IsStepWithin bytes s count

-- why bytes are no step
abbrev pub IsStepRefused : List ℕ → LineError → Type 0
IsStepRefused bytes why = IsRefused is_step_byte IsStepText IsStepWithin bytes why

-- what is answered of bytes that should begin with a step
abbrev pub IsStepAnswer : List ℕ → Result (Step × ℕ) LineError → Type 0
IsStepAnswer bytes result = IsAnswer (HasStep bytes) (IsStepRefused bytes) result
