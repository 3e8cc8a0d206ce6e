-- The text that is read, and the first line at fault.
use Rattle.std.specs.Prelude.{ℕ, ◌≡◌, ◌+◌, max, Some, None, Result, Ok, Err, List, [], ◌∷◌, ◌++◌, length, map, fold}
use Rattle.ps_wcnf.specs.Limits.{IsWithin, last_in}
use Rattle.ps_wcnf.specs.Spelling.{Line, Nothing, Hard, Soft, line_of}
use Rattle.ps_wcnf.specs.Splitting.{lines_of}
use Rattle.ps_wcnf.specs.declared.text.WcnfText.{WcnfText}
use Rattle.ps_wcnf.specs.declared.wcnf_error.WcnfError.{WcnfError}
use Rattle.ps_wcnf.specs.declared.wcnf_error.WcnfError.TheVariants.{At, NoMemory}
use Rattle.ps_wcnf.specs.declared.wcnf_error.WcnfKind.{WcnfKind}
use Rattle.ps_wcnf.specs.declared.wcnf_error.WcnfKind.TheVariants.{BadLine, TooLarge}

-- no clauses
abbrev pub no_text : WcnfText
no_text = record { variables = 0; hard = []; soft = [] }

-- a text with what one more line says
abbrev pub with_line : WcnfText → Line → WcnfText
with_line t Nothing = t
with_line t (Hard lits) = record { variables = max t.variables (last_in lits); hard = t.hard ++ lits ∷ []; soft = t.soft }
with_line t (Soft weight lits) =
    record { variables = max t.variables (last_in lits); hard = t.hard; soft = t.soft ++ (weight, lits) ∷ [] }

-- lines have the forms, and say a text that is within the limits
pub record IsRead (lines : List (List ℕ)) (t : WcnfText) : Type 0 where
  pub said : List Line
  pub forms : map line_of lines ≡ map Some said
  pub text : t ≡ fold with_line no_text said
  pub within : IsWithin t

-- a line has none of the forms, or with it a text passes a limit
abbrev pub IsAtFault : WcnfText → List ℕ → WcnfKind → Type 0
IsAtFault t line BadLine = line_of line ≡ None
IsAtFault t line TooLarge = (l : Line) × (line_of line ≡ Some l) × ¬ IsWithin (with_line t l)

-- the line of a number, from 1 on, is the first at fault
pub record IsFirstAtFault (lines : List (List ℕ)) (kind : WcnfKind) (number : ℕ) : Type 0 where
  pub before : List (List ℕ)
  pub line : List ℕ
  pub behind : List (List ℕ)
  pub cut : lines ≡ before ++ line ∷ behind
  pub counted : number ≡ length before + 1
  pub text : WcnfText
  pub read : IsRead before text
  pub fault : IsAtFault text line kind

-- what is read of bytes: the text that their lines say, or the first line at fault
abbrev pub IsReading : List ℕ → Result WcnfText WcnfError → Type 0
IsReading bytes (Ok t) = IsRead (lines_of bytes) t
IsReading bytes (Err (At kind line)) = IsFirstAtFault (lines_of bytes) kind line
IsReading bytes (Err NoMemory) = Unit {0}
