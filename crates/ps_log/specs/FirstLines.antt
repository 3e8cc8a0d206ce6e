-- What is answered of the first line of some bytes, where lines are the texts of steps or of goals.
use Rattle.std.specs.Prelude.{ℕ, ◌+◌, ◌==◌, ◌≡◌, ◌≢◌, nat_lt, Bool, true, false, ◌||◌}
use Rattle.std.specs.Prelude.{List, ◌∷◌, ◌++◌, All, length, Result, Ok, Err, ⊤}
use Rattle.std.specs.List.{list_all}
use Rattle.std.specs.Char.{digit_value}
use Rattle.ps_log.specs.declared.line_error.LineError.{LineError}
use Rattle.ps_log.specs.declared.line_error.LineError.TheVariants.{Truncated, BadByte, NotCanonical, TooLarge, NoMemory}

-- a byte that a text with this letter may have: the letter, a digit, `-`, or a space
abbrev pub is_text_byte : ℕ → ℕ → Bool
is_text_byte letter b = b == letter || nat_lt (digit_value b) 10 || b == 45 || b == 32

-- no byte is a line feed
abbrev pub IsOneLine : List ℕ → Type 0
IsOneLine bytes = All (λ b. b ≢ 10) bytes

-- what stands before the first line feed, and after it
pub record IsFirstLine (bytes line rest : List ℕ) : Type 0 where
  pub is : bytes ≡ line ++ 10 ∷ rest
  pub whole : IsOneLine line

-- what stands before the first line feed
pub record FirstLine (bytes line : List ℕ) : Type 0 where
  pub rest : List ℕ
  pub first : IsFirstLine bytes line rest

-- the first line has a byte that no text has
pub record HasBadByte (fits : ℕ → Bool) (bytes : List ℕ) : Type 0 where
  pub line : List ℕ
  pub rest : List ℕ
  pub first : IsFirstLine bytes line rest
  pub bad : list_all fits line ≡ false

-- the first line has only bytes of texts, and is none
pub record IsNoText {X : Type 0} (fits : ℕ → Bool) (IsText : List ℕ → X → Type 0) (bytes : List ℕ) : Type 0 where
  pub line : List ℕ
  pub rest : List ℕ
  pub first : IsFirstLine bytes line rest
  pub bytes_fit : list_all fits line ≡ true
  pub no_text : (x : X) → IsText line x → ⊥

-- the first line is a text that is past the limits
pub record PassesLimit {X : Type 0} (IsText : List ℕ → X → Type 0) (IsWithin : X → Type 0) (bytes : List ℕ) : Type 0 where
  pub line : List ℕ
  pub rest : List ℕ
  pub first : IsFirstLine bytes line rest
  pub of : X
  pub text : IsText line of
  pub past : IsWithin of → ⊥

-- the first line is that of something within the limits, and has with its line feed this many bytes
pub record IsFirstLineOf {X : Type 0} (line_of : X → List ℕ) (IsWithin : X → Type 0) (bytes : List ℕ) (x : X)
    (count : ℕ) : Type 0 where
  pub rest : List ℕ
  pub is : bytes ≡ line_of x ++ 10 ∷ rest
  pub within : IsWithin x
  pub count_is : count ≡ length (line_of x) + 1

-- why bytes are refused
abbrev pub IsRefused : {X : Type 0} → (ℕ → Bool) → (List ℕ → X → Type 0) → (X → Type 0) → List ℕ → LineError → Type 0
IsRefused fits IsText IsWithin bytes Truncated = IsOneLine bytes
IsRefused fits IsText IsWithin bytes BadByte = HasBadByte fits bytes
IsRefused fits IsText IsWithin bytes NotCanonical = IsNoText fits IsText bytes
IsRefused fits IsText IsWithin bytes TooLarge = PassesLimit IsText IsWithin bytes
IsRefused fits IsText IsWithin bytes NoMemory = ⊥

-- what is answered: what the first line is, with its count of bytes, or why it is refused; want of memory may come at any
abbrev pub IsAnswer : {X : Type 0} → (X → ℕ → Type 0) → (LineError → Type 0) → Result (X × ℕ) LineError → Type 0
IsAnswer IsFirst IsRefusedFor (Ok r) = IsFirst r.0 r.1
IsAnswer IsFirst IsRefusedFor (Err Truncated) = IsRefusedFor Truncated
IsAnswer IsFirst IsRefusedFor (Err BadByte) = IsRefusedFor BadByte
IsAnswer IsFirst IsRefusedFor (Err NotCanonical) = IsRefusedFor NotCanonical
IsAnswer IsFirst IsRefusedFor (Err TooLarge) = IsRefusedFor TooLarge
IsAnswer IsFirst IsRefusedFor (Err NoMemory) = ⊤

-- this was answered, unless memory ran out
abbrev pub Gives : {X : Type 0} → Result (X × ℕ) LineError → Result (X × ℕ) LineError → Type 0
Gives (Ok r) expected = expected ≡ Ok r
Gives (Err Truncated) expected = expected ≡ Err Truncated
Gives (Err BadByte) expected = expected ≡ Err BadByte
Gives (Err NotCanonical) expected = expected ≡ Err NotCanonical
Gives (Err TooLarge) expected = expected ≡ Err TooLarge
Gives (Err NoMemory) expected = ⊤

-- what is answered of one line whose bytes fit
abbrev pub IsLineAnswer : {X : Type 0} → (List ℕ → X → Type 0) → (X → Type 0) → List ℕ → Result X LineError → Type 0
IsLineAnswer IsText IsWithin line (Ok x) = IsText line x × IsWithin x
IsLineAnswer IsText IsWithin line (Err Truncated) = ⊥
IsLineAnswer IsText IsWithin line (Err BadByte) = ⊥
IsLineAnswer {X} IsText IsWithin line (Err NotCanonical) = (x : X) → IsText line x → ⊥
IsLineAnswer {X} IsText IsWithin line (Err TooLarge) = (x : X) × IsText line x × (IsWithin x → ⊥)
IsLineAnswer IsText IsWithin line (Err NoMemory) = ⊤

-- what is within the limits has one text, which is its line
pub record HaveOneText {X : Type 0} (IsText : List ℕ → X → Type 0) (IsWithin : X → Type 0) (line_of : X → List ℕ) : Type 0 where
  pub is_text : (x : X) → IsWithin x → IsText (line_of x) x
  pub is_line : (line : List ℕ) (x : X) → IsText line x → IsWithin x → line ≡ line_of x
