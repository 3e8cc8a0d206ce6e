-- Tokens, and the bytes that spell them.
use Rattle.std.specs.Prelude.{◌≡◌, ℕ, ◌≤◌, Bool, false, bytes_eq, List, [], ◌∷◌, ◌++◌, length, IsTrue, codes}
use Rattle.std.specs.List.{AllByRecursion}
pub use Rattle.ps_meaning.specs.Names.{is_letter, is_digit, is_word_byte}
pub use Rattle.ps_text.specs.declared.symbol.Symbol.{Symbol}
pub use Rattle.ps_text.specs.declared.symbol.Symbol.TheVariants.{Open, Close, OpenBracket, CloseBracket, Comma}
pub use Rattle.ps_text.specs.declared.symbol.Symbol.TheVariants.{Semicolon, Bang, Ampersand, Bar, Arrow}
pub use Rattle.ps_text.specs.declared.symbol.Symbol.TheVariants.{DoubleArrow, Equals, GreaterEquals, LessEquals, Plus, Minus}

-- a number as it is spelled: digits, digits over digits, or digits and decimals
pub data Numeral : Type 0 where
  Whole : (digits : List ℕ) → Numeral
  Quotient : (digits below : List ℕ) → Numeral
  Decimal : (digits decimals : List ℕ) → Numeral

-- a word, a number or a symbol
pub data Token : Type 0 where
  Word : (letters : List ℕ) → Token
  Number : (numeral : Numeral) → Token
  Sign : (symbol : Symbol) → Token

-- one digit or more
abbrev pub AreDigits : List ℕ → Type 0
AreDigits [] = ⊥
AreDigits (d ∷ ds) = IsTrue (is_digit d) × AllByRecursion (λ b. IsTrue (is_digit b)) ds

-- a letter, and then bytes of words
abbrev pub IsWord : List ℕ → Type 0
IsWord [] = ⊥
IsWord (b ∷ bs) = IsTrue (is_letter b) × AllByRecursion (λ c. IsTrue (is_word_byte c)) bs

-- each of its parts is one digit or more
abbrev pub IsNumeral : Numeral → Type 0
IsNumeral (Whole ds) = AreDigits ds
IsNumeral (Quotient ds es) = AreDigits ds × AreDigits es
IsNumeral (Decimal ds es) = AreDigits ds × AreDigits es

-- a token of some version
abbrev pub IsToken : Token → Type 0
IsToken (Word w) = IsWord w
IsToken (Number n) = IsNumeral n
IsToken (Sign s) = Unit {0}

-- the bytes of a number: `/` before the denominator, `.` before the decimals
abbrev pub numeral_spelling : Numeral → List ℕ
numeral_spelling (Whole ds) = ds
numeral_spelling (Quotient ds es) = ds ++ 47 ∷ es
numeral_spelling (Decimal ds es) = ds ++ 46 ∷ es

-- the bytes of a symbol
abbrev pub symbol_spelling : Symbol → List ℕ
symbol_spelling Open = codes "("
symbol_spelling Close = codes ")"
symbol_spelling OpenBracket = codes "["
symbol_spelling CloseBracket = codes "]"
symbol_spelling Comma = codes ","
symbol_spelling Semicolon = codes ";"
symbol_spelling Bang = codes "!"
symbol_spelling Ampersand = codes "&"
symbol_spelling Bar = codes "|"
symbol_spelling Arrow = codes "->"
symbol_spelling DoubleArrow = codes "<->"
symbol_spelling Equals = codes "="
symbol_spelling GreaterEquals = codes ">="
symbol_spelling LessEquals = codes "<="
symbol_spelling Plus = codes "+"
symbol_spelling Minus = codes "-"

-- the bytes of a token
abbrev pub spelling : Token → List ℕ
spelling (Word w) = w
spelling (Number n) = numeral_spelling n
spelling (Sign s) = symbol_spelling s

-- whether a token is this word
abbrev pub is_the_word : List ℕ → Token → Bool
is_the_word w (Word u) = bytes_eq u w
is_the_word w t = false

-- whether a token is this symbol: symbols are the same where their spellings are
abbrev pub is_the_sign : Symbol → Token → Bool
is_the_sign s (Sign u) = bytes_eq (symbol_spelling u) (symbol_spelling s)
is_the_sign s t = false

-- no longer token stands where this one does, before these bytes
unfoldable pub IsLongest : Token → List ℕ → Type 0
IsLongest t after = (u : Token) (more : List ℕ) → IsToken u → spelling u ++ more ≡ spelling t ++ after
    → length (spelling u) ≤ length (spelling t)

-- no token stands at the front
unfoldable pub BeginsNone : List ℕ → Type 0
BeginsNone bytes = (u : Token) (more : List ℕ) → IsToken u → bytes ≡ spelling u ++ more → ⊥
