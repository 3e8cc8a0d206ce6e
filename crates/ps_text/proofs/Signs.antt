-- Which token a test tells.
use Rattle.std.proofs.Common.{◌≡◌, ℕ, Bool, true, false, ◌||◌, List, refl, sym, ap, ◌∙◌, true≢false}
use Rattle.std.proofs.lemmas.Slice.Eq.{bytes_eq-Decides}
use Rattle.std.specs.Prelude.{bytes_eq, codes, if◌then◌else◌}
use Rattle.ps_text.specs.Tokens.{Token, Word, Number, Sign, Symbol, Open, Close, OpenBracket, CloseBracket, Comma, Semicolon, Bang, Ampersand, Bar, Arrow, DoubleArrow, Equals, GreaterEquals, LessEquals, Plus, Minus, symbol_spelling, is_the_sign, is_the_word}

same_bytes : (xs ys : List ℕ) → bytes_eq xs ys ≡ true → xs ≡ ys
same_bytes xs ys h = (bytes_eq-Decides xs ys).0 h

-- the symbol that bytes spell
abbrev symbol_of : List ℕ → Symbol
symbol_of bs =
    if bytes_eq bs (codes "(") then Open else if bytes_eq bs (codes ")") then Close
    else if bytes_eq bs (codes "[") then OpenBracket else if bytes_eq bs (codes "]") then CloseBracket
    else if bytes_eq bs (codes ",") then Comma else if bytes_eq bs (codes ";") then Semicolon
    else if bytes_eq bs (codes "!") then Bang else if bytes_eq bs (codes "&") then Ampersand
    else if bytes_eq bs (codes "|") then Bar else if bytes_eq bs (codes "->") then Arrow
    else if bytes_eq bs (codes "<->") then DoubleArrow else if bytes_eq bs (codes "=") then Equals
    else if bytes_eq bs (codes ">=") then GreaterEquals else if bytes_eq bs (codes "<=") then LessEquals
    else if bytes_eq bs (codes "+") then Plus else Minus

symbol_back : (s : Symbol) → symbol_of (symbol_spelling s) ≡ s
symbol_back Open = refl
symbol_back Close = refl
symbol_back OpenBracket = refl
symbol_back CloseBracket = refl
symbol_back Comma = refl
symbol_back Semicolon = refl
symbol_back Bang = refl
symbol_back Ampersand = refl
symbol_back Bar = refl
symbol_back Arrow = refl
symbol_back DoubleArrow = refl
symbol_back Equals = refl
symbol_back GreaterEquals = refl
symbol_back LessEquals = refl
symbol_back Plus = refl
symbol_back Minus = refl

pub the_word : (w : List ℕ) (t : Token) → is_the_word w t ≡ true → t ≡ Word w
the_word w (Word u) h = ap Word (same_bytes u w h)
the_word w (Number n) h = absurd (true≢false (sym h))
the_word w (Sign s) h = absurd (true≢false (sym h))

pub the_sign : (s : Symbol) (t : Token) → is_the_sign s t ≡ true → t ≡ Sign s
the_sign s (Sign u) h = ap Sign (sym (symbol_back u) ∙ ap symbol_of (same_bytes (symbol_spelling u) (symbol_spelling s) h) ∙ symbol_back s)
the_sign s (Number n) h = absurd (true≢false (sym h))
the_sign s (Word w) h = absurd (true≢false (sym h))

-- a test of one or the other
pub data Either (a b : Bool) : Type 0 where
  First : (first : a ≡ true) → Either a b
  Second : (second : b ≡ true) → Either a b

pub either : (a b : Bool) → a || b ≡ true → Either a b
either true b h = First refl
either false b h = Second h
