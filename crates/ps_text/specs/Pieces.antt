-- Bytes as pieces: blanks, comments and tokens.
use Rattle.std.specs.Prelude.{◌≡◌, ℕ, Bool, not, ◌||◌, ◌==◌, ◌⊎◌, List, [], ◌∷◌, ◌++◌, IsTrue}
use Rattle.std.specs.List.{AllByRecursion}
use Rattle.ps_text.specs.Tokens.{Token, IsToken, IsLongest, BeginsNone, spelling}

-- a space, a tab, a line feed or a carriage return
abbrev pub is_blank : ℕ → Bool
is_blank b = b == 32 || b == 9 || b == 10 || b == 13

-- a blank byte, a comment by its bytes after the `#`, or a token
pub data Piece : Type 0 where
  Blank : (byte : ℕ) → Piece
  Comment : (bytes : List ℕ) → Piece
  Spelled : (token : Token) → Piece

-- the bytes of a piece
abbrev pub text : Piece → List ℕ
text (Blank b) = b ∷ []
text (Comment c) = 35 ∷ c
text (Spelled t) = spelling t

-- the end of the bytes, or of a line
abbrev pub EndsLine : List ℕ → Type 0
EndsLine [] = Unit {0}
EndsLine (b ∷ bs) = b ≡ 10

-- the piece may stand before these bytes: a comment goes up to the next line feed, a token is the longest
abbrev pub Fits : Piece → List ℕ → Type 0
Fits (Blank b) after = IsTrue (is_blank b)
Fits (Comment c) after = AllByRecursion (λ b. IsTrue (not (b == 10))) c × EndsLine after
Fits (Spelled t) after = IsToken t × IsLongest t after

-- the bytes of pieces
abbrev pub texts : List Piece → List ℕ
texts [] = []
texts (p ∷ ps) = text p ++ texts ps

-- each of the pieces may stand where it does, before these bytes
abbrev pub Cuts : List Piece → List ℕ → Type 0
Cuts [] rest = Unit {0}
Cuts (p ∷ ps) rest = Fits p (texts ps ++ rest) × Cuts ps rest

-- the tokens among the pieces
abbrev pub tokens : List Piece → List Token
tokens [] = []
tokens (Spelled t ∷ ps) = t ∷ tokens ps
tokens (p ∷ ps) = tokens ps

-- no blank and no comment stands at the front
abbrev pub IsBare : List ℕ → Type 0
IsBare [] = Unit {0}
IsBare (b ∷ bs) = IsTrue (not (is_blank b || b == 35))

-- no piece stands at the front: no blank, no comment and no token
pub record IsBad (bytes : List ℕ) : Type 0 where
  pub bare : IsBare bytes
  pub none : BeginsNone bytes

-- bytes as pieces, up to the end or to a place where no piece stands
pub record Cut (bytes : List ℕ) : Type 0 where
  pub pieces : List Piece
  pub rest : List ℕ
  pub is : bytes ≡ texts pieces ++ rest
  pub cuts : Cuts pieces rest
  pub ends : (rest ≡ []) ⊎ IsBad rest
