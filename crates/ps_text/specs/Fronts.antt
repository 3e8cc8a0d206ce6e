-- What stands at the front of some bytes: a text, and the blanks behind it.
use Rattle.std.specs.Prelude.{◌≡◌, ℕ, List, ◌++◌, length}
use Rattle.ps_meaning.specs.Statements.{Item}
use Rattle.ps_text.specs.Pieces.{Piece, texts, Cuts, tokens, IsBare}
use Rattle.ps_text.specs.Grammar.{TextSyntax, text_tokens, IsWellFormedText}
use Rattle.ps_text.specs.Meanings.{AreItems}

-- the bytes before this place are a text within the grammar's levels and limits, and the blanks and comments behind it
pub record IsTextFront (bytes : List ℕ) (place : ℕ) : Type 0 where
  pub pieces : List Piece
  pub rest : List ℕ
  pub written : TextSyntax
  pub is : bytes ≡ texts pieces ++ rest
  pub cuts : Cuts pieces rest
  pub derived : tokens pieces ≡ text_tokens written
  pub within : IsWellFormedText written
  pub bare : IsBare rest
  pub place_is : place ≡ length (texts pieces)

-- the bytes before this place are a text that means these items, and the blanks and comments behind it
pub record IsFront (bytes : List ℕ) (items : List Item) (place : ℕ) : Type 0 where
  pub text : IsTextFront bytes place
  pub meant : AreItems text.written.items items

-- all of the bytes are a text that means these items
abbrev pub IsTextOf : List ℕ → List Item → Type 0
IsTextOf bytes items = IsFront bytes items (length bytes)
