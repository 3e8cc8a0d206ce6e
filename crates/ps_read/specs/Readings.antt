-- What there is to read at the front of some bytes: a problem, or why and where none is read.
use Rattle.std.specs.Prelude.{◌≡◌, ◌<◌, ◌+◌, ℕ, ◌⊎◌, List, ◌∷◌, ◌++◌, Ok, Err, length}
use Rattle.ps_meaning.specs.Formula.{Formula}
use Rattle.ps_meaning.specs.Statements.{Name, Item}
use Rattle.ps_text.specs.Tokens.{Token}
use Rattle.ps_text.specs.Pieces.{Piece, Spelled, texts, tokens}
use Rattle.ps_text.specs.Grammar.{ItemSyntax, TextSyntax, tokens_up_to}
use Rattle.ps_text.specs.Fronts.{IsFront}
use Rattle.ps_text.specs.Positions.{Position, position_of}
use Rattle.ps_text.specs.declared.kind.ReadKind.{ReadKind}
use Rattle.ps_text.specs.declared.kind.ReadKind.TheVariants.{MoreAfterEnd}
use Rattle.ps_text.specs.Refusals.{IsRefused}
use Rattle.ps_problem.specs.Problems.{Parts}
use Rattle.ps_problem.specs.Numbering.{problem_of}
use Rattle.ps_problem.specs.Counts.{ItemExcess, counted}
use Rattle.ps_read.specs.Kinds.{count_kind}

-- the items are within the limits of a problem, which is theirs
pub record IsProblemOf (items : List Item) (p : Parts) : Type 0 where
  pub formulas : List (Formula Name)
  pub within : counted items ≡ Ok formulas
  pub problem : p ≡ problem_of items

-- the bytes before this place are a text, with the blanks and comments behind it, and the text's problem is this
pub record SpellsProblem (bytes : List ℕ) (p : Parts) (place : ℕ) : Type 0 where
  pub items : List Item
  pub front : IsFront bytes items place
  pub made : IsProblemOf items p

-- the item of this number, from 1 on, is one of a text's, and the first of its tokens stands at this place:
-- the tokens before it are those of the text up to the items before it
pub record BeginsItem (pieces : List Piece) (written : TextSyntax) (number : ℕ) (place : ℕ) : Type 0 where
  pub earlier : List ItemSyntax
  pub item : ItemSyntax
  pub later : List ItemSyntax
  pub written_are : written.items ≡ earlier ++ item ∷ later
  pub number_is : number ≡ length earlier + 1
  pub before : List Piece
  pub first : Token
  pub behind : List Piece
  pub pieces_are : pieces ≡ before ++ Spelled first ∷ behind
  pub tokens_are : tokens before ≡ tokens_up_to (record { version = written.version; items = earlier })
  pub place_is : place ≡ length (texts before)

-- the form of the bytes is refused for this kind at this position: no token before it is refused
pub record IsFormRefused (bytes : List ℕ) (kind : ReadKind) (position : Position) : Type 0 where
  pub place : ℕ
  pub refused : IsRefused bytes kind place
  pub position_is : position ≡ position_of bytes place

-- a text stands at the front, the first of its items that passes a limit passes one of this kind, and this is the
-- position of that item's first token
pub record IsCountRefused (bytes : List ℕ) (kind : ReadKind) (position : Position) : Type 0 where
  pub items : List Item
  pub behind : ℕ
  pub front : IsFront bytes items behind
  pub first : ItemExcess
  pub counts : counted items ≡ Err first
  pub place : ℕ
  pub begins : BeginsItem front.text.pieces front.text.written first.item place
  pub kind_is : kind ≡ count_kind first.excess
  pub position_is : position ≡ position_of bytes place

-- no problem is read at the front, for this kind at this position: by the form, or else by a count
abbrev pub IsUnread : List ℕ → ReadKind → Position → Type 0
IsUnread bytes kind position = IsFormRefused bytes kind position ⊎ IsCountRefused bytes kind position

-- a problem is spelled at the front, and more bytes follow its text and the blanks and comments behind it, at this position
pub record IsFollowedByMore (bytes : List ℕ) (position : Position) : Type 0 where
  pub problem : Parts
  pub place : ℕ
  pub spells : SpellsProblem bytes problem place
  pub more : place < length bytes
  pub position_is : position ≡ position_of bytes place

-- all of the bytes spell the problem
abbrev pub SpellsWhole : List ℕ → Parts → Type 0
SpellsWhole bytes p = SpellsProblem bytes p (length bytes)

-- all of the bytes spell no problem, for this kind at this position: none is read at the front, or more follows
abbrev pub IsUnreadWhole : List ℕ → ReadKind → Position → Type 0
IsUnreadWhole bytes kind position = IsUnread bytes kind position ⊎ ((kind ≡ MoreAfterEnd) × IsFollowedByMore bytes position)

-- what is to be said of bytes: the problem at the front and the place behind its text, or why and where none is read
pub data Reading : Type 0 where
  Read : (problem : Parts) (place : ℕ) → Reading
  Unread : (kind : ReadKind) (position : Position) → Reading

-- it is so
abbrev pub IsReading : List ℕ → Reading → Type 0
IsReading bytes (Read p place) = SpellsProblem bytes p place
IsReading bytes (Unread kind position) = IsUnread bytes kind position

-- and of all the bytes
abbrev pub IsWholeReading : List ℕ → Reading → Type 0
IsWholeReading bytes (Read p place) = SpellsWhole bytes p × (place ≡ length bytes)
IsWholeReading bytes (Unread kind position) = IsUnreadWhole bytes kind position

-- there is one thing at most to read at the front
abbrev pub HasOneReading : List ℕ → Type 0
HasOneReading bytes = (a b : Reading) → IsReading bytes a → IsReading bytes b → a ≡ b

-- and one in all the bytes
abbrev pub HasOneWholeReading : List ℕ → Type 0
HasOneWholeReading bytes = (a b : Reading) → IsWholeReading bytes a → IsWholeReading bytes b → a ≡ b
