-- What stands at the front of some bytes: a text over listed constants; and where the form of one is refused.
use Rattle.std.specs.Prelude.{◌≡◌, ℕ, ◌⊎◌, List, [], ◌∷◌, ◌++◌, length, Some}
use Rattle.ps_text.specs.Tokens.{Token, IsToken, IsLongest, BeginsNone, spelling}
use Rattle.ps_text.specs.Pieces.{Piece, texts, Cuts, tokens, IsBare}
use Rattle.ps_text.specs.declared.kind.ReadKind.TheVariants as read
use Rattle.ps_text.specs.declared.part.Part.TheVariants as part
use Rattle.ps_text.specs.ExpectedTokens as before
use Rattle.ps_first_order.specs.Texts.{FirstOrderItem}
use Rattle.ps_domains.specs.declared.kind.GroundKind.{GroundKind}
use Rattle.ps_domains.specs.declared.kind.GroundKind.TheVariants as kind
use Rattle.ps_domains.specs.DomainGrammar.{TextSyntax, signature_of, text_tokens, IsWellFormedText}
use Rattle.ps_domains.specs.DomainMeanings.{AreItems}
use Rattle.ps_domains.specs.DomainTokens.{State, at_start, refusal, Passes}

-- the bytes before this place are a text within the grammar's levels and limits, and the blanks and comments behind it
pub record IsTextFront (bytes : List ℕ) (written : TextSyntax) (place : ℕ) : Type 0 where
  pub pieces : List Piece
  pub rest : List ℕ
  pub is : bytes ≡ texts pieces ++ rest
  pub cuts : Cuts pieces rest
  pub derived : tokens pieces ≡ text_tokens written
  pub within : IsWellFormedText written
  pub bare : IsBare rest
  pub place_is : place ≡ length (texts pieces)

-- the bytes before this place are a text that is written so and means these items, and the blanks and comments behind it
pub record IsFront (bytes : List ℕ) (written : TextSyntax) (items : List FirstOrderItem) (place : ℕ) : Type 0 where
  pub text : IsTextFront bytes written place
  pub meant : AreItems (signature_of written) written.items items

-- the longest token at the front is refused for this kind
pub record IsRefusedToken (s : State) (rest : List ℕ) (kind : GroundKind) : Type 0 where
  pub token : Token
  pub behind : List ℕ
  pub is : rest ≡ spelling token ++ behind
  pub spelled : IsToken token
  pub longest : IsLongest token behind
  pub refused : refusal s token ≡ Some kind

-- why what is left is refused, where a token is expected: nothing is left, no token stands there, or one that is refused
abbrev pub Why : State → List ℕ → GroundKind → Type 0
Why s [] k = k ≡ kind.Read read.EndMissing
Why s (b ∷ bs) k = (BeginsNone (b ∷ bs) × (k ≡ kind.Read read.BadByte)) ⊎ IsRefusedToken s (b ∷ bs) k

-- the form of the bytes is refused at this place, for this kind: no token before it is refused
pub record IsRefused (bytes : List ℕ) (kind : GroundKind) (place : ℕ) : Type 0 where
  pub pieces : List Piece
  pub rest : List ℕ
  pub state : State
  pub is : bytes ≡ texts pieces ++ rest
  pub cuts : Cuts pieces rest
  pub passes : Passes at_start (tokens pieces) state
  pub unfinished : ¬ (state.base ≡ before.outside part.Done)
  pub bare : IsBare rest
  pub why : Why state rest kind
  pub place_is : place ≡ length (texts pieces)
