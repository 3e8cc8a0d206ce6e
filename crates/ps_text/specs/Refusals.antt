-- Where the form of a text is refused.
use Rattle.std.specs.Prelude.{◌≡◌, ◌≢◌, ℕ, ◌⊎◌, List, [], ◌∷◌, ◌++◌, length, Some}
use Rattle.ps_text.specs.Tokens.{Token, IsToken, IsLongest, BeginsNone, spelling}
use Rattle.ps_text.specs.Pieces.{Piece, texts, Cuts, tokens, IsBare}
use Rattle.ps_text.specs.declared.kind.ReadKind.{ReadKind}
use Rattle.ps_text.specs.declared.kind.ReadKind.TheVariants.{EndMissing, BadByte}
use Rattle.ps_text.specs.declared.part.Part.TheVariants as part
use Rattle.ps_text.specs.ExpectedTokens.{State, outside, at_start, refusal, Passes}

-- the longest token at the front is refused for this kind
pub record IsRefusedToken (d : State) (rest : List ℕ) (kind : ReadKind) : Type 0 where
  pub token : Token
  pub behind : List ℕ
  pub is : rest ≡ spelling token ++ behind
  pub spelled : IsToken token
  pub longest : IsLongest token behind
  pub refused : refusal d token ≡ Some kind

-- why what is left is refused, where a token is expected: nothing is left, no token stands there, or one that is refused
abbrev pub Why : State → List ℕ → ReadKind → Type 0
Why d [] kind = kind ≡ EndMissing
Why d (b ∷ bs) kind = (BeginsNone (b ∷ bs) × (kind ≡ BadByte)) ⊎ IsRefusedToken d (b ∷ bs) kind

-- the form of the bytes is refused at this place, for this kind: no token before it is refused
pub record IsRefused (bytes : List ℕ) (kind : ReadKind) (place : ℕ) : Type 0 where
  pub pieces : List Piece
  pub rest : List ℕ
  pub state : State
  pub is : bytes ≡ texts pieces ++ rest
  pub cuts : Cuts pieces rest
  pub passes : Passes at_start (tokens pieces) state
  pub unfinished : state ≢ outside part.Done
  pub bare : IsBare rest
  pub why : Why state rest kind
  pub place_is : place ≡ length (texts pieces)
