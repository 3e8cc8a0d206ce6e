-- The same by the tokens of one version alone: what they are, and how bytes are cut and refused by them.
use Rattle.std.specs.Prelude.{◌≡◌, ◌↔◌, ℕ, ◌≤◌, false, not, ◌==◌, ◌⊎◌, IsTrue, List, [], ◌∷◌, ◌++◌, length, Some, None}
use Rattle.std.specs.List.{AllByRecursion}
use Rattle.ps_text.specs.declared.version.Version.{Version}
use Rattle.ps_text.specs.declared.version.Version.TheVariants.{One}
use Rattle.ps_text.specs.declared.kind.ReadKind.{ReadKind}
use Rattle.ps_text.specs.declared.kind.ReadKind.TheVariants.{EndMissing, BadByte}
use Rattle.ps_text.specs.Tokens.{Token, IsToken, spelling}
use Rattle.ps_text.specs.Pieces.{Piece, Blank, Comment, Spelled, Cuts, IsBare, texts, tokens, is_blank, EndsLine}
use Rattle.ps_text.specs.ExpectedTokens.{State, Passes, is_foreign, refusal, after}
use Rattle.ps_text.specs.Refusals.{Why}

-- a token of the version: `+` and `-` are tokens of version 2 alone
abbrev pub IsTokenOf : Version → Token → Type 0
IsTokenOf v t = IsToken t × (is_foreign v t ≡ false)

-- no longer token of the version stands where this one does, before these bytes
unfoldable pub IsLongestOf : Version → Token → List ℕ → Type 0
IsLongestOf v t after = (u : Token) (more : List ℕ) → IsTokenOf v u → spelling u ++ more ≡ spelling t ++ after
    → length (spelling u) ≤ length (spelling t)

-- no token of the version stands at the front
unfoldable pub BeginsNoneOf : Version → List ℕ → Type 0
BeginsNoneOf v bytes = (u : Token) (more : List ℕ) → IsTokenOf v u → bytes ≡ spelling u ++ more → ⊥

-- pieces before these bytes, each token the longest of the version that is known there, and none refused; behind them this is
-- expected
abbrev pub Reads : State → List Piece → List ℕ → State → Type 0
Reads d [] rest e = d ≡ e
Reads d (Blank b ∷ ps) rest e = IsTrue (is_blank b) × Reads d ps rest e
Reads d (Comment c ∷ ps) rest e = (AllByRecursion (λ b. IsTrue (not (b == 10))) c × EndsLine (texts ps ++ rest))
    × Reads d ps rest e
Reads d (Spelled t ∷ ps) rest e = (IsTokenOf d.version t × IsLongestOf d.version t (texts ps ++ rest)) × (refusal d t ≡ None)
    × Reads (after d t) ps rest e

-- the longest token of the version at the front is refused for this kind
pub record IsRefusedTokenOf (d : State) (rest : List ℕ) (kind : ReadKind) : Type 0 where
  pub token : Token
  pub behind : List ℕ
  pub is : rest ≡ spelling token ++ behind
  pub spelled : IsTokenOf d.version token
  pub longest : IsLongestOf d.version token behind
  pub refused : refusal d token ≡ Some kind

-- why what is left is refused, where a token is expected: nothing is left, no token of the version stands there, or one that
-- is refused
abbrev pub WhyOf : State → List ℕ → ReadKind → Type 0
WhyOf d [] kind = kind ≡ EndMissing
WhyOf d (b ∷ bs) kind = (BeginsNoneOf d.version (b ∷ bs) × (kind ≡ BadByte)) ⊎ IsRefusedTokenOf d (b ∷ bs) kind

-- bytes are cut, and their tokens pass, exactly where they do by the tokens of the version
abbrev pub PassIsRead : Type 0
PassIsRead = (d e : State) (pieces : List Piece) (rest : List ℕ)
    → (Cuts pieces rest × Passes d (tokens pieces) e) ↔ Reads d pieces rest e

-- where no blank and no comment stands, what is left is refused for the same kinds
abbrev pub WhyIsTheVersions : Type 0
WhyIsTheVersions = (d : State) (rest : List ℕ) (kind : ReadKind) → IsBare rest → Why d rest kind ↔ WhyOf d rest kind

-- in version 1 no sentence is linear, and no `-` stands before a number
abbrev pub IsPlain : State → Type 0
IsPlain d = d.version ≡ One → (d.linear ≡ None) × (d.minus ≡ false)
