-- What is the only one of its kind: derivations, meanings, fronts, refusals and answers.
use Rattle.std.specs.Prelude.{◌≡◌, ℕ, List, length}
use Rattle.ps_meaning.specs.Statements.{Item}
use Rattle.ps_text.specs.Tokens.{Token}
use Rattle.ps_text.specs.Grammar.{ItemSyntax, TextSyntax, IsWellFormedText, text_tokens}
use Rattle.ps_text.specs.Meanings.{AreItems}
use Rattle.ps_text.specs.Fronts.{IsFront}
use Rattle.ps_text.specs.declared.kind.ReadKind.{ReadKind}
use Rattle.ps_text.specs.Refusals.{IsRefused}

-- the tokens are those of one derivation at most
pub record HasOneDerivation (tokens : List Token) : Type 0 where
  pub same : (es fs : TextSyntax) → IsWellFormedText es → IsWellFormedText fs → tokens ≡ text_tokens es
      → tokens ≡ text_tokens fs → es ≡ fs

-- what is written means one list of items at most
pub record HaveOneMeaning (written : List ItemSyntax) : Type 0 where
  pub same : (is js : List Item) → AreItems written is → AreItems written js → is ≡ js

-- one text at most stands at the front: its meaning and the place behind it are the only ones
pub record HasOneFront (bytes : List ℕ) : Type 0 where
  pub meaning : (is js : List Item) (n m : ℕ) → IsFront bytes is n → IsFront bytes js m → is ≡ js
  pub place : (is js : List Item) (n m : ℕ) → IsFront bytes is n → IsFront bytes js m → n ≡ m

-- whatever text stands at the front means these items and is all of the bytes
pub record MeansOnly (bytes : List ℕ) (items : List Item) : Type 0 where
  pub only : (js : List Item) (n : ℕ) → IsFront bytes js n → (js ≡ items) × (n ≡ length bytes)

-- the form isn't refused
pub record IsRefusedNowhere (bytes : List ℕ) : Type 0 where
  pub none : (kind : ReadKind) (place : ℕ) → IsRefused bytes kind place → ⊥

-- the form is refused at one place at most, for one kind
pub record HasOneRefusal (bytes : List ℕ) : Type 0 where
  pub kind : (k l : ReadKind) (n m : ℕ) → IsRefused bytes k n → IsRefused bytes l m → k ≡ l
  pub place : (k l : ReadKind) (n m : ℕ) → IsRefused bytes k n → IsRefused bytes l m → n ≡ m

-- what is to be said of bytes: a text with its items and the place behind it, or why and where the form is refused
pub data Answer : Type 0 where
  Front : (items : List Item) (place : ℕ) → Answer
  Refusal : (kind : ReadKind) (place : ℕ) → Answer

-- what is said of bytes is so
abbrev pub IsAnswer : List ℕ → Answer → Type 0
IsAnswer bytes (Front items place) = IsFront bytes items place
IsAnswer bytes (Refusal kind place) = IsRefused bytes kind place
