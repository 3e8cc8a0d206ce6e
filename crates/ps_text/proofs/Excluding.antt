-- A text and a refusal exclude each other, and so do two refusals.
use Rattle.std.proofs.Common.{◌≡◌, ℕ, inl, inr, List, [], ◌∷◌, ◌++◌, length, Some, None, is_some, sym, ap, subst, ◌∙◌, true≢false}
use Rattle.ps_meaning.specs.Statements.{Item}
use Rattle.ps_text.specs.declared.version.Version.{Version}
use Rattle.ps_text.specs.Tokens.{Token, IsToken, BeginsNone, spelling}
use Rattle.ps_text.specs.Pieces.{Spelled, texts, tokens}
use Rattle.ps_text.specs.Grammar.{ItemSyntax, AreWellFormedItems}
use Rattle.ps_text.specs.Fronts.{IsTextFront}
use Rattle.ps_text.specs.declared.part.Part.TheVariants as part
use Rattle.ps_text.specs.declared.kind.ReadKind.{ReadKind}
use Rattle.ps_text.specs.ExpectedTokens.{State, at_start, outside, refusal, after, Passes}
use Rattle.ps_text.specs.Refusals.{IsRefused, IsRefusedToken, Why}
use Rattle.ps_text.specs.OneAnswer.{HasOneDerivation, HaveOneMeaning, HasOneFront, MeansOnly, IsRefusedNowhere, HasOneRefusal, Answer, Front, Refusal, IsAnswer}
use Rattle.ps_text.specs.Canonical.{canonical_text, AreLawful}
use Rattle.ps_text.proofs.Deriving.{derived_are_expected}
use Rattle.ps_text.proofs.Steps.{passed}
use Rattle.ps_text.proofs.Readback.{text_once}
use Rattle.ps_text.proofs.Once.{append_same, some_bytes, same_piece, Begins, Order, Same, Longer, Shorter, order, front_place}
use Rattle.ps_text.proofs.Meant.{items_once, meaning_once, canonical_back}

-- tokens lead to one state
passes-same : (d e f : State) (ts : List Token) → Passes d ts e → Passes d ts f → e ≡ f
passes-same d e f [] p q = sym p ∙ q
passes-same d e f (t ∷ ts) p q = passes-same (after d t) e f ts p.1 q.1

-- a token that stands behind others and isn't refused there isn't refused in the state behind them
next-passes : (d e f : State) (ts more : List Token) (t : Token) → Passes d (ts ++ t ∷ more) e → Passes d ts f → refusal f t ≡ None
next-passes d e f [] more t p q = subst (λ x. refusal x t ≡ None) q p.0
next-passes d e f (u ∷ ts) more t p q = next-passes (after d u) e f ts more t p.1 q.1

-- behind a whole text each token is refused
nothing_behind : (t : Token) → refusal (outside part.Done) t ≡ None → ⊥
nothing_behind t h = true≢false (sym (passed (outside part.Done) t h).expected)

none_begins : (bytes more : List ℕ) (u : Token) → BeginsNone bytes → IsToken u → bytes ≡ spelling u ++ more → ⊥
unfolding BeginsNone
none_begins bytes more u n i e = n u more i e

token_same : (t u : Token) → Spelled t ≡ Spelled u → t ≡ u
token_same t u e = cc

some_same : (k l : ReadKind) → Some k ≡ Some l → k ≡ l
some_same k l e = cc

-- the longest token at the front is the only one
token_once : (bytes : List ℕ) (t : Token) (d : State) (k : ReadKind) (b : Begins bytes t) (r : IsRefusedToken d bytes k) → refusal d t ≡ Some k
token_once bytes t d k b r =
    let s = same_piece (Spelled t) (Spelled r.token) b.behind r.behind (b.spelled, b.longest) (r.spelled, r.longest) (sym b.is ∙ r.is) in
    subst (λ u. refusal d u ≡ Some k) (sym (token_same t r.token s.0)) r.refused

-- a token that isn't refused is no reason for a refusal
no_reason : (d : State) (bytes : List ℕ) (k : ReadKind) (t : Token) → Begins bytes t → refusal d t ≡ None → Why d bytes k → ⊥
no_reason d [] k t b h w = some_bytes t b.behind b.spelled b.is
no_reason d (c ∷ cs) k t b h (inl w) = none_begins (c ∷ cs) b.behind t w.0 b.spelled b.is
no_reason d (c ∷ cs) k t b h (inr r) = true≢false (ap is_some (sym (token_once (c ∷ cs) t d k b r) ∙ h))

-- there is one reason at most
reason_once : (d : State) (bytes : List ℕ) (k l : ReadKind) → Why d bytes k → Why d bytes l → k ≡ l
reason_once d [] k l v w = v ∙ sym w
reason_once d (c ∷ cs) k l (inl v) (inl w) = v.1 ∙ sym w.1
reason_once d (c ∷ cs) k l (inl v) (inr r) = absurd (none_begins (c ∷ cs) r.behind r.token v.0 r.spelled r.is)
reason_once d (c ∷ cs) k l (inr r) (inl w) = absurd (none_begins (c ∷ cs) r.behind r.token w.0 r.spelled r.is)
reason_once d (c ∷ cs) k l (inr r) (inr s) =
    let b : Begins (c ∷ cs) r.token = record { behind = r.behind; is = r.is; spelled = r.spelled; longest = r.longest } in
    some_same k l (sym r.refused ∙ token_once (c ∷ cs) r.token d l b s)

-- no text stands at the front where the form is refused
pub front_excludes : (bytes : List ℕ) (n m : ℕ) (k : ReadKind) → IsTextFront bytes n → IsRefused bytes k m → ⊥
front_excludes bytes n m k f r = by (order f.pieces r.pieces f.rest r.rest f.cuts r.cuts f.bare r.bare (sym f.is ∙ r.is))
  where
    whole : Passes at_start (tokens f.pieces) (outside part.Done)
    whole = subst (λ ts. Passes at_start ts (outside part.Done)) (sym f.derived) (derived_are_expected f.written f.within)

    by : Order f.pieces r.pieces f.rest r.rest → ⊥
    by (Same is) = r.unfinished (passes-same at_start r.state (outside part.Done) (tokens r.pieces) r.passes (subst (λ ps. Passes at_start (tokens ps) (outside part.Done)) is whole))
    by (Longer t more is next) =
        no_reason r.state r.rest k t next (next-passes at_start (outside part.Done) r.state (tokens r.pieces) more t (subst (λ ts. Passes at_start ts (outside part.Done)) is whole) r.passes) r.why
    by (Shorter t more is next) =
        nothing_behind t (next-passes at_start r.state (outside part.Done) (tokens f.pieces) more t (subst (λ ts. Passes at_start ts r.state) is r.passes) whole)

-- the form is refused once
pub refusal_once : (bytes : List ℕ) (k l : ReadKind) (n m : ℕ) → IsRefused bytes k n → IsRefused bytes l m → (k ≡ l) × (n ≡ m)
refusal_once bytes k l n m r s = by (order r.pieces s.pieces r.rest s.rest r.cuts s.cuts r.bare s.bare (sym r.is ∙ s.is))
  where
    by : Order r.pieces s.pieces r.rest s.rest → (k ≡ l) × (n ≡ m)
    by (Same is) =
        let rests = (append_same (texts r.pieces) (texts s.pieces) r.rest s.rest (ap (λ ps. length (texts ps)) is) (sym r.is ∙ s.is)).1 in
        let states = passes-same at_start r.state s.state (tokens s.pieces) (subst (λ ps. Passes at_start (tokens ps) r.state) is r.passes) s.passes in
        let why : Why s.state s.rest k = subst (λ d. Why d s.rest k) states (subst (λ bs. Why r.state bs k) rests r.why) in
        (reason_once s.state s.rest k l why s.why, r.place_is ∙ ap (λ ps. length (texts ps)) is ∙ sym s.place_is)
    by (Longer t more is next) =
        absurd (no_reason s.state s.rest l t next (next-passes at_start r.state s.state (tokens s.pieces) more t (subst (λ ts. Passes at_start ts r.state) is r.passes) s.passes) s.why)
    by (Shorter t more is next) =
        absurd (no_reason r.state r.rest k t next (next-passes at_start s.state r.state (tokens r.pieces) more t (subst (λ ts. Passes at_start ts s.state) is s.passes) r.passes) r.why)

pub one_derivation : (tokens : List Token) → HasOneDerivation tokens
one_derivation tokens = record { same = λ es fs i j e f. text_once es fs i j (sym e ∙ f) }

pub one_meaning : (v : Version) (written : List ItemSyntax) → AreWellFormedItems v written → HaveOneMeaning written
one_meaning v written h = record { same = λ is js i j. items_once v written is js h i j }

pub one_front : (bytes : List ℕ) → HasOneFront bytes
one_front bytes = record { meaning = meaning_once bytes; place = front_place bytes }

pub refused_nowhere : (bytes : List ℕ) (place : ℕ) → IsTextFront bytes place → IsRefusedNowhere bytes
refused_nowhere bytes place f = record { none = λ k n r. front_excludes bytes place n k f r }

pub one_refusal : (bytes : List ℕ) → HasOneRefusal bytes
one_refusal bytes = record { kind = λ k l n m r s. (refusal_once bytes k l n m r s).0; place = λ k l n m r s. (refusal_once bytes k l n m r s).1 }

pub one_answer : (bytes : List ℕ) (a b : Answer) → IsAnswer bytes a → IsAnswer bytes b → a ≡ b
one_answer bytes (Front is n) (Front js m) f g = λ i. Front (meaning_once bytes is js n m f g i) (front_place bytes is js n m f g i)
one_answer bytes (Front is n) (Refusal k m) f r = absurd (front_excludes bytes n m k f.text r)
one_answer bytes (Refusal k m) (Front is n) r f = absurd (front_excludes bytes n m k f.text r)
one_answer bytes (Refusal k n) (Refusal l m) r s = let e = refusal_once bytes k l n m r s in λ i. Refusal (e.0 i) (e.1 i)

pub means_only : (items : List Item) → AreLawful items → MeansOnly (canonical_text items) items
means_only items h = record { only = λ js n f. canonical_back items js n h f }
