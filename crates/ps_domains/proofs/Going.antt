-- Behind what is kept of a token the same is expected as behind the token.
use Rattle.std.proofs.Common.{◌≡◌, ℕ, not, inl, inr, List, length, take, None, is_some, refl, sym, ap, ◌∙◌, arith, true≢false, unwrap_or}
use Rattle.std.proofs.lemmas.Bool.Decides.{nat_tests}
use Rattle.std.proofs.lemmas.List.{take_all}
use Rattle.std.specs.Prelude.{nat_lt}
use Rattle.ps_text.specs.Tokens as text
use Rattle.ps_text.specs.Tokens.{Token, IsToken}
use Rattle.ps_text.specs.declared.part.Part.{Part}
use Rattle.ps_text.specs.declared.part.Part.TheVariants as part
use Rattle.ps_text.specs.ExpectedTokens as before
use Rattle.ps_text.proofs.Cutting.{decide}
use Rattle.ps_lex.specs.Seen.{seen, numeral_seen}
use Rattle.ps_lex.specs.KeptTokens.{numeral_of, token_of}
use Rattle.ps_lex.proofs.Seen.{goes_on}
use Rattle.ps_domains.specs.declared.kind.GroundKind.TheVariants as kind
use Rattle.ps_domains.specs.declared.domain_part.DomainPart.{DomainPart}
use Rattle.ps_domains.specs.declared.domain_part.DomainPart.TheVariants as domain
use Rattle.ps_domains.specs.DomainWords.{arity_of}
use Rattle.ps_domains.specs.DomainTokens.{State, text_refusal, predicate_fault, unless, has_more, refusal_at, refusal}
use Rattle.ps_domains.specs.DomainTokens.{with_base, with_scopes, with_arity, after_text, after_at, after}
use Rattle.ps_domains.proofs.Passed.{read_passed, first_passed}
use Rattle.ps_domains.proofs.Judging.{arity_kept, long_refused}

-- behind numbers that version 2 goes on behind alike, where it takes them
text_after : (s : State) (p : Part) (m n : text.Numeral) → text_refusal s p (text.Number n) ≡ None
    → (before.refusal s.base (text.Number n) ≡ None → before.after s.base (text.Number m) ≡ before.after s.base (text.Number n))
    → after_text s p (text.Number m) ≡ after_text s p (text.Number n)
text_after s part.Psat m n h f = ap (λ d. with_base d s) (f (read_passed (before.refusal s.base (text.Number n)) h))
text_after s part.Version m n h f = refl
text_after s part.HeadEnd m n h f = ap (λ d. after_head d) (f (read_passed (before.refusal s.base (text.Number n)) h))
  where
    after_head : before.State → State
    after_head d = record {
      base = d;
      part = domain.Const;
      constants = s.constants;
      predicates = s.predicates;
      scopes = s.scopes;
      name = s.name;
      terms = s.terms;
      full = s.full;
    }
text_after s part.Item m n h f = ap (λ d. with_base d s) (f (read_passed (before.refusal s.base (text.Number n)) h))
text_after s part.QueryProb m n h f = ap (λ d. with_base d s) (f (read_passed (before.refusal s.base (text.Number n)) h))
text_after s part.Term m n h f = ap (λ d. with_base d s) (f (read_passed (before.refusal s.base (text.Number n)) h))
text_after s part.TermProb m n h f = ap (λ d. with_base d s) (f (read_passed (before.refusal s.base (text.Number n)) h))
text_after s part.Paren m n h f = ap (λ d. with_base d s) (f (read_passed (before.refusal s.base (text.Number n)) h))
text_after s part.Operand m n h f =
    ap (λ d. with_scopes s.scopes (with_base d s)) (f (first_passed (before.refusal s.base (text.Number n)) (predicate_fault s (text.Number n)) h))
text_after s part.Operator m n h f = ap (λ d. with_scopes s.scopes (with_base d s)) (f (read_passed (before.refusal s.base (text.Number n)) h))
text_after s part.Relation m n h f = ap (λ d. with_base d s) (f (read_passed (before.refusal s.base (text.Number n)) h))
text_after s part.Number m n h f = ap (λ d. with_base d s) (f (read_passed (before.refusal s.base (text.Number n)) h))
text_after s part.ItemEnd m n h f = ap (λ d. with_base d s) (f (read_passed (before.refusal s.base (text.Number n)) h))
text_after s part.Bracket m n h f = ap (λ d. with_base d s) (f (read_passed (before.refusal s.base (text.Number n)) h))
text_after s part.First m n h f = ap (λ d. with_base d s) (f (read_passed (before.refusal s.base (text.Number n)) h))
text_after s part.Comma m n h f = ap (λ d. with_base d s) (f (read_passed (before.refusal s.base (text.Number n)) h))
text_after s part.Second m n h f = ap (λ d. with_base d s) (f (read_passed (before.refusal s.base (text.Number n)) h))
text_after s part.BracketEnd m n h f = ap (λ d. with_base d s) (f (read_passed (before.refusal s.base (text.Number n)) h))
text_after s part.TextEnd m n h f = ap (λ d. with_base d s) (f (read_passed (before.refusal s.base (text.Number n)) h))
text_after s part.Done m n h f = ap (λ d. with_base d s) (f (read_passed (before.refusal s.base (text.Number n)) h))

-- and wherever they stand
number_after : (p : DomainPart) (s : State) (m n : text.Numeral) → refusal_at p s (text.Number n) ≡ None → arity_of (text.Number m) ≡ arity_of (text.Number n)
    → (before.refusal s.base (text.Number n) ≡ None → before.after s.base (text.Number m) ≡ before.after s.base (text.Number n))
    → after_at p s (text.Number m) ≡ after_at p s (text.Number n)
number_after domain.Text s m n h a f = text_after s s.base.part m n h f
number_after domain.Const s m n h a f = refl
number_after domain.Constant s m n h a f = refl
number_after domain.ConstMore s m n h a f = refl
number_after domain.Declaration s m n h a f = ap (λ d. with_base d s) (f (read_passed (before.refusal s.base (text.Number n)) h))
number_after domain.Predicate s m n h a f = refl
number_after domain.PredicateParen s m n h a f = refl
number_after domain.Arity s m n h a f = ap (λ o. with_arity (unwrap_or o 0) s) a
number_after domain.ArityEnd s m n h a f = refl
number_after domain.PredicateEnd s m n h a f = refl
number_after domain.Bound s m n h a f = refl
number_after domain.BoundParen s m n h a f = absurd (true≢false (ap is_some h))
number_after domain.Terms s m n h a f =
    ap (λ d. with_scopes s.scopes (with_base d s)) (f (first_passed (before.refusal s.base (text.Number n)) (unless (not (has_more s 0)) kind.WrongCount) h))
number_after domain.Term s m n h a f = refl
number_after domain.TermMore s m n h a f = refl

-- a word that isn't refused is kept whole
word_kept : (s : State) (w : List ℕ) → refusal s (text.Word w) ≡ None → take 33 w ≡ w
unfolding refusal
word_kept s w h = elim (decide (nat_lt 32 (length w))) [
  | inl l ↦ absurd (true≢false (ap is_some (sym (long_refused s.part s w l) ∙ h)))
  | inr l ↦ take_all 33 w (grind (arith, nat_tests))
]

-- behind what is kept of a token that isn't refused
pub goes_on_alike : (s : State) (t : Token) → IsToken t → refusal s t ≡ None → after s (token_of (seen t)) ≡ after s t
unfolding refusal after
goes_on_alike s (text.Word w) i h = ap (λ u. after_at s.part s (text.Word u)) (word_kept s w h)
goes_on_alike s (text.Number n) i h = number_after s.part s (numeral_of (numeral_seen n)) n h (arity_kept n i) (goes_on s.base (text.Number n))
goes_on_alike s (text.Sign x) i h = refl
