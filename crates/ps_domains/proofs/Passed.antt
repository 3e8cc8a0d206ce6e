-- What is known of a token that isn't refused.
use Rattle.std.proofs.Common.{◌≡◌, ℕ, Bool, true, false, not, List, [], ◌∷◌, length, Option, Some, None, is_some, refl, sym, ap, subst, ◌∙◌, true≢false, if◌then◌else◌}
use Rattle.std.specs.Prelude.{nat_lt}
use Rattle.ps_text.specs.Tokens.{Token, Word, Number, Whole}
use Rattle.ps_text.specs.declared.part.Part.{Part}
use Rattle.ps_text.specs.declared.part.Part.TheVariants as part
use Rattle.ps_text.specs.declared.version.Version.TheVariants.{Two}
use Rattle.ps_text.specs.declared.kind.ReadKind.{ReadKind}
use Rattle.ps_text.specs.declared.kind.ReadKind.TheVariants as read
use Rattle.ps_text.specs.declared.kind.What.TheVariants as what
use Rattle.ps_text.specs.ExpectedTokens as before
use Rattle.ps_text.specs.ExpectedTokens.{refusal, after}
use Rattle.ps_domains.specs.declared.kind.GroundKind.{GroundKind}
use Rattle.ps_domains.specs.declared.kind.GroundKind.TheVariants as kind
use Rattle.ps_domains.specs.DomainWords.{is_quantifier, is_declaring}
use Rattle.ps_domains.specs.DomainTokens.{State, or_else, read_reason, predicate_fault, operand_refusal, text_refusal}

-- a reason of version 2 is none where its kind is none
pub read_passed : (r : Option ReadKind) → read_reason r ≡ None → r ≡ None
read_passed None e = refl
read_passed (Some k) e = absurd (true≢false (ap is_some e))

-- where neither reason is there, the first isn't
pub first_passed : (r : Option ReadKind) (x : Option GroundKind) → or_else (read_reason r) x ≡ None → r ≡ None
first_passed None x e = refl
first_passed (Some k) x e = absurd (true≢false (ap is_some e))

-- nor is the second
pub second_passed : (x : Option GroundKind) (r : Option ReadKind) → or_else x (read_reason r) ≡ None → r ≡ None
second_passed None r e = read_passed r e
second_passed (Some k) r e = absurd (true≢false (ap is_some e))

-- in the place of an operand
pub operand_passed : (s : State) (t : Token) → operand_refusal s t ≡ None → is_quantifier t ≡ false → before.refusal s.base t ≡ None
operand_passed s t e q = by (is_quantifier t) (is_declaring t) q e
  where
    by : (b d : Bool) → b ≡ false
        → (if b then None else (if d then Some (kind.Read (read.Expected what.Formula)) else or_else (read_reason (before.refusal s.base t)) (predicate_fault s t))) ≡ None
        → before.refusal s.base t ≡ None
    by true d q e = absurd (true≢false q)
    by false true q e = absurd (true≢false (ap is_some e))
    by false false q e = first_passed (before.refusal s.base t) (predicate_fault s t) e

-- the version that a text has in the words of version 2
abbrev pub two : Token
two = Number (Whole (50 ∷ []))

pub two_passes : (d : before.State) → d.part ≡ part.Version → before.refusal d two ≡ None
unfolding refusal
two_passes d e = subst (λ p. (if not ((before.row p).expects d two) then Some (read.Expected ((before.row p).what d)) else (before.row p).fault d two) ≡ None) (sym e) refl

pub two_behind : (d : before.State) → d.part ≡ part.Version → before.after d two ≡ before.in_version Two part.HeadEnd
unfolding after
two_behind d e = subst (λ p. (before.row p).next d two ≡ before.in_version Two part.HeadEnd) (sym e) refl

-- at any other part that version 2 has next
pub text_passed : (s : State) (p : Part) (t : Token) → text_refusal s p t ≡ read_reason (before.refusal s.base t) → text_refusal s p t ≡ None → before.refusal s.base t ≡ None
text_passed s p t is e = read_passed (before.refusal s.base t) (sym is ∙ e)

-- a word that is too long is refused in version 2
pub long_before : (d : before.State) (w : List ℕ) → nat_lt 32 (length w) ≡ true → before.refusal d (Word w) ≡ Some read.NameTooLong
unfolding refusal
long_before d w h = rw h refl
