-- In version 1 nothing is linear.
use Rattle.std.proofs.Common.{◌≡◌, Bool, true, false, List, None, refl, sym, ap, subst, ◌∙◌, true≢false}
use Rattle.ps_text.specs.declared.version.Version.TheVariants.{One}
use Rattle.ps_text.specs.Tokens.{Token}
use Rattle.ps_text.specs.Grammar.{TextSyntax, has_linear}
use Rattle.ps_text.specs.ExpectedTokens.{State, Passes, at_start}
use Rattle.ps_text.specs.PartialParses.{Lead, OfSentence, OfQuery, OfTerm, Left, OneProb, Terms, Parse, InPsat, InVersion, InHeadEnd, InItem, InQueryProb, InTextEnd, InDone, InTerm, InTermProb, InParen, InOperand, InOperator, InRelation, InBracket, InFirst, InNumber, InComma, InSecond, InBracketEnd, InItemEnd, lead_linear, left_linear, state_of, IsLead, IsLeft, IsMinusBehind, IsParse}
use Rattle.ps_text.specs.Versions.{IsPlain}
use Rattle.ps_text.proofs.Derived.{parsed_all, derives}

-- version 1 has no linear sentence
none_in_one : (es : TextSyntax) → has_linear es.version ≡ true → es.version ≡ One → ⊥
none_in_one es h e = true≢false (sym h ∙ ap has_linear e)

lead_plain : (es : TextSyntax) (q : Lead) → IsLead es q → es.version ≡ One → lead_linear q ≡ None
lead_plain es OfSentence i e = refl
lead_plain es OfQuery i e = refl
lead_plain es (OfTerm ts m k) i e = absurd (none_in_one es i.0.version e)

left_plain : (es : TextSyntax) (l : Left) → IsLeft es l → es.version ≡ One → left_linear l ≡ None
left_plain es (OneProb p) i e = refl
left_plain es (Terms ts t) i e = absurd (none_in_one es i.0.version e)

minus_plain : (es : TextSyntax) (l : Left) (m : Bool) → IsLeft es l → IsMinusBehind l m → es.version ≡ One → m ≡ false
minus_plain es (OneProb p) m i h e = h
minus_plain es (Terms ts t) m i h e = absurd (none_in_one es i.0.version e)

plain_at : (p : Parse) → IsParse p → IsPlain (state_of p)
plain_at InPsat s e = (refl, refl)
plain_at InVersion s e = (refl, refl)
plain_at (InHeadEnd v) s e = (refl, refl)
plain_at (InItem es) s e = (refl, refl)
plain_at (InQueryProb es) s e = (refl, refl)
plain_at (InTextEnd es) s e = (refl, refl)
plain_at (InDone es) s e = (refl, refl)
plain_at (InTerm es ts m) s e = absurd (none_in_one es s.1.0.version e)
plain_at (InTermProb es ts m x) s e = absurd (none_in_one es s.1.0.version e)
plain_at (InParen es q) s e = (lead_plain es q s.1 e, refl)
plain_at (InOperand es q c fs) s e = (lead_plain es q s.0.1 e, refl)
plain_at (InOperator es q c fs f) s e = (lead_plain es q s.0.1 e, refl)
plain_at (InRelation es l) s e = (left_plain es l s.1 e, refl)
plain_at (InBracket es l) s e = (left_plain es l s.1 e, refl)
plain_at (InFirst es l m) s e = (left_plain es l s.1 e, minus_plain es l m s.1 s.2 e)
plain_at (InNumber es l x m) s e = (left_plain es l s.1 e, minus_plain es l m s.1 s.2 e)
plain_at (InComma es l x) s e = (left_plain es l s.1 e, refl)
plain_at (InSecond es l x m) s e = (left_plain es l s.1 e, minus_plain es l m s.1 s.2 e)
plain_at (InBracketEnd es l x y) s e = (left_plain es l s.1 e, refl)
plain_at (InItemEnd es i) s e = (refl, refl)

pub plain : (ts : List Token) (d : State) → Passes at_start ts d → IsPlain d
plain ts d h = let r = derives InPsat ts d tt h in subst IsPlain r.state (plain_at (parsed_all InPsat ts) r.within)
