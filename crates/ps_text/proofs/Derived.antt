-- Tokens none of which is refused are what the grammar derives within the limits.
use Rattle.std.proofs.Common.{◌≡◌, Bool, true, false, List, [], ◌∷◌, ◌++◌, sym, ap, subst, ◌∙◌, append_assoc, append-nil, true≢false}
use Rattle.ps_text.specs.Tokens.{Token}
use Rattle.ps_text.specs.declared.part.Part.{Part}
use Rattle.ps_text.specs.declared.part.Part.TheVariants as part
use Rattle.ps_text.specs.ExpectedTokens.{State, outside, Passes, AreExpected}
use Rattle.ps_text.specs.Grammar.{IsDerived}
use Rattle.ps_text.specs.PartialParses.{Parse, InPsat, InVersion, InHeadEnd, InItem, InQueryProb, InTextEnd, InDone, InTerm, InTermProb, InParen, InOperand, InOperator, InRelation, InBracket, InFirst, InNumber, InComma, InSecond, InBracketEnd, InItemEnd, state_of, parsed_tokens, IsExtendedBy, IsParse, parsed, TakesToken}
use Rattle.ps_text.proofs.Steps.{Passed, passed, at_psat, at_version, at_head_end, at_item, at_query_prob, at_text_end, at_term, at_term_prob, at_paren, at_relation, at_number, at_bracket, at_first, at_comma, at_second, at_bracket_end, at_item_end}
use Rattle.ps_text.proofs.FormulaSteps.{at_operand, at_operator}

-- one token more that isn't refused
pub steps : (p : Parse) (t : Token) → TakesToken p t
steps p t s h = by p s (passed (state_of p) t h)
  where
    by : (p : Parse) → IsParse p → Passed (state_of p) t → IsExtendedBy p t
    by InPsat s h = at_psat t h
    by InVersion s h = at_version t h
    by (InHeadEnd v) s h = at_head_end v t h
    by (InItem es) s h = at_item es t s h
    by (InQueryProb es) s h = at_query_prob es t s h
    by (InTextEnd es) s h = at_text_end es t s h
    by (InDone es) s h = absurd (true≢false (sym h.expected))
    by (InTerm es ts m) s h = at_term es ts m t s h
    by (InTermProb es ts m x) s h = at_term_prob es ts m x t s h
    by (InParen es q) s h = at_paren es q t s h
    by (InOperand es q c fs) s h = at_operand es q c fs t s h
    by (InOperator es q c fs f) s h = at_operator es q c fs f t s h
    by (InRelation es p) s h = at_relation es p t s h
    by (InBracket es p) s h = at_bracket es p t s h
    by (InFirst es p m) s h = at_first es p m t s h
    by (InNumber es p x m) s h = at_number es p x m t s h
    by (InComma es p x) s h = at_comma es p x t s h
    by (InSecond es p x m) s h = at_second es p x m t s h
    by (InBracketEnd es p x y) s h = at_bracket_end es p x y t s h
    by (InItemEnd es e) s h = at_item_end es e t s h

-- what more tokens make of a derivation
abbrev pub parsed_all : Parse → List Token → Parse
parsed_all p [] = p
parsed_all p (t ∷ ts) = parsed_all (parsed p t) ts

-- more tokens none of which is refused
pub record Derives (p : Parse) (ts : List Token) (e : State) : Type 0 where
  pub state : state_of (parsed_all p ts) ≡ e
  pub tokens : parsed_tokens (parsed_all p ts) ≡ parsed_tokens p ++ ts
  pub within : IsParse (parsed_all p ts)

pub derives : (p : Parse) (ts : List Token) (e : State) → IsParse p → Passes (state_of p) ts e → Derives p ts e
derives p [] e s h = record { state = h; tokens = sym (append-nil (parsed_tokens p)); within = s }
derives p (t ∷ ts) e s h =
    let step = steps p t s h.0 in
    let rest = derives (parsed p t) ts e step.within (subst (λ d. Passes d ts e) (sym step.state) h.1) in
    record { state = rest.state; tokens = rest.tokens ∙ ap (λ us. us ++ ts) step.tokens ∙ append_assoc (parsed_tokens p) (t ∷ []) ts; within = rest.within }

abbrev is_end : Part → Bool
is_end part.Done = true
is_end p = false

ends : (p : Parse) (ts : List Token) → is_end (state_of p).part ≡ true → parsed_tokens p ≡ ts → IsParse p → IsDerived ts
ends (InDone es) ts e r s = record { written = es; tokens = sym r; within = s }
ends InPsat ts e r s = absurd (true≢false (sym e))
ends InVersion ts e r s = absurd (true≢false (sym e))
ends (InHeadEnd v) ts e r s = absurd (true≢false (sym e))
ends (InItem es) ts e r s = absurd (true≢false (sym e))
ends (InQueryProb es) ts e r s = absurd (true≢false (sym e))
ends (InTextEnd es) ts e r s = absurd (true≢false (sym e))
ends (InTerm es us m) ts e r s = absurd (true≢false (sym e))
ends (InTermProb es us m x) ts e r s = absurd (true≢false (sym e))
ends (InParen es q) ts e r s = absurd (true≢false (sym e))
ends (InOperand es q c fs) ts e r s = absurd (true≢false (sym e))
ends (InOperator es q c fs f) ts e r s = absurd (true≢false (sym e))
ends (InRelation es p) ts e r s = absurd (true≢false (sym e))
ends (InBracket es p) ts e r s = absurd (true≢false (sym e))
ends (InFirst es p m) ts e r s = absurd (true≢false (sym e))
ends (InNumber es p x m) ts e r s = absurd (true≢false (sym e))
ends (InComma es p x) ts e r s = absurd (true≢false (sym e))
ends (InSecond es p x m) ts e r s = absurd (true≢false (sym e))
ends (InBracketEnd es p x y) ts e r s = absurd (true≢false (sym e))
ends (InItemEnd es e') ts e r s = absurd (true≢false (sym e))

-- tokens that are expected, up to the `;` behind `end`, are those of a text within the grammar's levels and limits
pub expected_are_derived : (ts : List Token) → AreExpected ts → IsDerived ts
expected_are_derived ts h = let d = derives InPsat ts (outside part.Done) tt h in ends (parsed_all InPsat ts) ts (ap (λ x. is_end x.part) d.state) d.tokens d.within
