-- One token more: the work of the machine is that of the derivation with that token.
use Rattle.std.proofs.Common.{◌≡◌, ℕ, zero, suc, ◌+◌, ◌-◌, ◌<◌, ◌≤◌, Bool, true, false, ◌&&◌, ◌||◌, not, List, [], ◌∷◌, ◌++◌, length, map, take, Option, Some, None, refl, sym, ap, subst, ◌∙◌, arith, true≢false, is_some}
use Rattle.std.proofs.Math.Nat.{div-mul_cancel}
use Rattle.std.proofs.Math.Seq.{get_or-append_seam, take-length}
use Rattle.std.proofs.lemmas.List.{length-append, get_or_append_left}
use Rattle.std.proofs.lemmas.Nat.Gcd.{IsGcd-from_mod, IsGcd-from_zero}
use Rattle.std.specs.Prelude.{bytes_eq, codes, if◌then◌else◌, option_map, unsigned_abs}
use Rattle.std.specs.List.{list_any}
use Rattle.ps_meaning.specs.Formula as formula
use Rattle.ps_meaning.specs.Formula.{Formula, Truth}
use Rattle.ps_meaning.specs.Statements.{Name, Item, Asked}
use Rattle.ps_meaning.specs.declared.side.Side.{Side}
use Rattle.ps_meaning.specs.declared.side.Side.TheVariants as side
use Rattle.ps_meaning.specs.Gcd.{gcd}
use Rattle.ps_meaning.specs.Coprime.{gcd_is, is_gcd}
use Rattle.ps_text.specs.Tokens.{Token, Word, Number, Sign, Numeral, Whole, is_the_word}
use Rattle.ps_text.specs.declared.symbol.Symbol.{Symbol}
use Rattle.ps_text.specs.declared.symbol.Symbol.TheVariants.{Open, Close, OpenBracket, CloseBracket, Comma, Semicolon, Bang, Ampersand, Bar, Arrow, DoubleArrow, Equals, GreaterEquals, LessEquals, Plus, Minus}
use Rattle.ps_text.specs.Grammar as grammar
use Rattle.ps_text.specs.Grammar.{FormulaSyntax, Group, Prob, Within, ItemSyntax, Query, Signed, Term, TextSyntax, SignedRelation, has_linear}
use Rattle.ps_text.specs.Meanings.{formula_of, ratio_of, IsValue, States, with_sign, IsSignedValue, StatesSum, coefficient_of, AreSummands, IsItem, AreItems}
use Rattle.ps_text.specs.ExpectedTokens.{refusal, after, may_be_given, is_group}
use Rattle.ps_text.proofs.Spans.{not_true, both}
use Rattle.ps_text.specs.BegunFormulas.{Frame, BegunNot, BegunGroup, BegunAnd, BegunOr, BegunImplies, BegunIff, required_level, opened_of, joins}
use Rattle.ps_text.proofs.Frames.{joins_need, all_joined}
use Rattle.ps_text.specs.PartialParses as syntax
use Rattle.ps_text.specs.PartialParses.{Lead, OfSentence, OfQuery, OfTerm, Left, OneProb, Terms, lead_linear, IsGivenBehind, without_signs, sentence_of, terms_in}
use Rattle.ps_text.specs.PartialParses.{Parse, InPsat, InVersion, InHeadEnd, InItem, InQueryProb, InTextEnd, InDone, InTerm, InTermProb, InParen, InOperand, InOperator, InRelation, InBracket, InFirst, InNumber, InComma, InSecond, InBracketEnd, InItemEnd, prob_of, state_of, relation_of, IsRelationSign, IsParse, behind_operand, behind_close, parsed}
use Rattle.ps_text.proofs.Steps.{passed}
use Rattle.ps_text.proofs.Derived.{steps}
use Rattle.ps_problem.specs.declared.mark.Mark.TheVariants as mark
use Rattle.ps_problem.specs.declared.term.Signed.{Signed as DraftSigned}
use Rattle.ps_problem.specs.declared.term.Term.{Term as DraftTerm}
use Rattle.ps_problem.specs.Drafts.{Drafted, with_mark, question_at, formula_at, signed_of, summand_at, AreBelow}
use Rattle.ps_read.specs.declared.operator.Operator.{Operator}
use Rattle.ps_read.specs.declared.operator.Operator.TheVariants as operator
use Rattle.ps_read.specs.Pending.{waiting, reduced, reduced_from}
use Rattle.ps_read.specs.Machine.{ItemSoFar, Work, Machine, lowest, signed, size, unit, last_term, terms_by, with_pending, with_atom, operand_ended, numbered, numbered_as, behind_terms, plain_begun, item_begun, term_taken, with_conditional, formula_ended, probability_ended, closed_behind, stated_by, stated, with_sentence, with_side, side_in, relation_taken, number_taken, least_taken, most_taken, taken}
use Rattle.ps_read.specs.Derivations.{operators_of, lefts_of, HasFormula, HasProb, IsDraftedTerm, AreDraftedTerms, HasTerms, HasLead, HasLeft, IsWorkOf, RepresentsAfter}
use Rattle.ps_read.proofs.Reducing.{IsReduced, reduces}

-- items

items_push : (es : List ItemSyntax) (is : List Item) (e : ItemSyntax) (i : Item) → AreItems es is → IsItem e i → AreItems (es ++ e ∷ []) (is ++ i ∷ [])
items_push [] [] e i h k = (k, tt)
items_push [] (x ∷ is) e i h k = absurd h
items_push (x ∷ es) [] e i h k = absurd h
items_push (x ∷ es) (y ∷ is) e i h k = (h.0, items_push es is e i h.1 k)

pub value_is : (x : Numeral) → IsValue x (lowest (ratio_of x))
value_is x =
    let g = gcd_is (ratio_of x).num (ratio_of x).den in
    record {
      divisor = gcd (ratio_of x).num (ratio_of x).den;
      greatest = g;
      num = sym (div-mul_cancel (gcd (ratio_of x).num (ratio_of x).den) g.0);
      den = sym (div-mul_cancel (gcd (ratio_of x).num (ratio_of x).den) g.1);
    }

-- the size of a number behind a `-` or none
sized : (m : Bool) (n : ℕ) → unsigned_abs (with_sign m n) ≡ n
sized false n = refl
sized true zero = refl
sized true (suc n) = refl

-- a number behind a `-` or none has the value of its numeral
pub signed_is : (m : Bool) (x : Numeral) → IsSignedValue m x (signed_of (signed m (lowest (ratio_of x))))
signed_is m x =
    let e = sized m (lowest (ratio_of x)).num in
    record {
      size = subst (λ n. IsValue x (record { num = n; den = (lowest (ratio_of x)).den })) (sym e) (value_is x);
      sign = ap (with_sign m) (sym e);
    }

-- 1, which is no fraction
unit_is : (m : Bool) → IsSignedValue m (coefficient_of None) (signed_of (signed m unit))
unit_is m = subst (λ r. IsSignedValue m (Whole (codes "1")) (signed_of (signed m r))) one (signed_is m (Whole (codes "1")))
  where
    one : lowest (ratio_of (Whole (codes "1"))) ≡ unit
    one = let g : gcd 1 1 ≡ 1 = sym (is_gcd 1 1 1 (IsGcd-from_mod 1 1 1 (IsGcd-from_zero 1 0 refl))) in rw g refl

-- the value of a number as a size
size_is : (m : Bool) (x : Numeral) → IsValue x (size (signed m (lowest (ratio_of x))))
size_is m x = (signed_is m x).size

states : (s : Symbol) (m : Bool) (x : Numeral) (z : Side) → IsRelationSign s → z ≡ side_in (Sign s) → States (without_signs (relation_of s (syntax.signed m x))) z (size (signed m (lowest (ratio_of x)))) None
states Equals m x z h e = (e, size_is m x, refl)
states GreaterEquals m x z h e = (e, size_is m x, refl)
states LessEquals m x z h e = (e, size_is m x, refl)
states Open m x z h e = absurd h
states Close m x z h e = absurd h
states OpenBracket m x z h e = absurd h
states CloseBracket m x z h e = absurd h
states Comma m x z h e = absurd h
states Semicolon m x z h e = absurd h
states Bang m x z h e = absurd h
states Ampersand m x z h e = absurd h
states Bar m x z h e = absurd h
states Arrow m x z h e = absurd h
states DoubleArrow m x z h e = absurd h
states Plus m x z h e = absurd h
states Minus m x z h e = absurd h

states_sum : (s : Symbol) (m : Bool) (x : Numeral) (z : Side) → IsRelationSign s → z ≡ side_in (Sign s) → StatesSum (relation_of s (syntax.signed m x)) z (signed_of (signed m (lowest (ratio_of x)))) None
states_sum Equals m x z h e = (e, signed_is m x, refl)
states_sum GreaterEquals m x z h e = (e, signed_is m x, refl)
states_sum LessEquals m x z h e = (e, signed_is m x, refl)
states_sum Open m x z h e = absurd h
states_sum Close m x z h e = absurd h
states_sum OpenBracket m x z h e = absurd h
states_sum CloseBracket m x z h e = absurd h
states_sum Comma m x z h e = absurd h
states_sum Semicolon m x z h e = absurd h
states_sum Bang m x z h e = absurd h
states_sum Ampersand m x z h e = absurd h
states_sum Bar m x z h e = absurd h
states_sum Arrow m x z h e = absurd h
states_sum DoubleArrow m x z h e = absurd h
states_sum Plus m x z h e = absurd h
states_sum Minus m x z h e = absurd h

-- terms over formulas of a draft are what is written
summands : (fs : List (Formula Name)) (ts : List Term) (ds : List DraftTerm) → AreDraftedTerms fs ts ds → AreSummands ts (map (summand_at fs) ds)
summands fs [] [] h = tt
summands fs [] (d ∷ ds) h = absurd h
summands fs (t ∷ ts) [] h = absurd h
summands fs (t ∷ ts) (d ∷ ds) h = (record { coefficient = h.0.coefficient; formula = h.0.formula }, summands fs ts ds h.1)

terms_push : (fs : List (Formula Name)) (ts : List Term) (ds : List DraftTerm) (t : Term) (d : DraftTerm) → AreDraftedTerms fs ts ds → IsDraftedTerm fs t d → AreDraftedTerms fs (ts ++ t ∷ []) (ds ++ d ∷ [])
terms_push fs [] [] t d h k = (k, tt)
terms_push fs [] (e ∷ ds) t d h k = absurd h
terms_push fs (u ∷ ts) [] t d h k = absurd h
terms_push fs (u ∷ ts) (e ∷ ds) t d h k = (h.0, terms_push fs ts ds t d h.1 k)

-- further formulas change nothing of terms
term_kept : (fs more : List (Formula Name)) (t : Term) (d : DraftTerm) → IsDraftedTerm fs t d → IsDraftedTerm (fs ++ more) t d
term_kept fs more t d h = record {
  formula = get_or_append_left fs more Truth d.formula h.below ∙ h.formula;
  below = (let l : length (fs ++ more) ≡ length fs + length more = length-append fs more in omega (arith, l, h.below));
  coefficient = h.coefficient;
}

terms_kept : (fs more : List (Formula Name)) (ts : List Term) (ds : List DraftTerm) → AreDraftedTerms fs ts ds → AreDraftedTerms (fs ++ more) ts ds
terms_kept fs more [] [] h = tt
terms_kept fs more [] (d ∷ ds) h = absurd h
terms_kept fs more (t ∷ ts) [] h = absurd h
terms_kept fs more (t ∷ ts) (d ∷ ds) h = (term_kept fs more t d h.0, terms_kept fs more ts ds h.1)

-- the terms of a left side, by the draft
left_terms : (fs : List (Formula Name)) (l : Left) (i : ItemSoFar) → HasLeft fs l i → AreDraftedTerms fs (terms_in l) (terms_by i.linear i)
left_terms fs (OneProb p) i h = subst (λ b. AreDraftedTerms fs (terms_in (OneProb p)) (terms_by b i)) (sym h.1)
    (record { formula = h.2.formula; below = h.2.below.0; coefficient = unit_is false }, tt)
left_terms fs (Terms ts t) i h = subst (λ b. AreDraftedTerms fs (terms_in (Terms ts t)) (terms_by b i)) (sym h.0.linear)
    (terms_push fs ts i.terms t (last_term i) h.0.terms h.1)

-- what bounds the left side, as it is stated
abbrev StatesLeft : Left → SignedRelation → Side → DraftSigned → Option DraftSigned → Type 0
StatesLeft (OneProb p) r z q upper = States (without_signs r) z (size q) (option_map size upper)
StatesLeft (Terms ts t) r z q upper = StatesSum r z (signed_of q) (option_map signed_of upper)

item_stated : (fs : List (Formula Name)) (l : Left) (i : ItemSoFar) (r : SignedRelation) (q : DraftSigned) (upper : Option DraftSigned) → HasLeft fs l i → StatesLeft l r i.side q upper → IsItem (sentence_of l r) (stated fs i q upper)
item_stated fs (OneProb p) i r q upper h s = subst (λ b. IsItem (sentence_of (OneProb p) r) (stated_by b fs i q upper)) (sym h.1) (record { formula = h.2.formula; given = h.2.given; stated = s })
item_stated fs (Terms ts t) i r q upper h s = subst (λ b. IsItem (sentence_of (Terms ts t) r) (stated_by b fs i q upper)) (sym h.0.linear)
    (record { terms = summands fs (ts ++ t ∷ []) (i.terms ++ last_term i ∷ []) (terms_push fs ts i.terms t (last_term i) h.0.terms h.1); stated = s })

-- the number of a relation states
number_states : (l : Left) (s : Symbol) (m : Bool) (x : Numeral) (z : Side) → IsRelationSign s → z ≡ side_in (Sign s) → StatesLeft l (relation_of s (syntax.signed m x)) z (signed m (lowest (ratio_of x))) None
number_states (OneProb p) s m x z h e = states s m x z h e
number_states (Terms ts t) s m x z h e = states_sum s m x z h e

-- the numbers of an interval state
interval_states : (l : Left) (x : Signed) (m : Bool) (y : Numeral) (z : Side) (q : DraftSigned) → z ≡ side.AtLeast → IsSignedValue x.minus x.size (signed_of q)
    → StatesLeft l (Within x (syntax.signed m y)) z q (Some (signed m (lowest (ratio_of y))))
interval_states (OneProb p) x m y z q e v = (e, v.size, size_is m y)
interval_states (Terms ts t) x m y z q e v = (e, v, signed_is m y)

-- operands

whole : (os : List (Formula Name)) → take (length os - 0) os ≡ os
whole os = let e : length os - 0 ≡ length os = omega arith in ap (λ n. take n os) e ∙ take-length os

-- a formula stands open last, and the rest stays
record IsBehind (d e : Drafted) (f : Formula Name) : Type 0 where
  «open» : e.«open» ≡ d.«open» ++ f ∷ []
  formulas : e.formulas ≡ d.formulas
  items : e.items ≡ d.items

-- what was read of the item in a formula
abbrev HasBegun : Lead → List (Formula Name) → Option FormulaSyntax → ItemSoFar → Type 0
HasBegun q fs c i = HasLead fs q i × HasFormula fs c i

has_begun : (q : Lead) (c : Option FormulaSyntax) (fs gs : List (Formula Name)) (i : ItemSoFar) → gs ≡ fs → HasBegun q fs c i → HasBegun q gs c i
has_begun q c fs gs i e h = (subst (λ xs. HasLead xs q i) (sym e) h.0, subst (λ xs. HasFormula xs c i) (sym e) h.1)

module _ (es : TextSyntax) (q : Lead) (c : Option FormulaSyntax) where
  ended_does : (fs : List Frame) (f : FormulaSyntax) (os : List Operator) (d : Drafted) (i : ItemSoFar) → os ≡ operators_of fs → d.«open» ≡ lefts_of fs ++ formula_of f ∷ [] → AreItems es.items d.items → HasBegun q d.formulas c i
      → IsWorkOf (behind_operand es q c fs f) (record { pending = reduced_from 5 os d; item = i })
  ended_does fs f os d i o e k h = subst (λ xs. IsWorkOf (behind_operand es q c fs f) (record { pending = reduced_from 5 xs d; item = i })) (sym o)
      (let s = reduces 5 fs f d (omega arith) e in record {
        operators = s.operators;
        «open» = s.«open»;
        items = subst (λ is. AreItems es.items is) (sym s.items) k;
        item = has_begun q c d.formulas (reduced_from 5 (operators_of fs) d).draft.formulas i s.formulas h;
      })

  operand_does : (fs : List Frame) (f : FormulaSyntax) (w : Work) (d : Drafted) → IsWorkOf (InOperand es q c fs) w → IsBehind w.pending.draft d (formula_of f) → IsWorkOf (behind_operand es q c fs f) (with_pending w (operand_ended w.pending d))
  operand_does fs f w d h b = ended_does fs f w.pending.operators d w.item h.operators (b.«open» ∙ ap (λ os. os ++ formula_of f ∷ []) h.«open»)
      (subst (λ is. AreItems es.items is) (sym b.items) h.items) (has_begun q c w.pending.draft.formulas d.formulas w.item b.formulas h.item)

  word_does : (fs : List Frame) (u : List ℕ) (w : Work) → IsWorkOf (InOperand es q c fs) w → IsWorkOf (parsed (InOperand es q c fs) (Word u)) (taken (state_of (InOperand es q c fs)) w (Word u))
  word_does fs u w h = by (bytes_eq u (codes "true")) (bytes_eq u (codes "false"))
    where
      by : (a b : Bool) → IsWorkOf (behind_operand es q c fs (if a then grammar.Truth else (if b then grammar.Falsity else grammar.Name u)))
          (with_pending w (operand_ended w.pending (if a then with_mark w.pending.draft mark.True else (if b then with_mark w.pending.draft mark.False else with_atom w.pending.draft u))))
      by true b = operand_does fs grammar.Truth w (with_mark w.pending.draft mark.True) h (record { «open» = ap (λ os. os ++ Truth ∷ []) (whole w.pending.draft.«open»); formulas = refl; items = refl })
      by false true = operand_does fs grammar.Falsity w (with_mark w.pending.draft mark.False) h (record { «open» = ap (λ os. os ++ formula.Falsity ∷ []) (whole w.pending.draft.«open»); formulas = refl; items = refl })
      by false false = operand_does fs (grammar.Name u) w (with_atom w.pending.draft u) h (record { «open» = refl; formulas = refl; items = refl })

  group_does : (fs : List Frame) (w : Work) → IsWorkOf (InOperand es q c fs) w → IsWorkOf (InOperand es q c (BegunGroup ∷ fs)) (with_pending w (waiting operator.Group w.pending))
  group_does fs w h = record { operators = ap (λ os. operator.Group ∷ os) h.operators; «open» = h.«open»; items = h.items; item = h.item }

  at_operand : (fs : List Frame) (t : Token) (w : Work) → IsWorkOf (InOperand es q c fs) w → IsWorkOf (parsed (InOperand es q c fs) t) (taken (state_of (InOperand es q c fs)) w t)
  at_operand fs (Word u) w h = word_does fs u w h
  at_operand fs (Number x) w h = operand_does fs grammar.Truth w (with_mark w.pending.draft mark.True) h (record { «open» = ap (λ os. os ++ Truth ∷ []) (whole w.pending.draft.«open»); formulas = refl; items = refl })
  at_operand fs (Sign Bang) w h = record { operators = ap (λ os. operator.Not ∷ os) h.operators; «open» = h.«open»; items = h.items; item = h.item }
  at_operand fs (Sign Open) w h = group_does fs w h
  at_operand fs (Sign Close) w h = group_does fs w h
  at_operand fs (Sign OpenBracket) w h = group_does fs w h
  at_operand fs (Sign CloseBracket) w h = group_does fs w h
  at_operand fs (Sign Comma) w h = group_does fs w h
  at_operand fs (Sign Semicolon) w h = group_does fs w h
  at_operand fs (Sign Ampersand) w h = group_does fs w h
  at_operand fs (Sign Bar) w h = group_does fs w h
  at_operand fs (Sign Arrow) w h = group_does fs w h
  at_operand fs (Sign DoubleArrow) w h = group_does fs w h
  at_operand fs (Sign Equals) w h = group_does fs w h
  at_operand fs (Sign GreaterEquals) w h = group_does fs w h
  at_operand fs (Sign LessEquals) w h = group_does fs w h
  at_operand fs (Sign Plus) w h = group_does fs w h
  at_operand fs (Sign Minus) w h = group_does fs w h

-- the end of a probability

one_more : (fs : List (Formula Name)) (f : Formula Name) → length fs < length (fs ++ f ∷ [])
one_more fs f = let l : length (fs ++ f ∷ []) ≡ length fs + 1 = length-append fs (f ∷ []) in omega (arith, l)

conditional_is : (c : Option FormulaSyntax) (fs : List (Formula Name)) (i : ItemSoFar) → HasFormula fs c i → i.conditional ≡ is_some c
conditional_is None fs i h = h
conditional_is (Some f) fs i h = h.2

ended_prob : (c : Option FormulaSyntax) (g : FormulaSyntax) (fs : List (Formula Name)) (i : ItemSoFar) (b : Bool) → b ≡ is_some c → HasFormula fs c i → HasProb (fs ++ formula_of g ∷ []) (prob_of c g) (numbered_as b i (length fs))
ended_prob None g fs i true e h = absurd (true≢false e)
ended_prob None g fs i false e h = record { formula = get_or-append_seam fs (formula_of g) [] Truth; given = refl; below = (one_more fs (formula_of g), tt) }
ended_prob (Some f) g fs i false e h = absurd (true≢false (sym e))
ended_prob (Some f) g fs i true e h = record {
  formula = get_or_append_left fs (formula_of g ∷ []) Truth i.formula h.1 ∙ h.0;
  given = ap Some (get_or-append_seam fs (formula_of g) [] Truth);
  below = (let l = one_more fs (formula_of g) in omega (arith, l, h.1), one_more fs (formula_of g));
}

prob_ended : (c : Option FormulaSyntax) (g : FormulaSyntax) (d : Drafted) (i : ItemSoFar) → d.«open» ≡ formula_of g ∷ [] → HasFormula d.formulas c i → HasProb (d.formulas ++ d.«open») (prob_of c g) (numbered i (length d.formulas))
prob_ended c g d i e h = subst (λ os. HasProb (d.formulas ++ os) (prob_of c g) (numbered i (length d.formulas))) (sym e) (ended_prob c g d.formulas i i.conditional (conditional_is c d.formulas i h) h)

-- where nothing waits
abbrev ended_work : Drafted → ItemSoFar → Work
ended_work d i = record { pending = record { operators = []; draft = d }; item = i }

linear_kept : (b : Bool) (i : ItemSoFar) (n : ℕ) → (numbered_as b i n).linear ≡ i.linear
linear_kept true i n = refl
linear_kept false i n = refl

query_kept : (b : Bool) (i : ItemSoFar) (n : ℕ) → (numbered_as b i n).query ≡ i.query
query_kept true i n = refl
query_kept false i n = refl

-- a term ends
ended_term : (ts : List Term) (m : Bool) (k : Option Numeral) (f : FormulaSyntax) (fs : List (Formula Name)) (i : ItemSoFar) (b : Bool) → b ≡ false → HasLead fs (OfTerm ts m k) i
    → HasLeft (fs ++ formula_of f ∷ []) (Terms ts (record { minus = m; coefficient = k; formula = f })) (numbered_as b i (length fs))
ended_term ts m k f fs i true e h = absurd (true≢false e)
ended_term ts m k f fs i false e h = (
  record { query = h.0.query; linear = h.0.linear; terms = terms_kept fs (formula_of f ∷ []) ts i.terms h.0.terms },
  record { formula = get_or-append_seam fs (formula_of f) [] Truth; below = one_more fs (formula_of f); coefficient = h.1 },
)

close_does : (es : TextSyntax) (q : Lead) (c : Option FormulaSyntax) (fs : List Frame) (f : FormulaSyntax) (d : Drafted) (i : ItemSoFar) → IsGivenBehind q c → required_level fs ≤ 1 → d.«open» ≡ lefts_of fs ++ formula_of f ∷ [] → AreItems es.items d.items → HasBegun q d.formulas c i
    → IsWorkOf (behind_close es q c fs f) (closed_behind i (operators_of fs) d)
close_does es OfSentence c [] f d i g n e k h = subst (λ b. IsWorkOf (behind_close es OfSentence c [] f) (probability_ended b (ended_work d i))) (sym h.0.0)
    (record {
      operators = refl;
      «open» = refl;
      items = k;
      item = (query_kept i.conditional i (length d.formulas) ∙ h.0.0, linear_kept i.conditional i (length d.formulas) ∙ h.0.1, prob_ended c f d i e h.1);
    })
close_does es OfQuery c [] f d i g n e k h = subst (λ b. IsWorkOf (behind_close es OfQuery c [] f) (probability_ended b (ended_work d i))) (sym h.0) (record {
  operators = refl;
  «open» = refl;
  items =
      let p = prob_ended c f d i e h.1 in
      let j = numbered i (length d.formulas) in
      items_push es.items d.items (Query (prob_of c f)) (Asked (question_at (d.formulas ++ d.«open») j.formula j.given)) k (λ t. record { formula = p.formula t; given = p.given t });
  item = tt;
})
close_does es (OfTerm ts m x) c [] f d i g n e k h = subst (λ b. IsWorkOf (behind_close es (OfTerm ts m x) c [] f) (probability_ended b (ended_work d i))) (sym h.0.0.query)
    (record {
      operators = refl;
      «open» = refl;
      items = k;
      item = subst (λ os. HasLeft (d.formulas ++ os) (Terms ts (record { minus = m; coefficient = x; formula = f })) (numbered i (length d.formulas))) (sym e)
          (ended_term ts m x f d.formulas i i.conditional (conditional_is c d.formulas i h.1 ∙ ap is_some g) h.0);
    })
close_does es q c (BegunGroup ∷ fs) f d i g n e k h = ended_does es q c fs (Group f) (operators_of fs) d i refl e k h
close_does es q c (BegunNot ∷ fs) f d i g n e k h = absurd (omega (arith, n))
close_does es q c (BegunAnd x ∷ fs) f d i g n e k h = absurd (omega (arith, n))
close_does es q c (BegunOr x ∷ fs) f d i g n e k h = absurd (omega (arith, n))
close_does es q c (BegunImplies x ∷ fs) f d i g n e k h = absurd (omega (arith, n))
close_does es q c (BegunIff x ∷ fs) f d i g n e k h = absurd (omega (arith, n))

-- behind an operand

-- what stands before a probability that isn't a term's stays as its condition begins
lead_goes_on : (q : Lead) (fs gs : List (Formula Name)) (i : ItemSoFar) (n : ℕ) → is_some (lead_linear q) ≡ false → HasLead fs q i → HasLead gs q (record (numbered_as i.conditional i n) { conditional = true })
lead_goes_on OfSentence fs gs i n e h = (query_kept i.conditional i n ∙ h.0, linear_kept i.conditional i n ∙ h.1)
lead_goes_on OfQuery fs gs i n e h = query_kept i.conditional i n ∙ h
lead_goes_on (OfTerm ts m k) fs gs i n e h = absurd (true≢false e)

module _ (es : TextSyntax) (q : Lead) (c : Option FormulaSyntax) (fs : List Frame) (f : FormulaSyntax) (w : Work) (s : IsParse (InOperator es q c fs f)) (h : IsWorkOf (InOperator es q c fs f) w) where
  -- the frames of a level are joined
  joined_at : (k : ℕ) → 1 ≤ k → IsReduced w.pending.draft (reduced k w.pending) (joins k fs f).0 (joins k fs f).1
  joined_at k l = subst (λ os. IsReduced w.pending.draft (reduced_from k os w.pending.draft) (joins k fs f).0 (joins k fs f).1) (sym h.operators) (reduces k fs f w.pending.draft l h.«open»)

  kept_items : (k : ℕ) → 1 ≤ k → AreItems es.items (reduced k w.pending).draft.items
  kept_items k l = subst (λ is. AreItems es.items is) (sym (joined_at k l).items) h.items

  kept_formula : (k : ℕ) → 1 ≤ k → HasBegun q (reduced k w.pending).draft.formulas c w.item
  kept_formula k l = has_begun q c w.pending.draft.formulas (reduced k w.pending).draft.formulas w.item (joined_at k l).formulas h.item

  and_does : IsWorkOf (parsed (InOperator es q c fs f) (Sign Ampersand)) (taken (state_of (InOperator es q c fs f)) w (Sign Ampersand))
  and_does = let j = joined_at 4 (omega arith) in record { operators = ap (λ os. operator.And ∷ os) j.operators; «open» = j.«open»; items = kept_items 4 (omega arith); item = kept_formula 4 (omega arith) }

  or_does : IsWorkOf (parsed (InOperator es q c fs f) (Sign Bar)) (taken (state_of (InOperator es q c fs f)) w (Sign Bar))
  or_does = let j = joined_at 3 (omega arith) in record { operators = ap (λ os. operator.Or ∷ os) j.operators; «open» = j.«open»; items = kept_items 3 (omega arith); item = kept_formula 3 (omega arith) }

  implies_does : IsWorkOf (parsed (InOperator es q c fs f) (Sign Arrow)) (taken (state_of (InOperator es q c fs f)) w (Sign Arrow))
  implies_does = let j = joined_at 3 (omega arith) in record { operators = ap (λ os. operator.Implies ∷ os) j.operators; «open» = j.«open»; items = kept_items 3 (omega arith); item = kept_formula 3 (omega arith) }

  iff_does : IsWorkOf (parsed (InOperator es q c fs f) (Sign DoubleArrow)) (taken (state_of (InOperator es q c fs f)) w (Sign DoubleArrow))
  iff_does = let j = joined_at 1 (omega arith) in record { operators = ap (λ os. operator.Iff ∷ os) j.operators; «open» = j.«open»; items = kept_items 1 (omega arith); item = kept_formula 1 (omega arith) }

  closing_does : IsWorkOf (parsed (InOperator es q c fs f) (Sign Close)) (taken (state_of (InOperator es q c fs f)) w (Sign Close))
  closing_does =
      let j = joined_at 1 (omega arith) in
      subst (λ os. IsWorkOf (behind_close es q c (joins 1 fs f).0 (joins 1 fs f).1) (closed_behind w.item os (reduced 1 w.pending).draft)) (sym j.operators)
      (close_does es q c (joins 1 fs f).0 (joins 1 fs f).1 (reduced 1 w.pending).draft w.item s.1 (joins_need 1 fs f (omega arith)) j.«open» (kept_items 1 (omega arith)) (kept_formula 1 (omega arith)))

  given_does : (b : Bool) → (may_be_given (state_of (InOperator es q c fs f)) && b) ≡ true → IsWorkOf (InOperand es q (Some (joins 1 fs f).1) []) (with_conditional (formula_ended (with_pending w (reduced 1 w.pending))) true)
  given_does b e =
      let m = both (may_be_given (state_of (InOperator es q c fs f))) b e in
      let none = both (not (list_any is_group (opened_of fs))) (not (is_some c) && not (is_some (lead_linear q))) m.0 in
      let free = both (not (is_some c)) (not (is_some (lead_linear q))) none.1 in
      let all : (joins 1 fs f).0 ≡ [] = all_joined fs f s.3 s.2.frames (not_true (list_any is_group (opened_of fs)) none.0) in
      let j = joined_at 1 (omega arith) in
      let one : (reduced 1 w.pending).draft.«open» ≡ formula_of (joins 1 fs f).1 ∷ [] = j.«open» ∙ ap (λ gs. lefts_of gs ++ formula_of (joins 1 fs f).1 ∷ []) all in
      let k = kept_formula 1 (omega arith) in
      let u : w.item.conditional ≡ false = conditional_is c (reduced 1 w.pending).draft.formulas w.item k.1 ∙ not_true (is_some c) free.0 in
      let p = prob_ended None (joins 1 fs f).1 (reduced 1 w.pending).draft w.item one u in
      record { operators = refl; «open» = refl; items = kept_items 1 (omega arith); item = (lead_goes_on q (reduced 1 w.pending).draft.formulas (formula_ended (with_pending w (reduced 1 w.pending))).pending.draft.formulas w.item (length (reduced 1 w.pending).draft.formulas) (not_true (is_some (lead_linear q)) free.1) k.0, (p.formula, p.below.0, refl)) }

  at_operator : (t : Token) → refusal (state_of (InOperator es q c fs f)) t ≡ None → IsWorkOf (parsed (InOperator es q c fs f) t) (taken (state_of (InOperator es q c fs f)) w t)
  at_operator (Sign Close) r = closing_does
  at_operator (Sign Ampersand) r = and_does
  at_operator (Sign Bar) r = or_does
  at_operator (Sign Arrow) r = implies_does
  at_operator (Sign DoubleArrow) r = iff_does
  at_operator (Word u) r = given_does (is_the_word (codes "given") (Word u)) (passed (state_of (InOperator es q c fs f)) (Word u) r).expected
  at_operator (Number x) r = given_does false (passed (state_of (InOperator es q c fs f)) (Number x) r).expected
  at_operator (Sign Open) r = given_does false (passed (state_of (InOperator es q c fs f)) (Sign Open) r).expected
  at_operator (Sign OpenBracket) r = given_does false (passed (state_of (InOperator es q c fs f)) (Sign OpenBracket) r).expected
  at_operator (Sign CloseBracket) r = given_does false (passed (state_of (InOperator es q c fs f)) (Sign CloseBracket) r).expected
  at_operator (Sign Comma) r = given_does false (passed (state_of (InOperator es q c fs f)) (Sign Comma) r).expected
  at_operator (Sign Semicolon) r = given_does false (passed (state_of (InOperator es q c fs f)) (Sign Semicolon) r).expected
  at_operator (Sign Bang) r = given_does false (passed (state_of (InOperator es q c fs f)) (Sign Bang) r).expected
  at_operator (Sign Equals) r = given_does false (passed (state_of (InOperator es q c fs f)) (Sign Equals) r).expected
  at_operator (Sign GreaterEquals) r = given_does false (passed (state_of (InOperator es q c fs f)) (Sign GreaterEquals) r).expected
  at_operator (Sign LessEquals) r = given_does false (passed (state_of (InOperator es q c fs f)) (Sign LessEquals) r).expected
  at_operator (Sign Plus) r = given_does false (passed (state_of (InOperator es q c fs f)) (Sign Plus) r).expected
  at_operator (Sign Minus) r = given_does false (passed (state_of (InOperator es q c fs f)) (Sign Minus) r).expected

-- outside of a formula

-- the work is that of a derivation with these items and nothing open
abbrev Outside : TextSyntax → Work → Type 0
Outside es w = (w.pending.operators ≡ []) × (w.pending.draft.«open» ≡ []) × AreItems es.items w.pending.draft.items

item_does : (es : TextSyntax) (w : Work) (t : Token) → IsWorkOf (InItem es) w → refusal (state_of (InItem es)) t ≡ None → IsWorkOf (parsed (InItem es) t) (item_begun w t)
item_does es w (Word u) h r = by (is_the_word (codes "P") (Word u)) (is_the_word (codes "query") (Word u)) (is_the_word (codes "end") (Word u)) (passed (state_of (InItem es)) (Word u) r).expected
  where
    no_and : (x : Bool) → (x && false) ≡ true → ⊥
    no_and true e = true≢false (sym e)
    no_and false e = true≢false (sym e)

    by : (b c d : Bool) → (b || c || d || (has_linear es.version && false)) ≡ true → IsWorkOf (if b then InParen es OfSentence else (if c then InQueryProb es else (if d then InTextEnd es else InTerm es [] true))) (plain_begun w)
    by true c d e = record { operators = h.operators; «open» = h.«open»; items = h.items; item = (refl, refl) }
    by false true d e = record { operators = h.operators; «open» = h.«open»; items = h.items; item = tt }
    by false false true e = record { operators = h.operators; «open» = h.«open»; items = h.items; item = tt }
    by false false false e = absurd (no_and (has_linear es.version) e)
item_does es w (Number x) h r = record { operators = h.operators; «open» = h.«open»; items = h.items; item = (record { query = refl; linear = refl; terms = tt }, signed_is false x) }
item_does es w (Sign s) h r = record { operators = h.operators; «open» = h.«open»; items = h.items; item = (record { query = refl; linear = refl; terms = tt }, refl) }

term_does : (es : TextSyntax) (ts : List Term) (m : Bool) (w : Work) (t : Token) → IsWorkOf (InTerm es ts m) w → IsWorkOf (parsed (InTerm es ts m) t) (term_taken w t)
term_does es ts m w (Number x) h = record {
  operators = h.operators;
  «open» = h.«open»;
  items = h.items;
  item = (record { query = h.item.0.query; linear = h.item.0.linear; terms = h.item.0.terms }, subst (λ b. IsSignedValue m x (signed_of (signed b (lowest (ratio_of x))))) (sym h.item.1) (signed_is m x));
}
term_does es ts m w (Word u) h = record {
  operators = h.operators;
  «open» = h.«open»;
  items = h.items;
  item = (record { query = h.item.0.query; linear = h.item.0.linear; terms = h.item.0.terms }, subst (λ b. IsSignedValue m (coefficient_of None) (signed_of (signed b unit))) (sym h.item.1) (unit_is m));
}
term_does es ts m w (Sign s) h = record {
  operators = h.operators;
  «open» = h.«open»;
  items = h.items;
  item = (record { query = h.item.0.query; linear = h.item.0.linear; terms = h.item.0.terms }, subst (λ b. IsSignedValue m (coefficient_of None) (signed_of (signed b unit))) (sym h.item.1) (unit_is m));
}

-- the left side of another item so far with the same left side
left_kept : (fs : List (Formula Name)) (l : Left) (i j : ItemSoFar) → j.query ≡ i.query → j.linear ≡ i.linear → j.terms ≡ i.terms → j.formula ≡ i.formula → j.given ≡ i.given → j.coefficient ≡ i.coefficient → HasLeft fs l i → HasLeft fs l j
left_kept fs (OneProb p) i j q b ts f g k h = (
  q ∙ h.0,
  b ∙ h.1,
  record {
    formula = ap (formula_at fs) f ∙ h.2.formula;
    given = ap (option_map (formula_at fs)) g ∙ h.2.given;
    below = subst (λ n. AreBelow (length fs) n j.given) (sym f) (subst (λ o. AreBelow (length fs) i.formula o) (sym g) h.2.below);
  },
)
left_kept fs (Terms ts t) i j q b us f g k h = (
  record { query = q ∙ h.0.query; linear = b ∙ h.0.linear; terms = subst (AreDraftedTerms fs ts) (sym us) h.0.terms },
  subst (IsDraftedTerm fs t) (λ e. record { formula = sym f e; coefficient = sym k e }) h.1,
)

sided : (fs : List (Formula Name)) (l : Left) (i : ItemSoFar) (z : Side) → HasLeft fs l i → HasLeft fs l (record i { side = z; minus = false })
sided fs l i z h = left_kept fs l i (record i { side = z; minus = false }) refl refl refl refl refl refl h

minused : (fs : List (Formula Name)) (l : Left) (i : ItemSoFar) (m : Bool) → HasLeft fs l i → HasLeft fs l (record i { minus = m })
minused fs l i m h = left_kept fs l i (record i { minus = m }) refl refl refl refl refl refl h

leasted : (fs : List (Formula Name)) (l : Left) (i : ItemSoFar) (r : DraftSigned) → HasLeft fs l i → HasLeft fs l (record i { least = r; minus = false })
leasted fs l i r h = left_kept fs l i (record i { least = r; minus = false }) refl refl refl refl refl refl h

module _ (es : TextSyntax) (l : Left) (w : Work) (h : IsWorkOf (InRelation es l) w) where
  sign_does : (m : Bool) → IsWorkOf (InTerm es (terms_in l) m) (behind_terms w (terms_by w.item.linear w.item) m)
  sign_does m = record { operators = h.operators; «open» = h.«open»; items = h.items; item = (record { query = refl; linear = refl; terms = left_terms w.pending.draft.formulas l w.item h.item }, refl) }

  side_does : (s : Symbol) → IsWorkOf (InNumber es l s false) (with_side w (side_in (Sign s)))
  side_does s = record { operators = h.operators; «open» = h.«open»; items = h.items; item = (sided w.pending.draft.formulas l w.item (side_in (Sign s)) h.item, refl, refl) }

  bracket_does : IsWorkOf (InBracket es l) (with_side w side.AtLeast)
  bracket_does = record { operators = h.operators; «open» = h.«open»; items = h.items; item = (sided w.pending.draft.formulas l w.item side.AtLeast h.item, refl, refl) }

  relation_does : (t : Token) → IsWorkOf (parsed (InRelation es l) t) (relation_taken w t)
  relation_does (Word u) = bracket_does
  relation_does (Number x) = bracket_does
  relation_does (Sign Plus) = sign_does false
  relation_does (Sign Minus) = sign_does true
  relation_does (Sign Open) = side_does Open
  relation_does (Sign Close) = side_does Close
  relation_does (Sign OpenBracket) = side_does OpenBracket
  relation_does (Sign CloseBracket) = side_does CloseBracket
  relation_does (Sign Comma) = side_does Comma
  relation_does (Sign Semicolon) = side_does Semicolon
  relation_does (Sign Bang) = side_does Bang
  relation_does (Sign Ampersand) = side_does Ampersand
  relation_does (Sign Bar) = side_does Bar
  relation_does (Sign Arrow) = side_does Arrow
  relation_does (Sign DoubleArrow) = side_does DoubleArrow
  relation_does (Sign Equals) = side_does Equals
  relation_does (Sign GreaterEquals) = side_does GreaterEquals
  relation_does (Sign LessEquals) = side_does LessEquals

-- whether `given` stood changes nothing of what stands before a probability
lead_conditional : (q : Lead) (w : Work) → HasLead w.pending.draft.formulas q w.item → HasLead w.pending.draft.formulas q (record w.item { conditional = false })
lead_conditional OfSentence w h = h
lead_conditional OfQuery w h = h
lead_conditional (OfTerm ts m k) w h = (record { query = h.0.query; linear = h.0.linear; terms = h.0.terms }, h.1)

-- the draft behind a statement
stated_items : (es : TextSyntax) (l : Left) (w : Work) (r : SignedRelation) (q : DraftSigned) (upper : Option DraftSigned) → AreItems es.items w.pending.draft.items → HasLeft w.pending.draft.formulas l w.item → StatesLeft l r w.item.side q upper
    → AreItems (es.items ++ sentence_of l r ∷ []) (with_sentence w q upper).pending.draft.items
stated_items es l w r q upper i h s = items_push es.items w.pending.draft.items (sentence_of l r) (stated w.pending.draft.formulas w.item q upper) i
    (item_stated w.pending.draft.formulas l w.item r q upper h s)

number_does : (es : TextSyntax) (l : Left) (s : Symbol) (m : Bool) (w : Work) (t : Token) → IsRelationSign s → IsWorkOf (InNumber es l s m) w → IsWorkOf (parsed (InNumber es l s m) t) (number_taken w t)
number_does es l s m w (Number x) g h = record {
  operators = h.operators;
  «open» = h.«open»;
  items = subst (λ b. AreItems (es.items ++ sentence_of l (relation_of s (syntax.signed m x)) ∷ []) (with_sentence w (signed b (lowest (ratio_of x))) None).pending.draft.items) (sym h.item.2)
      (stated_items es l w (relation_of s (syntax.signed m x)) (signed m (lowest (ratio_of x))) None h.items h.item.0 (number_states l s m x w.item.side g h.item.1));
  item = tt;
}
number_does es l s m w (Word u) g h = record { operators = h.operators; «open» = h.«open»; items = h.items; item = (minused w.pending.draft.formulas l w.item true h.item.0, h.item.1, refl) }
number_does es l s m w (Sign u) g h = record { operators = h.operators; «open» = h.«open»; items = h.items; item = (minused w.pending.draft.formulas l w.item true h.item.0, h.item.1, refl) }

first_does : (es : TextSyntax) (l : Left) (m : Bool) (w : Work) (t : Token) → IsWorkOf (InFirst es l m) w → IsWorkOf (parsed (InFirst es l m) t) (least_taken w t)
first_does es l m w (Number x) h = record {
  operators = h.operators;
  «open» = h.«open»;
  items = h.items;
  item = (
    leasted w.pending.draft.formulas l w.item (signed w.item.minus (lowest (ratio_of x))) h.item.0,
    h.item.1,
    subst (λ b. IsSignedValue m x (signed_of (signed b (lowest (ratio_of x))))) (sym h.item.2) (signed_is m x),
    refl,
  );
}
first_does es l m w (Word u) h = record { operators = h.operators; «open» = h.«open»; items = h.items; item = (minused w.pending.draft.formulas l w.item true h.item.0, h.item.1, refl) }
first_does es l m w (Sign u) h = record { operators = h.operators; «open» = h.«open»; items = h.items; item = (minused w.pending.draft.formulas l w.item true h.item.0, h.item.1, refl) }

second_does : (es : TextSyntax) (l : Left) (x : Signed) (m : Bool) (w : Work) (t : Token) → IsWorkOf (InSecond es l x m) w → IsWorkOf (parsed (InSecond es l x m) t) (most_taken w t)
second_does es l x m w (Number y) h = record {
  operators = h.operators;
  «open» = h.«open»;
  items = subst (λ b. AreItems (es.items ++ sentence_of l (Within x (syntax.signed m y)) ∷ []) (with_sentence w w.item.least (Some (signed b (lowest (ratio_of y))))).pending.draft.items) (sym h.item.3)
      (stated_items es l w (Within x (syntax.signed m y)) w.item.least (Some (signed m (lowest (ratio_of y)))) h.items h.item.0 (interval_states l x m y w.item.side w.item.least h.item.1 h.item.2));
  item = tt;
}
second_does es l x m w (Word u) h = record { operators = h.operators; «open» = h.«open»; items = h.items; item = (minused w.pending.draft.formulas l w.item true h.item.0, h.item.1, h.item.2, refl) }
second_does es l x m w (Sign u) h = record { operators = h.operators; «open» = h.«open»; items = h.items; item = (minused w.pending.draft.formulas l w.item true h.item.0, h.item.1, h.item.2, refl) }

does : (p : Parse) (t : Token) (w : Work) → IsParse p → IsWorkOf p w → refusal (state_of p) t ≡ None → IsWorkOf (parsed p t) (taken (state_of p) w t)
does InPsat t w s h r = record { operators = h.operators; «open» = h.«open»; items = h.items; item = tt }
does InVersion t w s h r = record { operators = h.operators; «open» = h.«open»; items = h.items; item = tt }
does (InHeadEnd v) t w s h r = record { operators = h.operators; «open» = h.«open»; items = h.items; item = tt }
does (InItem es) t w s h r = item_does es w t h r
does (InQueryProb es) t w s h r = record { operators = h.operators; «open» = h.«open»; items = h.items; item = refl }
does (InTextEnd es) t w s h r = record { operators = h.operators; «open» = h.«open»; items = h.items; item = tt }
does (InDone es) t w s h r = h
does (InTerm es ts m) t w s h r = term_does es ts m w t h
does (InTermProb es ts m x) t w s h r = record { operators = h.operators; «open» = h.«open»; items = h.items; item = h.item }
does (InParen es q) t w s h r = record { operators = h.operators; «open» = h.«open»; items = h.items; item = (lead_conditional q w h.item, refl) }
does (InOperand es q c fs) t w s h r = at_operand es q c fs t w h
does (InOperator es q c fs f) t w s h r = at_operator es q c fs f w s h t r
does (InRelation es l) t w s h r = relation_does es l w h t
does (InBracket es l) t w s h r = record { operators = h.operators; «open» = h.«open»; items = h.items; item = h.item }
does (InFirst es l m) t w s h r = first_does es l m w t h
does (InNumber es l x m) t w s h r = number_does es l x m w t s.3 h
does (InComma es l x) t w s h r = record { operators = h.operators; «open» = h.«open»; items = h.items; item = h.item }
does (InSecond es l x m) t w s h r = second_does es l x m w t h
does (InBracketEnd es l x y) t w s h r = record { operators = h.operators; «open» = h.«open»; items = h.items; item = tt }
does (InItemEnd es e) t w s h r = record { operators = h.operators; «open» = h.«open»; items = h.items; item = tt }

-- behind a token that isn't refused the machine stands for the derivation with that token
pub followed : (p : Parse) (m : Machine) (t : Token) → RepresentsAfter p m t
followed p m t f r =
    let k : refusal (state_of p) t ≡ None = subst (λ s. refusal s t ≡ None) f.state r in
    let step = steps p t f.sound k in
    record {
      sound = step.within;
      state = ap (λ s. after s t) f.state ∙ sym step.state;
      work = subst (λ s. IsWorkOf (parsed p t) (taken s m.work t)) (sym f.state) (does p t m.work f.sound f.work k);
    }
