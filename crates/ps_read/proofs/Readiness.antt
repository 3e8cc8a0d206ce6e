-- Where the machine stands for a derivation, the draft takes each token that isn't refused.
use Rattle.std.proofs.Common.{◌≡◌, ℕ, suc, ◌+◌, ◌<◌, ◌≤◌, Bool, true, false, ◌&&◌, ◌||◌, not, List, [], ◌∷◌, ◌++◌, length, Option, Some, None, refl, sym, ap, subst, ◌∙◌, arith, true≢false, is_some}
use Rattle.std.proofs.lemmas.Bool.Decides.{nat_tests}
use Rattle.std.proofs.lemmas.List.{length-append}
use Rattle.std.proofs.lemmas.List.Elements.{All-cons, All-nil, All-push}
use Rattle.std.specs.Prelude.{All, option_map, bytes_eq, codes, nat_lt, IsTrue}
use Rattle.std.specs.List.{list_any}
use Rattle.ps_meaning.specs.Formula.{Formula}
use Rattle.ps_meaning.specs.Statements.{Name}
use Rattle.ps_meaning.specs.Names.{is_word, is_reserved}
use Rattle.ps_text.specs.Tokens as text
use Rattle.ps_text.specs.Tokens.{Word, Number, Sign, Numeral, is_the_word}
use Rattle.ps_text.specs.declared.symbol.Symbol.{Symbol}
use Rattle.ps_text.specs.declared.symbol.Symbol.TheVariants.{Open, Close, OpenBracket, CloseBracket, Comma, Semicolon, Bang, Ampersand, Bar, Arrow, DoubleArrow, Equals, GreaterEquals, LessEquals, Plus, Minus}
use Rattle.ps_text.specs.declared.part.Part.TheVariants as part
use Rattle.ps_text.specs.Grammar.{FormulaSyntax, IsWellFormed, Nests, Prob, Signed, Term, TextSyntax, IsProbability, IsWeight, IsCoefficient, AreTerms, IsWellFormedItem}
use Rattle.ps_text.specs.Meanings.{formula_of, ratio_of, IsSignedValue, coefficient_of}
use Rattle.ps_text.specs.declared.limits.TheConstants.{GREATEST_NUMBER}
use Rattle.ps_meaning.specs.Statements.{size_of}
use Rattle.ps_meaning.specs.declared.side.Side.TheVariants as side
use Rattle.ps_text.specs.ExpectedTokens.{refusal, may_be_given, is_group}
use Rattle.ps_text.proofs.Spans.{not_true, both}
use Rattle.ps_text.specs.BegunFormulas.{Frame, BegunNot, BegunGroup, BegunAnd, BegunOr, BegunImplies, BegunIff, IsNextOperand, opened_of, joins}
use Rattle.ps_text.proofs.Frames.{joins_fits, all_joined}
use Rattle.ps_text.specs.PartialParses.{Parse, InPsat, InVersion, InHeadEnd, InItem, InQueryProb, InTextEnd, InDone, InTerm, InTermProb, InParen, InOperand, InOperator, InRelation, InBracket, InFirst, InNumber, InComma, InSecond, InBracketEnd, InItemEnd, state_of, IsParse, number_in}
use Rattle.ps_text.specs.PartialParses as syntax
use Rattle.ps_text.specs.PartialParses.{Lead, Left, OneProb, Terms, lead_linear, relation_of, IsRelationSign, sentence_of, IsLeft, IsMinusBehind, IsValueBehind}
use Rattle.ps_text.proofs.Steps.{passed}
use Rattle.ps_text.proofs.Derived.{steps}
use Rattle.ps_lex.specs.declared.token.Token.{Token}
use Rattle.ps_lex.specs.declared.token.Token.TheVariants as token
use Rattle.ps_lex.specs.KeptTokens.{token_of}
use Rattle.ps_text.specs.Canonical.{canonical_nesting, IsReduced, IsReducedWeight, IsUpper, IsSumUpper}
use Rattle.ps_text.specs.declared.limits.TheConstants.{LONGEST_WORD}
use Rattle.ps_problem.specs.declared.limits.TheConstants.{MOST_NESTING}
use Rattle.ps_problem.specs.declared.term.Signed.{Signed as DraftSigned}
use Rattle.ps_problem.specs.declared.term.Term.{Term as DraftTerm}
use Rattle.ps_problem.specs.Drafts.{Drafted, signed_of, IsDraftTerm}
use Rattle.ps_read.specs.Pending.{Pending, reduced, reduced_from, firsts, HaveFirst, HaveAll, IsEndable}
use Rattle.ps_read.specs.Machine.{ItemSoFar, Work, Machine, lowest, signed, size, last_term}
use Rattle.ps_read.specs.Derivations.{operators_of, lefts_of, HasFormula, IsDraftedTerm, AreDraftedTerms, HasLeft, HasLeast, IsWorkOf, IsParsed}
use Rattle.ps_read.specs.Taking.{IsKept}
use Rattle.ps_read.specs.Ready.{IsOperand, IsWhole, MayClose, MayEnd, MayBeStatedBy, MayBeStated, MayBeTaken}
use Rattle.ps_read.proofs.CanonicalNesting.{canonical_nests}
use Rattle.ps_read.proofs.Next.{signed_is}
use Rattle.ps_read.proofs.Reducing.{IsReduced as IsReducedTo, reduces}
use Rattle.ps_text.proofs.Lawful.{reduced as reduced_to}

-- operands

length_after : (os : List (Formula Name)) (f : Formula Name) (n : ℕ) → length os ≡ n → length (os ++ f ∷ []) ≡ suc n
length_after os f n e = let l : length (os ++ f ∷ []) ≡ length os + 1 = length-append os (f ∷ []) in omega (arith, l, e)

length_lefts : (fs : List Frame) → length (lefts_of fs) ≡ firsts (operators_of fs)
length_lefts [] = refl
length_lefts (BegunNot ∷ fs) = length_lefts fs
length_lefts (BegunGroup ∷ fs) = length_lefts fs
length_lefts (BegunAnd f ∷ fs) = length_after (lefts_of fs) (formula_of f) (firsts (operators_of fs)) (length_lefts fs)
length_lefts (BegunOr f ∷ fs) = length_after (lefts_of fs) (formula_of f) (firsts (operators_of fs)) (length_lefts fs)
length_lefts (BegunImplies f ∷ fs) = length_after (lefts_of fs) (formula_of f) (firsts (operators_of fs)) (length_lefts fs)
length_lefts (BegunIff f ∷ fs) = length_after (lefts_of fs) (formula_of f) (firsts (operators_of fs)) (length_lefts fs)

have_first : (fs : List Frame) (p : Pending) → p.operators ≡ operators_of fs → p.draft.«open» ≡ lefts_of fs → HaveFirst p
have_first fs p o e = ap length e ∙ length_lefts fs ∙ ap firsts (sym o)

have_all : (fs : List Frame) (f : FormulaSyntax) (p : Pending) → p.operators ≡ operators_of fs → p.draft.«open» ≡ lefts_of fs ++ formula_of f ∷ [] → HaveAll p
have_all fs f p o e = ap length e ∙ length_after (lefts_of fs) (formula_of f) (firsts (operators_of fs)) (length_lefts fs) ∙ ap (λ os. suc (firsts os)) (sym o)

-- names

is_free : (r a b : Bool) → a ≡ false → b ≡ false → ((((not r || a) || b) || false) || false) ≡ true → r ≡ false
is_free false a b e f h = refl
is_free true false false e f h = absurd (true≢false (sym h))
is_free true true b e f h = absurd (true≢false e)
is_free true false true e f h = absurd (true≢false f)

-- a word that is kept
abbrev IsWordKept : text.Token → Type 0
IsWordKept (Word w) = IsTrue (is_word w)
IsWordKept t = Unit {0}

word_kept : (t : Token) → IsKept t → IsWordKept (token_of t)
word_kept (token.Word w) k = k
word_kept (token.Number n) k = tt
word_kept (token.Sign s) k = tt

few_letters : (w : List ℕ) → nat_lt LONGEST_WORD (length w) ≡ false → length w ≤ LONGEST_WORD
few_letters w e = grind (arith, nat_tests)

is_operand : (es : TextSyntax) (q : Lead) (c : Option FormulaSyntax) (fs : List Frame) (t : text.Token) → IsWordKept t → refusal (state_of (InOperand es q c fs)) t ≡ None → IsOperand t
is_operand es q c fs (Word w) k r =
    let p = passed (state_of (InOperand es q c fs)) (Word w) r in
    λ a b. record { word = k; short = few_letters w p.short; free = is_free (is_reserved w) (bytes_eq w (codes "true")) (bytes_eq w (codes "false")) a b p.expected }
is_operand es q c fs (Number n) k r = tt
is_operand es q c fs (Sign s) k r = tt

-- the end of a formula

all_of_one : (f : Formula Name) → canonical_nesting f ≤ MOST_NESTING → All (λ g. canonical_nesting g ≤ MOST_NESTING) (f ∷ [])
all_of_one f h = All-cons (λ g. canonical_nesting g ≤ MOST_NESTING) f [] h (All-nil (λ g. canonical_nesting g ≤ MOST_NESTING))

endable : (d : Drafted) (f : FormulaSyntax) → d.«open» ≡ formula_of f ∷ [] → IsWellFormed f → Nests 0 f → IsEndable d
endable d f e i n = record { one = ap length e; nesting = subst (λ os. All (λ g. canonical_nesting g ≤ MOST_NESTING) os) (sym e) (all_of_one (formula_of f) (canonical_nests f i n)) }

no_frames : (fs : List Frame) → operators_of fs ≡ [] → fs ≡ []
no_frames [] e = refl
no_frames (x ∷ fs) e = cc

below : (c : Option FormulaSyntax) (fs : List (Formula Name)) (i : ItemSoFar) → HasFormula fs c i → i.conditional ≡ true → i.formula < length fs
below None fs i h e = absurd (true≢false (sym e ∙ h))
below (Some f) fs i h e = h.1

module _ (es : TextSyntax) (q : Lead) (c : Option FormulaSyntax) (fs : List Frame) (f : FormulaSyntax) (w : Work) (s : IsParse (InOperator es q c fs f)) (h : IsWorkOf (InOperator es q c fs f) w) where
  reduced_is : IsReducedTo w.pending.draft (reduced 1 w.pending) (joins 1 fs f).0 (joins 1 fs f).1
  reduced_is = subst (λ os. IsReducedTo w.pending.draft (reduced_from 1 os w.pending.draft) (joins 1 fs f).0 (joins 1 fs f).1) (sym h.operators) (reduces 1 fs f w.pending.draft (omega arith) h.«open»)

  ends : (joins 1 fs f).0 ≡ [] → IsEndable (reduced 1 w.pending).draft
  ends e =
      let i : IsNextOperand (joins 1 fs f).0 (joins 1 fs f).1 = joins_fits 1 fs f (omega arith) s.2 in
      endable (reduced 1 w.pending).draft (joins 1 fs f).1 (reduced_is.«open» ∙ ap (λ gs. lefts_of gs ++ formula_of (joins 1 fs f).1 ∷ []) e) i.formula
      (subst (λ gs. Nests (length (opened_of gs)) (joins 1 fs f).1) e i.nests)

  may_close : MayClose w
  may_close = record {
    formula = λ e. ends (no_frames (joins 1 fs f).0 (sym reduced_is.operators ∙ e));
    given = λ e. subst (λ gs. w.item.formula < length gs) (sym reduced_is.formulas) (below c w.pending.draft.formulas w.item h.item.1 e);
  }

  is_whole : (b : Bool) → (may_be_given (state_of (InOperator es q c fs f)) && b) ≡ true → IsWhole w
  is_whole b e =
      let m = both (may_be_given (state_of (InOperator es q c fs f))) b e in
      let none = both (not (list_any is_group (opened_of fs))) (not (is_some c) && not (is_some (lead_linear q))) m.0 in
      let all : (joins 1 fs f).0 ≡ [] = all_joined fs f s.3 s.2.frames (not_true (list_any is_group (opened_of fs)) none.0) in
      record { operators = reduced_is.operators ∙ ap operators_of all; formula = ends all }

  may_end : (t : text.Token) → refusal (state_of (InOperator es q c fs f)) t ≡ None → MayEnd w t
  may_end (Sign Close) r = may_close
  may_end (Sign Ampersand) r = tt
  may_end (Sign Bar) r = tt
  may_end (Sign Arrow) r = tt
  may_end (Sign DoubleArrow) r = tt
  may_end (Word u) r = is_whole (is_the_word (codes "given") (Word u)) (passed (state_of (InOperator es q c fs f)) (Word u) r).expected
  may_end (Number x) r = is_whole false (passed (state_of (InOperator es q c fs f)) (Number x) r).expected
  may_end (Sign Open) r = is_whole false (passed (state_of (InOperator es q c fs f)) (Sign Open) r).expected
  may_end (Sign OpenBracket) r = is_whole false (passed (state_of (InOperator es q c fs f)) (Sign OpenBracket) r).expected
  may_end (Sign CloseBracket) r = is_whole false (passed (state_of (InOperator es q c fs f)) (Sign CloseBracket) r).expected
  may_end (Sign Comma) r = is_whole false (passed (state_of (InOperator es q c fs f)) (Sign Comma) r).expected
  may_end (Sign Semicolon) r = is_whole false (passed (state_of (InOperator es q c fs f)) (Sign Semicolon) r).expected
  may_end (Sign Bang) r = is_whole false (passed (state_of (InOperator es q c fs f)) (Sign Bang) r).expected
  may_end (Sign Equals) r = is_whole false (passed (state_of (InOperator es q c fs f)) (Sign Equals) r).expected
  may_end (Sign GreaterEquals) r = is_whole false (passed (state_of (InOperator es q c fs f)) (Sign GreaterEquals) r).expected
  may_end (Sign LessEquals) r = is_whole false (passed (state_of (InOperator es q c fs f)) (Sign LessEquals) r).expected
  may_end (Sign Plus) r = is_whole false (passed (state_of (InOperator es q c fs f)) (Sign Plus) r).expected
  may_end (Sign Minus) r = is_whole false (passed (state_of (InOperator es q c fs f)) (Sign Minus) r).expected

-- numbers

-- what is at most 1 is within the limit of a linear sentence
weight_of : (x : Numeral) → IsProbability x → IsWeight x
weight_of (text.Whole ds) h = omega (arith, h)
weight_of (text.Quotient ds es) h = (h.0, h.1, (let a = h.2 in omega (arith, a)))
weight_of (text.Decimal ds es) h = (h.0, (let a = h.1 in omega (arith, a)))

-- no digits are no more than may be
no_number : IsWeight (text.Whole [])
no_number = omega arith

-- a number that bounds a left side is within the limit of a linear sentence
bound_weight : (l : Left) (x : Signed) → IsValueBehind l x → IsWeight x.size
bound_weight (OneProb p) x h = weight_of x.size h.1
bound_weight (Terms ts t) x h = h

-- the first token of an item, or of a term, is within the limit
item_weighed : (es : TextSyntax) (t : text.Token) → IsParse (InItem es) → refusal (state_of (InItem es)) t ≡ None → IsWeight (number_in t)
item_weighed es (Word u) s r = no_number
item_weighed es (Sign u) s r = no_number
item_weighed es (Number x) s r = (steps (InItem es) (Number x) s r).within.1.2

term_weighed : (es : TextSyntax) (ts : List Term) (m : Bool) (t : text.Token) → IsParse (InTerm es ts m) → refusal (state_of (InTerm es ts m)) t ≡ None → IsWeight (number_in t)
term_weighed es ts m (Word u) s r = no_number
term_weighed es ts m (Sign u) s r = no_number
term_weighed es ts m (Number x) s r = (steps (InTerm es ts m) (Number x) s r).within.1.2

first_weighed : (es : TextSyntax) (l : Left) (m : Bool) (t : text.Token) → IsParse (InFirst es l m) → refusal (state_of (InFirst es l m)) t ≡ None → IsWeight (number_in t)
first_weighed es l m (Word u) s r = no_number
first_weighed es l m (Sign u) s r = no_number
first_weighed es l m (Number x) s r = bound_weight l (syntax.signed m x) (steps (InFirst es l m) (Number x) s r).within.2

-- sentences

value_lawful : (m : Bool) (x : Numeral) (r : DraftSigned) → IsProbability x → IsSignedValue m x (signed_of r) → IsReduced (size r)
value_lawful m x r h v = reduced_to 1 x (size r) h v.size

weight_lawful : (m : Bool) (x : Numeral) (r : DraftSigned) → IsWeight x → IsSignedValue m x (signed_of r) → IsReducedWeight (signed_of r)
weight_lawful m x r h v = reduced_to GREATEST_NUMBER x (size_of (signed_of r)) h v.size

one_weight : IsWeight (text.Whole (codes "1"))
one_weight = omega arith

coefficient_weight : (k : Option Numeral) → IsCoefficient k → IsWeight (coefficient_of k)
coefficient_weight None h = one_weight
coefficient_weight (Some x) h = h

drafted_term : (fs : List (Formula Name)) (t : Term) (d : DraftTerm) → IsCoefficient t.coefficient → IsDraftedTerm fs t d → IsDraftTerm (length fs) d
drafted_term fs t d h k = record { formula = k.below; coefficient = weight_lawful t.minus (coefficient_of t.coefficient) d.coefficient (coefficient_weight t.coefficient h) k.coefficient }

drafted_terms : (fs : List (Formula Name)) (ts : List Term) (ds : List DraftTerm) → AreTerms ts → AreDraftedTerms fs ts ds → All (IsDraftTerm (length fs)) ds
drafted_terms fs [] [] h k = All-nil (IsDraftTerm (length fs))
drafted_terms fs [] (d ∷ ds) h k = absurd k
drafted_terms fs (t ∷ ts) [] h k = absurd k
drafted_terms fs (t ∷ ts) (d ∷ ds) h k = All-cons (IsDraftTerm (length fs)) d ds (drafted_term fs t d h.0.coefficient k.0) (drafted_terms fs ts ds h.1 k.1)

drafted_length : (fs : List (Formula Name)) (ts : List Term) (ds : List DraftTerm) → AreDraftedTerms fs ts ds → length ds ≡ length ts
drafted_length fs [] [] k = refl
drafted_length fs [] (d ∷ ds) k = absurd k
drafted_length fs (t ∷ ts) [] k = absurd k
drafted_length fs (t ∷ ts) (d ∷ ds) k = let e = drafted_length fs ts ds k.1 in omega (arith, e)

-- a left side may be stated with such values
stated_plain : (es : TextSyntax) (p : Prob) (w : Work) (r : DraftSigned) (upper : Option DraftSigned) → HasLeft w.pending.draft.formulas (OneProb p) w.item → IsReduced (size r) → IsUpper w.item.side (option_map size upper) → MayBeStated w r upper
stated_plain es p w r upper h v u = subst (λ b. MayBeStatedBy b w r upper) (sym h.1) (h.2.below, v, u)

stated_sum : (es : TextSyntax) (ts : List Term) (t : Term) (w : Work) (r : DraftSigned) (upper : Option DraftSigned) → IsLeft es (Terms ts t) → HasLeft w.pending.draft.formulas (Terms ts t) w.item → IsReducedWeight (signed_of r) → IsSumUpper w.item.side (option_map signed_of upper) → MayBeStated w r upper
stated_sum es ts t w r upper s h v u = subst (λ b. MayBeStatedBy b w r upper) (sym h.0.linear) (record {
  some = (let l : length (w.item.terms ++ last_term w.item ∷ []) ≡ length w.item.terms + 1 = length-append w.item.terms (last_term w.item ∷ []) in omega (arith, l));
  few = (let l : length (w.item.terms ++ last_term w.item ∷ []) ≡ length w.item.terms + 1 = length-append w.item.terms (last_term w.item ∷ []) in
      let n = drafted_length w.pending.draft.formulas ts w.item.terms h.0.terms in let f = s.0.few in omega (arith, l, n, f));
  terms = All-push (IsDraftTerm (length w.pending.draft.formulas)) w.item.terms (last_term w.item)
      (drafted_terms w.pending.draft.formulas ts w.item.terms s.0.terms h.0.terms) (drafted_term w.pending.draft.formulas t (last_term w.item) s.2.coefficient h.1);
  value = v;
  upper = u;
})

number_stated : (es : TextSyntax) (l : Left) (m : Bool) (x : Numeral) (w : Work) → IsLeft es l → IsValueBehind l (syntax.signed m x) → HasLeft w.pending.draft.formulas l w.item → MayBeStated w (signed m (lowest (ratio_of x))) None
number_stated es (OneProb p) m x w s v h = stated_plain es p w (signed m (lowest (ratio_of x))) None h (value_lawful m x (signed m (lowest (ratio_of x))) v.1 (signed_is m x)) tt
number_stated es (Terms ts t) m x w s v h = stated_sum es ts t w (signed m (lowest (ratio_of x))) None s h (weight_lawful m x (signed m (lowest (ratio_of x))) v (signed_is m x)) tt

interval_stated : (es : TextSyntax) (l : Left) (x : Signed) (m : Bool) (y : Numeral) (w : Work) → IsLeft es l → IsValueBehind l x → IsValueBehind l (syntax.signed m y) → HasLeft w.pending.draft.formulas l w.item → w.item.side ≡ side.AtLeast → HasLeast x w.item
    → MayBeStated w w.item.least (Some (signed m (lowest (ratio_of y))))
interval_stated es (OneProb p) x m y w s v u h z k = stated_plain es p w w.item.least (Some (signed m (lowest (ratio_of y)))) h (value_lawful x.minus x.size w.item.least v.1 k)
    (subst (λ on. IsUpper on (Some (size (signed m (lowest (ratio_of y)))))) (sym z) (value_lawful m y (signed m (lowest (ratio_of y))) u.1 (signed_is m y)))
interval_stated es (Terms ts t) x m y w s v u h z k = stated_sum es ts t w w.item.least (Some (signed m (lowest (ratio_of y)))) s h (weight_lawful x.minus x.size w.item.least v k)
    (subst (λ on. IsSumUpper on (Some (signed_of (signed m (lowest (ratio_of y)))))) (sym z) (weight_lawful m y (signed m (lowest (ratio_of y))) u (signed_is m y)))

-- the value of a relation's number, behind it
item_value : (es : TextSyntax) (l : Left) (s : Symbol) (m : Bool) (x : Numeral) → IsRelationSign s → IsWellFormedItem es.version (sentence_of l (relation_of s (syntax.signed m x))) → IsMinusBehind l m → IsValueBehind l (syntax.signed m x)
item_value es (OneProb p) Equals m x g h k = (k, h.1)
item_value es (OneProb p) GreaterEquals m x g h k = (k, h.1)
item_value es (OneProb p) LessEquals m x g h k = (k, h.1)
item_value es (Terms ts t) Equals m x g h k = h.relation
item_value es (Terms ts t) GreaterEquals m x g h k = h.relation
item_value es (Terms ts t) LessEquals m x g h k = h.relation
item_value es l Open m x g h k = absurd g
item_value es l Close m x g h k = absurd g
item_value es l OpenBracket m x g h k = absurd g
item_value es l CloseBracket m x g h k = absurd g
item_value es l Comma m x g h k = absurd g
item_value es l Semicolon m x g h k = absurd g
item_value es l Bang m x g h k = absurd g
item_value es l Ampersand m x g h k = absurd g
item_value es l Bar m x g h k = absurd g
item_value es l Arrow m x g h k = absurd g
item_value es l DoubleArrow m x g h k = absurd g
item_value es l Plus m x g h k = absurd g
item_value es l Minus m x g h k = absurd g

number_may : (es : TextSyntax) (l : Left) (s : Symbol) (m : Bool) (t : text.Token) (w : Work) → IsParse (InNumber es l s m) → IsWorkOf (InNumber es l s m) w → refusal (state_of (InNumber es l s m)) t ≡ None → MayBeTaken part.Number w t
number_may es l s m (Word u) w p h r = tt
number_may es l s m (Sign u) w p h r = tt
number_may es l s m (Number x) w p h r =
    let v = item_value es l s m x p.3 (steps (InNumber es l s m) (Number x) p r).within.1 p.2 in (
      bound_weight l (syntax.signed m x) v,
      subst (λ b. MayBeStated w (signed b (lowest (ratio_of x))) None) (sym h.item.2) (number_stated es l m x w p.1 v h.item.0),
    )

second_may : (es : TextSyntax) (l : Left) (x : Signed) (m : Bool) (t : text.Token) (w : Work) → IsParse (InSecond es l x m) → IsWorkOf (InSecond es l x m) w → refusal (state_of (InSecond es l x m)) t ≡ None → MayBeTaken part.Second w t
second_may es l x m (Word u) w p h r = tt
second_may es l x m (Sign u) w p h r = tt
second_may es l x m (Number y) w p h r =
    let v = (steps (InSecond es l x m) (Number y) p r).within.3 in (
      bound_weight l (syntax.signed m y) v,
      subst (λ b. MayBeStated w w.item.least (Some (signed b (lowest (ratio_of y))))) (sym h.item.3) (interval_stated es l x m y w p.1 p.3 v h.item.0 h.item.1 h.item.2),
    )

may_be_taken : (p : Parse) (t : text.Token) (w : Work) → IsWordKept t → IsParse p → IsWorkOf p w → refusal (state_of p) t ≡ None → MayBeTaken (state_of p).part w t
may_be_taken InPsat t w k s h r = tt
may_be_taken InVersion t w k s h r = tt
may_be_taken (InHeadEnd v) t w k s h r = tt
may_be_taken (InItem es) t w k s h r = item_weighed es t s r
may_be_taken (InQueryProb es) t w k s h r = tt
may_be_taken (InTextEnd es) t w k s h r = tt
may_be_taken (InDone es) t w k s h r = tt
may_be_taken (InTerm es ts m) t w k s h r = term_weighed es ts m t s r
may_be_taken (InTermProb es ts m x) t w k s h r = tt
may_be_taken (InParen es q) t w k s h r = tt
may_be_taken (InOperand es q c fs) t w k s h r = (have_first fs w.pending h.operators h.«open», is_operand es q c fs t k r)
may_be_taken (InOperator es q c fs f) t w k s h r = (have_all fs f w.pending h.operators h.«open», may_end es q c fs f w s h t r)
may_be_taken (InRelation es l) t w k s h r = tt
may_be_taken (InBracket es l) t w k s h r = tt
may_be_taken (InFirst es l m) t w k s h r = first_weighed es l m t s r
may_be_taken (InNumber es l x m) t w k s h r = number_may es l x m t w s h r
may_be_taken (InComma es l x) t w k s h r = tt
may_be_taken (InSecond es l x m) t w k s h r = second_may es l x m t w s h r
may_be_taken (InBracketEnd es l x y) t w k s h r = tt
may_be_taken (InItemEnd es e) t w k s h r = tt

pub may_be_taken_at : (m : Machine) (t : Token) → IsParsed m → IsKept t → refusal m.state (token_of t) ≡ None → MayBeTaken m.state.part m.work (token_of t)
may_be_taken_at m t i k r =
    let same = i.stands.state in
    subst (λ s. MayBeTaken s.part m.work (token_of t)) (sym same) (may_be_taken i.parse (token_of t) m.work (word_kept t k) i.stands.sound i.stands.work (subst (λ s. refusal s (token_of t) ≡ None) same r))
