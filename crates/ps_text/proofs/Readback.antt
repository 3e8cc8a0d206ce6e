-- The derivation that tokens make is the one that they were spelled from.
use Rattle.std.proofs.Common.{◌≡◌, ℕ, ◌<◌, ◌≤◌, Bool, true, false, ◌||◌, List, [], ◌∷◌, ◌++◌, Option, Some, None, is_some, refl, sym, ap, subst, ◌∙◌, arith, append_assoc, append-nil, true≢false}
use Rattle.std.specs.Prelude.{nat_le, bytes_eq, codes, IsTrue}
use Rattle.ps_text.specs.declared.version.Version.{Version}
use Rattle.ps_text.specs.declared.version.Version.TheVariants.{One, Two}
use Rattle.ps_text.specs.Tokens.{Token, Word, Number, Sign, Numeral, Whole, Symbol, Open, Close, CloseBracket, Comma, Semicolon, Ampersand, Bar, Arrow, DoubleArrow, Equals, GreaterEquals, LessEquals}
use Rattle.ps_text.specs.Grammar.{is_reserved, FormulaSyntax, Name, Truth, Falsity, Not, Group, And, Or, Implies, Iff, spelled, level, IsWellFormed, Prob, Relation, Exactly, AtLeast, AtMost, Within, SignedRelation, Signed, Term, ItemSyntax, Sentence, Linear, Query, TextSyntax, alone, given_tokens, prob_tokens, relation_tokens, minus_tokens, signed_tokens, coefficient_tokens, term_tokens, term_sign, further_tokens, terms_tokens, signed_relation_tokens, item_tokens, items_tokens, version_digits, text_tokens, IsGiven, AreTerms, IsLinear, IsLinearItem, IsWellFormedItem, AreWellFormedItems, IsWellFormedText}
use Rattle.ps_text.specs.BegunFormulas.{Frame, BegunNot, BegunGroup, BegunAnd, BegunOr, BegunImplies, BegunIff, required_level, own_level, joined, joins}
use Rattle.ps_text.specs.PartialParses.{Lead, OfSentence, OfQuery, OfTerm, Left, OneProb, Terms, Parse, InPsat, InItem, InDone, InTerm, InParen, InOperand, InOperator, InRelation, InFirst, InNumber, InComma, InSecond, InBracketEnd, InItemEnd, behind_operand, operand_of, relation_of, sentence_of, signed, terms_in, behind_prob, behind_close, parsed}
use Rattle.ps_text.proofs.Levels.{test_le, test_true, test_false}
use Rattle.ps_text.proofs.Nesting.{least_level}
use Rattle.ps_text.proofs.Frames.{joined_if}
use Rattle.ps_text.proofs.Derived.{parsed_all}

pub parsed-append : (p : Parse) (ts us : List Token) → parsed_all p (ts ++ us) ≡ parsed_all (parsed_all p ts) us
parsed-append p [] us = refl
parsed-append p (t ∷ ts) us = parsed-append (parsed p t) ts us

-- what binds tightly enough is joined
join_over : (k : ℕ) (x : Frame) (fs : List Frame) (f : FormulaSyntax) → k ≤ own_level x → joins k (x ∷ fs) f ≡ joins k fs (joined x f)
join_over k x fs f h = rw (test_true k (own_level x) h) refl

-- joining more tightly first changes nothing
joins_again : (k m : ℕ) (fs : List Frame) (f : FormulaSyntax) → k ≤ m → joins k (joins m fs f).0 (joins m fs f).1 ≡ joins k fs f
joins_again k m [] f h = refl
joins_again k m (x ∷ fs) f h = by (nat_le m (own_level x)) refl (joins_again k m fs (joined x f) h)
  where
    by : (b : Bool) → nat_le m (own_level x) ≡ b → joins k (joins m fs (joined x f)).0 (joins m fs (joined x f)).1 ≡ joins k fs (joined x f) → joins k (joined_if m x fs f b).0 (joined_if m x fs f b).1 ≡ joins k (x ∷ fs) f
    by true e s = s ∙ sym (join_over k x fs f (omega (arith, h, test_le m (own_level x) e)))
    by false e s = refl

-- the last begun binds less tightly
Below : ℕ → List Frame → Type 0
Below k [] = Unit {0}
Below k (x ∷ fs) = own_level x < k

stays : (k : ℕ) (fs : List Frame) (f : FormulaSyntax) → Below k fs → joins k fs f ≡ (fs, f)
unfolding Below
stays k [] f h = refl
stays k (x ∷ fs) f h = rw (test_false k (own_level x) h) refl

below_one : (fs : List Frame) → required_level fs ≤ 1 → Below 1 fs
unfolding Below
below_one [] h = tt
below_one (BegunGroup ∷ fs) h = omega arith
below_one (BegunNot ∷ fs) h = absurd (omega (arith, h))
below_one (BegunAnd g ∷ fs) h = absurd (omega (arith, h))
below_one (BegunOr g ∷ fs) h = absurd (omega (arith, h))
below_one (BegunImplies g ∷ fs) h = absurd (omega (arith, h))
below_one (BegunIff g ∷ fs) h = absurd (omega (arith, h))

below_three : (fs : List Frame) → required_level fs ≤ 3 → Below 3 fs
unfolding Below
below_three [] h = tt
below_three (BegunGroup ∷ fs) h = omega arith
below_three (BegunNot ∷ fs) h = absurd (omega (arith, h))
below_three (BegunAnd g ∷ fs) h = absurd (omega (arith, h))
below_three (BegunOr g ∷ fs) h = absurd (omega (arith, h))
below_three (BegunImplies g ∷ fs) h = omega arith
below_three (BegunIff g ∷ fs) h = omega arith

below_four : (fs : List Frame) → required_level fs ≤ 4 → Below 4 fs
unfolding Below
below_four [] h = tt
below_four (BegunGroup ∷ fs) h = omega arith
below_four (BegunNot ∷ fs) h = absurd (omega (arith, h))
below_four (BegunAnd g ∷ fs) h = absurd (omega (arith, h))
below_four (BegunOr g ∷ fs) h = omega arith
below_four (BegunImplies g ∷ fs) h = omega arith
below_four (BegunIff g ∷ fs) h = omega arith

-- behind a formula: what is begun joins to the formula over what was begun before it
record Behind (es : TextSyntax) (q : Lead) (c : Option FormulaSyntax) (fs : List Frame) (f : FormulaSyntax) (p : Parse) : Type 0 where
  frames : List Frame
  operand : FormulaSyntax
  is : p ≡ InOperator es q c frames operand
  same : (k : ℕ) → k ≤ level f → joins k frames operand ≡ joins k fs f

-- an operand of the tightest level
operand_behind : (es : TextSyntax) (q : Lead) (c : Option FormulaSyntax) (fs : List Frame) (f : FormulaSyntax) → level f ≤ 5 → Behind es q c fs f (behind_operand es q c fs f)
operand_behind es q c fs f h = record { frames = (joins 5 fs f).0; operand = (joins 5 fs f).1; is = refl; same = λ k l. joins_again k 5 fs f (omega (arith, h, l)) }

-- a connective behind its first operand
at_sign : (es : TextSyntax) (q : Lead) (c : Option FormulaSyntax) (fs : List Frame) (f : FormulaSyntax) (p : Parse) (t : Token) (m : ℕ) (begun : FormulaSyntax → Frame)
    → Behind es q c fs f p → m ≤ level f → joins m fs f ≡ (fs, f)
    → ((gs : List Frame) (g : FormulaSyntax) → parsed (InOperator es q c gs g) t ≡ InOperand es q c (begun (joins m gs g).1 ∷ (joins m gs g).0))
    → parsed p t ≡ InOperand es q c (begun f ∷ fs)
at_sign es q c fs f p t m begun b l s h =
    ap (λ x. parsed x t) b.is ∙ h b.frames b.operand ∙ ap (λ r. InOperand es q c (begun r.1 ∷ r.0)) (b.same m l ∙ s)

-- both operands
at_both : (es : TextSyntax) (q : Lead) (c : Option FormulaSyntax) (fs : List Frame) (f g : FormulaSyntax) (t : Token) (whole : FormulaSyntax) (x : Frame)
    → parsed (parsed_all (InOperand es q c fs) (spelled f)) t ≡ InOperand es q c (x ∷ fs)
    → Behind es q c (x ∷ fs) g (parsed_all (InOperand es q c (x ∷ fs)) (spelled g))
    → level whole ≤ level g → level whole ≤ own_level x → joined x g ≡ whole
    → Behind es q c fs whole (parsed_all (InOperand es q c fs) (spelled f ++ t ∷ spelled g))
at_both es q c fs f g t whole x a b l o j = record {
  frames = b.frames;
  operand = b.operand;
  is = parsed-append (InOperand es q c fs) (spelled f) (t ∷ spelled g) ∙ ap (λ s. parsed_all s (spelled g)) a ∙ b.is;
  same = λ k h. b.same k (omega (arith, h, l)) ∙ join_over k x fs g (omega (arith, h, o)) ∙ ap (joins k fs) j;
}

name_operand : (w : List ℕ) → is_reserved w ≡ false → operand_of w ≡ Name w
name_operand w h = by (bytes_eq w (codes "true")) (bytes_eq w (codes "false")) refl refl
  where
    last : (a b c : Bool) → (a || b || c) ≡ false → (b ≡ false) × (c ≡ false)
    last false false false e = (refl, refl)
    last true b c e = absurd (true≢false e)
    last false true c e = absurd (true≢false e)
    last false false true e = absurd (true≢false e)

    parts : (bytes_eq w (codes "true") ≡ false) × (bytes_eq w (codes "false") ≡ false)
    parts = last (bytes_eq w (codes "psat") || bytes_eq w (codes "P") || bytes_eq w (codes "given") || bytes_eq w (codes "in") || bytes_eq w (codes "query") || bytes_eq w (codes "end"))
        (bytes_eq w (codes "true")) (bytes_eq w (codes "false")) h

    by : (a b : Bool) → bytes_eq w (codes "true") ≡ a → bytes_eq w (codes "false") ≡ b → operand_of w ≡ Name w
    by a b e f = rw (parts.0, parts.1) refl

-- the tokens of a formula make the formula
formula_back : (f : FormulaSyntax) (es : TextSyntax) (q : Lead) (c : Option FormulaSyntax) (fs : List Frame) → IsWellFormed f → required_level fs ≤ level f → Behind es q c fs f (parsed_all (InOperand es q c fs) (spelled f))
formula_back (Name w) es q c fs i n = subst (λ g. Behind es q c fs (Name w) (behind_operand es q c fs g)) (sym (name_operand w i.0)) (operand_behind es q c fs (Name w) (omega arith))
formula_back Truth es q c fs i n = operand_behind es q c fs Truth (omega arith)
formula_back Falsity es q c fs i n = operand_behind es q c fs Falsity (omega arith)
formula_back (Not f) es q c fs i n =
    let b = formula_back f es q c (BegunNot ∷ fs) i.1 i.0 in
    record { frames = b.frames; operand = b.operand; is = b.is; same = λ k h. b.same k (omega (arith, h, i.0)) ∙ join_over k BegunNot fs f h }
formula_back (Group f) es q c fs i n =
    let b = formula_back f es q c (BegunGroup ∷ fs) i (least_level f) in
    let closed : parsed (parsed_all (InOperand es q c (BegunGroup ∷ fs)) (spelled f)) (Sign Close) ≡ behind_operand es q c fs (Group f) =
    ap (λ x. parsed x (Sign Close)) b.is ∙ ap (λ r. behind_close es q c r.0 r.1) (b.same 1 (least_level f)) in
    subst (λ p. Behind es q c fs (Group f) p) (sym (parsed-append (InOperand es q c (BegunGroup ∷ fs)) (spelled f) (Sign Close ∷ []) ∙ closed)) (operand_behind es q c fs (Group f) (omega arith))
formula_back (And f g) es q c fs i n =
    let b = formula_back f es q c fs i.2 (omega (arith, n, i.0)) in
    at_both es q c fs f g (Sign Ampersand) (And f g) (BegunAnd f)
    (at_sign es q c fs f (parsed_all (InOperand es q c fs) (spelled f)) (Sign Ampersand) 4 BegunAnd b i.0 (stays 4 fs f (below_four fs n)) (λ gs h. refl))
    (formula_back g es q c (BegunAnd f ∷ fs) i.3 i.1) (omega (arith, i.1)) (omega arith) refl
formula_back (Or f g) es q c fs i n =
    let b = formula_back f es q c fs i.2 (omega (arith, n, i.0)) in
    at_both es q c fs f g (Sign Bar) (Or f g) (BegunOr f)
    (at_sign es q c fs f (parsed_all (InOperand es q c fs) (spelled f)) (Sign Bar) 3 BegunOr b i.0 (stays 3 fs f (below_three fs n)) (λ gs h. refl))
    (formula_back g es q c (BegunOr f ∷ fs) i.3 i.1) (omega (arith, i.1)) (omega arith) refl
formula_back (Implies f g) es q c fs i n =
    let b = formula_back f es q c fs i.2 (omega (arith, n, i.0)) in
    at_both es q c fs f g (Sign Arrow) (Implies f g) (BegunImplies f)
    (at_sign es q c fs f (parsed_all (InOperand es q c fs) (spelled f)) (Sign Arrow) 3 BegunImplies b i.0 (stays 3 fs f (below_three fs (omega (arith, n)))) (λ gs h. refl))
    (formula_back g es q c (BegunImplies f ∷ fs) i.3 i.1) (omega (arith, i.1)) (omega arith) refl
formula_back (Iff f g) es q c fs i n =
    let b = formula_back f es q c fs i.2 (omega (arith, n, i.0)) in
    at_both es q c fs f g (Sign DoubleArrow) (Iff f g) (BegunIff f)
    (at_sign es q c fs f (parsed_all (InOperand es q c fs) (spelled f)) (Sign DoubleArrow) 1 BegunIff b i.0 (stays 1 fs f (below_one fs n)) (λ gs h. refl))
    (formula_back g es q c (BegunIff f ∷ fs) i.3 i.1) (omega (arith, i.1)) (omega arith) refl

-- behind a probability
abbrev after_prob : TextSyntax → Lead → FormulaSyntax → Option FormulaSyntax → Parse
after_prob es q f None = behind_prob es q None f
after_prob es q f (Some g) = behind_prob es q (Some f) g

prob_back : (es : TextSyntax) (q : Lead) (f : FormulaSyntax) (g : Option FormulaSyntax) → IsWellFormed f → IsGiven g
    → parsed_all (InParen es q) (Sign Open ∷ spelled f ++ given_tokens g ++ Sign Close ∷ []) ≡ after_prob es q f g
prob_back es q f g i j = ap (parsed_all (InOperand es q None [])) (append_assoc (spelled f) (given_tokens g) (Sign Close ∷ [])) ∙ by g j
  where
    b : Behind es q None [] f (parsed_all (InOperand es q None []) (spelled f))
    b = formula_back f es q None [] i (least_level f)

    by : (g : Option FormulaSyntax) → IsGiven g → parsed_all (InOperand es q None []) (spelled f ++ (given_tokens g ++ Sign Close ∷ [])) ≡ after_prob es q f g
    by None j =
        parsed-append (InOperand es q None []) (spelled f) (Sign Close ∷ []) ∙ ap (λ x. parsed x (Sign Close)) b.is ∙ ap (λ r. behind_close es q None r.0 r.1) (b.same 1 (least_level f))
    by (Some g) j =
        let d = formula_back g es q (Some f) [] j.0 (least_level g) in
        parsed-append (InOperand es q None []) (spelled f) (Word (codes "given") ∷ (spelled g ++ Sign Close ∷ []))
        ∙ ap (λ x. parsed_all (parsed x (Word (codes "given"))) (spelled g ++ Sign Close ∷ [])) b.is
        ∙ ap (λ r. parsed_all (InOperand es q (Some r.1) []) (spelled g ++ Sign Close ∷ [])) (b.same 1 (least_level f))
        ∙ parsed-append (InOperand es q (Some f) []) (spelled g) (Sign Close ∷ [])
        ∙ ap (λ x. parsed x (Sign Close)) d.is ∙ ap (λ r. behind_close es q (Some f) r.0 r.1) (d.same 1 (least_level g))

-- a text with one more item
abbrev with_item : TextSyntax → ItemSyntax → TextSyntax
with_item es e = record { version = es.version; items = es.items ++ e ∷ [] }

sentence_prob_back : (es : TextSyntax) (f : FormulaSyntax) (g : Option FormulaSyntax) → after_prob es OfSentence f g ≡ InRelation es (OneProb (record { formula = f; given = g }))
sentence_prob_back es f None = refl
sentence_prob_back es f (Some g) = refl

query_prob_back : (es : TextSyntax) (f : FormulaSyntax) (g : Option FormulaSyntax) → after_prob es OfQuery f g ≡ InItemEnd es (Query (record { formula = f; given = g }))
query_prob_back es f None = refl
query_prob_back es f (Some g) = refl

relation_back : (es : TextSyntax) (p : Prob) (r : Relation) → parsed_all (InRelation es (OneProb p)) (relation_tokens r ++ Sign Semicolon ∷ []) ≡ InItem (with_item es (Sentence p r))
relation_back es p (Exactly x) = refl
relation_back es p (AtLeast x) = refl
relation_back es p (AtMost x) = refl
relation_back es p (Within x y) = refl

-- linear sentences

number_back : (es : TextSyntax) (l : Left) (s : Symbol) (m : Bool) (x : Numeral) → parsed_all (InNumber es l s false) (minus_tokens m ++ Number x ∷ []) ≡ InItemEnd es (sentence_of l (relation_of s (signed m x)))
number_back es l s true x = refl
number_back es l s false x = refl

first_back : (es : TextSyntax) (l : Left) (m : Bool) (x : Numeral) → parsed_all (InFirst es l false) (minus_tokens m ++ Number x ∷ []) ≡ InComma es l (signed m x)
first_back es l true x = refl
first_back es l false x = refl

second_back : (es : TextSyntax) (l : Left) (y : Signed) (m : Bool) (x : Numeral) → parsed_all (InSecond es l y false) (minus_tokens m ++ Number x ∷ []) ≡ InBracketEnd es l y (signed m x)
second_back es l y true x = refl
second_back es l y false x = refl

signed_relation_back : (es : TextSyntax) (l : Left) (r : SignedRelation) → parsed_all (InRelation es l) (signed_relation_tokens r) ≡ InItemEnd es (sentence_of l r)
signed_relation_back es l (Exactly x) = number_back es l Equals x.minus x.size
signed_relation_back es l (AtLeast x) = number_back es l GreaterEquals x.minus x.size
signed_relation_back es l (AtMost x) = number_back es l LessEquals x.minus x.size
signed_relation_back es l (Within x y) =
    parsed-append (InFirst es l false) (signed_tokens x) (Sign Comma ∷ (signed_tokens y ++ Sign CloseBracket ∷ []))
    ∙ ap (λ p. parsed_all p (Sign Comma ∷ (signed_tokens y ++ Sign CloseBracket ∷ []))) (first_back es l x.minus x.size)
    ∙ parsed-append (InSecond es l x false) (signed_tokens y) (Sign CloseBracket ∷ [])
    ∙ ap (λ p. parsed_all p (Sign CloseBracket ∷ [])) (second_back es l x y.minus y.size)

-- a term behind its sign, and behind its coefficient
term_back : (es : TextSyntax) (ts : List Term) (m : Bool) (k : Option Numeral) (f : FormulaSyntax) → IsWellFormed f
    → parsed_all (InTerm es ts m) (coefficient_tokens k ++ prob_tokens (alone f)) ≡ InRelation es (Terms ts (record { minus = m; coefficient = k; formula = f }))
term_back es ts m None f i = prob_back es (OfTerm ts m None) f None i tt
term_back es ts m (Some x) f i = prob_back es (OfTerm ts m (Some x)) f None i tt

-- a left side with more terms behind it
abbrev left_with : Left → List Term → Left
left_with l [] = l
left_with l (u ∷ us) = left_with (Terms (terms_in l) u) us

signed_term_back : (es : TextSyntax) (l : Left) (m : Bool) (k : Option Numeral) (f : FormulaSyntax) → IsWellFormed f
    → parsed_all (InRelation es l) (Sign (term_sign m) ∷ (coefficient_tokens k ++ prob_tokens (alone f))) ≡ InRelation es (Terms (terms_in l) (record { minus = m; coefficient = k; formula = f }))
signed_term_back es l true k f i = term_back es (terms_in l) true k f i
signed_term_back es l false k f i = term_back es (terms_in l) false k f i

further_back : (es : TextSyntax) (l : Left) (us : List Term) → AreTerms us → parsed_all (InRelation es l) (further_tokens us) ≡ InRelation es (left_with l us)
further_back es l [] i = refl
further_back es l (u ∷ us) i =
    parsed-append (InRelation es l) (Sign (term_sign u.minus) ∷ term_tokens u) (further_tokens us)
    ∙ ap (λ p. parsed_all p (further_tokens us)) (signed_term_back es l u.minus u.coefficient u.formula i.0.formula)
    ∙ further_back es (Terms (terms_in l) u) us i.1

-- the sentence of terms and more terms
sentence_with : (ts : List Term) (t : Term) (us : List Term) (r : SignedRelation) → sentence_of (left_with (Terms ts t) us) r ≡ Linear (ts ++ t ∷ us) r
sentence_with ts t [] r = refl
sentence_with ts t (u ∷ us) r = sentence_with (ts ++ t ∷ []) u us r ∙ ap (λ vs. Linear vs r) (append_assoc ts (t ∷ []) (u ∷ us))

-- what terms make
record Reads (es : TextSyntax) (ts : List Term) : Type 0 where
  left : Left
  back : parsed_all (InItem es) (terms_tokens ts) ≡ InRelation es left
  sentence : (r : SignedRelation) → sentence_of left r ≡ Linear ts r

-- a first term, whose sentence is linear by a `-` or a coefficient
first_term_back : (es : TextSyntax) (m : Bool) (k : Option Numeral) (f : FormulaSyntax) → IsTrue (m || is_some k) → IsWellFormed f
    → parsed_all (InItem es) (minus_tokens m ++ (coefficient_tokens k ++ prob_tokens (alone f))) ≡ InRelation es (Terms [] (record { minus = m; coefficient = k; formula = f }))
first_term_back es true k f h i = term_back es [] true k f i
first_term_back es false (Some x) f h i = prob_back es (OfTerm [] false (Some x)) f None i tt
first_term_back es false None f h i = absurd (true≢false (sym h))

terms_back : (es : TextSyntax) (m : Bool) (k : Option Numeral) (f : FormulaSyntax) (ts : List Term) → IsWellFormed f → AreTerms ts → IsLinear (record { minus = m; coefficient = k; formula = f } ∷ ts)
    → Reads es (record { minus = m; coefficient = k; formula = f } ∷ ts)
terms_back es m k f ts i h j = by (m || is_some k) refl
  where
    marked : IsTrue (m || is_some k) → Reads es (record { minus = m; coefficient = k; formula = f } ∷ ts)
    marked e = record {
      left = left_with (Terms [] (record { minus = m; coefficient = k; formula = f })) ts;
      back = ap (parsed_all (InItem es)) (sym (append_assoc (minus_tokens m) (coefficient_tokens k ++ prob_tokens (alone f)) (further_tokens ts)))
          ∙ parsed-append (InItem es) (minus_tokens m ++ (coefficient_tokens k ++ prob_tokens (alone f))) (further_tokens ts)
          ∙ ap (λ p. parsed_all p (further_tokens ts)) (first_term_back es m k f e i)
          ∙ further_back es (Terms [] (record { minus = m; coefficient = k; formula = f })) ts h;
      sentence = λ r. sentence_with [] (record { minus = m; coefficient = k; formula = f }) ts r;
    }

    bare : (m : Bool) (k : Option Numeral) (ts : List Term) → (m || is_some k) ≡ false → AreTerms ts → IsLinear (record { minus = m; coefficient = k; formula = f } ∷ ts) → Reads es (record { minus = m; coefficient = k; formula = f } ∷ ts)
    bare true k ts e h j = absurd (true≢false e)
    bare false (Some x) ts e h j = absurd (true≢false e)
    bare false None [] e h j = absurd (true≢false (sym j))
    bare false None (u ∷ us) e h j =
        let t : Term = record { minus = false; coefficient = None; formula = f } in
        record {
          left = left_with (Terms (t ∷ []) u) us;
          back = parsed-append (InItem es) (prob_tokens (alone f)) (further_tokens (u ∷ us))
              ∙ ap (λ p. parsed_all p (further_tokens (u ∷ us))) (prob_back es OfSentence f None i tt)
              ∙ further_back es (OneProb (alone f)) (u ∷ us) h;
          sentence = λ r. sentence_with (t ∷ []) u us r;
        }

    by : (b : Bool) → (m || is_some k) ≡ b → Reads es (record { minus = m; coefficient = k; formula = f } ∷ ts)
    by true e = marked e
    by false e = bare m k ts e h j

linear_back : (es : TextSyntax) (v : Version) (ts : List Term) (r : SignedRelation) → IsLinearItem v ts r → parsed_all (InItem es) (item_tokens (Linear ts r)) ≡ InItem (with_item es (Linear ts r))
linear_back es v [] r i = absurd i.linear
linear_back es v (t ∷ ts) r i =
    let s = terms_back es t.minus t.coefficient t.formula ts i.terms.0.formula i.terms.1 i.linear in
    parsed-append (InItem es) (terms_tokens (t ∷ ts) ++ signed_relation_tokens r) (Sign Semicolon ∷ [])
    ∙ ap (λ p. parsed p (Sign Semicolon))
    (parsed-append (InItem es) (terms_tokens (t ∷ ts)) (signed_relation_tokens r)
    ∙ ap (λ p. parsed_all p (signed_relation_tokens r)) s.back ∙ signed_relation_back es s.left r ∙ ap (InItemEnd es) (s.sentence r))

item_back : (es : TextSyntax) (v : Version) (e : ItemSyntax) → IsWellFormedItem v e → parsed_all (InItem es) (item_tokens e) ≡ InItem (with_item es e)
item_back es v (Sentence p r) i =
    ap (parsed_all (InItem es)) (append_assoc (prob_tokens p) (relation_tokens r) (Sign Semicolon ∷ []))
    ∙ parsed-append (InItem es) (prob_tokens p) (relation_tokens r ++ Sign Semicolon ∷ [])
    ∙ ap (λ x. parsed_all x (relation_tokens r ++ Sign Semicolon ∷ [])) (prob_back es OfSentence p.formula p.given i.0.formula i.0.given ∙ sentence_prob_back es p.formula p.given) ∙ relation_back es p r
item_back es v (Linear ts r) i = linear_back es v ts r i
item_back es v (Query p) i =
    parsed-append (InItem es) (Word (codes "query") ∷ prob_tokens p) (Sign Semicolon ∷ [])
    ∙ ap (λ x. parsed x (Sign Semicolon)) (prob_back es OfQuery p.formula p.given i.formula i.given ∙ query_prob_back es p.formula p.given)

items_back : (v : Version) (es fs : List ItemSyntax) → AreWellFormedItems v fs → parsed_all (InItem (record { version = v; items = es })) (items_tokens fs) ≡ InItem (record { version = v; items = es ++ fs })
items_back v es [] i = ap (λ xs. InItem (record { version = v; items = xs })) (sym (append-nil es))
items_back v es (e ∷ fs) i =
    parsed-append (InItem (record { version = v; items = es })) (item_tokens e) (items_tokens fs)
    ∙ ap (λ x. parsed_all x (items_tokens fs)) (item_back (record { version = v; items = es }) v e i.0)
    ∙ items_back v (es ++ e ∷ []) fs i.1 ∙ ap (λ xs. InItem (record { version = v; items = xs })) (append_assoc es (e ∷ []) fs)

head_back : (v : Version) → parsed_all InPsat (Word (codes "psat") ∷ Number (Whole (version_digits v)) ∷ Sign Semicolon ∷ []) ≡ InItem (record { version = v; items = [] })
head_back One = refl
head_back Two = refl

-- the tokens of a text make what it was written from
pub text_back : (es : TextSyntax) → IsWellFormedText es → parsed_all InPsat (text_tokens es) ≡ InDone es
text_back es i =
    let head : List Token = Word (codes "psat") ∷ Number (Whole (version_digits es.version)) ∷ Sign Semicolon ∷ [] in
    parsed-append InPsat (head ++ items_tokens es.items) (Word (codes "end") ∷ Sign Semicolon ∷ [])
    ∙ ap (λ x. parsed_all x (Word (codes "end") ∷ Sign Semicolon ∷ []))
    (parsed-append InPsat head (items_tokens es.items) ∙ ap (λ x. parsed_all x (items_tokens es.items)) (head_back es.version) ∙ items_back es.version [] es.items i)

no_text : TextSyntax
no_text = record { version = One; items = [] }

done_of : Parse → TextSyntax
done_of (InDone es) = es
done_of p = no_text

pub done_once : (es fs : TextSyntax) → InDone es ≡ InDone fs → es ≡ fs
unfolding done_of
done_once es fs e = ap done_of e

-- tokens are those of one written text at most
pub text_once : (es fs : TextSyntax) → IsWellFormedText es → IsWellFormedText fs → text_tokens es ≡ text_tokens fs → es ≡ fs
unfolding done_of
text_once es fs i j e = ap done_of (sym (text_back es i) ∙ ap (parsed_all InPsat) e ∙ text_back fs j)
