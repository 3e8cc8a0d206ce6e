-- One token more, outside of a formula.
use Rattle.std.proofs.Common.{◌≡◌, ℕ, ◌<◌, ◌≤◌, ◌*◌, ◌^◌, Bool, true, false, not, ◌&&◌, ◌||◌, List, [], ◌∷◌, ◌++◌, length, Option, Some, None, refl, sym, ap, subst, ◌∙◌, arith, append_assoc, append-nil, true≢false, is_some}
use Rattle.std.proofs.lemmas.Bool.Decides.{nat_tests}
use Rattle.std.proofs.lemmas.Slice.Eq.{bytes_eq-Decides}
use Rattle.std.specs.Prelude.{bytes_eq, codes, if◌then◌else◌, nat_lt, nat_eq}
use Rattle.ps_text.specs.declared.limits.TheConstants.{GREATEST_DENOMINATOR, MOST_DECIMALS, GREATEST_NUMBER, MOST_TERMS}
use Rattle.ps_text.specs.declared.version.Version.{Version}
use Rattle.ps_text.specs.Tokens.{Token, Word, Number, Sign, Numeral, Whole, Quotient, Decimal, Symbol, Open, Close, OpenBracket, CloseBracket, Comma, Semicolon, Bang, Ampersand, Bar, Arrow, DoubleArrow, Equals, GreaterEquals, LessEquals, Plus, Minus, is_the_sign, is_the_word}
use Rattle.ps_text.specs.declared.kind.ReadKind.{ReadKind}
use Rattle.ps_text.specs.declared.kind.ReadKind.TheVariants.{BadByte, NameTooLong, Expected, VersionUnknown, ZeroDenominator, DenominatorTooLarge, TooManyDecimals, NumberOutOfRange, TooManyTerms}
use Rattle.ps_text.specs.Grammar.{value, Prob, Exactly, AtLeast, AtMost, Within, SignedRelation, ItemSyntax, Sentence, Linear, Query, TextSyntax, Term, Signed, prob_tokens, relation_tokens, signed_relation_tokens, minus_tokens, signed_tokens, term_sign, item_tokens, items_tokens, IsNumberUpTo, IsRelation, IsRelationBy, AreTerms, IsTerm, IsLinear, IsLinearBy, has_linear, IsWellFormedItem, AreWellFormedItems, version_digits, tokens_up_to}
use Rattle.ps_text.specs.ExpectedTokens.{State, is_number, is_relation, is_term_sign, begins_signed, may_be_term, may_be_minus, is_expected, is_foreign, is_too_long, what_at, fault_at, number_fault, value_fault, greatest_value, terms_so_far, in_term, refusal, after}
use Rattle.ps_text.proofs.Spans.{both, not_true}
use Rattle.ps_text.proofs.Signs.{the_word, the_sign, Either, First, Second, either}
use Rattle.ps_text.specs.PartialParses.{Lead, OfSentence, OfQuery, OfTerm, Left, OneProb, Terms, InPsat, InVersion, InHeadEnd, InItem, InQueryProb, InTextEnd, InTerm, InTermProb, InParen, InRelation, InBracket, InFirst, InNumber, InComma, InSecond, InBracketEnd, InItemEnd, state_of, left_given, left_linear, begun_terms, prob_lead, left_tokens, sentence_lead, item_body, IsExtendedBy, relation_of, IsRelationSign, without_signs, sentence_of, AreFirstTerms, IsGivenBehind, IsLeft, IsMinusBehind, IsValueBehind, IsParse, number_in, terms_in, signed}
use Rattle.ps_text.proofs.TermTokens.{terms-push, push_count, left_signed, terms_counted}

-- a token that isn't refused
pub record Passed (d : State) (t : Token) : Type 0 where
  pub known : is_foreign d.version t ≡ false
  pub short : is_too_long t ≡ false
  pub expected : is_expected d t ≡ true
  pub fault : fault_at d.part d t ≡ None

tests : (f a b : Bool) (w x y : ReadKind) (o : Option ReadKind) → (if f then Some w else (if a then Some x else (if not b then Some y else o))) ≡ None
    → (f ≡ false) × (a ≡ false) × (b ≡ true) × (o ≡ None)
tests true a b w x y o h = absurd (true≢false (ap is_some h))
tests false true b w x y o h = absurd (true≢false (ap is_some h))
tests false false true w x y o h = (refl, refl, refl, h)
tests false false false w x y o h = absurd (true≢false (ap is_some h))

abbrev pub unless : Bool → ReadKind → Option ReadKind
unless b k = if b then None else Some k

pub unless_true : (b : Bool) (k : ReadKind) → unless b k ≡ None → b ≡ true
unless_true true k e = refl
unless_true false k e = absurd (true≢false (ap is_some e))

pub passed : (d : State) (t : Token) → refusal d t ≡ None → Passed d t
unfolding refusal
passed d t h = let a = tests (is_foreign d.version t) (is_too_long t) (is_expected d t) BadByte NameTooLong (Expected (what_at d)) (fault_at d.part d t) h in
    record { known = a.0; short = a.1; expected = a.2; fault = a.3 }

pub at_psat : (t : Token) → Passed (state_of InPsat) t → IsExtendedBy InPsat t
unfolding after
at_psat t h = subst (λ u. IsExtendedBy InPsat u) (sym (the_word (codes "psat") t h.expected)) (record { state = refl; tokens = refl; within = tt })

pub at_version : (t : Token) → Passed (state_of InVersion) t → IsExtendedBy InVersion t
unfolding after
at_version (Word w) h = absurd (true≢false (sym h.expected))
at_version (Sign s) h = absurd (true≢false (sym h.expected))
at_version (Number (Quotient ds es)) h = absurd (true≢false (ap is_some h.fault))
at_version (Number (Decimal ds es)) h = absurd (true≢false (ap is_some h.fault))
at_version (Number (Whole ds)) h =
    by (either (bytes_eq ds (codes "1")) (bytes_eq ds (codes "2")) (unless_true (bytes_eq ds (codes "1") || bytes_eq ds (codes "2")) VersionUnknown h.fault))
  where
    by : Either (bytes_eq ds (codes "1")) (bytes_eq ds (codes "2")) → IsExtendedBy InVersion (Number (Whole ds))
    by (First e) = subst (λ bs. IsExtendedBy InVersion (Number (Whole bs))) (sym ((bytes_eq-Decides ds (codes "1")).0 e)) (record { state = refl; tokens = refl; within = tt })
    by (Second e) = subst (λ bs. IsExtendedBy InVersion (Number (Whole bs))) (sym ((bytes_eq-Decides ds (codes "2")).0 e)) (record { state = refl; tokens = refl; within = tt })

pub at_head_end : (v : Version) (t : Token) → Passed (state_of (InHeadEnd v)) t → IsExtendedBy (InHeadEnd v) t
unfolding after
at_head_end v t h = subst (λ u. IsExtendedBy (InHeadEnd v) u) (sym (the_sign Semicolon t h.expected)) (record { state = refl; tokens = refl; within = tt })

-- numbers

number_sound : (n : ℕ) (x : Numeral) → value_fault n x ≡ None → IsNumberUpTo n x
number_sound n (Whole ds) h = by (nat_lt n (value ds)) refl h
  where
    by : (b : Bool) → nat_lt n (value ds) ≡ b → (if b then Some NumberOutOfRange else None) ≡ None → value ds ≤ n
    by true e f = absurd (true≢false (ap is_some f))
    by false e f = grind (arith, nat_tests)
number_sound n (Quotient ds es) h = by (nat_eq (value es) 0) (nat_lt GREATEST_DENOMINATOR (value es)) (nat_lt (n * value es) (value ds)) refl refl refl h
  where
    by : (a b c : Bool) → nat_eq (value es) 0 ≡ a → nat_lt GREATEST_DENOMINATOR (value es) ≡ b → nat_lt (n * value es) (value ds) ≡ c
        → (if a then Some ZeroDenominator else (if b then Some DenominatorTooLarge else (if c then Some NumberOutOfRange else None))) ≡ None
        → (0 < value es) × (value es ≤ GREATEST_DENOMINATOR) × (value ds ≤ n * value es)
    by true b c d e f h = absurd (true≢false (ap is_some h))
    by false true c d e f h = absurd (true≢false (ap is_some h))
    by false false true d e f h = absurd (true≢false (ap is_some h))
    by false false false d e f h = (grind (arith, nat_tests, d), grind (arith, nat_tests, e), grind (arith, nat_tests, f))
number_sound n (Decimal ds es) h = by (nat_lt MOST_DECIMALS (length es)) (nat_lt (n * 10 ^ length es) (value (ds ++ es))) refl refl h
  where
    by : (a b : Bool) → nat_lt MOST_DECIMALS (length es) ≡ a → nat_lt (n * 10 ^ length es) (value (ds ++ es)) ≡ b
        → (if a then Some TooManyDecimals else (if b then Some NumberOutOfRange else None)) ≡ None
        → (length es ≤ MOST_DECIMALS) × (value (ds ++ es) ≤ n * 10 ^ length es)
    by true b d e h = absurd (true≢false (ap is_some h))
    by false true d e h = absurd (true≢false (ap is_some h))
    by false false d e h = (grind (arith, nat_tests, d), grind (arith, nat_tests, e))

-- a number that is expected and isn't refused
record IsNumber (n : ℕ) (t : Token) : Type 0 where
  is : t ≡ Number (number_in t)
  within : IsNumberUpTo n (number_in t)

the_number : (n : ℕ) (t : Token) → is_number t ≡ true → number_fault n t ≡ None → IsNumber n t
the_number n (Word w) d f = absurd (true≢false (sym d))
the_number n (Sign s) d f = absurd (true≢false (sym d))
the_number n (Number x) d f = record { is = refl; within = number_sound n x f }

-- items

no_terms : (es : TextSyntax) → has_linear es.version ≡ true → AreFirstTerms es []
no_terms es h = record { version = h; terms = tt; few = omega arith }

pub at_item : (es : TextSyntax) (t : Token) → IsParse (InItem es) → Passed (state_of (InItem es)) t → IsExtendedBy (InItem es) t
unfolding after
at_item es t s h = by (either (is_the_word (codes "P") t || is_the_word (codes "query") t || is_the_word (codes "end") t) (has_linear es.version && begins_signed t) h.expected)
  where
    probs : Either (is_the_word (codes "P") t) (is_the_word (codes "query") t) → IsExtendedBy (InItem es) t
    probs (First e) = subst (λ u. IsExtendedBy (InItem es) u) (sym (the_word (codes "P") t e)) (record { state = refl; tokens = refl; within = (s, tt) })
    probs (Second e) = subst (λ u. IsExtendedBy (InItem es) u) (sym (the_word (codes "query") t e)) (record { state = refl; tokens = refl; within = s })

    words : Either (is_the_word (codes "P") t || is_the_word (codes "query") t) (is_the_word (codes "end") t) → IsExtendedBy (InItem es) t
    words (First e) = probs (either (is_the_word (codes "P") t) (is_the_word (codes "query") t) e)
    words (Second e) = subst (λ u. IsExtendedBy (InItem es) u) (sym (the_word (codes "end") t e)) (record { state = refl; tokens = refl; within = s })

    signed_first : has_linear es.version ≡ true → Either (is_number t) (is_the_sign Minus t) → IsExtendedBy (InItem es) t
    signed_first v (First e) = let n = the_number GREATEST_NUMBER t e h.fault in
        subst (λ u. IsExtendedBy (InItem es) u) (sym n.is) (record { state = refl; tokens = refl; within = (s, (no_terms es v, refl, n.within)) })
    signed_first v (Second e) = subst (λ u. IsExtendedBy (InItem es) u) (sym (the_sign Minus t e)) (record { state = refl; tokens = refl; within = (s, (no_terms es v, refl, tt)) })

    by : Either (is_the_word (codes "P") t || is_the_word (codes "query") t || is_the_word (codes "end") t) (has_linear es.version && begins_signed t) → IsExtendedBy (InItem es) t
    by (First e) = words (either (is_the_word (codes "P") t || is_the_word (codes "query") t) (is_the_word (codes "end") t) e)
    by (Second e) = let b = both (has_linear es.version) (begins_signed t) e in signed_first b.0 (either (is_number t) (is_the_sign Minus t) b.1)

pub at_query_prob : (es : TextSyntax) (t : Token) → IsParse (InQueryProb es) → Passed (state_of (InQueryProb es)) t → IsExtendedBy (InQueryProb es) t
unfolding after
at_query_prob es t s h = subst (λ u. IsExtendedBy (InQueryProb es) u) (sym (the_word (codes "P") t h.expected))
    (record { state = refl; tokens = sym (append_assoc (tokens_up_to es) (Word (codes "query") ∷ []) (Word (codes "P") ∷ [])); within = (s, tt) })

pub at_text_end : (es : TextSyntax) (t : Token) → IsParse (InTextEnd es) → Passed (state_of (InTextEnd es)) t → IsExtendedBy (InTextEnd es) t
unfolding after
at_text_end es t s h = subst (λ u. IsExtendedBy (InTextEnd es) u) (sym (the_sign Semicolon t h.expected))
    (record { state = refl; tokens = sym (append_assoc (tokens_up_to es) (Word (codes "end") ∷ []) (Sign Semicolon ∷ [])); within = s })

-- terms

-- a coefficient makes no sentence a plain one
linear_more : (ts : List Term) (m : Bool) (x : Numeral) → IsLinearBy ts m None → IsLinearBy ts m (Some x)
linear_more [] true x h = refl
linear_more [] false x h = refl
linear_more (t ∷ ts) m x h = tt

pub at_term : (es : TextSyntax) (ts : List Term) (m : Bool) (t : Token) → IsParse (InTerm es ts m) → Passed (state_of (InTerm es ts m)) t → IsExtendedBy (InTerm es ts m) t
unfolding after
at_term es ts m t s h = by (either (is_number t) (is_the_word (codes "P") t) h.expected)
  where
    by : Either (is_number t) (is_the_word (codes "P") t) → IsExtendedBy (InTerm es ts m) t
    by (First e) = let n = the_number GREATEST_NUMBER t e h.fault in
        subst (λ u. IsExtendedBy (InTerm es ts m) u) (sym n.is) (record {
          state = refl;
          tokens = sym (append_assoc (tokens_up_to es) (begun_terms ts m) (Number (number_in t) ∷ []));
          within = (s.0, (s.1.0, linear_more ts m (number_in t) s.1.1, n.within));
        })
    by (Second e) = subst (λ u. IsExtendedBy (InTerm es ts m) u) (sym (the_word (codes "P") t e))
        (record { state = refl; tokens = sym (append_assoc (tokens_up_to es) (begun_terms ts m) (Word (codes "P") ∷ [])); within = s })

pub at_term_prob : (es : TextSyntax) (ts : List Term) (m : Bool) (x : Numeral) (t : Token) → IsParse (InTermProb es ts m x) → Passed (state_of (InTermProb es ts m x)) t → IsExtendedBy (InTermProb es ts m x) t
unfolding after
at_term_prob es ts m x t s h = subst (λ u. IsExtendedBy (InTermProb es ts m x) u) (sym (the_word (codes "P") t h.expected))
    (record {
      state = refl;
      tokens = ap (λ us. tokens_up_to es ++ us) (sym (append_assoc (begun_terms ts m) (Number x ∷ []) (Word (codes "P") ∷ [])))
          ∙ sym (append_assoc (tokens_up_to es) (begun_terms ts m ++ Number x ∷ []) (Word (codes "P") ∷ []));
      within = s;
    })

none_given : (q : Lead) → IsGivenBehind q None
none_given OfSentence = tt
none_given OfQuery = tt
none_given (OfTerm ts m k) = refl

pub at_paren : (es : TextSyntax) (q : Lead) (t : Token) → IsParse (InParen es q) → Passed (state_of (InParen es q)) t → IsExtendedBy (InParen es q) t
unfolding after
at_paren es q t s h = subst (λ u. IsExtendedBy (InParen es q) u) (sym (the_sign Open t h.expected))
    (record { state = refl; tokens = append-nil (tokens_up_to es ++ (prob_lead q ++ Sign Open ∷ [])) ∙ sym (append_assoc (tokens_up_to es) (prob_lead q) (Sign Open ∷ [])); within = (s, none_given q, tt) })

-- left sides

no_minus : (l : Left) → IsMinusBehind l false
no_minus (OneProb p) = refl
no_minus (Terms ts t) = tt

terms_within : (ts : List Term) (t : Term) → AreTerms ts → IsTerm t → AreTerms (ts ++ t ∷ [])
terms_within [] t h i = (i, tt)
terms_within (u ∷ ts) t h i = (h.0, terms_within ts t h.1 i)

left_terms : (es : TextSyntax) (l : Left) → IsLeft es l → AreTerms (terms_in l)
left_terms es (OneProb p) i = (record { coefficient = tt; formula = i.formula; nests = i.nests }, tt)
left_terms es (Terms ts t) i = terms_within ts t i.0.terms i.2

linear_behind : (l : Left) (m : Bool) → IsLinearBy (terms_in l) m None
linear_behind (OneProb p) m = tt
linear_behind (Terms [] t) m = tt
linear_behind (Terms (u ∷ ts) t) m = tt

-- one term more may begin
few_terms : (n : ℕ) → (if not (nat_lt n MOST_TERMS) then Some TooManyTerms else None) ≡ None → n < MOST_TERMS
few_terms n h = by (nat_lt n MOST_TERMS) refl h
  where
    by : (b : Bool) → nat_lt n MOST_TERMS ≡ b → (if not b then Some TooManyTerms else None) ≡ None → n < MOST_TERMS
    by true e f = grind (arith, nat_tests)
    by false e f = absurd (true≢false (ap is_some f))

sign_extends : (es : TextSyntax) (l : Left) (m : Bool) → IsParse (InRelation es l) → has_linear es.version ≡ true → left_given l ≡ false → terms_so_far (left_linear l) < MOST_TERMS
    → (in_term es.version (length (terms_in l)) (state_of (InTerm es [] m)).part ≡ in_term es.version (terms_so_far (left_linear l)) (state_of (InTerm es [] m)).part)
    × (tokens_up_to es ++ begun_terms (terms_in l) m ≡ sentence_lead es l ++ Sign (term_sign m) ∷ [])
    × IsParse (InTerm es (terms_in l) m)
sign_extends es l m s v g few = (
  ap (λ n. in_term es.version n (state_of (InTerm es [] m)).part) (terms_counted l),
  ap (λ ts. tokens_up_to es ++ ts) (left_signed l m g) ∙ sym (append_assoc (tokens_up_to es) (left_tokens l) (Sign (term_sign m) ∷ [])),
  (s.0, (record { version = v; terms = left_terms es l s.1; few = subst (λ n. n < MOST_TERMS) (sym (terms_counted l)) few }, linear_behind l m, tt)),
)

pub at_relation : (es : TextSyntax) (l : Left) (t : Token) → IsParse (InRelation es l) → Passed (state_of (InRelation es l)) t → IsExtendedBy (InRelation es l) t
unfolding after
at_relation es l t s h = by (either (is_relation t) (may_be_term (state_of (InRelation es l)) && is_term_sign t) h.expected)
  where
    first : Either (is_the_sign Equals t) (is_the_sign GreaterEquals t) → IsExtendedBy (InRelation es l) t
    first (First e) = subst (λ u. IsExtendedBy (InRelation es l) u) (sym (the_sign Equals t e)) (record { state = refl; tokens = refl; within = (s.0, s.1, no_minus l, tt) })
    first (Second e) = subst (λ u. IsExtendedBy (InRelation es l) u) (sym (the_sign GreaterEquals t e)) (record { state = refl; tokens = refl; within = (s.0, s.1, no_minus l, tt) })

    signs : Either (is_the_sign Equals t || is_the_sign GreaterEquals t) (is_the_sign LessEquals t) → IsExtendedBy (InRelation es l) t
    signs (First e) = first (either (is_the_sign Equals t) (is_the_sign GreaterEquals t) e)
    signs (Second e) = subst (λ u. IsExtendedBy (InRelation es l) u) (sym (the_sign LessEquals t e)) (record { state = refl; tokens = refl; within = (s.0, s.1, no_minus l, tt) })

    relations : Either (is_the_sign Equals t || is_the_sign GreaterEquals t || is_the_sign LessEquals t) (is_the_word (codes "in") t) → IsExtendedBy (InRelation es l) t
    relations (First e) = signs (either (is_the_sign Equals t || is_the_sign GreaterEquals t) (is_the_sign LessEquals t) e)
    relations (Second e) = subst (λ u. IsExtendedBy (InRelation es l) u) (sym (the_word (codes "in") t e)) (record { state = refl; tokens = refl; within = s })

    terms : has_linear es.version ≡ true → left_given l ≡ false → Either (is_the_sign Plus t) (is_the_sign Minus t) → IsExtendedBy (InRelation es l) t
    terms v g (First e) =
        let deep : Passed (state_of (InRelation es l)) (Sign Plus) = subst (λ u. Passed (state_of (InRelation es l)) u) (the_sign Plus t e) h in
        let x = sign_extends es l false s v g (few_terms (terms_so_far (left_linear l)) deep.fault) in
        subst (λ u. IsExtendedBy (InRelation es l) u) (sym (the_sign Plus t e)) (record { state = x.0; tokens = x.1; within = x.2 })
    terms v g (Second e) =
        let deep : Passed (state_of (InRelation es l)) (Sign Minus) = subst (λ u. Passed (state_of (InRelation es l)) u) (the_sign Minus t e) h in
        let x = sign_extends es l true s v g (few_terms (terms_so_far (left_linear l)) deep.fault) in
        subst (λ u. IsExtendedBy (InRelation es l) u) (sym (the_sign Minus t e)) (record { state = x.0; tokens = x.1; within = x.2 })

    by : Either (is_relation t) (may_be_term (state_of (InRelation es l)) && is_term_sign t) → IsExtendedBy (InRelation es l) t
    by (First e) = relations (either (is_the_sign Equals t || is_the_sign GreaterEquals t || is_the_sign LessEquals t) (is_the_word (codes "in") t) e)
    by (Second e) =
        let b = both (may_be_term (state_of (InRelation es l))) (is_term_sign t) e in
        let m = both (has_linear es.version) (not (left_given l)) b.0 in
        terms m.0 (not_true (left_given l) m.1) (either (is_the_sign Plus t) (is_the_sign Minus t) b.1)

-- values

value_sound : (l : Left) (m : Bool) (x : Numeral) → IsMinusBehind l m → IsNumberUpTo (greatest_value (left_linear l)) x → IsValueBehind l (signed m x)
value_sound (OneProb p) m x i h = (i, h)
value_sound (Terms ts t) m x i h = h

-- a `-` that is expected: it stands in a linear sentence, and none stands before it
record MayBeMinus (l : Left) (m : Bool) : Type 0 where
  minus : IsMinusBehind l true
  first : m ≡ false

may_minus : (l : Left) (m : Bool) → (is_some (left_linear l) && not m) ≡ true → MayBeMinus l m
may_minus (OneProb p) m h = absurd (true≢false (sym h))
may_minus (Terms ts t) m h = record { minus = tt; first = not_true m h }

unsigned_tokens : (l : Left) (x : Signed) (p : Prob) → IsValueBehind (OneProb p) x → Number x.size ∷ [] ≡ signed_tokens x
unsigned_tokens l x p i = ap (λ m. minus_tokens m ++ Number x.size ∷ []) (sym i.0)

relation_unsigned : (p : Prob) (r : SignedRelation) → IsRelationBy (IsValueBehind (OneProb p)) r → relation_tokens (without_signs r) ≡ signed_relation_tokens r
relation_unsigned p (Exactly x) i = ap (λ ts. Sign Equals ∷ ts) (unsigned_tokens (OneProb p) x p i)
relation_unsigned p (AtLeast x) i = ap (λ ts. Sign GreaterEquals ∷ ts) (unsigned_tokens (OneProb p) x p i)
relation_unsigned p (AtMost x) i = ap (λ ts. Sign LessEquals ∷ ts) (unsigned_tokens (OneProb p) x p i)
relation_unsigned p (Within x y) i =
    ap (λ ts. Word (codes "in") ∷ Sign OpenBracket ∷ (ts ++ Sign Comma ∷ ((Number y.size ∷ []) ++ Sign CloseBracket ∷ []))) (unsigned_tokens (OneProb p) x p i.0)
    ∙ ap (λ ts. Word (codes "in") ∷ Sign OpenBracket ∷ (signed_tokens x ++ Sign Comma ∷ (ts ++ Sign CloseBracket ∷ []))) (unsigned_tokens (OneProb p) y p i.1)

sentence_body : (l : Left) (r : SignedRelation) → IsRelationBy (IsValueBehind l) r → item_body (sentence_of l r) ≡ left_tokens l ++ signed_relation_tokens r
sentence_body (OneProb p) r i = ap (λ ts. prob_tokens p ++ ts) (relation_unsigned p r i)
sentence_body (Terms ts t) r i = ap (λ us. us ++ signed_relation_tokens r) (terms-push ts t)

relation_within : (p : Prob) (r : SignedRelation) → IsRelationBy (IsValueBehind (OneProb p)) r → IsRelation (without_signs r)
relation_within p (Exactly x) i = i.1
relation_within p (AtLeast x) i = i.1
relation_within p (AtMost x) i = i.1
relation_within p (Within x y) i = (i.0.1, i.1.1)

linear_pushed : (ts : List Term) (t : Term) → IsLinearBy ts t.minus t.coefficient → IsLinear (ts ++ t ∷ [])
linear_pushed [] t h = h
linear_pushed (u ∷ []) t h = tt
linear_pushed (u ∷ v ∷ ts) t h = tt

sentence_within : (es : TextSyntax) (l : Left) (r : SignedRelation) → IsLeft es l → IsRelationBy (IsValueBehind l) r → IsWellFormedItem es.version (sentence_of l r)
sentence_within es (OneProb p) r i k = (i, relation_within p r k)
sentence_within es (Terms ts t) r i k = record {
  version = i.0.version;
  linear = linear_pushed ts t i.1;
  few = let c = push_count ts t in let f = i.0.few in omega arith;
  terms = terms_within ts t i.0.terms i.2;
  relation = k;
}

sign_relation : (l : Left) (s : Symbol) (x : Signed) → IsRelationSign s → IsValueBehind l x → (signed_relation_tokens (relation_of s x) ≡ Sign s ∷ signed_tokens x) × IsRelationBy (IsValueBehind l) (relation_of s x)
sign_relation l Equals x i p = (refl, p)
sign_relation l GreaterEquals x i p = (refl, p)
sign_relation l LessEquals x i p = (refl, p)
sign_relation l Open x i p = absurd i
sign_relation l Close x i p = absurd i
sign_relation l OpenBracket x i p = absurd i
sign_relation l CloseBracket x i p = absurd i
sign_relation l Comma x i p = absurd i
sign_relation l Semicolon x i p = absurd i
sign_relation l Bang x i p = absurd i
sign_relation l Ampersand x i p = absurd i
sign_relation l Bar x i p = absurd i
sign_relation l Arrow x i p = absurd i
sign_relation l DoubleArrow x i p = absurd i
sign_relation l Plus x i p = absurd i
sign_relation l Minus x i p = absurd i

pub at_number : (es : TextSyntax) (l : Left) (s : Symbol) (m : Bool) (t : Token) → IsParse (InNumber es l s m) → Passed (state_of (InNumber es l s m)) t → IsExtendedBy (InNumber es l s m) t
unfolding after
at_number es l s m t i h = by (either (is_number t) (may_be_minus (state_of (InNumber es l s m)) && is_the_sign Minus t) h.expected)
  where
    by : Either (is_number t) (may_be_minus (state_of (InNumber es l s m)) && is_the_sign Minus t) → IsExtendedBy (InNumber es l s m) t
    by (First e) =
        let n = the_number (greatest_value (left_linear l)) t e h.fault in
        let x = signed m (number_in t) in
        let r = sign_relation l s x i.3 (value_sound l m (number_in t) i.2 n.within) in
        subst (λ u. IsExtendedBy (InNumber es l s m) u) (sym n.is) (record {
          state = refl;
          tokens = ap (λ ts. tokens_up_to es ++ ts) (sentence_body l (relation_of s x) r.1 ∙ ap (λ ts. left_tokens l ++ ts) r.0)
              ∙ sym (append_assoc (tokens_up_to es) (left_tokens l) (Sign s ∷ signed_tokens x))
              ∙ sym (append_assoc (sentence_lead es l) (Sign s ∷ minus_tokens m) (Number (number_in t) ∷ []));
          within = (i.0, sentence_within es l (relation_of s x) i.1 r.1);
        })
    by (Second e) =
        let b = both (may_be_minus (state_of (InNumber es l s m))) (is_the_sign Minus t) e in
        let k = may_minus l m b.0 in
        subst (λ u. IsExtendedBy (InNumber es l s m) u) (sym (the_sign Minus t b.1)) (record {
          state = refl;
          tokens = sym (ap (λ b. (sentence_lead es l ++ (Sign s ∷ minus_tokens b)) ++ Sign Minus ∷ []) k.first ∙ append_assoc (sentence_lead es l) (Sign s ∷ []) (Sign Minus ∷ []));
          within = (i.0, i.1, k.minus, i.3);
        })

pub at_bracket : (es : TextSyntax) (l : Left) (t : Token) → IsParse (InBracket es l) → Passed (state_of (InBracket es l)) t → IsExtendedBy (InBracket es l) t
unfolding after
at_bracket es l t s h = subst (λ u. IsExtendedBy (InBracket es l) u) (sym (the_sign OpenBracket t h.expected))
    (record { state = refl; tokens = sym (append_assoc (sentence_lead es l) (Word (codes "in") ∷ []) (Sign OpenBracket ∷ [])); within = (s.0, s.1, no_minus l) })

pub at_first : (es : TextSyntax) (l : Left) (m : Bool) (t : Token) → IsParse (InFirst es l m) → Passed (state_of (InFirst es l m)) t → IsExtendedBy (InFirst es l m) t
unfolding after
at_first es l m t s h = by (either (is_number t) (may_be_minus (state_of (InFirst es l m)) && is_the_sign Minus t) h.expected)
  where
    by : Either (is_number t) (may_be_minus (state_of (InFirst es l m)) && is_the_sign Minus t) → IsExtendedBy (InFirst es l m) t
    by (First e) =
        let n = the_number (greatest_value (left_linear l)) t e h.fault in
        subst (λ u. IsExtendedBy (InFirst es l m) u) (sym n.is) (record {
          state = refl;
          tokens = sym (append_assoc (sentence_lead es l) (Word (codes "in") ∷ Sign OpenBracket ∷ minus_tokens m) (Number (number_in t) ∷ []));
          within = (s.0, s.1, value_sound l m (number_in t) s.2 n.within);
        })
    by (Second e) =
        let b = both (may_be_minus (state_of (InFirst es l m))) (is_the_sign Minus t) e in
        let k = may_minus l m b.0 in
        subst (λ u. IsExtendedBy (InFirst es l m) u) (sym (the_sign Minus t b.1)) (record {
          state = refl;
          tokens = sym (ap (λ b. (sentence_lead es l ++ (Word (codes "in") ∷ Sign OpenBracket ∷ minus_tokens b)) ++ Sign Minus ∷ []) k.first ∙ append_assoc (sentence_lead es l) (Word (codes "in") ∷ Sign OpenBracket ∷ []) (Sign Minus ∷ []));
          within = (s.0, s.1, k.minus);
        })

pub at_comma : (es : TextSyntax) (l : Left) (x : Signed) (t : Token) → IsParse (InComma es l x) → Passed (state_of (InComma es l x)) t → IsExtendedBy (InComma es l x) t
unfolding after
at_comma es l x t s h = subst (λ u. IsExtendedBy (InComma es l x) u) (sym (the_sign Comma t h.expected))
    (record { state = refl; tokens = sym (append_assoc (sentence_lead es l) (Word (codes "in") ∷ Sign OpenBracket ∷ signed_tokens x) (Sign Comma ∷ [])); within = (s.0, s.1, no_minus l, s.2) })

-- the tokens of an interval so far
abbrev interval_tokens : Signed → List Token → List Token
interval_tokens x ts = Word (codes "in") ∷ Sign OpenBracket ∷ (signed_tokens x ++ (Sign Comma ∷ ts))

interval_more : (es : TextSyntax) (l : Left) (x : Signed) (ts us : List Token) → sentence_lead es l ++ interval_tokens x (ts ++ us) ≡ (sentence_lead es l ++ interval_tokens x ts) ++ us
interval_more es l x ts us =
    ap (λ vs. sentence_lead es l ++ (Word (codes "in") ∷ Sign OpenBracket ∷ vs)) (sym (append_assoc (signed_tokens x) (Sign Comma ∷ ts) us))
    ∙ sym (append_assoc (sentence_lead es l) (interval_tokens x ts) us)

pub at_second : (es : TextSyntax) (l : Left) (x : Signed) (m : Bool) (t : Token) → IsParse (InSecond es l x m) → Passed (state_of (InSecond es l x m)) t → IsExtendedBy (InSecond es l x m) t
unfolding after
at_second es l x m t s h = by (either (is_number t) (may_be_minus (state_of (InSecond es l x m)) && is_the_sign Minus t) h.expected)
  where
    by : Either (is_number t) (may_be_minus (state_of (InSecond es l x m)) && is_the_sign Minus t) → IsExtendedBy (InSecond es l x m) t
    by (First e) =
        let n = the_number (greatest_value (left_linear l)) t e h.fault in
        subst (λ u. IsExtendedBy (InSecond es l x m) u) (sym n.is) (record {
          state = refl;
          tokens = interval_more es l x (minus_tokens m) (Number (number_in t) ∷ []);
          within = (s.0, s.1, s.3, value_sound l m (number_in t) s.2 n.within);
        })
    by (Second e) =
        let b = both (may_be_minus (state_of (InSecond es l x m))) (is_the_sign Minus t) e in
        let k = may_minus l m b.0 in
        subst (λ u. IsExtendedBy (InSecond es l x m) u) (sym (the_sign Minus t b.1)) (record {
          state = refl;
          tokens = sym (ap (λ b. (sentence_lead es l ++ interval_tokens x (minus_tokens b)) ++ Sign Minus ∷ []) k.first ∙ sym (interval_more es l x [] (Sign Minus ∷ [])));
          within = (s.0, s.1, k.minus, s.3);
        })

pub at_bracket_end : (es : TextSyntax) (l : Left) (x y : Signed) (t : Token) → IsParse (InBracketEnd es l x y) → Passed (state_of (InBracketEnd es l x y)) t → IsExtendedBy (InBracketEnd es l x y) t
unfolding after
at_bracket_end es l x y t s h = subst (λ u. IsExtendedBy (InBracketEnd es l x y) u) (sym (the_sign CloseBracket t h.expected))
    (record {
      state = refl;
      tokens = ap (λ ts. tokens_up_to es ++ ts) (sentence_body l (Within x y) (s.2, s.3))
          ∙ sym (append_assoc (tokens_up_to es) (left_tokens l) (interval_tokens x (signed_tokens y ++ Sign CloseBracket ∷ [])))
          ∙ interval_more es l x (signed_tokens y) (Sign CloseBracket ∷ []);
      within = (s.0, sentence_within es l (Within x y) s.1 (s.2, s.3));
    })

item_ended : (e : ItemSyntax) → item_tokens e ≡ item_body e ++ Sign Semicolon ∷ []
item_ended (Sentence p r) = refl
item_ended (Linear ts r) = refl
item_ended (Query p) = refl

items_more : (es : List ItemSyntax) (e : ItemSyntax) → items_tokens (es ++ e ∷ []) ≡ items_tokens es ++ item_tokens e
items_more [] e = append-nil (item_tokens e)
items_more (x ∷ es) e = ap (λ ts. item_tokens x ++ ts) (items_more es e) ∙ sym (append_assoc (item_tokens x) (items_tokens es) (item_tokens e))

items_sound : (v : Version) (es : List ItemSyntax) (e : ItemSyntax) → AreWellFormedItems v es → IsWellFormedItem v e → AreWellFormedItems v (es ++ e ∷ [])
items_sound v [] e s i = (i, tt)
items_sound v (x ∷ es) e s i = (s.0, items_sound v es e s.1 i)

pub at_item_end : (es : TextSyntax) (e : ItemSyntax) (t : Token) → IsParse (InItemEnd es e) → Passed (state_of (InItemEnd es e)) t → IsExtendedBy (InItemEnd es e) t
unfolding after
at_item_end es e t s h = subst (λ u. IsExtendedBy (InItemEnd es e) u) (sym (the_sign Semicolon t h.expected))
    (record {
      state = refl;
      tokens = ap (λ ts. Word (codes "psat") ∷ Number (Whole (version_digits es.version)) ∷ Sign Semicolon ∷ ts) (items_more es.items e ∙ ap (λ ts. items_tokens es.items ++ ts) (item_ended e))
          ∙ sym (append_assoc (tokens_up_to es) (item_body e) (Sign Semicolon ∷ []));
      within = items_sound es.version es.items e s.0 s.1;
    })
