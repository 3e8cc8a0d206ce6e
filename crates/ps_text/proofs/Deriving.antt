-- What the grammar derives within the limits is refused nowhere.
use Rattle.std.proofs.Common.{◌≡◌, ℕ, suc, ◌+◌, ◌*◌, ◌^◌, ◌<◌, ◌≤◌, Bool, true, false, ◌&&◌, ◌||◌, List, [], ◌∷◌, ◌++◌, length, Option, Some, None, is_some, refl, sym, ap, subst, ◌∙◌, arith, add-one, append_assoc, true≢false}
use Rattle.std.proofs.lemmas.Bool.Decides.{nat_tests}
use Rattle.std.specs.Prelude.{nat_lt, nat_eq, codes, IsTrue}
use Rattle.std.specs.List.{list_any}
use Rattle.ps_text.specs.declared.limits.TheConstants.{LONGEST_WORD, MOST_OPEN, GREATEST_DENOMINATOR, MOST_DECIMALS, GREATEST_NUMBER, MOST_TERMS}
use Rattle.ps_text.specs.declared.version.Version.{Version}
use Rattle.ps_text.specs.declared.version.Version.TheVariants.{One, Two}
use Rattle.ps_text.specs.Tokens.{Token, Word, Number, Sign, Numeral, Whole, Quotient, Decimal, Open, Close, CloseBracket, Comma, Semicolon, Ampersand, Bar, Arrow, DoubleArrow}
use Rattle.ps_text.specs.Grammar.{is_reserved, value, FormulaSyntax, Name, Truth, Falsity, Not, Group, And, Or, Implies, Iff, spelled, level, IsWellFormed, Nests, Prob, Relation, Exactly, AtLeast, AtMost, Within, SignedRelation, Term, ItemSyntax, Sentence, Linear, Query, TextSyntax, alone, given_tokens, prob_tokens, relation_tokens, minus_tokens, signed_tokens, coefficient_tokens, term_tokens, term_sign, further_tokens, terms_tokens, signed_relation_tokens, item_tokens, items_tokens, version_digits, text_tokens, IsNumberUpTo, IsWeight, IsGiven, IsProb, IsRelation, IsSignedRelation, IsCoefficient, IsTerm, AreTerms, IsLinear, IsLinearItem, IsWellFormedItem, AreWellFormedItems, IsWellFormedText}
use Rattle.ps_text.specs.declared.part.Part.{Part}
use Rattle.ps_text.specs.declared.part.Part.TheVariants as part
use Rattle.ps_text.specs.declared.part.Opening.{Opening}
use Rattle.ps_text.specs.declared.part.Opening.TheVariants as opening
use Rattle.ps_text.specs.ExpectedTokens.{State, outside, in_version, in_term, terms_so_far, is_group, value_fault, refusal, without_nots, without_arrows, prob_ended, after, Passes, AreExpected}
use Rattle.ps_text.proofs.Nesting.{least_level}

-- where a probability stands: whether it is a query's, the version, and the terms before a linear sentence's
pub record Kind : Type 0 where
  pub query : Bool
  pub version : Version
  pub linear : Option ℕ

-- within a formula
abbrev pub state : Part → Kind → Bool → List Opening → State
state p q g os = record { part = p; query = q.query; given = g; opened = os; version = q.version; linear = q.linear; minus = false }

pub passes-append : (d e f : State) (ts us : List Token) → Passes d ts e → Passes e us f → Passes d (ts ++ us) f
passes-append d e f [] us p q = subst (λ x. Passes x us f) (sym p) q
passes-append d e f (t ∷ ts) us p q = (p.0, passes-append (after d t) e f ts us p.1 q)

one : (d e : State) (t : Token) → refusal d t ≡ None → after d t ≡ e → Passes d (t ∷ []) e
one d e t h a = (h, a)

-- what is open behind a formula
abbrev pub behind : FormulaSyntax → List Opening → List Opening
behind (Implies f g) os = behind g (opening.Arrow ∷ os)
behind (Iff f g) os = behind g os
behind (And f g) os = os
behind (Or f g) os = os
behind f os = without_nots os

-- how tightly a formula has to bind where this is open
abbrev pub needed : List Opening → ℕ
needed (opening.Not ∷ os) = 5
needed (opening.Arrow ∷ os) = 2
needed os = 1

pub no_nots : (os : List Opening) → needed os ≤ 4 → without_nots os ≡ os
no_nots [] h = refl
no_nots (opening.Group ∷ os) h = refl
no_nots (opening.Arrow ∷ os) h = refl
no_nots (opening.Not ∷ os) h = absurd (omega (arith, h))

pub no_arrows : (os : List Opening) → needed os ≤ 1 → without_arrows os ≡ os
no_arrows [] h = refl
no_arrows (opening.Group ∷ os) h = refl
no_arrows (opening.Arrow ∷ os) h = absurd (omega (arith, h))
no_arrows (opening.Not ∷ os) h = absurd (omega (arith, h))

-- behind an operand of `|`, `&` or `->` nothing more is open
pub behind_tight : (f : FormulaSyntax) (os : List Opening) → 3 ≤ level f → without_nots os ≡ os → behind f os ≡ os
behind_tight (Implies f g) os l n = absurd (omega (arith, l))
behind_tight (Iff f g) os l n = absurd (omega (arith, l))
behind_tight (And f g) os l n = refl
behind_tight (Or f g) os l n = refl
behind_tight (Name w) os l n = n
behind_tight Truth os l n = n
behind_tight Falsity os l n = n
behind_tight (Not f) os l n = n
behind_tight (Group f) os l n = n

-- only right sides are open behind a formula
pub behind_ended : (f : FormulaSyntax) (os : List Opening) → without_nots os ≡ os → without_arrows (behind f os) ≡ without_arrows os
behind_ended (Implies f g) os n = behind_ended g (opening.Arrow ∷ os) refl
behind_ended (Iff f g) os n = behind_ended g os n
behind_ended (And f g) os n = refl
behind_ended (Or f g) os n = refl
behind_ended (Name w) os n = ap without_arrows n
behind_ended Truth os n = ap without_arrows n
behind_ended Falsity os n = ap without_arrows n
behind_ended (Not f) os n = ap without_arrows n
behind_ended (Group f) os n = ap without_arrows n

pub behind_groups : (f : FormulaSyntax) (os : List Opening) → without_nots os ≡ os → list_any is_group (behind f os) ≡ list_any is_group os
behind_groups (Implies f g) os n = behind_groups g (opening.Arrow ∷ os) refl
behind_groups (Iff f g) os n = behind_groups g os n
behind_groups (And f g) os n = refl
behind_groups (Or f g) os n = refl
behind_groups (Name w) os n = ap (list_any is_group) n
behind_groups Truth os n = ap (list_any is_group) n
behind_groups Falsity os n = ap (list_any is_group) n
behind_groups (Not f) os n = ap (list_any is_group) n
behind_groups (Group f) os n = ap (list_any is_group) n

name_expected : (q : Kind) (g : Bool) (os : List Opening) (w : List ℕ) → is_reserved w ≡ false → length w ≤ LONGEST_WORD → refusal (state part.Operand q g os) (Word w) ≡ None
unfolding refusal
name_expected q g os w r l = let h : nat_lt LONGEST_WORD (length w) ≡ false = grind (arith, nat_tests) in rw (h, r) refl

room : (n : ℕ) → n < MOST_OPEN → nat_lt n MOST_OPEN ≡ true
room n h = grind (arith, nat_tests)

pub formula_passes : (f : FormulaSyntax) (q : Kind) (g : Bool) (os : List Opening) → IsWellFormed f → Nests (length os) f → needed os ≤ level f
    → Passes (state part.Operand q g os) (spelled f) (state part.Operator q g (behind f os))
unfolding refusal after
formula_passes (Name w) q g os i n u = (name_expected q g os w i.0 i.1, refl)
formula_passes Truth q g os i n u = (refl, refl)
formula_passes Falsity q g os i n u = (refl, refl)
formula_passes (Not f) q g os i n u =
    let inner : Passes (state part.Operand q g (opening.Not ∷ os)) (spelled f) (state part.Operator q g (behind f (opening.Not ∷ os))) =
    formula_passes f q g (opening.Not ∷ os) i.1 (subst (λ k. Nests k f) (add-one (length os)) n.1) i.0 in
    (rw (room (length os) n.0) refl, subst (λ x. Passes (state part.Operand q g (opening.Not ∷ os)) (spelled f) (state part.Operator q g x)) (unary_behind f (opening.Not ∷ os) i.0) inner)
  where
    unary_behind : (f : FormulaSyntax) (os : List Opening) → 5 ≤ level f → behind f os ≡ without_nots os
    unary_behind (Implies f g) os l = absurd (omega (arith, l))
    unary_behind (Iff f g) os l = absurd (omega (arith, l))
    unary_behind (And f g) os l = absurd (omega (arith, l))
    unary_behind (Or f g) os l = absurd (omega (arith, l))
    unary_behind (Name w) os l = refl
    unary_behind Truth os l = refl
    unary_behind Falsity os l = refl
    unary_behind (Not f) os l = refl
    unary_behind (Group f) os l = refl
formula_passes (Group f) q g os i n u = (
  rw (room (length os) n.0) refl,
  passes-append (state part.Operand q g (opening.Group ∷ os)) (state part.Operator q g (behind f (opening.Group ∷ os))) (state part.Operator q g (without_nots os)) (spelled f) (Sign Close ∷ [])
      (formula_passes f q g (opening.Group ∷ os) i (subst (λ k. Nests k f) (add-one (length os)) n.1) (least_level f))
      (refl, rw (behind_ended f (opening.Group ∷ os) refl) refl),
)
formula_passes (And f h) q g os i n u =
    let settled : without_nots os ≡ os = no_nots os (omega (arith, u)) in
    passes-append (state part.Operand q g os) (state part.Operator q g (behind f os)) (state part.Operator q g os) (spelled f) (Sign Ampersand ∷ spelled h)
    (formula_passes f q g os i.2 n.0 (omega (arith, u, i.0))) (
      refl,
      subst (λ x. Passes (state part.Operand q g x) (spelled h) (state part.Operator q g os)) (sym (behind_tight f os (omega (arith, i.0)) settled))
          (subst (λ x. Passes (state part.Operand q g os) (spelled h) (state part.Operator q g x)) (behind_tight h os (omega (arith, i.1)) settled)
          (formula_passes h q g os i.3 n.1 (omega (arith, u, i.1)))),
    )
formula_passes (Or f h) q g os i n u =
    let settled : without_nots os ≡ os = no_nots os (omega (arith, u)) in
    passes-append (state part.Operand q g os) (state part.Operator q g (behind f os)) (state part.Operator q g os) (spelled f) (Sign Bar ∷ spelled h)
    (formula_passes f q g os i.2 n.0 (omega (arith, u, i.0))) (
      refl,
      subst (λ x. Passes (state part.Operand q g x) (spelled h) (state part.Operator q g os)) (sym (behind_tight f os (omega (arith, i.0)) settled))
          (subst (λ x. Passes (state part.Operand q g os) (spelled h) (state part.Operator q g x)) (behind_tight h os (omega (arith, i.1)) settled)
          (formula_passes h q g os i.3 n.1 (omega (arith, u, i.1)))),
    )
formula_passes (Implies f h) q g os i n u =
    let settled : without_nots os ≡ os = no_nots os (omega (arith, u)) in
    let tight : behind f os ≡ os = behind_tight f os i.0 settled in
    passes-append (state part.Operand q g os) (state part.Operator q g (behind f os)) (state part.Operator q g (behind h (opening.Arrow ∷ os))) (spelled f) (Sign Arrow ∷ spelled h)
    (formula_passes f q g os i.2 n.0 (omega (arith, u, i.0))) (
      rw (tight, room (length os) n.1) refl,
      subst (λ x. Passes (state part.Operand q g (opening.Arrow ∷ x)) (spelled h) (state part.Operator q g (behind h (opening.Arrow ∷ os)))) (sym tight)
          (formula_passes h q g (opening.Arrow ∷ os) i.3 (subst (λ k. Nests k h) (add-one (length os)) n.2) i.1),
    )
formula_passes (Iff f h) q g os i n u =
    let settled : without_nots os ≡ os = no_nots os (omega (arith, u)) in
    let ended : without_arrows (behind f os) ≡ os = behind_ended f os settled ∙ no_arrows os u in
    passes-append (state part.Operand q g os) (state part.Operator q g (behind f os)) (state part.Operator q g (behind h os)) (spelled f) (Sign DoubleArrow ∷ spelled h)
    (formula_passes f q g os i.2 n.0 (omega (arith, u, i.0))) (
      refl,
      subst (λ x. Passes (state part.Operand q g x) (spelled h) (state part.Operator q g (behind h os))) (sym ended)
          (formula_passes h q g os i.3 n.1 (omega (arith, u, i.1))),
    )

-- behind a probability
abbrev behind_prob : Kind → Option FormulaSyntax → State
behind_prob q c = prob_ended (state part.Operator q (is_some c) [])

-- behind a formula and its `)`
prob_end : (f : FormulaSyntax) (q : Kind) (g : Bool) → Passes (state part.Operator q g (behind f [])) (Sign Close ∷ []) (prob_ended (state part.Operator q g []))
unfolding refusal after
prob_end f q g = (refl, rw (behind_ended f [] refl) refl)

given_passes : (f : FormulaSyntax) (c : Option FormulaSyntax) (q : Kind) → IsGiven c → (is_some c && is_some q.linear) ≡ false → Passes (state part.Operator q false (behind f [])) (given_tokens c ++ Sign Close ∷ []) (behind_prob q c)
unfolding refusal after
given_passes f None q i l = prob_end f q false
given_passes f (Some c) q i l = (
  rw (behind_groups f [] refl, l) refl,
  passes-append (state part.Operand q true []) (state part.Operator q true (behind c [])) (behind_prob q (Some c)) (spelled c) (Sign Close ∷ [])
      (formula_passes c q true [] i.0 i.1 (least_level c)) (prob_end c q true),
)

prob_passes : (p : Prob) (q : Kind) → IsProb p → (is_some p.given && is_some q.linear) ≡ false → Passes (state part.Paren q false []) (Sign Open ∷ spelled p.formula ++ given_tokens p.given ++ Sign Close ∷ []) (behind_prob q p.given)
unfolding refusal after
prob_passes p q i l = (
  refl,
  subst (λ ts. Passes (state part.Operand q false []) ts (behind_prob q p.given)) (sym (append_assoc (spelled p.formula) (given_tokens p.given) (Sign Close ∷ [])))
      (passes-append (state part.Operand q false []) (state part.Operator q false (behind p.formula [])) (behind_prob q p.given) (spelled p.formula) (given_tokens p.given ++ Sign Close ∷ [])
      (formula_passes p.formula q false [] i.formula i.nests (least_level p.formula)) (given_passes p.formula p.given q i.given l)),
)

never_linear : (c : Option FormulaSyntax) → (is_some c && false) ≡ false
never_linear None = refl
never_linear (Some c) = refl

number_expected : (n : ℕ) (x : Numeral) → IsNumberUpTo n x → value_fault n x ≡ None
number_expected n (Whole ds) i = let h : nat_lt n (value ds) ≡ false = grind (arith, nat_tests) in rw h refl
number_expected n (Quotient ds es) i =
    let h0 : nat_eq (value es) 0 ≡ false = grind (arith, nat_tests, i.0) in
    let h1 : nat_lt GREATEST_DENOMINATOR (value es) ≡ false = grind (arith, nat_tests, i.1) in
    let h2 : nat_lt (n * value es) (value ds) ≡ false = grind (arith, nat_tests, i.2) in rw (h0, h1, h2) refl
number_expected n (Decimal ds es) i =
    let h0 : nat_lt MOST_DECIMALS (length es) ≡ false = grind (arith, nat_tests, i.0) in
    let h1 : nat_lt (n * 10 ^ length es) (value (ds ++ es)) ≡ false = grind (arith, nat_tests, i.1) in rw (h0, h1) refl

-- in a plain sentence

-- behind a left side
abbrev behind_left : Version → Option ℕ → Bool → Part → Bool → State
behind_left v n g p m = record { part = p; query = false; given = g; opened = []; version = v; linear = n; minus = m }

relation_passes : (v : Version) (g : Bool) (r : Relation) → IsRelation r → Passes (behind_left v None g part.Relation false) (relation_tokens r ++ Sign Semicolon ∷ []) (in_version v part.Item)
unfolding refusal after
relation_passes v g (Exactly x) i = (refl, (number_expected 1 x i, (refl, refl)))
relation_passes v g (AtLeast x) i = (refl, (number_expected 1 x i, (refl, refl)))
relation_passes v g (AtMost x) i = (refl, (number_expected 1 x i, (refl, refl)))
relation_passes v g (Within x y) i = (refl, (refl, (number_expected 1 x i.0, (refl, (number_expected 1 y i.1, (refl, (refl, refl)))))))

-- in a linear sentence

-- behind so many terms and one more
abbrev in_sum : ℕ → Part → Bool → State
in_sum n p m = behind_left Two (Some n) false p m

-- a number, perhaps behind a `-`
number_last : (n : ℕ) (m : Bool) (x : Numeral) → IsWeight x → Passes (in_sum n part.Number false) (minus_tokens m ++ Number x ∷ []) (in_version Two part.ItemEnd)
unfolding refusal after
number_last n false x i = (number_expected GREATEST_NUMBER x i, refl)
number_last n true x i = (refl, (number_expected GREATEST_NUMBER x i, refl))

number_first : (n : ℕ) (m : Bool) (x : Numeral) → IsWeight x → Passes (in_sum n part.First false) (minus_tokens m ++ Number x ∷ []) (in_sum n part.Comma false)
unfolding refusal after
number_first n false x i = (number_expected GREATEST_NUMBER x i, refl)
number_first n true x i = (refl, (number_expected GREATEST_NUMBER x i, refl))

number_second : (n : ℕ) (m : Bool) (x : Numeral) → IsWeight x → Passes (in_sum n part.Second false) (minus_tokens m ++ Number x ∷ []) (in_sum n part.BracketEnd false)
unfolding refusal after
number_second n false x i = (number_expected GREATEST_NUMBER x i, refl)
number_second n true x i = (refl, (number_expected GREATEST_NUMBER x i, refl))

signed_relation_passes : (n : ℕ) (r : SignedRelation) → IsSignedRelation r → Passes (in_sum n part.Relation false) (signed_relation_tokens r) (in_version Two part.ItemEnd)
unfolding refusal after
signed_relation_passes n (Exactly x) i = (refl, number_last n x.minus x.size i)
signed_relation_passes n (AtLeast x) i = (refl, number_last n x.minus x.size i)
signed_relation_passes n (AtMost x) i = (refl, number_last n x.minus x.size i)
signed_relation_passes n (Within x y) i = (
  refl,
  (
    refl,
    passes-append (in_sum n part.First false) (in_sum n part.Comma false) (in_version Two part.ItemEnd) (signed_tokens x) (Sign Comma ∷ (signed_tokens y ++ Sign CloseBracket ∷ []))
        (number_first n x.minus x.size i.0) (
          refl,
          passes-append (in_sum n part.Second false) (in_sum n part.BracketEnd false) (in_version Two part.ItemEnd) (signed_tokens y) (Sign CloseBracket ∷ [])
              (number_second n y.minus y.size i.1) (refl, refl),
        ),
  ),
)

-- a term's probability
term_kind : ℕ → Kind
term_kind n = record { query = false; version = Two; linear = Some n }

alone_within : (f : FormulaSyntax) → IsWellFormed f → Nests 0 f → IsProb (alone f)
alone_within f i n = record { formula = i; nests = n; given = tt }

-- a term behind its sign
term_passes : (n : ℕ) (k : Option Numeral) (f : FormulaSyntax) → IsCoefficient k → IsWellFormed f → Nests 0 f → Passes (in_term Two n part.Term) (coefficient_tokens k ++ prob_tokens (alone f)) (in_sum n part.Relation false)
unfolding refusal after term_kind
term_passes n None f k i d = (refl, prob_passes (alone f) (term_kind n) (alone_within f i d) refl)
term_passes n (Some x) f k i d = (number_expected GREATEST_NUMBER x k, (refl, prob_passes (alone f) (term_kind n) (alone_within f i d) refl))

more_terms : (n : ℕ) → n < MOST_TERMS → nat_lt n MOST_TERMS ≡ true
more_terms n h = grind (arith, nat_tests)

-- a sign before a further term
sign_passes : (n : ℕ) (m : Bool) (l : Option ℕ) → terms_so_far l ≡ n → n < MOST_TERMS → Passes (behind_left Two l false part.Relation false) (Sign (term_sign m) ∷ []) (in_term Two n part.Term)
unfolding refusal after
sign_passes n true l e h = let t : nat_lt (terms_so_far l) MOST_TERMS ≡ true = more_terms (terms_so_far l) (subst (λ k. k < MOST_TERMS) (sym e) h) in
    (rw t refl, ap (λ k. in_term Two k part.Term) e)
sign_passes n false l e h = let t : nat_lt (terms_so_far l) MOST_TERMS ≡ true = more_terms (terms_so_far l) (subst (λ k. k < MOST_TERMS) (sym e) h) in
    (rw t refl, ap (λ k. in_term Two k part.Term) e)

-- a further term with its sign
further_term : (n : ℕ) (l : Option ℕ) (t : Term) → terms_so_far l ≡ n → n < MOST_TERMS → IsTerm t → Passes (behind_left Two l false part.Relation false) (Sign (term_sign t.minus) ∷ term_tokens t) (in_sum n part.Relation false)
further_term n l t e h i = passes-append (behind_left Two l false part.Relation false) (in_term Two n part.Term) (in_sum n part.Relation false) (Sign (term_sign t.minus) ∷ []) (term_tokens t)
    (sign_passes n t.minus l e h) (term_passes n t.coefficient t.formula i.coefficient i.formula i.nests)

-- what more terms lead to
record Sum (d : State) (ts : List Token) : Type 0 where
  before : ℕ
  passes : Passes d ts (in_sum before part.Relation false)

further_passes : (n : ℕ) (ts : List Term) → n + length ts < MOST_TERMS → AreTerms ts → Sum (in_sum n part.Relation false) (further_tokens ts)
further_passes n [] l i = record { before = n; passes = refl }
further_passes n (t ∷ ts) l i =
    let rest = further_passes (suc n) ts (omega (arith, l)) i.1 in
    record {
      before = rest.before;
      passes = passes-append (in_sum n part.Relation false) (in_sum (suc n) part.Relation false) (in_sum rest.before part.Relation false) (Sign (term_sign t.minus) ∷ term_tokens t) (further_tokens ts)
          (further_term (suc n) (Some n) t refl (omega (arith, l)) i.0) rest.passes;
    }

-- a first term, whose sentence is linear by a `-` or a coefficient
first_passes : (m : Bool) (k : Option Numeral) (f : FormulaSyntax) → IsTrue (m || is_some k) → IsCoefficient k → IsWellFormed f → Nests 0 f
    → Passes (in_version Two part.Item) (minus_tokens m ++ (coefficient_tokens k ++ prob_tokens (alone f))) (in_sum 0 part.Relation false)
unfolding refusal after term_kind
first_passes true k f h c i n = (refl, term_passes 0 k f c i n)
first_passes false (Some x) f h c i n = (number_expected GREATEST_NUMBER x c, (refl, prob_passes (alone f) (term_kind 0) (alone_within f i n) refl))
first_passes false None f h c i n = absurd (true≢false (sym h))

-- a sentence's probability
plain_kind : Version → Kind
plain_kind v = record { query = false; version = v; linear = None }

query_kind : Version → Kind
query_kind v = record { query = true; version = v; linear = None }

plain_passes : (v : Version) (p : Prob) → IsProb p → Passes (in_version v part.Item) (prob_tokens p) (behind_left v None (is_some p.given) part.Relation false)
unfolding refusal after plain_kind
plain_passes v p i = (refl, prob_passes p (plain_kind v) i (never_linear p.given))

-- terms of which the first has neither a `-` nor a coefficient, so that others follow
bare_passes : (f : FormulaSyntax) (u : Term) (ts : List Term) → IsWellFormed f → Nests 0 f → IsTerm u → AreTerms ts → 2 + length ts ≤ MOST_TERMS
    → Sum (in_version Two part.Item) (prob_tokens (alone f) ++ (Sign (term_sign u.minus) ∷ (term_tokens u ++ further_tokens ts)))
bare_passes f u ts i n k h l =
    let rest = further_passes 1 ts (omega (arith, l)) h in
    record {
      before = rest.before;
      passes = passes-append (in_version Two part.Item) (behind_left Two None false part.Relation false) (in_sum rest.before part.Relation false) (prob_tokens (alone f)) (Sign (term_sign u.minus) ∷ (term_tokens u ++ further_tokens ts))
          (plain_passes Two (alone f) (alone_within f i n))
          (passes-append (behind_left Two None false part.Relation false) (in_sum 1 part.Relation false) (in_sum rest.before part.Relation false) (Sign (term_sign u.minus) ∷ term_tokens u) (further_tokens ts)
          (further_term 1 None u refl (omega (arith, l)) k) rest.passes);
    }

linear_passes : (m : Bool) (k : Option Numeral) (f : FormulaSyntax) (ts : List Term) → IsTerm (record { minus = m; coefficient = k; formula = f }) → AreTerms ts → 1 + length ts ≤ MOST_TERMS
    → IsLinear (record { minus = m; coefficient = k; formula = f } ∷ ts) → Sum (in_version Two part.Item) (terms_tokens (record { minus = m; coefficient = k; formula = f } ∷ ts))
linear_passes m k f ts i h l j = by (m || is_some k) refl
  where
    marked : IsTrue (m || is_some k) → Sum (in_version Two part.Item) (terms_tokens (record { minus = m; coefficient = k; formula = f } ∷ ts))
    marked e =
        let rest = further_passes 0 ts (omega (arith, l)) h in
        record {
          before = rest.before;
          passes = subst (λ us. Passes (in_version Two part.Item) us (in_sum rest.before part.Relation false)) (append_assoc (minus_tokens m) (coefficient_tokens k ++ prob_tokens (alone f)) (further_tokens ts))
              (passes-append (in_version Two part.Item) (in_sum 0 part.Relation false) (in_sum rest.before part.Relation false) (minus_tokens m ++ (coefficient_tokens k ++ prob_tokens (alone f))) (further_tokens ts)
              (first_passes m k f e i.coefficient i.formula i.nests) rest.passes);
        }

    bare : (m : Bool) (k : Option Numeral) (ts : List Term) → (m || is_some k) ≡ false → AreTerms ts → 1 + length ts ≤ MOST_TERMS → IsLinear (record { minus = m; coefficient = k; formula = f } ∷ ts)
        → Sum (in_version Two part.Item) (terms_tokens (record { minus = m; coefficient = k; formula = f } ∷ ts))
    bare true k ts e h l j = absurd (true≢false e)
    bare false (Some x) ts e h l j = absurd (true≢false e)
    bare false None [] e h l j = absurd (true≢false (sym j))
    bare false None (u ∷ ts) e h l j = bare_passes f u ts i.formula i.nests h.0 h.1 (omega (arith, l))

    by : (b : Bool) → (m || is_some k) ≡ b → Sum (in_version Two part.Item) (terms_tokens (record { minus = m; coefficient = k; formula = f } ∷ ts))
    by true e = marked e
    by false e = bare m k ts e h l j

-- items

linear_item : (ts : List Term) (r : SignedRelation) → IsLinearItem Two ts r → Passes (in_version Two part.Item) (item_tokens (Linear ts r)) (in_version Two part.Item)
unfolding refusal after
linear_item [] r i = absurd i.linear
linear_item (t ∷ ts) r i =
    let s = linear_passes t.minus t.coefficient t.formula ts i.terms.0 i.terms.1 (omega (arith, i.few)) i.linear in
    passes-append (in_version Two part.Item) (in_version Two part.ItemEnd) (in_version Two part.Item) (terms_tokens (t ∷ ts) ++ signed_relation_tokens r) (Sign Semicolon ∷ [])
    (passes-append (in_version Two part.Item) (in_sum s.before part.Relation false) (in_version Two part.ItemEnd) (terms_tokens (t ∷ ts)) (signed_relation_tokens r) s.passes (signed_relation_passes s.before r i.relation))
    (refl, refl)

item_passes : (v : Version) (e : ItemSyntax) → IsWellFormedItem v e → Passes (in_version v part.Item) (item_tokens e) (in_version v part.Item)
unfolding refusal after query_kind
item_passes v (Sentence p r) i = subst (λ ts. Passes (in_version v part.Item) ts (in_version v part.Item)) (sym (append_assoc (prob_tokens p) (relation_tokens r) (Sign Semicolon ∷ [])))
    (passes-append (in_version v part.Item) (behind_left v None (is_some p.given) part.Relation false) (in_version v part.Item) (prob_tokens p) (relation_tokens r ++ Sign Semicolon ∷ [])
    (plain_passes v p i.0) (relation_passes v (is_some p.given) r i.1))
item_passes One (Linear ts r) i = absurd (true≢false (sym i.version))
item_passes Two (Linear ts r) i = linear_item ts r i
item_passes v (Query p) i = (
  refl,
  passes-append (in_version v part.QueryProb) (in_version v part.ItemEnd) (in_version v part.Item) (prob_tokens p) (Sign Semicolon ∷ []) (refl, prob_passes p (query_kind v) i (never_linear p.given)) (refl, refl),
)

items_pass : (v : Version) (es : List ItemSyntax) → AreWellFormedItems v es → Passes (in_version v part.Item) (items_tokens es) (in_version v part.Item)
items_pass v [] i = refl
items_pass v (e ∷ es) i = passes-append (in_version v part.Item) (in_version v part.Item) (in_version v part.Item) (item_tokens e) (items_tokens es) (item_passes v e i.0) (items_pass v es i.1)

-- the version
version_passes : (v : Version) → Passes (outside part.Version) (Number (Whole (version_digits v)) ∷ []) (in_version v part.HeadEnd)
unfolding refusal after
version_passes One = (refl, refl)
version_passes Two = (refl, refl)

-- the tokens of a text within the grammar's levels and limits are expected
pub derived_are_expected : (es : TextSyntax) → IsWellFormedText es → AreExpected (text_tokens es)
unfolding refusal after
derived_are_expected es i =
    let v = es.version in
    let ended : List Token = Word (codes "end") ∷ Sign Semicolon ∷ [] in (
      refl,
      passes-append (outside part.Version) (in_version v part.HeadEnd) (outside part.Done) (Number (Whole (version_digits v)) ∷ []) (Sign Semicolon ∷ (items_tokens es.items ++ ended)) (version_passes v) (
        refl,
        passes-append (in_version v part.Item) (in_version v part.Item) (outside part.Done) (items_tokens es.items) ended (items_pass v es.items i) (refl, (refl, refl)),
      ),
    )
