-- The canonical text of lawful items is a text that means them.
use Rattle.std.proofs.Common.{◌≡◌, ℕ, suc, ℤ, pos, negsuc, ◌*◌, ◌<◌, ◌≤◌, ◌^◌, Bool, true, false, ◌||◌, List, [], ◌∷◌, ◌++◌, length, Option, Some, None, refl, sym, ap, subst, ◌∙◌, arith, append_assoc, append-nil}
use Rattle.std.proofs.lemmas.Nat.{mul-le}
use Rattle.std.proofs.lemmas.Bool.Decides.{nat_tests}
use Rattle.std.proofs.lemmas.Str.Parse.{IsNumeralModel, IsDigitsTest, FoldsDigits, numerals_by_fold}
use Rattle.std.proofs.lemmas.Fmt.{digits_decimal, digits_value-decimal, decimal_nonempty}
use Rattle.std.specs.Prelude.{◌==◌, nat_le, codes, if◌then◌else◌, unsigned_abs}
use Rattle.std.specs.List.{list_all}
use Rattle.std.specs.Int.{IsGcd}
use Rattle.std.specs.Fmt.{decimal}
use Rattle.ps_meaning.specs.Formula as formula
use Rattle.ps_meaning.specs.declared.side.Side.{Side}
use Rattle.ps_meaning.specs.declared.side.Side.TheVariants as side
use Rattle.ps_meaning.specs.Statements as meaning
use Rattle.ps_meaning.specs.Statements.{Ratio, SignedRatio, size_of, Summand, Item, Stated, Asked}
use Rattle.ps_meaning.specs.Names.{is_word}
use Rattle.ps_text.specs.declared.limits.TheConstants.{GREATEST_DENOMINATOR, GREATEST_NUMBER, MOST_TERMS}
use Rattle.ps_text.specs.declared.version.Version.{Version}
use Rattle.ps_text.specs.declared.version.Version.TheVariants.{One, Two}
use Rattle.ps_text.specs.Tokens.{Token, Word, Number, Sign, Numeral, Whole, Quotient, Symbol, Open, Close, OpenBracket, CloseBracket, Comma, Semicolon, Bang, Ampersand, Bar, Arrow, DoubleArrow, Equals, GreaterEquals, LessEquals, Plus, Minus, is_letter, is_digit, is_word_byte, IsWord, AreDigits, IsNumeral, numeral_spelling, symbol_spelling}
use Rattle.ps_text.specs.Grammar.{FormulaSyntax, Name, Truth, Falsity, Not, Group, And, Or, Implies, Iff, spelled, level, IsWellFormed, Prob, RelationBy, Relation, Exactly, AtLeast, AtMost, Within, SignedRelation, Term, Sentence, Linear, Query, alone, given_tokens, prob_tokens, relation_tokens_by, relation_tokens, minus_tokens, signed_tokens, term_tokens, term_sign, further_tokens, terms_tokens, signed_relation_tokens, item_tokens, items_tokens, version_digits, text_tokens, value_from, value, IsNumberUpTo, IsWeight, IsGiven, IsProb, IsRelationBy, IsRelation, IsSignedRelation, AreTerms, IsLinear, has_linear, IsWellFormedItem, AreWellFormedItems}
use Rattle.ps_text.specs.Meanings.{formula_of, given_of, IsValue, States, with_sign, IsSignedValue, StatesSum, AreSummands, IsItem, AreItems}
use Rattle.ps_text.specs.Pieces.{texts}
use Rattle.ps_text.specs.Fronts.{IsFront}
use Rattle.ps_text.specs.Canonical.{fitted, canonical_formula, canonical_numeral, canonical_relation, canonical_given, canonical_prob, is_negative, canonical_sum_relation, canonical_term, canonical_terms, canonical_item, canonical_items, syntax_text, given_text, prob_text, relation_text_by, relation_text, signed_text, term_text, further_text, terms_text, item_text, items_text, version_for, canonical_text, HasNames, IsWritable, IsWritableGiven, IsReducedUpTo, IsReduced, IsReducedWeight, IsUpper, IsSumUpper, AreWritable, IsLawfulItem, AreLawful}
use Rattle.ps_text.proofs.Levels.{test_le}
use Rattle.ps_text.proofs.Symbols.{SymbolStops, blank_stops}
use Rattle.ps_text.proofs.Longest.{numeral_starts}
use Rattle.ps_text.proofs.Spans.{starts, refute, Passes, both, same_byte}
use Rattle.ps_text.proofs.Laying.{Quiet, Laid, laid_none, laid_over, laid_blank, laid_sign, laid_token, Shut, shut_none, shut_end, shut_over}

-- numbers

own : IsNumeralModel (λ ds. Passes is_digit ds) (value_from 0)
own = numerals_by_fold (λ ds. Passes is_digit ds) test value_from folds
  where
    test : IsDigitsTest (λ ds. Passes is_digit ds)
    test = record { empty = tt; parts = λ c cs p. (within c p.0, p.1); more = λ c cs k p. (passes c k.0 k.1, p) }
      where
        within : (c : ℕ) → is_digit c ≡ true → (48 ≤ c) × (c ≤ 57)
        within c h = (grind (arith, nat_tests), grind (arith, nat_tests))

        passes : (c : ℕ) → 48 ≤ c → c ≤ 57 → is_digit c ≡ true
        passes c k l = grind (arith, nat_tests)

    folds : FoldsDigits value_from
    folds = record { empty = λ n. refl; more = λ n c cs k. ap (λ m. value_from m cs) (omega arith) }

are_digits : (ds : List ℕ) → Passes is_digit ds → 0 < length ds → AreDigits ds
are_digits [] p l = absurd (omega arith)
are_digits (d ∷ ds) p l = p

decimal_digits : (n : ℕ) → n < 2 ^ 64 → AreDigits (decimal n)
decimal_digits n h = are_digits (decimal n) (digits_decimal own n h) (decimal_nonempty n h)

decimal_value : (n : ℕ) → n < 2 ^ 64 → value (decimal n) ≡ n
decimal_value n h = digits_value-decimal own n h

-- the numeral of a ratio within the limits
record Numbers (n : ℕ) (r : Ratio) (x : Numeral) : Type 0 where
  numeral : IsNumeral x
  within : IsNumberUpTo n x
  meant : IsValue x r

numbers : (n : ℕ) (r : Ratio) → n ≤ GREATEST_NUMBER → IsReducedUpTo n r → Numbers n r (canonical_numeral r)
numbers n r l h = by (r.den == 1) refl
  where
    small : (k : ℕ) → k ≤ 1000000000000 → k < 2 ^ 64
    small k l = omega arith

    num_small : r.num < 2 ^ 64
    num_small = small r.num (below r.num (n * r.den) h.least (mul-le n r.den GREATEST_NUMBER GREATEST_DENOMINATOR l h.small))
      where
        below : (a b : ℕ) → a ≤ b → b ≤ 1000000000000 → a ≤ 1000000000000
        below a b p q = omega arith

    den_small : r.den < 2 ^ 64
    den_small = small r.den (let a = h.small in omega arith)

    num : value (decimal r.num) ≡ r.num
    num = decimal_value r.num num_small

    den : value (decimal r.den) ≡ r.den
    den = decimal_value r.den den_small

    chosen : Bool → Numeral
    chosen b = if b then Whole (decimal r.num) else Quotient (decimal r.num) (decimal r.den)

    by : (b : Bool) → (r.den == 1) ≡ b → Numbers n r (chosen b)
    by true e = let one : r.den ≡ 1 = same_byte r.den 1 e in let least : r.num ≤ n * 1 = subst (λ d. r.num ≤ n * d) one h.least in record {
      numeral = decimal_digits r.num num_small;
      within = omega (arith, num, least);
      meant = record { divisor = 1; greatest = subst (λ m. IsGcd m 1 1) (sym num) (subst (λ d. IsGcd r.num d 1) one h.lowest); num = omega (arith, num); den = omega (arith, one) };
    }
    by false e = record {
      numeral = (decimal_digits r.num num_small, decimal_digits r.den den_small);
      within = (omega (arith, den, h.some), omega (arith, den, h.small), subst (λ m. m ≤ n * value (decimal r.den)) (sym num) (subst (λ d. r.num ≤ n * d) (sym den) h.least));
      meant = record { divisor = 1; greatest = subst (λ m. IsGcd m (value (decimal r.den)) 1) (sym num) (subst (λ d. IsGcd r.num d 1) (sym den) h.lowest); num = omega (arith, num); den = omega (arith, den) };
    }

-- formulas

-- what holds of what binds tightly enough, and of a group, holds of the fitted one
fitted_by : (P : FormulaSyntax → Type 0) (k : ℕ) (f : FormulaSyntax) → (k ≤ level f → P f) → P (Group f) → P (fitted k f)
fitted_by P k f h g = by (nat_le k (level f)) refl
  where
    by : (b : Bool) → nat_le k (level f) ≡ b → P (if b then f else Group f)
    by true e = h (test_le k (level f) e)
    by false e = g

fitted_level : (k : ℕ) (f : FormulaSyntax) → k ≤ 5 → k ≤ level (fitted k f)
fitted_level k f h = fitted_by (λ g. k ≤ level g) k f (λ l. l) h

fitted_well_formed : (k : ℕ) (f : FormulaSyntax) → IsWellFormed f → IsWellFormed (fitted k f)
fitted_well_formed k f i = fitted_by IsWellFormed k f (λ l. i) i

fitted_meant : (k : ℕ) (f : FormulaSyntax) → formula_of (fitted k f) ≡ formula_of f
fitted_meant k f = fitted_by (λ g. formula_of g ≡ formula_of f) k f (λ l. refl) refl

well_formed : (f : formula.Formula meaning.Name) → HasNames f → IsWellFormed (canonical_formula f)
well_formed formula.Truth h = tt
well_formed formula.Falsity h = tt
well_formed (formula.Atom a) h = (h.free, h.short)
well_formed (formula.Not f) h = (fitted_level 5 (canonical_formula f) (omega arith), fitted_well_formed 5 (canonical_formula f) (well_formed f h))
well_formed (formula.And f g) h = (fitted_level 4 (canonical_formula f) (omega arith), fitted_level 5 (canonical_formula g) (omega arith), fitted_well_formed 4 (canonical_formula f) (well_formed f h.0), fitted_well_formed 5 (canonical_formula g) (well_formed g h.1))
well_formed (formula.Or f g) h = (fitted_level 3 (canonical_formula f) (omega arith), fitted_level 4 (canonical_formula g) (omega arith), fitted_well_formed 3 (canonical_formula f) (well_formed f h.0), fitted_well_formed 4 (canonical_formula g) (well_formed g h.1))
well_formed (formula.Implies f g) h = (fitted_level 3 (canonical_formula f) (omega arith), fitted_level 2 (canonical_formula g) (omega arith), fitted_well_formed 3 (canonical_formula f) (well_formed f h.0), fitted_well_formed 2 (canonical_formula g) (well_formed g h.1))
well_formed (formula.Iff f g) h = (fitted_level 1 (canonical_formula f) (omega arith), fitted_level 2 (canonical_formula g) (omega arith), fitted_well_formed 1 (canonical_formula f) (well_formed f h.0), fitted_well_formed 2 (canonical_formula g) (well_formed g h.1))

formula_meant : (f : formula.Formula meaning.Name) → formula_of (canonical_formula f) ≡ f
formula_meant formula.Truth = refl
formula_meant formula.Falsity = refl
formula_meant (formula.Atom a) = refl
formula_meant (formula.Not f) = ap formula.Not (fitted_meant 5 (canonical_formula f) ∙ formula_meant f)
formula_meant (formula.And f g) = λ i. formula.And ((fitted_meant 4 (canonical_formula f) ∙ formula_meant f) i) ((fitted_meant 5 (canonical_formula g) ∙ formula_meant g) i)
formula_meant (formula.Or f g) = λ i. formula.Or ((fitted_meant 3 (canonical_formula f) ∙ formula_meant f) i) ((fitted_meant 4 (canonical_formula g) ∙ formula_meant g) i)
formula_meant (formula.Implies f g) = λ i. formula.Implies ((fitted_meant 3 (canonical_formula f) ∙ formula_meant f) i) ((fitted_meant 2 (canonical_formula g) ∙ formula_meant g) i)
formula_meant (formula.Iff f g) = λ i. formula.Iff ((fitted_meant 1 (canonical_formula f) ∙ formula_meant f) i) ((fitted_meant 2 (canonical_formula g) ∙ formula_meant g) i)

-- each name is a word
HasWords : FormulaSyntax → Type 0
HasWords (Name w) = IsWord w
HasWords Truth = Unit {0}
HasWords Falsity = Unit {0}
HasWords (Not f) = HasWords f
HasWords (Group f) = HasWords f
HasWords (And f g) = HasWords f × HasWords g
HasWords (Or f g) = HasWords f × HasWords g
HasWords (Implies f g) = HasWords f × HasWords g
HasWords (Iff f g) = HasWords f × HasWords g

fitted_words : (k : ℕ) (f : FormulaSyntax) → HasWords f → HasWords (fitted k f)
unfolding HasWords
fitted_words k f i = fitted_by HasWords k f (λ l. i) i

all_pass : (p : ℕ → Bool) (bs : List ℕ) → list_all p bs ≡ true → Passes p bs
all_pass p [] h = tt
all_pass p (b ∷ bs) h = let s = both (p b) (list_all p bs) h in (s.0, all_pass p bs s.1)

word_is : (w : List ℕ) → is_word w ≡ true → IsWord w
word_is [] h = absurd cc
word_is (b ∷ bs) h = let s = both (is_letter b) (list_all is_word_byte bs) h in (s.0, all_pass is_word_byte bs s.1)

has_words : (f : formula.Formula meaning.Name) → HasNames f → HasWords (canonical_formula f)
unfolding HasWords
has_words formula.Truth h = tt
has_words formula.Falsity h = tt
has_words (formula.Atom a) h = word_is a h.word
has_words (formula.Not f) h = fitted_words 5 (canonical_formula f) (has_words f h)
has_words (formula.And f g) h = (fitted_words 4 (canonical_formula f) (has_words f h.0), fitted_words 5 (canonical_formula g) (has_words g h.1))
has_words (formula.Or f g) h = (fitted_words 3 (canonical_formula f) (has_words f h.0), fitted_words 4 (canonical_formula g) (has_words g h.1))
has_words (formula.Implies f g) h = (fitted_words 3 (canonical_formula f) (has_words f h.0), fitted_words 2 (canonical_formula g) (has_words g h.1))
has_words (formula.Iff f g) h = (fitted_words 1 (canonical_formula f) (has_words f h.0), fitted_words 2 (canonical_formula g) (has_words g h.1))

-- the bytes of a formula as it is written are its tokens
laid_word : (w : List ℕ) → IsWord w → Laid (Word w ∷ []) w
laid_word w i = laid_token (Word w) i

-- a sign with a space on each side
laid_between : (s : Symbol) (ts us : List Token) (xs ys : List ℕ) → Laid ts xs → Laid us ys → Laid (ts ++ Sign s ∷ us) (xs ++ (32 ∷ symbol_spelling s ++ (32 ∷ ys)))
laid_between s ts us xs ys l m = laid_over ts (Sign s ∷ us) xs (32 ∷ symbol_spelling s ++ (32 ∷ ys)) l (laid_blank 32 (Sign s ∷ us) (symbol_spelling s ++ (32 ∷ ys)) refl (laid_sign s us (32 ∷ ys) (λ r. blank_stops s (ys ++ r)) (laid_blank 32 us ys refl m))) (λ rest q. refl)

laid_formula : (f : FormulaSyntax) → HasWords f → Laid (spelled f) (syntax_text f)
unfolding HasWords
laid_formula (Name w) h = laid_word w h
laid_formula Truth h = laid_word (codes "true") (word_is (codes "true") refl)
laid_formula Falsity h = laid_word (codes "false") (word_is (codes "false") refl)
laid_formula (Not f) h = laid_sign Bang (spelled f) (syntax_text f) (λ r. tt) (laid_formula f h)
laid_formula (Group f) h = laid_sign Open (spelled f ++ Sign Close ∷ []) (syntax_text f ++ codes ")") (λ r. tt)
    (laid_over (spelled f) (Sign Close ∷ []) (syntax_text f) (codes ")") (laid_formula f h) (laid_sign Close [] [] (λ r. tt) laid_none) (λ rest q. refl))
laid_formula (And f g) h = laid_between Ampersand (spelled f) (spelled g) (syntax_text f) (syntax_text g) (laid_formula f h.0) (laid_formula g h.1)
laid_formula (Or f g) h = laid_between Bar (spelled f) (spelled g) (syntax_text f) (syntax_text g) (laid_formula f h.0) (laid_formula g h.1)
laid_formula (Implies f g) h = laid_between Arrow (spelled f) (spelled g) (syntax_text f) (syntax_text g) (laid_formula f h.0) (laid_formula g h.1)
laid_formula (Iff f g) h = laid_between DoubleArrow (spelled f) (spelled g) (syntax_text f) (syntax_text g) (laid_formula f h.0) (laid_formula g h.1)

-- a probability

HasGivenWords : Option FormulaSyntax → Type 0
HasGivenWords None = Unit {0}
HasGivenWords (Some f) = HasWords f

laid_given : (g : Option FormulaSyntax) → HasGivenWords g → Laid (given_tokens g ++ Sign Close ∷ []) (given_text g ++ codes ")")
unfolding HasGivenWords
laid_given None h = laid_sign Close [] [] (λ r. tt) laid_none
laid_given (Some f) h =
    laid_blank 32 (Word (codes "given") ∷ (spelled f ++ Sign Close ∷ [])) (codes "given " ++ (syntax_text f ++ codes ")")) refl
    (laid_over (Word (codes "given") ∷ []) (spelled f ++ Sign Close ∷ []) (codes "given") (32 ∷ (syntax_text f ++ codes ")")) (laid_word (codes "given") (word_is (codes "given") refl))
    (laid_blank 32 (spelled f ++ Sign Close ∷ []) (syntax_text f ++ codes ")") refl
    (laid_over (spelled f) (Sign Close ∷ []) (syntax_text f) (codes ")") (laid_formula f h) (laid_sign Close [] [] (λ r. tt) laid_none) (λ rest q. refl)))
    (λ rest q. refl))

quiet_given : (g : Option FormulaSyntax) (rest : List ℕ) → Quiet ((given_text g ++ codes ")") ++ rest)
quiet_given None rest = refl
quiet_given (Some f) rest = refl

laid_prob : (p : Prob) → HasWords p.formula → HasGivenWords p.given → Laid (prob_tokens p) (prob_text p)
laid_prob p h k =
    laid_over (Word (codes "P") ∷ []) (Sign Open ∷ (spelled p.formula ++ given_tokens p.given ++ Sign Close ∷ [])) (codes "P") (codes "(" ++ (syntax_text p.formula ++ (given_text p.given ++ codes ")")))
    (laid_word (codes "P") (word_is (codes "P") refl))
    (laid_sign Open (spelled p.formula ++ given_tokens p.given ++ Sign Close ∷ []) (syntax_text p.formula ++ (given_text p.given ++ codes ")")) (λ r. tt)
    (subst (λ ts. Laid ts (syntax_text p.formula ++ (given_text p.given ++ codes ")"))) (sym (append_assoc (spelled p.formula) (given_tokens p.given) (Sign Close ∷ [])))
    (laid_over (spelled p.formula) (given_tokens p.given ++ Sign Close ∷ []) (syntax_text p.formula) (given_text p.given ++ codes ")") (laid_formula p.formula h) (laid_given p.given k) (λ rest q. quiet_given p.given rest))))
    (λ rest q. refl)

-- a relation, by its numbers

laid_value : (s : Symbol) (ts : List Token) (xs : List ℕ) → Laid ts xs → Laid (Sign s ∷ ts) (32 ∷ symbol_spelling s ++ (32 ∷ xs))
laid_value s ts xs l = laid_blank 32 (Sign s ∷ ts) (symbol_spelling s ++ (32 ∷ xs)) refl
    (laid_sign s ts (32 ∷ xs) (λ r. blank_stops s (xs ++ r)) (laid_blank 32 ts xs refl l))

laid_interval : (ts us : List Token) (xs ys : List ℕ) → Laid ts xs → Laid us ys
    → Laid (Word (codes "in") ∷ Sign OpenBracket ∷ (ts ++ Sign Comma ∷ (us ++ Sign CloseBracket ∷ []))) (codes " in [" ++ (xs ++ (codes ", " ++ (ys ++ codes "]"))))
laid_interval ts us xs ys l m =
    let vs : List Token = us ++ Sign CloseBracket ∷ [] in
    let zs : List ℕ = ys ++ codes "]" in
    let third : Laid vs zs = laid_over us (Sign CloseBracket ∷ []) ys (codes "]") m (laid_sign CloseBracket [] [] (λ r. tt) laid_none) (λ rest q. refl) in
    let second : Laid (ts ++ Sign Comma ∷ vs) (xs ++ (codes ", " ++ zs)) = laid_over ts (Sign Comma ∷ vs) xs (codes ", " ++ zs) l
    (laid_sign Comma vs (32 ∷ zs) (λ r. tt) (laid_blank 32 vs zs refl third)) (λ rest q. refl) in
    let first : Laid (Sign OpenBracket ∷ (ts ++ Sign Comma ∷ vs)) (codes "[" ++ (xs ++ (codes ", " ++ zs))) = laid_sign OpenBracket (ts ++ Sign Comma ∷ vs) (xs ++ (codes ", " ++ zs)) (λ r. tt) second in
    laid_blank 32 (Word (codes "in") ∷ Sign OpenBracket ∷ (ts ++ Sign Comma ∷ vs)) (codes "in [" ++ (xs ++ (codes ", " ++ zs))) refl
    (laid_over (Word (codes "in") ∷ []) (Sign OpenBracket ∷ (ts ++ Sign Comma ∷ vs)) (codes "in") (codes " [" ++ (xs ++ (codes ", " ++ zs)))
    (laid_word (codes "in") (word_is (codes "in") refl))
    (laid_blank 32 (Sign OpenBracket ∷ (ts ++ Sign Comma ∷ vs)) (codes "[" ++ (xs ++ (codes ", " ++ zs))) refl first)
    (λ rest q. refl))

laid_relation_by : {N : Type 0} (number : N → List Token) (bytes : N → List ℕ) (Is : N → Type 0) → ((x : N) → Is x → Laid (number x) (bytes x)) → (r : RelationBy N) → IsRelationBy Is r
    → Laid (relation_tokens_by number r) (relation_text_by bytes r)
laid_relation_by number bytes Is each (Exactly x) i = laid_value Equals (number x) (bytes x) (each x i)
laid_relation_by number bytes Is each (AtLeast x) i = laid_value GreaterEquals (number x) (bytes x) (each x i)
laid_relation_by number bytes Is each (AtMost x) i = laid_value LessEquals (number x) (bytes x) (each x i)
laid_relation_by number bytes Is each (Within x y) i = laid_interval (number x) (number y) (bytes x) (bytes y) (each x i.0) (each y i.1)

quiet_relation_by : {N : Type 0} (bytes : N → List ℕ) (r : RelationBy N) (rest : List ℕ) → Quiet (relation_text_by bytes r ++ rest)
quiet_relation_by bytes (Exactly x) rest = refl
quiet_relation_by bytes (AtLeast x) rest = refl
quiet_relation_by bytes (AtMost x) rest = refl
quiet_relation_by bytes (Within x y) rest = refl

HasNumerals : Relation → Type 0
HasNumerals r = IsRelationBy IsNumeral r

laid_relation : (r : Relation) → HasNumerals r → Laid (relation_tokens r) (relation_text r)
unfolding HasNumerals
laid_relation r i = laid_relation_by (λ x. Number x ∷ []) numeral_spelling IsNumeral (λ x h. laid_token (Number x) h) r i

-- no `>` begins with a digit
digit_stops : (bytes : List ℕ) → starts is_digit bytes ≡ true → SymbolStops Minus bytes
digit_stops [] h = refl
digit_stops (b ∷ bs) h = refute (b == 62) (λ e. grind (arith, nat_tests))

signed_as : Bool → Numeral → List ℕ
signed_as m x = if m then codes "-" ++ numeral_spelling x else numeral_spelling x

laid_signed_as : (m : Bool) (x : Numeral) → IsNumeral x → Laid (minus_tokens m ++ Number x ∷ []) (signed_as m x)
unfolding signed_as
laid_signed_as true x i = laid_sign Minus (Number x ∷ []) (numeral_spelling x) (λ r. digit_stops (numeral_spelling x ++ r) (numeral_starts x r i)) (laid_token (Number x) i)
laid_signed_as false x i = laid_token (Number x) i

HasSignedNumerals : SignedRelation → Type 0
HasSignedNumerals r = IsRelationBy (λ x. IsNumeral x.size) r

laid_signed_relation : (r : SignedRelation) → HasSignedNumerals r → Laid (signed_relation_tokens r) (relation_text_by signed_text r)
unfolding HasSignedNumerals signed_as
laid_signed_relation r i = laid_relation_by signed_tokens signed_text (λ x. IsNumeral x.size) (λ x h. laid_signed_as x.minus x.size h) r i

-- terms, each with its coefficient

laid_term : (m : Bool) (x : Numeral) (f : FormulaSyntax) → IsNumeral x → HasWords f → Laid (term_tokens (record { minus = m; coefficient = Some x; formula = f })) (term_text (record { minus = m; coefficient = Some x; formula = f }))
unfolding HasGivenWords
laid_term m x f i h =
    subst (λ xs. Laid (Number x ∷ prob_tokens (alone f)) xs) (sym (append_assoc (numeral_spelling x) (codes " ") (prob_text (alone f))))
    (laid_over (Number x ∷ []) (prob_tokens (alone f)) (numeral_spelling x) (32 ∷ prob_text (alone f)) (laid_token (Number x) i)
    (laid_blank 32 (prob_tokens (alone f)) (prob_text (alone f)) refl (laid_prob (alone f) h tt)) (λ rest q. refl))

-- a sign between terms
laid_further_sign : (m : Bool) (ts : List Token) (xs : List ℕ) → Laid ts xs → Laid (Sign (term_sign m) ∷ ts) ((if m then codes " - " else codes " + ") ++ xs)
laid_further_sign true ts xs l = laid_value Minus ts xs l
laid_further_sign false ts xs l = laid_value Plus ts xs l

-- a sign before the first term
laid_first_sign : (m : Bool) (ts : List Token) (xs : List ℕ) → Laid ts xs → Laid (minus_tokens m ++ ts) ((if m then codes "- " else []) ++ xs)
laid_first_sign true ts xs l = laid_sign Minus ts (32 ∷ xs) (λ r. blank_stops Minus (xs ++ r)) (laid_blank 32 ts xs refl l)
laid_first_sign false ts xs l = l

quiet_further : (ts : List Term) (rest : List ℕ) → Quiet rest → Quiet (further_text ts ++ rest)
quiet_further [] rest q = q
quiet_further (t ∷ ts) rest q = by t.minus
  where
    by : (m : Bool) → Quiet (((if m then codes " - " else codes " + ") ++ (term_text t ++ further_text ts)) ++ rest)
    by true = refl
    by false = refl

laid_summand : (s : Summand) → IsReducedWeight s.coefficient → IsWritable s.formula → Laid (term_tokens (canonical_term s)) (term_text (canonical_term s))
laid_summand s h k =
    laid_term (is_negative s.coefficient.num) (canonical_numeral (size_of s.coefficient)) (canonical_formula s.formula) (numbers GREATEST_NUMBER (size_of s.coefficient) (omega arith) h).numeral (has_words s.formula k.names)

laid_further : (ss : List Summand) → AreWritable ss → Laid (further_tokens (canonical_terms ss)) (further_text (canonical_terms ss))
laid_further [] h = laid_none
laid_further (s ∷ ss) h =
    let t = canonical_term s in let ts = canonical_terms ss in
    laid_further_sign t.minus (term_tokens t ++ further_tokens ts) (term_text t ++ further_text ts)
    (laid_over (term_tokens t) (further_tokens ts) (term_text t) (further_text ts) (laid_summand s h.0.0 h.0.1) (laid_further ss h.1) (quiet_further ts))

laid_terms : (ss : List Summand) → AreWritable ss → Laid (terms_tokens (canonical_terms ss)) (terms_text (canonical_terms ss))
laid_terms [] h = laid_none
laid_terms (s ∷ ss) h =
    let t = canonical_term s in let ts = canonical_terms ss in
    laid_first_sign t.minus (term_tokens t ++ further_tokens ts) (term_text t ++ further_text ts)
    (laid_over (term_tokens t) (further_tokens ts) (term_text t) (further_text ts) (laid_summand s h.0.0 h.0.1) (laid_further ss h.1) (quiet_further ts))

-- lines

shut_sentence : (p : Prob) (r : Relation) → HasWords p.formula → HasGivenWords p.given → HasNumerals r → Shut (item_tokens (Sentence p r)) (item_text (Sentence p r))
shut_sentence p r h k i =
    subst (λ xs. Shut (item_tokens (Sentence p r)) xs) (append_assoc (prob_text p) (relation_text r) (codes ";\n"))
    (shut_end (prob_tokens p ++ relation_tokens r) (prob_text p ++ relation_text r)
    (laid_over (prob_tokens p) (relation_tokens r) (prob_text p) (relation_text r) (laid_prob p h k) (laid_relation r i) (λ rest q. quiet_relation_by numeral_spelling r rest)))

shut_linear : (ss : List Summand) (r : SignedRelation) → AreWritable ss → HasSignedNumerals r → Shut (item_tokens (Linear (canonical_terms ss) r)) (item_text (Linear (canonical_terms ss) r))
shut_linear ss r h i = let ts = canonical_terms ss in
    subst (λ xs. Shut (item_tokens (Linear ts r)) xs) (append_assoc (terms_text ts) (relation_text_by signed_text r) (codes ";\n"))
    (shut_end (terms_tokens ts ++ signed_relation_tokens r) (terms_text ts ++ relation_text_by signed_text r)
    (laid_over (terms_tokens ts) (signed_relation_tokens r) (terms_text ts) (relation_text_by signed_text r) (laid_terms ss h) (laid_signed_relation r i) (λ rest q. quiet_relation_by signed_text r rest)))

shut_query : (p : Prob) → HasWords p.formula → HasGivenWords p.given → Shut (item_tokens (Query p)) (item_text (Query p))
shut_query p h k = shut_end (Word (codes "query") ∷ prob_tokens p) (codes "query " ++ prob_text p)
    (laid_over (Word (codes "query") ∷ []) (prob_tokens p) (codes "query") (32 ∷ prob_text p) (laid_word (codes "query") (word_is (codes "query") refl))
    (laid_blank 32 (prob_tokens p) (prob_text p) refl (laid_prob p h k)) (λ rest q. refl))

-- items

has_given_words : (g : Option (formula.Formula meaning.Name)) → IsWritableGiven g → HasGivenWords (canonical_given g)
unfolding HasGivenWords
has_given_words None h = tt
has_given_words (Some f) h = has_words f h.names

given_within : (g : Option (formula.Formula meaning.Name)) → IsWritableGiven g → IsGiven (canonical_given g)
given_within None h = tt
given_within (Some f) h = (well_formed f h.names, h.nests)

given_meant : (g : Option (formula.Formula meaning.Name)) → g ≡ given_of (canonical_given g)
given_meant None = refl
given_meant (Some f) = ap Some (sym (formula_meant f))

-- a relation within the limits that states a side and values
record Related (s : Side) (r : Ratio) (upper : Option Ratio) (x : Relation) : Type 0 where
  numerals : HasNumerals x
  within : IsRelation x
  states : States x s r upper

related : (s : Side) (r : Ratio) (upper : Option Ratio) → IsReduced r → IsUpper s upper → Related s r upper (canonical_relation s r upper)
unfolding HasNumerals
related side.Exactly r None h u = let n = numbers 1 r (omega arith) h in record { numerals = n.numeral; within = n.within; states = (refl, n.meant, refl) }
related side.Exactly r (Some q) h u = absurd u
related side.AtMost r None h u = let n = numbers 1 r (omega arith) h in record { numerals = n.numeral; within = n.within; states = (refl, n.meant, refl) }
related side.AtMost r (Some q) h u = absurd u
related side.AtLeast r None h u = let n = numbers 1 r (omega arith) h in record { numerals = n.numeral; within = n.within; states = (refl, n.meant, refl) }
related side.AtLeast r (Some q) h u = let n = numbers 1 r (omega arith) h in let m = numbers 1 q (omega arith) u in
    record { numerals = (n.numeral, m.numeral); within = (n.within, m.within); states = (refl, n.meant, m.meant) }

sign_back : (z : ℤ) → z ≡ with_sign (is_negative z) (unsigned_abs z)
sign_back (pos n) = refl
sign_back (negsuc n) = refl

-- a number of a linear sentence
record Weighs (r : SignedRatio) : Type 0 where
  numeral : IsNumeral (canonical_numeral (size_of r))
  within : IsWeight (canonical_numeral (size_of r))
  meant : IsSignedValue (is_negative r.num) (canonical_numeral (size_of r)) r

weighs : (r : SignedRatio) → IsReducedWeight r → Weighs r
weighs r h = let n = numbers GREATEST_NUMBER (size_of r) (omega arith) h in
    record { numeral = n.numeral; within = n.within; meant = record { size = n.meant; sign = sign_back r.num } }

record SumRelated (s : Side) (r : SignedRatio) (upper : Option SignedRatio) (x : SignedRelation) : Type 0 where
  numerals : HasSignedNumerals x
  within : IsSignedRelation x
  states : StatesSum x s r upper

sum_related : (s : Side) (r : SignedRatio) (upper : Option SignedRatio) → IsReducedWeight r → IsSumUpper s upper → SumRelated s r upper (canonical_sum_relation s r upper)
unfolding HasSignedNumerals
sum_related side.Exactly r None h u = let n = weighs r h in record { numerals = n.numeral; within = n.within; states = (refl, n.meant, refl) }
sum_related side.Exactly r (Some q) h u = absurd u
sum_related side.AtMost r None h u = let n = weighs r h in record { numerals = n.numeral; within = n.within; states = (refl, n.meant, refl) }
sum_related side.AtMost r (Some q) h u = absurd u
sum_related side.AtLeast r None h u = let n = weighs r h in record { numerals = n.numeral; within = n.within; states = (refl, n.meant, refl) }
sum_related side.AtLeast r (Some q) h u = let n = weighs r h in let m = weighs q u in
    record { numerals = (n.numeral, m.numeral); within = (n.within, m.within); states = (refl, n.meant, m.meant) }

summands_meant : (ss : List Summand) → AreWritable ss → AreSummands (canonical_terms ss) ss
summands_meant [] h = tt
summands_meant (s ∷ ss) h = (record { coefficient = (weighs s.coefficient h.0.0).meant; formula = sym (formula_meant s.formula) }, summands_meant ss h.1)

terms_within : (ss : List Summand) → AreWritable ss → AreTerms (canonical_terms ss)
terms_within [] h = tt
terms_within (s ∷ ss) h = (record { coefficient = (weighs s.coefficient h.0.0).within; formula = well_formed s.formula h.0.1.names; nests = h.0.1.nests }, terms_within ss h.1)

terms_linear : (ss : List Summand) → 1 ≤ length ss → IsLinear (canonical_terms ss)
terms_linear [] h = absurd (omega (arith, h))
terms_linear (s ∷ []) h = by (is_negative s.coefficient.num)
  where
    by : (b : Bool) → b || true ≡ true
    by true = refl
    by false = refl
terms_linear (s ∷ t ∷ ss) h = tt

as_many : (ss : List Summand) → length ss ≡ length (canonical_terms ss)
as_many [] = refl
as_many (s ∷ ss) = ap suc (as_many ss)

prob_within : (f : formula.Formula meaning.Name) (g : Option (formula.Formula meaning.Name)) → IsWritable f → IsWritableGiven g → IsProb (canonical_prob f g)
prob_within f g h k = record { formula = well_formed f h.names; nests = h.nests; given = given_within g k }

-- the version has the item
abbrev Has : Version → Item → Type 0
Has v (Stated (meaning.Linear s)) = has_linear v ≡ true
Has v (Stated (meaning.Plain s)) = Unit {0}
Has v (Asked q) = Unit {0}

abbrev HasAll : Version → List Item → Type 0
HasAll v [] = Unit {0}
HasAll v (i ∷ is) = Has v i × HasAll v is

has_all : (items : List Item) → HasAll Two items
has_all [] = tt
has_all (Stated (meaning.Linear s) ∷ is) = (refl, has_all is)
has_all (Stated (meaning.Plain s) ∷ is) = (tt, has_all is)
has_all (Asked q ∷ is) = (tt, has_all is)

version_has : (items : List Item) → HasAll (version_for items) items
version_has [] = tt
version_has (Stated (meaning.Linear s) ∷ is) = (refl, has_all is)
version_has (Stated (meaning.Plain s) ∷ is) = (tt, version_has is)
version_has (Asked q ∷ is) = (tt, version_has is)

-- an item as it is written is within the limits and means the item, and its line is its tokens
record Written (v : Version) (i : Item) : Type 0 where
  within : IsWellFormedItem v (canonical_item i)
  meant : IsItem (canonical_item i) i
  line : Shut (item_tokens (canonical_item i)) (item_text (canonical_item i))

written : (v : Version) (i : Item) → Has v i → IsLawfulItem i → Written v i
written v (Stated (meaning.Plain s)) p h = let r = related s.side s.value s.upper h.2 h.3 in record {
  within = (prob_within s.formula s.given h.0 h.1, r.within);
  meant = record { formula = sym (formula_meant s.formula); given = given_meant s.given; stated = r.states };
  line = shut_sentence (canonical_prob s.formula s.given) (canonical_relation s.side s.value s.upper) (has_words s.formula h.0.names) (has_given_words s.given h.1) r.numerals;
}
written v (Stated (meaning.Linear s)) p h = let r = sum_related s.side s.value s.upper h.value h.upper in record {
  within = record { version = p; linear = terms_linear s.terms h.some; few = subst (λ n. n ≤ MOST_TERMS) (as_many s.terms) h.few; terms = terms_within s.terms h.terms; relation = r.within };
  meant = record { terms = summands_meant s.terms h.terms; stated = r.states };
  line = shut_linear s.terms (canonical_sum_relation s.side s.value s.upper) h.terms r.numerals;
}
written v (Asked q) p h = record {
  within = prob_within q.formula q.given h.0 h.1;
  meant = λ i. record { formula = sym (formula_meant q.formula) i; given = given_meant q.given i };
  line = shut_query (canonical_prob q.formula q.given) (has_words q.formula h.0.names) (has_given_words q.given h.1);
}

all_within : (v : Version) (items : List Item) → HasAll v items → AreLawful items → AreWellFormedItems v (canonical_items items)
all_within v [] p h = tt
all_within v (i ∷ is) p h = ((written v i p.0 h.0).within, all_within v is p.1 h.1)

all_meant : (v : Version) (items : List Item) → HasAll v items → AreLawful items → AreItems (canonical_items items) items
all_meant v [] p h = tt
all_meant v (i ∷ is) p h = ((written v i p.0 h.0).meant, all_meant v is p.1 h.1)

all_lines : (v : Version) (items : List Item) → HasAll v items → AreLawful items → Shut (items_tokens (canonical_items items)) (items_text (canonical_items items))
all_lines v [] p h = shut_none
all_lines v (i ∷ is) p h =
    shut_over (item_tokens (canonical_item i)) (items_tokens (canonical_items is)) (item_text (canonical_item i)) (items_text (canonical_items is)) (written v i p.0 h.0).line (all_lines v is p.1 h.1)

first_line_by : (ds : List ℕ) → AreDigits ds → Shut (Word (codes "psat") ∷ Number (Whole ds) ∷ Sign Semicolon ∷ []) ((codes "psat" ++ 32 ∷ ds) ++ codes ";\n")
first_line_by ds i = shut_end (Word (codes "psat") ∷ Number (Whole ds) ∷ []) (codes "psat" ++ 32 ∷ ds)
    (laid_over (Word (codes "psat") ∷ []) (Number (Whole ds) ∷ []) (codes "psat") (32 ∷ ds) (laid_word (codes "psat") (word_is (codes "psat") refl))
    (laid_blank 32 (Number (Whole ds) ∷ []) ds refl (laid_token (Number (Whole ds)) i)) (λ rest q. refl))

first_line : (v : Version) → Shut (Word (codes "psat") ∷ Number (Whole (version_digits v)) ∷ Sign Semicolon ∷ []) (codes "psat " ++ (version_digits v ++ codes ";\n"))
first_line One = first_line_by (codes "1") (refl, tt)
first_line Two = first_line_by (codes "2") (refl, tt)

last_line : Shut (Word (codes "end") ∷ Sign Semicolon ∷ []) (codes "end;\n")
last_line = shut_end (Word (codes "end") ∷ []) (codes "end") (laid_word (codes "end") (word_is (codes "end") refl))

-- the text of items in a version
abbrev pub text_in : Version → List Item → List ℕ
text_in v items = (codes "psat " ++ (version_digits v ++ codes ";\n")) ++ (items_text (canonical_items items) ++ codes "end;\n")

whole : (v : Version) (items : List Item) → HasAll v items → AreLawful items → Shut (text_tokens (record { version = v; items = canonical_items items })) (text_in v items)
whole v items p h = let es = canonical_items items in
    shut_over (Word (codes "psat") ∷ Number (Whole (version_digits v)) ∷ Sign Semicolon ∷ []) (items_tokens es ++ Word (codes "end") ∷ Sign Semicolon ∷ []) (codes "psat " ++ (version_digits v ++ codes ";\n")) (items_text es ++ codes "end;\n") (first_line v)
    (shut_over (items_tokens es) (Word (codes "end") ∷ Sign Semicolon ∷ []) (items_text es) (codes "end;\n") (all_lines v items p h) last_line)

-- the text of lawful items in a version that has them means them, up to its end
front_in : (v : Version) (items : List Item) → HasAll v items → AreLawful items → IsFront (text_in v items) items (length (text_in v items))
front_in v items p h = let w = whole v items p h in record {
  text = record {
    pieces = w.pieces;
    rest = [];
    written = record { version = v; items = canonical_items items };
    is = sym (append-nil (texts w.pieces) ∙ w.texts_are);
    cuts = w.cuts [];
    derived = w.tokens_are;
    within = all_within v items p h;
    bare = tt;
    place_is = ap length (sym w.texts_are);
  };
  meant = all_meant v items p h;
}

-- the canonical text of lawful items is a text that means them, up to its end
pub canonical_front : (items : List Item) → AreLawful items → IsFront (canonical_text items) items (length (canonical_text items))
canonical_front items h = front_in (version_for items) items (version_has items) h

-- and so is the same with version 2 in its first line
pub front_in_two : (items : List Item) → AreLawful items → IsFront (text_in Two items) items (length (text_in Two items))
front_in_two items h = front_in Two items (has_all items) h
