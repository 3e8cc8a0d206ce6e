-- Where the longest token ends.
use Rattle.std.proofs.Common.{◌≡◌, ℕ, ◌≤◌, true, false, List, [], ◌∷◌, ◌++◌, length, refl, sym, ap, subst, ◌∙◌, arith, append_assoc, length-append}
use Rattle.std.specs.Prelude.{◌==◌}
use Rattle.ps_text.specs.Tokens.{Token, Word, Number, Sign, Symbol, Arrow, Minus, Numeral, Whole, Quotient, Decimal, is_letter, is_digit, is_word_byte, IsWord, AreDigits, IsNumeral, IsToken, numeral_spelling, spelling, symbol_spelling, IsLongest}
use Rattle.ps_text.proofs.Spans.{starts, starts_behind, false_true, refute, both, same_byte, span_le, span_same, word-push, digits-push, digits_pass, word_passes, word_starts, digits_start, not_both}
use Rattle.ps_text.proofs.Symbols.{SymbolStops, symbol_no_letter, symbol_no_digit, symbol_le}

-- a numeral ends there
abbrev pub NumeralStops : Numeral → List ℕ → Type 0
NumeralStops (Whole ds) after = (starts is_digit after ≡ false) × (starts_behind 47 after ≡ false) × (starts_behind 46 after ≡ false)
NumeralStops (Quotient ds es) after = starts is_digit after ≡ false
NumeralStops (Decimal ds es) after = starts is_digit after ≡ false

-- a token ends there: before these bytes none goes on
abbrev pub Stops : Token → List ℕ → Type 0
Stops (Word w) after = starts is_word_byte after ≡ false
Stops (Number n) after = NumeralStops n after
Stops (Sign s) after = SymbolStops s after

pub IsLongest-def : (t : Token) (after : List ℕ) → ((u : Token) (more : List ℕ) → IsToken u → spelling u ++ more ≡ spelling t ++ after → length (spelling u) ≤ length (spelling t)) → IsLongest t after
unfolding IsLongest
IsLongest-def t after h = h

pub IsLongest-at : (t : Token) (after : List ℕ) → IsLongest t after → (u : Token) (more : List ℕ) → IsToken u → spelling u ++ more ≡ spelling t ++ after → length (spelling u) ≤ length (spelling t)
unfolding IsLongest
IsLongest-at t after h = h

no_word : (w after : List ℕ) → IsWord w → IsLongest (Word w) after → starts is_word_byte after ≡ false
no_word w [] t l = refl
no_word w (b ∷ bs) t l = refute (is_word_byte b) (λ h. let le = IsLongest-at (Word w) (b ∷ bs) l (Word (w ++ b ∷ [])) bs (word-push w b t h) (append_assoc w (b ∷ []) bs) in let len = length-append w (b ∷ []) in omega arith)

no_digit : (ds after : List ℕ) → AreDigits ds → IsLongest (Number (Whole ds)) after → starts is_digit after ≡ false
no_digit w [] t l = refl
no_digit w (b ∷ bs) t l = refute (is_digit b) (λ h. let le = IsLongest-at (Number (Whole w)) (b ∷ bs) l (Number (Whole (w ++ b ∷ []))) bs (digits-push w b t h) (append_assoc w (b ∷ []) bs) in let len = length-append w (b ∷ []) in omega arith)

-- digits behind a separator would go on
no_behind : (c : ℕ) (ds after : List ℕ) → IsLongest (Number (Whole ds)) after
    → ((d : ℕ) → is_digit d ≡ true → (u : Token) × (IsToken u) × (spelling u ≡ ds ++ c ∷ d ∷ [])) → starts_behind c after ≡ false
no_behind c w [] l f = refl
no_behind c w (b ∷ []) l f = refute (starts_behind c (b ∷ [])) (λ h. false_true refl (both (b == c) false h).1)
no_behind c w (b ∷ d ∷ bs) l f = refute (starts_behind c (b ∷ d ∷ bs)) (λ h.
    let p = both (b == c) (is_digit d) h in
    let same : b ≡ c = same_byte b c p.0 in
    let t = f d p.1 in
    let e : spelling t.0 ++ bs ≡ w ++ b ∷ d ∷ bs = ap (λ x. x ++ bs) t.2 ∙ append_assoc w (c ∷ d ∷ []) bs ∙ ap (λ x. w ++ x ∷ d ∷ bs) (sym same) in
    let le = IsLongest-at (Number (Whole w)) (b ∷ d ∷ bs) l t.0 bs t.1 e in
    let len = ap length t.2 in let len2 = length-append w (c ∷ d ∷ []) in omega arith)

-- more digits behind the separator would go on
no_more : (t : Token) (c : ℕ) (ds es after : List ℕ) → spelling t ≡ ds ++ c ∷ es → AreDigits es → IsLongest t after
    → ((xs : List ℕ) → AreDigits xs → (u : Token) × (IsToken u) × (spelling u ≡ ds ++ c ∷ xs)) → starts is_digit after ≡ false
no_more t c ds es [] s i l f = refl
no_more t c ds es (b ∷ bs) s i l f = refute (is_digit b) (λ h.
    let u = f (es ++ b ∷ []) (digits-push es b i h) in
    let grouped : (ds ++ c ∷ (es ++ b ∷ [])) ++ bs ≡ (ds ++ c ∷ es) ++ b ∷ bs = simp append_assoc in
    let e : spelling u.0 ++ bs ≡ spelling t ++ b ∷ bs = ap (λ x. x ++ bs) u.2 ∙ grouped ∙ ap (λ x. x ++ b ∷ bs) (sym s) in
    let le = IsLongest-at t (b ∷ bs) l u.0 bs u.1 e in
    let len = ap length u.2 in let len2 = ap length s in let len3 = length-append ds (c ∷ (es ++ b ∷ [])) in let len4 = length-append es (b ∷ []) in let len5 = length-append ds (c ∷ es) in omega arith)

numeral_stops : (n : Numeral) (after : List ℕ) → IsNumeral n → IsLongest (Number n) after → NumeralStops n after
numeral_stops (Whole ds) after i l = (
  no_digit ds after i l,
  no_behind 47 ds after l (λ d h. (Number (Quotient ds (d ∷ [])), (i, (h, tt)), refl)),
  no_behind 46 ds after l (λ d h. (Number (Decimal ds (d ∷ [])), (i, (h, tt)), refl)),
)
numeral_stops (Quotient ds es) after i l = no_more (Number (Quotient ds es)) 47 ds es after refl i.1 l (λ xs h. (Number (Quotient ds xs), (i.0, h), refl))
numeral_stops (Decimal ds es) after i l = no_more (Number (Decimal ds es)) 46 ds es after refl i.1 l (λ xs h. (Number (Decimal ds xs), (i.0, h), refl))

-- a `>` behind a `-` would go on
no_arrow : (after : List ℕ) → IsLongest (Sign Minus) after → starts (λ b. b == 62) after ≡ false
no_arrow [] l = refl
no_arrow (b ∷ bs) l = refute (b == 62) (λ h. let le = IsLongest-at (Sign Minus) (b ∷ bs) l (Sign Arrow) bs tt (ap (λ x. 45 ∷ x ∷ bs) (sym (same_byte b 62 h))) in omega arith)

symbol_stops : (s : Symbol) (after : List ℕ) → IsLongest (Sign s) after → SymbolStops s after
symbol_stops Minus after l = no_arrow after l
symbol_stops s after l = tt

-- behind the longest token none goes on
pub longest_stops : (t : Token) (after : List ℕ) → IsToken t → IsLongest t after → Stops t after
longest_stops (Word w) after t l = no_word w after t l
longest_stops (Number n) after t l = numeral_stops n after t l
longest_stops (Sign s) after t l = symbol_stops s after l

-- the first byte of what begins with a digit or with a letter is no symbol's
pub symbol_apart : (s : Symbol) (bytes after : List ℕ) → bytes ≡ symbol_spelling s ++ after → starts is_letter bytes ≡ true → ⊥
symbol_apart s bytes after e l = false_true (symbol_no_letter s after) (rw e at l)

pub symbol_apart_digit : (s : Symbol) (bytes after : List ℕ) → bytes ≡ symbol_spelling s ++ after → starts is_digit bytes ≡ true → ⊥
symbol_apart_digit s bytes after e l = false_true (symbol_no_digit s after) (rw e at l)

pub numeral_starts : (n : Numeral) (more : List ℕ) → IsNumeral n → starts is_digit (numeral_spelling n ++ more) ≡ true
numeral_starts (Whole ds) more i = digits_start ds more i
numeral_starts (Quotient ds es) more i = rw (append_assoc ds (47 ∷ es) more) (digits_start ds (47 ∷ es ++ more) i.0)
numeral_starts (Decimal ds es) more i = rw (append_assoc ds (46 ∷ es) more) (digits_start ds (46 ∷ es ++ more) i.0)

-- digits, a separator and digits against digits alone
one_behind : (c : ℕ) (w x ds more after : List ℕ) → is_digit c ≡ false → (c == c) ≡ true → AreDigits w → AreDigits x → AreDigits ds → starts is_digit after ≡ false → starts_behind c after ≡ false
    → (w ++ c ∷ x) ++ more ≡ ds ++ after → ⊥
one_behind c w x ds more after n k i j d s b e =
    let same = span_same is_digit w ds (c ∷ x ++ more) after (digits_pass w i) (digits_pass ds d) n s (sym (append_assoc w (c ∷ x) more) ∙ e) in
    let h : starts_behind c (c ∷ x ++ more) ≡ true = rw (k, digits_start x more j) refl in
    false_true b (subst (λ bytes. starts_behind c bytes ≡ true) same.1 h)

-- both have a separator and digits behind it
two_behind : (c k : ℕ) (w x ds es more after : List ℕ) → is_digit c ≡ false → is_digit k ≡ false → AreDigits w → AreDigits x → AreDigits ds → starts is_digit after ≡ false
    → (w ++ c ∷ x) ++ more ≡ (ds ++ k ∷ es) ++ after → length (w ++ c ∷ x) ≤ length (ds ++ k ∷ es)
two_behind c k w x ds es more after n m i j d s e =
    let same = span_same is_digit w ds (c ∷ x ++ more) (k ∷ es ++ after) (digits_pass w i) (digits_pass ds d) n m (sym (append_assoc w (c ∷ x) more) ∙ e ∙ append_assoc ds (k ∷ es) after) in
    let tails = same.1 in
    let le = span_le is_digit x es more after (digits_pass x j) s cc in
    let len = length-append w (c ∷ x) in let len2 = length-append ds (k ∷ es) in let eq = ap length same.0 in omega arith

none_behind : (k : ℕ) (w ds es more after : List ℕ) → is_digit k ≡ false → AreDigits w → w ++ more ≡ (ds ++ k ∷ es) ++ after → length w ≤ length (ds ++ k ∷ es)
none_behind k w ds es more after n i e =
    let le = span_le is_digit w ds more (k ∷ es ++ after) (digits_pass w i) n (e ∙ append_assoc ds (k ∷ es) after) in
    let len = length-append ds (k ∷ es) in omega arith

numeral_le : (u n : Numeral) (more after : List ℕ) → IsNumeral u → IsNumeral n → NumeralStops n after → numeral_spelling u ++ more ≡ numeral_spelling n ++ after
    → length (numeral_spelling u) ≤ length (numeral_spelling n)
numeral_le (Whole w) (Whole ds) more after i j s e = span_le is_digit w ds more after (digits_pass w i) s.0 e
numeral_le (Whole w) (Quotient ds es) more after i j s e = none_behind 47 w ds es more after refl i e
numeral_le (Whole w) (Decimal ds es) more after i j s e = none_behind 46 w ds es more after refl i e
numeral_le (Quotient w x) (Whole ds) more after i j s e = absurd (one_behind 47 w x ds more after refl refl i.0 i.1 j s.0 s.1 e)
numeral_le (Quotient w x) (Quotient ds es) more after i j s e = two_behind 47 47 w x ds es more after refl refl i.0 i.1 j.0 s e
numeral_le (Quotient w x) (Decimal ds es) more after i j s e = two_behind 47 46 w x ds es more after refl refl i.0 i.1 j.0 s e
numeral_le (Decimal w x) (Whole ds) more after i j s e = absurd (one_behind 46 w x ds more after refl refl i.0 i.1 j s.0 s.2 e)
numeral_le (Decimal w x) (Quotient ds es) more after i j s e = two_behind 46 47 w x ds es more after refl refl i.0 i.1 j.0 s e
numeral_le (Decimal w x) (Decimal ds es) more after i j s e = two_behind 46 46 w x ds es more after refl refl i.0 i.1 j.0 s e

last : (t : Token) (after : List ℕ) → IsToken t → Stops t after → (u : Token) (more : List ℕ) → IsToken u → spelling u ++ more ≡ spelling t ++ after → length (spelling u) ≤ length (spelling t)
last (Word x) after i s (Word w) more u e = span_le is_word_byte w x more after (word_passes w u) s e
last (Word x) after i s (Number n) more u e = absurd (not_both (numeral_spelling n ++ more) (rw e (word_starts x after i)) (numeral_starts n more u))
last (Word x) after i s (Sign b) more u e = absurd (symbol_apart b (x ++ after) more (sym e) (word_starts x after i))
last (Number n) after i s (Word w) more u e = absurd (not_both (w ++ more) (word_starts w more u) (rw e (numeral_starts n after i)))
last (Number n) after i s (Number m) more u e = numeral_le m n more after u i s e
last (Number n) after i s (Sign b) more u e = absurd (symbol_apart_digit b (numeral_spelling n ++ after) more (sym e) (numeral_starts n after i))
last (Sign a) after i s (Word w) more u e = absurd (symbol_apart a (w ++ more) after e (word_starts w more u))
last (Sign a) after i s (Number n) more u e = absurd (symbol_apart_digit a (numeral_spelling n ++ more) after e (numeral_starts n more u))
last (Sign a) after i s (Sign b) more u e = symbol_le b a more after s e

-- where none goes on the token is the longest
pub stops_longest : (t : Token) (after : List ℕ) → IsToken t → Stops t after → IsLongest t after
stops_longest t after i s = IsLongest-def t after (last t after i s)
