-- Bytes are cut into one list of pieces, and at most one text stands at their front.
use Rattle.std.proofs.Common.{◌≡◌, ℕ, true, false, not, ◌||◌, List, [], ◌∷◌, ◌++◌, length, refl, sym, ap, subst, ◌∙◌, arith, append_assoc, append-nil, true≢false}
use Rattle.std.proofs.lemmas.Bool.Decides.{nat_tests}
use Rattle.std.proofs.lemmas.Slice.Eq.{bytes_eq-Decides}
use Rattle.std.proofs.lemmas.List.{length-append}
use Rattle.std.specs.Prelude.{◌==◌}
use Rattle.ps_meaning.specs.Statements.{Item}
use Rattle.ps_text.specs.Tokens.{Token, Word, Number, Sign, Numeral, Whole, Quotient, Decimal, Open, Close, OpenBracket, CloseBracket, Comma, Semicolon, Bang, Ampersand, Bar, Arrow, DoubleArrow, Equals, GreaterEquals, LessEquals, Plus, Minus, is_letter, is_digit, IsToken, IsNumeral, IsLongest, spelling, numeral_spelling, symbol_spelling}
use Rattle.ps_text.specs.Pieces.{is_blank, Piece, Blank, Comment, Spelled, text, EndsLine, Fits, texts, Cuts, tokens, IsBare}
use Rattle.ps_text.specs.Grammar.{TextSyntax, IsWellFormedText, text_tokens}
use Rattle.ps_text.specs.Fronts.{IsTextFront, IsFront}
use Rattle.ps_text.proofs.Spans.{starts, refute, span_same, digits_pass, word_starts, not_both}
use Rattle.ps_text.proofs.Longest.{IsLongest-at, numeral_starts, symbol_apart, symbol_apart_digit}
use Rattle.ps_text.proofs.Symbols.{symbol_some}
use Rattle.ps_text.proofs.Signs.{the_sign}
use Rattle.ps_text.specs.PartialParses.{InPsat, InDone}
use Rattle.ps_text.proofs.Derived.{parsed_all}
use Rattle.ps_text.proofs.Readback.{parsed-append, text_back, text_once, done_once}

pub append_same : (xs ys a b : List ℕ) → length xs ≡ length ys → xs ++ a ≡ ys ++ b → (xs ≡ ys) × (a ≡ b)
append_same [] [] a b l e = (refl, e)
append_same [] (y ∷ ys) a b l e = absurd (omega (arith, l))
append_same (x ∷ xs) [] a b l e = absurd (omega (arith, l))
append_same (x ∷ xs) (y ∷ ys) a b l e = let t = append_same xs ys a b (omega (arith, l)) cc in (cc, t.1)

nil_cons : (x : ℕ) (xs : List ℕ) → [] ≡ x ∷ xs → ⊥
nil_cons x xs e = cc

heads : (x y : ℕ) (xs ys : List ℕ) → x ∷ xs ≡ y ∷ ys → x ≡ y
heads x y xs ys e = cc

tails : (x y : ℕ) (xs ys : List ℕ) → x ∷ xs ≡ y ∷ ys → xs ≡ ys
tails x y xs ys e = cc

numeral_once : (m n : Numeral) → IsNumeral m → IsNumeral n → numeral_spelling m ≡ numeral_spelling n → m ≡ n
numeral_once (Whole d) (Whole e) i j h = ap Whole h
numeral_once (Whole d) (Quotient e f) i j h = absurd (nil_cons 47 f (span_same is_digit d e [] (47 ∷ f) (digits_pass d i) (digits_pass e j.0) refl refl (append-nil d ∙ h)).1)
numeral_once (Whole d) (Decimal e f) i j h = absurd (nil_cons 46 f (span_same is_digit d e [] (46 ∷ f) (digits_pass d i) (digits_pass e j.0) refl refl (append-nil d ∙ h)).1)
numeral_once (Quotient d c) (Whole e) i j h = absurd (nil_cons 47 c (sym (span_same is_digit d e (47 ∷ c) [] (digits_pass d i.0) (digits_pass e j) refl refl (h ∙ sym (append-nil e))).1))
numeral_once (Decimal d c) (Whole e) i j h = absurd (nil_cons 46 c (sym (span_same is_digit d e (46 ∷ c) [] (digits_pass d i.0) (digits_pass e j) refl refl (h ∙ sym (append-nil e))).1))
numeral_once (Quotient d c) (Quotient e f) i j h =
    let s = span_same is_digit d e (47 ∷ c) (47 ∷ f) (digits_pass d i.0) (digits_pass e j.0) refl refl h in ap (λ x. Quotient x c) s.0 ∙ ap (Quotient e) (tails 47 47 c f s.1)
numeral_once (Decimal d c) (Decimal e f) i j h =
    let s = span_same is_digit d e (46 ∷ c) (46 ∷ f) (digits_pass d i.0) (digits_pass e j.0) refl refl h in ap (λ x. Decimal x c) s.0 ∙ ap (Decimal e) (tails 46 46 c f s.1)
numeral_once (Quotient d c) (Decimal e f) i j h =
    let s = span_same is_digit d e (47 ∷ c) (46 ∷ f) (digits_pass d i.0) (digits_pass e j.0) refl refl h in let k = heads 47 46 c f s.1 in absurd (omega (arith, k))
numeral_once (Decimal d c) (Quotient e f) i j h =
    let s = span_same is_digit d e (46 ∷ c) (47 ∷ f) (digits_pass d i.0) (digits_pass e j.0) refl refl h in let k = heads 46 47 c f s.1 in absurd (omega (arith, k))

letters : (w : List ℕ) → IsToken (Word w) → starts is_letter w ≡ true
letters w i = subst (λ z. starts is_letter z ≡ true) (append-nil w) (word_starts w [] i)

digits : (n : Numeral) → IsNumeral n → starts is_digit (numeral_spelling n) ≡ true
digits n i = subst (λ z. starts is_digit z ≡ true) (append-nil (numeral_spelling n)) (numeral_starts n [] i)

-- a token is known by its spelling
pub spelled_once : (t u : Token) → IsToken t → IsToken u → spelling t ≡ spelling u → t ≡ u
spelled_once (Word w) (Word x) i j e = ap Word e
spelled_once (Word w) (Number n) i j e = absurd (not_both w (letters w i) (subst (λ z. starts is_digit z ≡ true) (sym e) (digits n j)))
spelled_once (Word w) (Sign s) i j e = absurd (symbol_apart s w [] (e ∙ sym (append-nil (symbol_spelling s))) (letters w i))
spelled_once (Number n) (Word w) i j e = absurd (not_both w (letters w j) (subst (λ z. starts is_digit z ≡ true) e (digits n i)))
spelled_once (Number m) (Number n) i j e = ap Number (numeral_once m n i j e)
spelled_once (Number n) (Sign s) i j e = absurd (symbol_apart_digit s (numeral_spelling n) [] (e ∙ sym (append-nil (symbol_spelling s))) (digits n i))
spelled_once (Sign s) (Word w) i j e = absurd (symbol_apart s w [] (sym e ∙ sym (append-nil (symbol_spelling s))) (letters w j))
spelled_once (Sign s) (Number n) i j e = absurd (symbol_apart_digit s (numeral_spelling n) [] (sym e ∙ sym (append-nil (symbol_spelling s))) (digits n j))
spelled_once (Sign s) (Sign u) i j e = the_sign u (Sign s) ((bytes_eq-Decides (symbol_spelling s) (symbol_spelling u)).1 e)

bare_byte : (b : ℕ) (bs : List ℕ) → is_blank b ≡ false → (b == 35) ≡ false → IsBare (b ∷ bs)
bare_byte b bs h k = rw (h, k) refl

letter_bare : (b : ℕ) (bs : List ℕ) → is_letter b ≡ true → IsBare (b ∷ bs)
letter_bare b bs h = bare_byte b bs (refute (is_blank b) (λ e. grind (arith, nat_tests))) (refute (b == 35) (λ e. grind (arith, nat_tests)))

digit_bare : (b : ℕ) (bs : List ℕ) → is_digit b ≡ true → IsBare (b ∷ bs)
digit_bare b bs h = bare_byte b bs (refute (is_blank b) (λ e. grind (arith, nat_tests))) (refute (b == 35) (λ e. grind (arith, nat_tests)))

-- a token begins with no blank and no comment
pub bare_token : (t : Token) (after : List ℕ) → IsToken t → IsBare (spelling t ++ after)
bare_token (Word []) after i = absurd i
bare_token (Word (b ∷ bs)) after i = letter_bare b (bs ++ after) i.0
bare_token (Number (Whole [])) after i = absurd i
bare_token (Number (Whole (b ∷ bs))) after i = digit_bare b (bs ++ after) i.0
bare_token (Number (Quotient [] es)) after i = absurd i.0
bare_token (Number (Quotient (b ∷ bs) es)) after i = digit_bare b ((bs ++ 47 ∷ es) ++ after) i.0.0
bare_token (Number (Decimal [] es)) after i = absurd i.0
bare_token (Number (Decimal (b ∷ bs) es)) after i = digit_bare b ((bs ++ 46 ∷ es) ++ after) i.0.0
bare_token (Sign Open) after i = refl
bare_token (Sign Close) after i = refl
bare_token (Sign OpenBracket) after i = refl
bare_token (Sign CloseBracket) after i = refl
bare_token (Sign Comma) after i = refl
bare_token (Sign Semicolon) after i = refl
bare_token (Sign Bang) after i = refl
bare_token (Sign Ampersand) after i = refl
bare_token (Sign Bar) after i = refl
bare_token (Sign Arrow) after i = refl
bare_token (Sign DoubleArrow) after i = refl
bare_token (Sign Equals) after i = refl
bare_token (Sign GreaterEquals) after i = refl
bare_token (Sign LessEquals) after i = refl
bare_token (Sign Plus) after i = refl
bare_token (Sign Minus) after i = refl

-- a token has bytes
pub some_bytes : (t : Token) (after : List ℕ) → IsToken t → [] ≡ spelling t ++ after → ⊥
some_bytes (Word []) after i e = i
some_bytes (Word (b ∷ bs)) after i e = absurd (nil_cons b (bs ++ after) e)
some_bytes (Number (Whole [])) after i e = i
some_bytes (Number (Whole (b ∷ bs))) after i e = absurd (nil_cons b (bs ++ after) e)
some_bytes (Number (Quotient [] es)) after i e = i.0
some_bytes (Number (Quotient (b ∷ bs) es)) after i e = absurd (nil_cons b ((bs ++ 47 ∷ es) ++ after) e)
some_bytes (Number (Decimal [] es)) after i e = i.0
some_bytes (Number (Decimal (b ∷ bs) es)) after i e = absurd (nil_cons b ((bs ++ 46 ∷ es) ++ after) e)
some_bytes (Sign s) after i e = let l = ap length e in let a = length-append (symbol_spelling s) after in let p = symbol_some s in absurd (omega arith)

-- neither a blank nor a comment stands at the front of bare bytes
pub not_blank : (c : ℕ) (a bytes : List ℕ) → is_blank c ≡ true → c ∷ a ≡ bytes → IsBare bytes → ⊥
not_blank c a bytes f e i = let j : IsBare (c ∷ a) = subst IsBare (sym e) i in true≢false (sym j ∙ ap (λ z. not (z || c == 35)) f)

pub not_comment : (a bytes : List ℕ) → 35 ∷ a ≡ bytes → IsBare bytes → ⊥
not_comment a bytes e i = let j : IsBare (35 ∷ a) = subst IsBare (sym e) i in true≢false (sym j)

stops : (after : List ℕ) → EndsLine after → starts (λ b. not (b == 10)) after ≡ false
stops [] h = refl
stops (b ∷ bs) h = ap (λ c. not (c == 10)) h

-- what stands at the front is one piece
pub same_piece : (x y : Piece) (a b : List ℕ) → Fits x a → Fits y b → text x ++ a ≡ text y ++ b → (x ≡ y) × (a ≡ b)
same_piece (Blank c) (Blank d) a b f g e = (ap Blank (heads c d a b e), tails c d a b e)
same_piece (Blank c) (Comment ds) a b f g e = absurd (true≢false (sym f ∙ ap is_blank (heads c 35 a (ds ++ b) e)))
same_piece (Blank c) (Spelled t) a b f g e = absurd (not_blank c a (spelling t ++ b) f e (bare_token t b g.0))
same_piece (Comment cs) (Blank d) a b f g e = absurd (true≢false (sym g ∙ ap is_blank (sym (heads 35 d (cs ++ a) b e))))
same_piece (Comment cs) (Comment ds) a b f g e =
    let s = span_same (λ b. not (b == 10)) cs ds a b f.0 g.0 (stops a f.1) (stops b g.1) (tails 35 35 (cs ++ a) (ds ++ b) e) in (ap Comment s.0, s.1)
same_piece (Comment cs) (Spelled t) a b f g e = absurd (not_comment (cs ++ a) (spelling t ++ b) e (bare_token t b g.0))
same_piece (Spelled t) (Blank d) a b f g e = absurd (not_blank d b (spelling t ++ a) g (sym e) (bare_token t a f.0))
same_piece (Spelled t) (Comment ds) a b f g e = absurd (not_comment (ds ++ b) (spelling t ++ a) (sym e) (bare_token t a f.0))
same_piece (Spelled t) (Spelled u) a b f g e =
    let l = IsLongest-at t a f.1 u b g.0 (sym e) in
    let m = IsLongest-at u b g.1 t a f.0 e in
    let s = append_same (spelling t) (spelling u) a b (omega (arith, l, m)) e in (ap Spelled (spelled_once t u f.0 g.0 s.0), s.1)

-- the longest token at the front
pub record Begins (bytes : List ℕ) (t : Token) : Type 0 where
  pub behind : List ℕ
  pub is : bytes ≡ spelling t ++ behind
  pub spelled : IsToken t
  pub longest : IsLongest t behind

-- two lists of pieces are the same, or one has the other's tokens and more, of which the first stands behind the other's
pub data Order (ps qs : List Piece) (rest others : List ℕ) : Type 0 where
  Same : (is : ps ≡ qs) → Order ps qs rest others
  Longer : (t : Token) (more : List Token) (is : tokens ps ≡ tokens qs ++ t ∷ more) (next : Begins others t) → Order ps qs rest others
  Shorter : (t : Token) (more : List Token) (is : tokens qs ≡ tokens ps ++ t ∷ more) (next : Begins rest t) → Order ps qs rest others

grow : (x : Piece) (ps qs : List Piece) (rest others : List ℕ) → Order ps qs rest others → Order (x ∷ ps) (x ∷ qs) rest others
grow x ps qs rest others (Same is) = Same (ap (λ zs. x ∷ zs) is)
grow (Blank c) ps qs rest others (Longer t more is next) = Longer t more is next
grow (Blank c) ps qs rest others (Shorter t more is next) = Shorter t more is next
grow (Comment c) ps qs rest others (Longer t more is next) = Longer t more is next
grow (Comment c) ps qs rest others (Shorter t more is next) = Shorter t more is next
grow (Spelled u) ps qs rest others (Longer t more is next) = Longer t more (ap (λ ts. u ∷ ts) is) next
grow (Spelled u) ps qs rest others (Shorter t more is next) = Shorter t more (ap (λ ts. u ∷ ts) is) next

pub order : (ps qs : List Piece) (rest others : List ℕ) → Cuts ps rest → Cuts qs others → IsBare rest → IsBare others → texts ps ++ rest ≡ texts qs ++ others → Order ps qs rest others
order [] [] rest others c d i j e = Same refl
order [] (Blank b ∷ qs) rest others c d i j e = absurd (not_blank b (texts qs ++ others) rest d.0 (sym e) i)
order [] (Comment b ∷ qs) rest others c d i j e = absurd (not_comment ((b ++ texts qs) ++ others) rest (sym e) i)
order [] (Spelled t ∷ qs) rest others c d i j e =
    Shorter t (tokens qs) refl (record { behind = texts qs ++ others; is = e ∙ append_assoc (spelling t) (texts qs) others; spelled = d.0.0; longest = d.0.1 })
order (Blank b ∷ ps) [] rest others c d i j e = absurd (not_blank b (texts ps ++ rest) others c.0 e j)
order (Comment b ∷ ps) [] rest others c d i j e = absurd (not_comment ((b ++ texts ps) ++ rest) others e j)
order (Spelled t ∷ ps) [] rest others c d i j e =
    Longer t (tokens ps) refl (record { behind = texts ps ++ rest; is = sym e ∙ append_assoc (spelling t) (texts ps) rest; spelled = c.0.0; longest = c.0.1 })
order (x ∷ ps) (y ∷ qs) rest others c d i j e =
    let s = same_piece x y (texts ps ++ rest) (texts qs ++ others) c.0 d.0 (sym (append_assoc (text x) (texts ps) rest) ∙ e ∙ append_assoc (text y) (texts qs) others) in
    subst (λ z. Order (x ∷ ps) (z ∷ qs) rest others) s.0 (grow x ps qs rest others (order ps qs rest others c.1 d.1 i j s.1))

done_stays : (es : TextSyntax) (ts : List Token) → parsed_all (InDone es) ts ≡ InDone es
done_stays es [] = refl
done_stays es (t ∷ ts) = done_stays es ts

-- no text has another's tokens and more
no_longer : (es fs : TextSyntax) (t : Token) (more : List Token) → IsWellFormedText es → IsWellFormedText fs → text_tokens es ≡ text_tokens fs ++ t ∷ more → ⊥
no_longer es fs t more i j e =
    let p = sym (text_back es i) ∙ ap (parsed_all InPsat) e ∙ parsed-append InPsat (text_tokens fs) (t ∷ more) ∙ ap (λ x. parsed_all x (t ∷ more)) (text_back fs j) ∙ done_stays fs (t ∷ more) in
    let same : es ≡ fs = done_once es fs p in
    let l = ap length (sym (ap text_tokens same) ∙ e) in
    let a = length-append (text_tokens fs) (t ∷ more) in
    absurd (omega (arith, l, a))

-- one text at most stands at the front
pub record IsSame {bytes : List ℕ} {n m : ℕ} (f : IsTextFront bytes n) (g : IsTextFront bytes m) : Type 0 where
  pub written : f.written ≡ g.written
  pub place : n ≡ m

pub front_once : {bytes : List ℕ} {n m : ℕ} (f : IsTextFront bytes n) (g : IsTextFront bytes m) → IsSame f g
front_once {bytes} {n} {m} f g = by (order f.pieces g.pieces f.rest g.rest f.cuts g.cuts f.bare g.bare (sym f.is ∙ g.is))
  where
    by : Order f.pieces g.pieces f.rest g.rest → IsSame f g
    by (Same is) = record {
      written = text_once f.written g.written f.within g.within (sym f.derived ∙ ap tokens is ∙ g.derived);
      place = f.place_is ∙ ap (λ ps. length (texts ps)) is ∙ sym g.place_is;
    }
    by (Longer t more is next) = absurd (no_longer f.written g.written t more f.within g.within (sym f.derived ∙ is ∙ ap (λ ts. ts ++ t ∷ more) g.derived))
    by (Shorter t more is next) = absurd (no_longer g.written f.written t more g.within f.within (sym g.derived ∙ is ∙ ap (λ ts. ts ++ t ∷ more) f.derived))

pub front_place : (bytes : List ℕ) (is js : List Item) (n m : ℕ) → IsFront bytes is n → IsFront bytes js m → n ≡ m
front_place bytes is js n m f g = (front_once f.text g.text).place
