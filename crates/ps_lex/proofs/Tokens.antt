-- Whole tokens, byte by byte.
use Rattle.std.proofs.Common.{◌≡◌, ℕ, suc, ◌+◌, min, true, false, List, [], ◌∷◌, ◌++◌, length, take, refl, sym, ap, ◌∙◌, arith, append_assoc}
use Rattle.std.proofs.lemmas.Bool.Decides.{nat_tests}
use Rattle.std.specs.Prelude.{◌==◌}
use Rattle.ps_text.specs.Tokens as text
use Rattle.ps_text.specs.declared.symbol.Symbol.{Symbol}
use Rattle.ps_text.specs.declared.symbol.Symbol.TheVariants as symbol
use Rattle.ps_text.specs.Tokens.{IsToken, IsNumeral, is_letter, is_digit, numeral_spelling, symbol_spelling, spelling}
use Rattle.ps_text.specs.Pieces.{is_blank}
use Rattle.ps_text.proofs.Spans.{refute}
use Rattle.ps_lex.specs.declared.position.Position.{Position}
use Rattle.ps_lex.specs.declared.digits.Digits.{Digits}
use Rattle.ps_lex.specs.declared.mode.Mode.{Mode}
use Rattle.ps_lex.specs.declared.mode.Mode.TheVariants as mode
use Rattle.ps_lex.specs.Counted.{no_digits, with_digit, with_digits}
use Rattle.ps_lex.specs.Places.{behind}
use Rattle.ps_lex.specs.Seen.{behind_all}
use Rattle.ps_lex.specs.Lexing.{LexerState, begun, token_ended, with_byte, lexed}
use Rattle.ps_lex.proofs.Words.{state, one_at, word_lexed, whole_lexed, quotient_lexed, decimal_lexed}

-- what the last byte of a token stands in
abbrev pub mode_of : text.Token → Mode
mode_of (text.Word w) = mode.Word (take 33 w)
mode_of (text.Number (text.Whole ds)) = mode.Whole (with_digits no_digits ds)
mode_of (text.Number (text.Quotient ds es)) = mode.Quotient (with_digits no_digits ds) (with_digits no_digits es)
mode_of (text.Number (text.Decimal ds es)) = mode.Decimal (with_digits (with_digits no_digits ds) es) (min (length es) 7)
mode_of (text.Sign symbol.Minus) = mode.Minus
mode_of (text.Sign s) = mode.Sign s

pub letter_no_blank : (b : ℕ) → is_letter b ≡ true → is_blank b ≡ false
letter_no_blank b h = refute (is_blank b) (λ e. grind (arith, nat_tests))

pub letter_no_hash : (b : ℕ) → is_letter b ≡ true → (b == 35) ≡ false
letter_no_hash b h = grind (arith, nat_tests)

pub digit_no_blank : (b : ℕ) → is_digit b ≡ true → is_blank b ≡ false
digit_no_blank b h = refute (is_blank b) (λ e. grind (arith, nat_tests))

pub digit_no_hash : (b : ℕ) → is_digit b ≡ true → (b == 35) ≡ false
digit_no_hash b h = grind (arith, nat_tests)

digit_no_letter : (b : ℕ) → is_digit b ≡ true → is_letter b ≡ false
digit_no_letter b h = refute (is_letter b) (λ e. grind (arith, nat_tests))

pub word_begun : (b : ℕ) (p : Position) → is_letter b ≡ true → begun p b ≡ mode.Word (b ∷ [])
unfolding begun
word_begun b p h = rw (letter_no_blank b h, letter_no_hash b h, h) refl

pub number_begun : (b : ℕ) (p : Position) → is_digit b ≡ true → begun p b ≡ mode.Whole (with_digit no_digits b)
unfolding begun
number_begun b p h = rw (digit_no_blank b h, digit_no_hash b h, digit_no_letter b h, h) refl

-- the state behind a token's first byte
abbrev pub begun_at : Position → ℕ → LexerState
begun_at p b = state (begun p b) p (behind p b)

abbrev pub head_of : List ℕ → ℕ
head_of [] = 0
head_of (b ∷ bs) = b

abbrev pub tail_of : List ℕ → List ℕ
tail_of [] = []
tail_of (b ∷ bs) = bs

-- a digit, and a `/` or `.` with a digit behind it
behind_slash : (d : Digits) (b : ℕ) (after : List ℕ) (p here : Position) → is_digit b ≡ true
    → lexed (state (mode.Whole d) p here) (47 ∷ b ∷ after) ≡ lexed (state (mode.Quotient d (with_digit no_digits b)) p (behind (behind here 47) b)) after
behind_slash d b after p here h =
    one_at (mode.Whole d) (mode.Slash d here) 47 (b ∷ after) p here refl refl
    ∙ one_at (mode.Slash d here) (mode.Quotient d (with_digit no_digits b)) b after p (behind here 47) (rw h refl) refl

behind_point : (d : Digits) (b : ℕ) (after : List ℕ) (p here : Position) → is_digit b ≡ true
    → lexed (state (mode.Whole d) p here) (46 ∷ b ∷ after) ≡ lexed (state (mode.Decimal (with_digit d b) 1) p (behind (behind here 46) b)) after
behind_point d b after p here h =
    one_at (mode.Whole d) (mode.Point d here) 46 (b ∷ after) p here refl refl
    ∙ one_at (mode.Point d here) (mode.Decimal (with_digit d b) 1) b after p (behind here 46) (rw h refl) refl

pub behind_append : (p : Position) (xs ys : List ℕ) → behind_all p (xs ++ ys) ≡ behind_all (behind_all p xs) ys
behind_append p [] ys = refl
behind_append p (x ∷ xs) ys = behind_append (behind p x) xs ys

-- behind the first byte of a symbol
symbol_lexed : (s : Symbol) (after : List ℕ) (p : Position)
    → lexed (begun_at p (head_of (symbol_spelling s))) (tail_of (symbol_spelling s) ++ after) ≡ lexed (state (mode_of (text.Sign s)) p (behind_all p (symbol_spelling s))) after
unfolding lexed token_ended with_byte begun
symbol_lexed symbol.Open after p = refl
symbol_lexed symbol.Close after p = refl
symbol_lexed symbol.OpenBracket after p = refl
symbol_lexed symbol.CloseBracket after p = refl
symbol_lexed symbol.Comma after p = refl
symbol_lexed symbol.Semicolon after p = refl
symbol_lexed symbol.Bang after p = refl
symbol_lexed symbol.Ampersand after p = refl
symbol_lexed symbol.Bar after p = refl
symbol_lexed symbol.Arrow after p = refl
symbol_lexed symbol.DoubleArrow after p = refl
symbol_lexed symbol.Equals after p = refl
symbol_lexed symbol.GreaterEquals after p = refl
symbol_lexed symbol.LessEquals after p = refl
symbol_lexed symbol.Plus after p = refl
symbol_lexed symbol.Minus after p = refl

more_decimals : (n : ℕ) → min (1 + n) 7 ≡ min (suc n) 7
more_decimals n = omega arith

number_lexed : (n : text.Numeral) (after : List ℕ) (p : Position) → IsNumeral n
    → lexed (begun_at p (head_of (numeral_spelling n))) (tail_of (numeral_spelling n) ++ after) ≡ lexed (state (mode_of (text.Number n)) p (behind_all p (numeral_spelling n))) after
number_lexed (text.Whole (d ∷ ds)) after p i =
    ap (λ m. lexed (state m p (behind p d)) (ds ++ after)) (number_begun d p i.0)
    ∙ whole_lexed (with_digit no_digits d) ds after p (behind p d) i.1
number_lexed (text.Quotient (d ∷ ds) (e ∷ es)) after p i =
    ap (λ m. lexed (state m p (behind p d)) ((ds ++ 47 ∷ e ∷ es) ++ after)) (number_begun d p i.0.0)
    ∙ ap (λ bs. lexed (state (mode.Whole (with_digit no_digits d)) p (behind p d)) bs) (append_assoc ds (47 ∷ e ∷ es) after)
    ∙ whole_lexed (with_digit no_digits d) ds (47 ∷ e ∷ es ++ after) p (behind p d) i.0.1
    ∙ behind_slash (with_digits (with_digit no_digits d) ds) e (es ++ after) p (behind_all (behind p d) ds) i.1.0
    ∙ quotient_lexed (with_digits (with_digit no_digits d) ds) (with_digit no_digits e) es after p (behind (behind (behind_all (behind p d) ds) 47) e) i.1.1
    ∙ ap (λ h. lexed (state (mode_of (text.Number (text.Quotient (d ∷ ds) (e ∷ es)))) p h) after) (sym (behind_append (behind p d) ds (47 ∷ e ∷ es)))
number_lexed (text.Decimal (d ∷ ds) (e ∷ es)) after p i =
    ap (λ m. lexed (state m p (behind p d)) ((ds ++ 46 ∷ e ∷ es) ++ after)) (number_begun d p i.0.0)
    ∙ ap (λ bs. lexed (state (mode.Whole (with_digit no_digits d)) p (behind p d)) bs) (append_assoc ds (46 ∷ e ∷ es) after)
    ∙ whole_lexed (with_digit no_digits d) ds (46 ∷ e ∷ es ++ after) p (behind p d) i.0.1
    ∙ behind_point (with_digits (with_digit no_digits d) ds) e (es ++ after) p (behind_all (behind p d) ds) i.1.0
    ∙ decimal_lexed (with_digit (with_digits (with_digit no_digits d) ds) e) 1 es after p (behind (behind (behind_all (behind p d) ds) 46) e) i.1.1
    ∙ ap (λ k. lexed (state (mode.Decimal (with_digits (with_digit (with_digits (with_digit no_digits d) ds) e) es) k) p (behind_all (behind (behind (behind_all (behind p d) ds) 46) e) es)) after) (more_decimals (length es))
    ∙ ap (λ h. lexed (state (mode_of (text.Number (text.Decimal (d ∷ ds) (e ∷ es)))) p h) after) (sym (behind_append (behind p d) ds (46 ∷ e ∷ es)))
number_lexed (text.Whole []) after p i = absurd i
number_lexed (text.Quotient [] es) after p i = absurd i.0
number_lexed (text.Quotient (d ∷ ds) []) after p i = absurd i.1
number_lexed (text.Decimal [] es) after p i = absurd i.0
number_lexed (text.Decimal (d ∷ ds) []) after p i = absurd i.1

-- behind the first byte of a token
pub token_lexed : (t : text.Token) (after : List ℕ) (p : Position) → IsToken t
    → lexed (begun_at p (head_of (spelling t))) (tail_of (spelling t) ++ after) ≡ lexed (state (mode_of t) p (behind_all p (spelling t))) after
token_lexed (text.Word []) after p i = absurd i
token_lexed (text.Word (b ∷ bs)) after p i =
    ap (λ m. lexed (state m p (behind p b)) (bs ++ after)) (word_begun b p i.0)
    ∙ word_lexed (b ∷ []) bs after p (behind p b) i.1
token_lexed (text.Number n) after p i = number_lexed n after p i
token_lexed (text.Sign s) after p i = symbol_lexed s after p
