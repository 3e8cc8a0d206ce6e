-- What a lexer keeps of a word is a word.
use Rattle.std.proofs.Common.{◌≡◌, ℕ, ◌+◌, Bool, true, false, List, [], ◌∷◌, ◌++◌, length, Some, refl, sym, true≢false, min}
use Rattle.std.specs.Prelude.{◌==◌, nat_lt, if◌then◌else◌, IsTrue}
use Rattle.std.specs.List.{list_all}
use Rattle.ps_meaning.specs.Names.{is_letter, is_digit, is_word_byte, is_word}
use Rattle.ps_text.specs.Pieces.{is_blank}
use Rattle.ps_text.proofs.Spans.{both}
use Rattle.ps_text.specs.declared.symbol.Symbol.TheVariants as symbol
use Rattle.ps_lex.specs.declared.position.Position.{Position}
use Rattle.ps_lex.specs.declared.mode.Mode.{Mode}
use Rattle.ps_lex.specs.declared.mode.Mode.TheVariants as mode
use Rattle.ps_lex.specs.declared.step.Step.{Step}
use Rattle.ps_lex.specs.declared.token.Token.{Token}
use Rattle.ps_lex.specs.declared.token.Token.TheVariants as token
use Rattle.ps_lex.specs.Counted.{no_digits, with_digit}
use Rattle.ps_lex.specs.Lexing.{LexerState, begun, symbol_begun, letter_kept, ended, continued, stepped_in, token_ended, with_byte}
use Rattle.ps_read.specs.Answers.{IsKeptIn, IsWordMode}

choose : (c : Bool) (m n : Mode) → IsWordMode m → IsWordMode n → IsWordMode (if c then m else n)
choose true m n h k = h
choose false m n h k = k

symbol_is : (here : Position) (b : ℕ) → IsWordMode (symbol_begun here b)
symbol_is here b =
    choose (b == 40) (mode.Sign symbol.Open) _ tt (choose (b == 41) (mode.Sign symbol.Close) _ tt
    (choose (b == 91) (mode.Sign symbol.OpenBracket) _ tt (choose (b == 93) (mode.Sign symbol.CloseBracket) _ tt
    (choose (b == 44) (mode.Sign symbol.Comma) _ tt (choose (b == 59) (mode.Sign symbol.Semicolon) _ tt
    (choose (b == 33) (mode.Sign symbol.Bang) _ tt (choose (b == 38) (mode.Sign symbol.Ampersand) _ tt
    (choose (b == 124) (mode.Sign symbol.Bar) _ tt (choose (b == 61) (mode.Sign symbol.Equals) _ tt
    (choose (b == 43) (mode.Sign symbol.Plus) _ tt
    (choose (b == 45) mode.Minus _ tt (choose (b == 60) mode.Less _ tt (choose (b == 62) mode.Greater (mode.Bad here) tt tt)))))))))))))

begun_is : (here : Position) (b : ℕ) → IsWordMode (begun here b)
unfolding begun
begun_is here b = choose (is_blank b) mode.Between _ tt (choose (b == 35) mode.Comment _ tt (letter (is_letter b) refl))
  where
    one : is_letter b ≡ true → IsTrue (is_word (b ∷ []))
    one e = rw e refl

    letter : (c : Bool) → is_letter b ≡ c → IsWordMode (if c then mode.Word (b ∷ []) else if is_digit b then mode.Whole (with_digit no_digits b) else symbol_begun here b)
    letter true e = one e
    letter false e = choose (is_digit b) (mode.Whole (with_digit no_digits b)) _ tt (symbol_is here b)

all_more : (bs : List ℕ) (b : ℕ) → is_word_byte b ≡ true → list_all is_word_byte bs ≡ true → list_all is_word_byte (bs ++ b ∷ []) ≡ true
all_more [] b e h = rw e refl
all_more (c ∷ cs) b e h = let k = both (is_word_byte c) (list_all is_word_byte cs) h in rw (k.0, all_more cs b e k.1) refl

word_more : (w : List ℕ) (b : ℕ) → is_word_byte b ≡ true → IsTrue (is_word w) → IsTrue (is_word (w ++ b ∷ []))
word_more [] b e h = absurd (true≢false (sym h))
word_more (c ∷ cs) b e h = let k = both (is_letter c) (list_all is_word_byte cs) h in rw (k.0, all_more cs b e k.1) refl

letter_is : (w : List ℕ) (b : ℕ) → is_word_byte b ≡ true → IsTrue (is_word w) → IsTrue (is_word (letter_kept w b))
letter_is w b e h = by (nat_lt (length w) 33)
  where
    by : (c : Bool) → IsTrue (is_word (if c then w ++ b ∷ [] else w))
    by true = word_more w b e h
    by false = h

-- the mode behind a byte, and the token that the byte ends
record Keeps (s : Step) : Type 0 where
  word : IsWordMode s.mode
  token : IsKeptIn s.ended

keep : (c : Bool) (x y : Step) → Keeps x → Keeps y → Keeps (if c then x else y)
keep true x y h k = h
keep false x y h k = k

on : (m : Mode) (p : Position) → IsWordMode m → Keeps (continued m p)
on m p h = record { word = h; token = tt }

off : (t : Token) (p : Position) (b : ℕ) → IsKeptIn (Some t) → Keeps (ended t p b)
off t p b h = record { word = begun_is p b; token = h }

word_keeps : (w : List ℕ) (began here : Position) (b : ℕ) → IsTrue (is_word w) → Keeps (stepped_in (mode.Word w) began here b)
word_keeps w began here b h = by (is_word_byte b) refl
  where
    by : (c : Bool) → is_word_byte b ≡ c → Keeps (if c then continued (mode.Word (letter_kept w b)) began else ended (token.Word w) here b)
    by true e = on (mode.Word (letter_kept w b)) began (letter_is w b e h)
    by false e = off (token.Word w) here b h

keeps : (m : Mode) (began here : Position) (b : ℕ) → IsWordMode m → Keeps (stepped_in m began here b)
keeps mode.Between began here b h = record { word = begun_is here b; token = tt }
keeps mode.Comment began here b h = on _ began (choose (b == 10) mode.Between mode.Comment tt tt)
keeps (mode.Word w) began here b h = word_keeps w began here b h
keeps (mode.Whole d) began here b h =
    keep (is_digit b) (continued (mode.Whole (with_digit d b)) began) _ (on _ began tt)
    (keep (b == 47) (continued (mode.Slash d here) began) _ (on _ began tt) (keep (b == 46) (continued (mode.Point d here) began) _ (on _ began tt) (off _ here b tt)))
keeps (mode.Slash d slash) began here b h = keep (is_digit b) (continued (mode.Quotient d (with_digit no_digits b)) began) _ (on _ began tt) (record { word = tt; token = tt })
keeps (mode.Quotient d e) began here b h = keep (is_digit b) (continued (mode.Quotient d (with_digit e b)) began) _ (on _ began tt) (off _ here b tt)
keeps (mode.Point d point) began here b h = keep (is_digit b) (continued (mode.Decimal (with_digit d b) 1) began) _ (on _ began tt) (record { word = tt; token = tt })
keeps (mode.Decimal d k) began here b h = keep (is_digit b) (continued (mode.Decimal (with_digit d b) (min (k + 1) 7)) began) _ (on _ began tt) (off _ here b tt)
keeps mode.Minus began here b h = keep (b == 62) (continued (mode.Sign symbol.Arrow) began) _ (on _ began tt) (off (token.Sign symbol.Minus) here b tt)
keeps mode.Less began here b h = on _ began (choose (b == 61) (mode.Sign symbol.LessEquals) _ tt (choose (b == 45) mode.LessMinus (mode.Bad began) tt tt))
keeps mode.LessMinus began here b h = on _ began (choose (b == 62) (mode.Sign symbol.DoubleArrow) (mode.Bad began) tt tt)
keeps mode.Greater began here b h = on _ began (choose (b == 61) (mode.Sign symbol.GreaterEquals) (mode.Bad began) tt tt)
keeps (mode.Sign s) began here b h = off (token.Sign s) here b tt
keeps (mode.Bad p) began here b h = on (mode.Bad p) began tt

-- what is kept of a word stays a word behind a byte
pub word_behind : (s : LexerState) (b : ℕ) → IsWordMode s.mode → IsWordMode (with_byte s b).mode
unfolding with_byte
word_behind s b h = (keeps s.mode s.began s.here b h).word

-- and a word that ended is one
pub kept_ended : (s : LexerState) (b : ℕ) → IsWordMode s.mode → IsKeptIn (token_ended s b)
unfolding token_ended
kept_ended s b h = (keeps s.mode s.began s.here b h).token
