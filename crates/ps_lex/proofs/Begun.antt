-- A token that has begun is told first, or none begins where it began.
use Rattle.std.proofs.Common.{◌≡◌, ℕ, true, inl, inr, List, [], ◌∷◌, Option, Some, None, refl, sym, subst, true≢false}
use Rattle.std.specs.Prelude.{◌==◌}
use Rattle.ps_text.specs.Tokens.{is_digit, is_word_byte}
use Rattle.ps_text.specs.declared.symbol.Symbol.TheVariants as symbol
use Rattle.ps_text.proofs.Cutting.{decide}
use Rattle.ps_lex.specs.declared.position.Position.{Position}
use Rattle.ps_lex.specs.declared.token.Numeral.TheVariants as numeral
use Rattle.ps_lex.specs.declared.token.Token.{Token}
use Rattle.ps_lex.specs.declared.token.Token.TheVariants as token
use Rattle.ps_lex.specs.declared.mode.Mode.{Mode}
use Rattle.ps_lex.specs.declared.mode.Mode.TheVariants as mode
use Rattle.ps_lex.specs.Lexing.{LexerState, stepped_in, token_ended, with_byte, last_token, last_bad, bad_place, is_within_token, with_place, stops_or, after_tokens, lexed}

-- what a byte does to a token that has begun
data Turn (m : Mode) (q p : Position) (b : ℕ) : Type 0 where
  Ends : (t : Token) (ended : (stepped_in m q p b).ended ≡ Some t) → Turn m q p b
  Continues : (ended : (stepped_in m q p b).ended ≡ None) (began : (stepped_in m q p b).began ≡ q) (within : is_within_token (stepped_in m q p b).mode ≡ true) → Turn m q p b
  Fails : (ended : (stepped_in m q p b).ended ≡ None) (bad : (stepped_in m q p b).mode ≡ mode.Bad q) → Turn m q p b

turn : (m : Mode) (q p : Position) (b : ℕ) → is_within_token m ≡ true → Turn m q p b
turn mode.Between q p b h = absurd (true≢false (sym h))
turn mode.Comment q p b h = absurd (true≢false (sym h))
turn (mode.Bad x) q p b h = absurd (true≢false (sym h))
turn (mode.Word w) q p b h = elim (decide (is_word_byte b)) [
  | inl e ↦ Continues (rw e refl) (rw e refl) (rw e refl)
  | inr e ↦ Ends (token.Word w) (rw e refl)
]
turn (mode.Whole d) q p b h = elim (decide (is_digit b)) [
  | inl e ↦ Continues (rw e refl) (rw e refl) (rw e refl)
  | inr e ↦ elim (decide (b == 47)) [
    | inl f ↦ Continues (rw (e, f) refl) (rw (e, f) refl) (rw (e, f) refl)
    | inr f ↦ elim (decide (b == 46)) [
      | inl g ↦ Continues (rw (e, f, g) refl) (rw (e, f, g) refl) (rw (e, f, g) refl)
      | inr g ↦ Ends (token.Number (numeral.Whole d)) (rw (e, f, g) refl)
    ]
  ]
]
turn (mode.Slash d s) q p b h = elim (decide (is_digit b)) [
  | inl e ↦ Continues (rw e refl) (rw e refl) (rw e refl)
  | inr e ↦ Ends (token.Number (numeral.Whole d)) (rw e refl)
]
turn (mode.Quotient d f) q p b h = elim (decide (is_digit b)) [
  | inl e ↦ Continues (rw e refl) (rw e refl) (rw e refl)
  | inr e ↦ Ends (token.Number (numeral.Quotient d f)) (rw e refl)
]
turn (mode.Point d s) q p b h = elim (decide (is_digit b)) [
  | inl e ↦ Continues (rw e refl) (rw e refl) (rw e refl)
  | inr e ↦ Ends (token.Number (numeral.Whole d)) (rw e refl)
]
turn (mode.Decimal d k) q p b h = elim (decide (is_digit b)) [
  | inl e ↦ Continues (rw e refl) (rw e refl) (rw e refl)
  | inr e ↦ Ends (token.Number (numeral.Decimal d k)) (rw e refl)
]
turn mode.Minus q p b h = elim (decide (b == 62)) [
  | inl e ↦ Continues (rw e refl) (rw e refl) (rw e refl)
  | inr e ↦ Ends (token.Sign symbol.Minus) (rw e refl)
]
turn mode.Less q p b h = elim (decide (b == 61)) [
  | inl e ↦ Continues refl refl (rw e refl)
  | inr e ↦ elim (decide (b == 45)) [
    | inl f ↦ Continues refl refl (rw (e, f) refl)
    | inr f ↦ Fails refl (rw (e, f) refl)
  ]
]
turn mode.LessMinus q p b h = elim (decide (b == 62)) [
  | inl e ↦ Continues refl refl (rw e refl)
  | inr e ↦ Fails refl (rw e refl)
]
turn mode.Greater q p b h = elim (decide (b == 61)) [
  | inl e ↦ Continues refl refl (rw e refl)
  | inr e ↦ Fails refl (rw e refl)
]
turn (mode.Sign s) q p b h = Ends (token.Sign s) refl

-- the first thing that is told is told of this place
pub data First (q : Position) (x : List (Token × Position) × Option Position) : Type 0 where
  Told : (t : Token) (ts : List (Token × Position)) (bad : Option Position) (is : x ≡ ((t, q) ∷ ts, bad)) → First q x
  Bare : (is : x ≡ ([], Some q)) → First q x

at_end : (m : Mode) (q : Position) → is_within_token m ≡ true → First q (with_place (last_token m) q, last_bad m q)
at_end mode.Between q h = absurd (true≢false (sym h))
at_end mode.Comment q h = absurd (true≢false (sym h))
at_end (mode.Bad x) q h = absurd (true≢false (sym h))
at_end (mode.Word w) q h = Told (token.Word w) [] None refl
at_end (mode.Whole d) q h = Told (token.Number (numeral.Whole d)) [] None refl
at_end (mode.Slash d s) q h = Told (token.Number (numeral.Whole d)) [] (Some s) refl
at_end (mode.Quotient d e) q h = Told (token.Number (numeral.Quotient d e)) [] None refl
at_end (mode.Point d s) q h = Told (token.Number (numeral.Whole d)) [] (Some s) refl
at_end (mode.Decimal d k) q h = Told (token.Number (numeral.Decimal d k)) [] None refl
at_end mode.Minus q h = Told (token.Sign symbol.Minus) [] None refl
at_end mode.Less q h = Bare refl
at_end mode.LessMinus q h = Bare refl
at_end mode.Greater q h = Bare refl
at_end (mode.Sign s) q h = Told (token.Sign s) [] None refl

not_bad : (m : Mode) → is_within_token m ≡ true → bad_place m ≡ None
not_bad (mode.Bad x) h = absurd (true≢false (sym h))
not_bad mode.Between h = refl
not_bad mode.Comment h = refl
not_bad (mode.Word w) h = refl
not_bad (mode.Whole d) h = refl
not_bad (mode.Slash d s) h = refl
not_bad (mode.Quotient d e) h = refl
not_bad (mode.Point d s) h = refl
not_bad (mode.Decimal d k) h = refl
not_bad mode.Minus h = refl
not_bad mode.Less h = refl
not_bad mode.LessMinus h = refl
not_bad mode.Greater h = refl
not_bad (mode.Sign s) h = refl

-- a token that has begun is told first, of the place where it began, or that place is where none begins
pub begun_first : (bytes : List ℕ) (s : LexerState) → is_within_token s.mode ≡ true → First s.began (lexed s bytes)
unfolding lexed token_ended with_byte
begun_first [] s h = at_end s.mode s.began h
begun_first (b ∷ bs) s h = by (turn s.mode s.began s.here b h) (λ g. begun_first bs (with_byte s b) g)
  where
    next : LexerState
    next = with_byte s b

    more : List (Token × Position) × Option Position
    more = lexed next bs

    all : Option Token → Option Position → List (Token × Position) × Option Position
    all t bad = after_tokens (with_place t s.began) (stops_or bad more)

    by : Turn s.mode s.began s.here b → (is_within_token next.mode ≡ true → First next.began more) → First s.began (all (token_ended s b) (bad_place next.mode))
    by (Ends t e) rest = subst (λ o. First s.began (all o (bad_place next.mode))) (sym e) (Told t (stops_or (bad_place next.mode) more).0 (stops_or (bad_place next.mode) more).1 refl)
    by (Continues e f g) rest = subst (λ o. First s.began (all o (bad_place next.mode))) (sym e)
        (subst (λ o. First s.began (all None o)) (sym (not_bad next.mode g)) (subst (λ q. First q more) f (rest g)))
    by (Fails e f) rest = subst (λ o. First s.began (all o (bad_place next.mode))) (sym e)
        (subst (λ m. First s.began (all None (bad_place m))) (sym f) (Bare refl))
