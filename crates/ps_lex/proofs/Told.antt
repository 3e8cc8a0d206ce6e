-- The tokens that bytes tell are those of their pieces.
use Rattle.std.proofs.Common.{◌≡◌, ℕ, Bool, true, false, not, ◌||◌, inl, inr, List, [], ◌∷◌, ◌++◌, Option, Some, None, refl, sym, ap, subst, ◌∙◌, append_assoc, append-nil}
use Rattle.std.specs.Prelude.{◌==◌, IsTrue, if◌then◌else◌}
use Rattle.std.specs.List.{AllByRecursion}
use Rattle.ps_text.specs.Tokens as text
use Rattle.ps_text.specs.declared.symbol.Symbol.{Symbol}
use Rattle.ps_text.specs.declared.symbol.Symbol.TheVariants as symbol
use Rattle.ps_text.specs.Tokens.{IsToken, is_letter, is_digit, symbol_spelling, spelling, BeginsNone}
use Rattle.ps_text.specs.Pieces.{text as text_of, Piece, Blank, Comment, Spelled, texts, Cuts, Fits, IsBad, EndsLine, is_blank}
use Rattle.ps_text.proofs.Spans.{starts_behind, same_byte}
use Rattle.ps_text.proofs.Longest.{Stops, longest_stops}
use Rattle.ps_text.proofs.Cutting.{decide}
use Rattle.ps_lex.specs.declared.position.Position.{Position}
use Rattle.ps_lex.specs.declared.digits.Digits.{Digits}
use Rattle.ps_lex.specs.declared.token.Token.{Token}
use Rattle.ps_lex.specs.declared.mode.Mode.{Mode}
use Rattle.ps_lex.specs.declared.mode.Mode.TheVariants as mode
use Rattle.ps_lex.specs.Counted.{no_digits, with_digits}
use Rattle.ps_lex.specs.Places.{start, behind}
use Rattle.ps_lex.specs.Seen.{seen, behind_all, told}
use Rattle.ps_lex.specs.Lexing.{begun, symbol_begun, ended, continued, stepped_in, token_ended, with_byte, stops_or, after_tokens, bad_place, new_lexer, lexed}
use Rattle.ps_lex.proofs.Words.{state, Continues, span_lexed, all_of, one_at}
use Rattle.ps_lex.proofs.Tokens.{mode_of, begun_at, head_of, tail_of, token_lexed, word_begun, number_begun, behind_append}

-- what bytes tell from a place on where no token is begun
abbrev pub entered : Position → List ℕ → List (Token × Position) × Option Position
entered p [] = ([], None)
entered p (c ∷ cs) = stops_or (bad_place (begun p c)) (lexed (begun_at p c) cs)

between : (bytes : List ℕ) (q p : Position) → lexed (state mode.Between q p) bytes ≡ entered p bytes
unfolding lexed token_ended with_byte
between [] q p = refl
between (c ∷ cs) q p = refl

-- a token ends before a byte
ended_lexed : (m : Mode) (t : Token) (c : ℕ) (cs : List ℕ) (q p : Position) → stepped_in m q p c ≡ ended t p c → lexed (state m q p) (c ∷ cs) ≡ after_tokens ((t, q) ∷ []) (entered p (c ∷ cs))
unfolding lexed token_ended with_byte
ended_lexed m t c cs q p e = rw e refl

-- a token ends before a byte, and none begins at a byte before it
bad_lexed : (m : Mode) (t : Token) (b q p : Position) (x : ℕ) (xs : List ℕ) → stepped_in m q p x ≡ record { mode = mode.Bad b; began = q; ended = Some t } → lexed (state m q p) (x ∷ xs) ≡ ((t, q) ∷ [], Some b)
unfolding lexed token_ended with_byte
bad_lexed m t b q p x xs e = rw e refl

number_ended : (n : text.Numeral) (bytes : List ℕ) (q p : Position) → Stops (text.Number n) bytes → lexed (state (mode_of (text.Number n)) q p) bytes ≡ after_tokens ((seen (text.Number n), q) ∷ []) (entered p bytes)
unfolding lexed token_ended with_byte begun
number_ended (text.Whole ds) [] q p s = refl
number_ended (text.Whole ds) (c ∷ cs) q p s = elim (decide (c == 47)) [
  | inl h ↦ subst (λ x. lexed (state (mode.Whole d) q p) (x ∷ cs) ≡ after_tokens ((seen (text.Number (text.Whole ds)), q) ∷ []) (entered p (x ∷ cs))) (sym (same_byte c 47 h))
      (slash cs (subst (λ x. starts_behind 47 (x ∷ cs) ≡ false) (same_byte c 47 h) s.1))
  | inr h ↦ elim (decide (c == 46)) [
    | inl k ↦ subst (λ x. lexed (state (mode.Whole d) q p) (x ∷ cs) ≡ after_tokens ((seen (text.Number (text.Whole ds)), q) ∷ []) (entered p (x ∷ cs))) (sym (same_byte c 46 k))
        (point cs (subst (λ x. starts_behind 46 (x ∷ cs) ≡ false) (same_byte c 46 k) s.2))
    | inr k ↦ ended_lexed (mode.Whole d) (seen (text.Number (text.Whole ds))) c cs q p (rw (s.0, h, k) refl)
  ]
]
  where
    d : Digits
    d = with_digits no_digits ds

    slash : (cs : List ℕ) → starts_behind 47 (47 ∷ cs) ≡ false → lexed (state (mode.Whole d) q p) (47 ∷ cs) ≡ after_tokens ((seen (text.Number (text.Whole ds)), q) ∷ []) (entered p (47 ∷ cs))
    slash [] f = refl
    slash (x ∷ xs) f = one_at (mode.Whole d) (mode.Slash d p) 47 (x ∷ xs) q p refl refl ∙ bad_lexed (mode.Slash d p) (seen (text.Number (text.Whole ds))) p q (behind p 47) x xs (rw f refl)

    point : (cs : List ℕ) → starts_behind 46 (46 ∷ cs) ≡ false → lexed (state (mode.Whole d) q p) (46 ∷ cs) ≡ after_tokens ((seen (text.Number (text.Whole ds)), q) ∷ []) (entered p (46 ∷ cs))
    point [] f = refl
    point (x ∷ xs) f = one_at (mode.Whole d) (mode.Point d p) 46 (x ∷ xs) q p refl refl ∙ bad_lexed (mode.Point d p) (seen (text.Number (text.Whole ds))) p q (behind p 46) x xs (rw f refl)
number_ended (text.Quotient ds es) [] q p s = refl
number_ended (text.Quotient ds es) (c ∷ cs) q p s = ended_lexed (mode_of (text.Number (text.Quotient ds es))) (seen (text.Number (text.Quotient ds es))) c cs q p (rw s refl)
number_ended (text.Decimal ds es) [] q p s = refl
number_ended (text.Decimal ds es) (c ∷ cs) q p s = ended_lexed (mode_of (text.Number (text.Decimal ds es))) (seen (text.Number (text.Decimal ds es))) c cs q p (rw s refl)

symbol_ended : (x : Symbol) (bytes : List ℕ) (q p : Position) → Stops (text.Sign x) bytes → lexed (state (mode_of (text.Sign x)) q p) bytes ≡ after_tokens ((seen (text.Sign x), q) ∷ []) (entered p bytes)
unfolding lexed token_ended with_byte
symbol_ended symbol.Minus [] q p s = refl
symbol_ended symbol.Minus (c ∷ cs) q p s = ended_lexed mode.Minus (seen (text.Sign symbol.Minus)) c cs q p (rw s refl)
symbol_ended x [] q p s = refl
symbol_ended x (c ∷ cs) q p s = ended_lexed (mode_of (text.Sign x)) (seen (text.Sign x)) c cs q p refl

-- a token is told once it is whole
token_ended_at : (t : text.Token) (bytes : List ℕ) (q p : Position) → Stops t bytes → lexed (state (mode_of t) q p) bytes ≡ after_tokens ((seen t, q) ∷ []) (entered p bytes)
unfolding lexed token_ended with_byte
token_ended_at (text.Word w) [] q p s = refl
token_ended_at (text.Word w) (c ∷ cs) q p s = ended_lexed (mode_of (text.Word w)) (seen (text.Word w)) c cs q p (rw s refl)
token_ended_at (text.Number n) bytes q p s = number_ended n bytes q p s
token_ended_at (text.Sign x) bytes q p s = symbol_ended x bytes q p s

-- a comment ends with its line
comment_ended : (bytes : List ℕ) (q p : Position) → EndsLine bytes → lexed (state mode.Comment q p) bytes ≡ entered p bytes
unfolding lexed token_ended with_byte begun
comment_ended [] q p s = refl
comment_ended (c ∷ cs) q p s = subst (λ x. lexed (state mode.Comment q p) (x ∷ cs) ≡ entered p (x ∷ cs)) (sym s)
    (between cs q (behind p 10) ∙ sym (between cs p (behind p 10)))

comment_go : (b : ℕ) → not (b == 10) ≡ true → Continues mode.Comment mode.Comment b
comment_go b h = record { step = λ began here. goes (b == 10) h began; good = refl }
  where
    goes : (x : Bool) → not x ≡ true → (began : Position) → continued (if x then mode.Between else mode.Comment) began ≡ continued mode.Comment began
    goes true e began = absurd cc
    goes false e began = refl

constant : (n : ℕ) (bs : List ℕ) → all_of (λ x b. x) n bs ≡ n
constant n [] = refl
constant n (b ∷ bs) = constant n bs

-- the bytes of a piece
blank_entered : (b : ℕ) (after : List ℕ) (p : Position) → is_blank b ≡ true → entered p (b ∷ after) ≡ entered (behind p b) after
unfolding begun
blank_entered b after p h = rw h (between after p (behind p b))

comment_entered : (c after : List ℕ) (p : Position) → AllByRecursion (λ b. IsTrue (not (b == 10))) c → EndsLine after → entered p (35 ∷ c ++ after) ≡ entered (behind_all (behind p 35) c) after
unfolding begun
comment_entered c after p h e =
    span_lexed {X = ℕ} (λ x. mode.Comment) (λ x b. x) (λ b. not (b == 10)) (λ x b k. comment_go b k) c after 0 p (behind p 35) h
    ∙ comment_ended after p (behind_all (behind p 35) c) e

-- a token begins with its first byte
spelled_entered : (t : text.Token) (after : List ℕ) (p : Position) → IsToken t → entered p (spelling t ++ after) ≡ lexed (begun_at p (head_of (spelling t))) (tail_of (spelling t) ++ after)
unfolding begun
spelled_entered (text.Word []) after p i = absurd i
spelled_entered (text.Word (b ∷ bs)) after p i = ap (λ m. stops_or (bad_place m) (lexed (begun_at p b) (bs ++ after))) (word_begun b p i.0)
spelled_entered (text.Number (text.Whole [])) after p i = absurd i
spelled_entered (text.Number (text.Whole (b ∷ bs))) after p i = ap (λ m. stops_or (bad_place m) (lexed (begun_at p b) (bs ++ after))) (number_begun b p i.0)
spelled_entered (text.Number (text.Quotient [] es)) after p i = absurd i.0
spelled_entered (text.Number (text.Quotient (b ∷ bs) es)) after p i = ap (λ m. stops_or (bad_place m) (lexed (begun_at p b) ((bs ++ 47 ∷ es) ++ after))) (number_begun b p i.0.0)
spelled_entered (text.Number (text.Decimal [] es)) after p i = absurd i.0
spelled_entered (text.Number (text.Decimal (b ∷ bs) es)) after p i = ap (λ m. stops_or (bad_place m) (lexed (begun_at p b) ((bs ++ 46 ∷ es) ++ after))) (number_begun b p i.0.0)
spelled_entered (text.Sign symbol.Open) after p i = refl
spelled_entered (text.Sign symbol.Close) after p i = refl
spelled_entered (text.Sign symbol.OpenBracket) after p i = refl
spelled_entered (text.Sign symbol.CloseBracket) after p i = refl
spelled_entered (text.Sign symbol.Comma) after p i = refl
spelled_entered (text.Sign symbol.Semicolon) after p i = refl
spelled_entered (text.Sign symbol.Bang) after p i = refl
spelled_entered (text.Sign symbol.Ampersand) after p i = refl
spelled_entered (text.Sign symbol.Bar) after p i = refl
spelled_entered (text.Sign symbol.Arrow) after p i = refl
spelled_entered (text.Sign symbol.DoubleArrow) after p i = refl
spelled_entered (text.Sign symbol.Equals) after p i = refl
spelled_entered (text.Sign symbol.GreaterEquals) after p i = refl
spelled_entered (text.Sign symbol.LessEquals) after p i = refl
spelled_entered (text.Sign symbol.Plus) after p i = refl
spelled_entered (text.Sign symbol.Minus) after p i = refl

piece_entered : (x : Piece) (after : List ℕ) (p : Position) → Fits x after → entered p (text_of x ++ after) ≡ after_tokens (told p (x ∷ [])) (entered (behind_all p (text_of x)) after)
piece_entered (Blank b) after p f = blank_entered b after p f
piece_entered (Comment c) after p f = comment_entered c after p f.0 f.1
piece_entered (Spelled t) after p f =
    spelled_entered t after p f.0 ∙ token_lexed t after p f.0 ∙ token_ended_at t after p (behind_all p (spelling t)) (longest_stops t after f.0 f.1)

after_more : (x : Piece) (ps : List Piece) (p : Position) (r : List (Token × Position) × Option Position) → after_tokens (told p (x ∷ [])) (after_tokens (told (behind_all p (text_of x)) ps) r) ≡ after_tokens (told p (x ∷ ps)) r
after_more (Blank b) ps p r = refl
after_more (Comment c) ps p r = refl
after_more (Spelled t) ps p r = refl

-- the bytes of pieces tell the pieces' tokens
pub pieces_entered : (ps : List Piece) (rest : List ℕ) (p : Position) → Cuts ps rest → entered p (texts ps ++ rest) ≡ after_tokens (told p ps) (entered (behind_all p (texts ps)) rest)
pieces_entered [] rest p c = refl
pieces_entered (x ∷ ps) rest p c =
    ap (entered p) (append_assoc (text_of x) (texts ps) rest)
    ∙ piece_entered x (texts ps ++ rest) p c.0
    ∙ ap (after_tokens (told p (x ∷ []))) (pieces_entered ps rest (behind_all p (text_of x)) c.1)
    ∙ after_more x ps p (entered (behind_all (behind_all p (text_of x)) (texts ps)) rest)
    ∙ ap (λ h. after_tokens (told p (x ∷ ps)) (entered h rest)) (sym (behind_append p (text_of x) (texts ps)))

none_at : (bytes : List ℕ) → BeginsNone bytes → (u : text.Token) (more : List ℕ) → IsToken u → bytes ≡ spelling u ++ more → ⊥
unfolding BeginsNone
none_at bytes n = n

not_first : (b c : ℕ) (bs : List ℕ) (s : Symbol) → symbol_spelling s ≡ c ∷ [] → BeginsNone (b ∷ bs) → (b == c) ≡ false
not_first b c bs s e n = elim (decide (b == c)) [
  | inl h ↦ absurd (none_at (b ∷ bs) n (text.Sign s) bs tt (ap (λ x. x ∷ bs) (same_byte b c h) ∙ sym (ap (λ w. w ++ bs) e)))
  | inr h ↦ h
]

no_letter : (b : ℕ) (bs : List ℕ) → BeginsNone (b ∷ bs) → is_letter b ≡ false
no_letter b bs n = elim (decide (is_letter b)) [ inl h ↦ absurd (none_at (b ∷ bs) n (text.Word (b ∷ [])) bs (h, tt) refl) | inr h ↦ h ]

no_number : (b : ℕ) (bs : List ℕ) → BeginsNone (b ∷ bs) → is_digit b ≡ false
no_number b bs n = elim (decide (is_digit b)) [ inl h ↦ absurd (none_at (b ∷ bs) n (text.Number (text.Whole (b ∷ []))) bs (h, tt) refl) | inr h ↦ h ]

bare_parts : (x y : Bool) → not (x || y) ≡ true → (x ≡ false) × (y ≡ false)
bare_parts true y h = absurd cc
bare_parts false true h = absurd cc
bare_parts false false h = (refl, refl)

-- no symbol has this as its second byte
second : (b c : ℕ) (bs : List ℕ) (f : ℕ) (s : Symbol) → symbol_spelling s ≡ f ∷ c ∷ [] → BeginsNone (f ∷ b ∷ bs) → (b == c) ≡ false
second b c bs f s e n = elim (decide (b == c)) [
  | inl h ↦ absurd (none_at (f ∷ b ∷ bs) n (text.Sign s) bs tt (ap (λ x. f ∷ x ∷ bs) (same_byte b c h) ∙ sym (ap (λ w. w ++ bs) e)))
  | inr h ↦ h
]

third : (b : ℕ) (bs : List ℕ) → BeginsNone (60 ∷ 45 ∷ b ∷ bs) → (b == 62) ≡ false
third b bs n = elim (decide (b == 62)) [
  | inl h ↦ absurd (none_at (60 ∷ 45 ∷ b ∷ bs) n (text.Sign symbol.DoubleArrow) bs tt (ap (λ x. 60 ∷ 45 ∷ x ∷ bs) (same_byte b 62 h)))
  | inr h ↦ h
]

-- a byte shows that no token began
turns_bad : (m : Mode) (q p : Position) (x : ℕ) (xs : List ℕ) → stepped_in m q p x ≡ continued (mode.Bad q) q → lexed (state m q p) (x ∷ xs) ≡ ([], Some q)
unfolding lexed token_ended with_byte
turns_bad m q p x xs e = rw e refl

greater_bad : (cs : List ℕ) (q p : Position) → BeginsNone (62 ∷ cs) → lexed (state mode.Greater q p) cs ≡ ([], Some q)
unfolding lexed
greater_bad [] q p n = refl
greater_bad (x ∷ xs) q p n = turns_bad mode.Greater q p x xs (rw (second x 61 xs 62 symbol.GreaterEquals refl n) refl)

less_minus_bad : (cs : List ℕ) (q p : Position) → BeginsNone (60 ∷ 45 ∷ cs) → lexed (state mode.LessMinus q p) cs ≡ ([], Some q)
unfolding lexed
less_minus_bad [] q p n = refl
less_minus_bad (x ∷ xs) q p n = turns_bad mode.LessMinus q p x xs (rw (third x xs n) refl)

less_bad : (cs : List ℕ) (q p : Position) → BeginsNone (60 ∷ cs) → lexed (state mode.Less q p) cs ≡ ([], Some q)
unfolding lexed
less_bad [] q p n = refl
less_bad (x ∷ xs) q p n = elim (decide (x == 45)) [
  | inl h ↦ subst (λ y. lexed (state mode.Less q p) (y ∷ xs) ≡ ([], Some q)) (sym (same_byte x 45 h))
      (one_at mode.Less mode.LessMinus 45 xs q p refl refl ∙ less_minus_bad xs q (behind p 45) (subst (λ y. BeginsNone (60 ∷ y ∷ xs)) (same_byte x 45 h) n))
  | inr h ↦ turns_bad mode.Less q p x xs (rw (second x 61 xs 60 symbol.LessEquals refl n, h) refl)
]

symbol_bad : (c : ℕ) (cs : List ℕ) (p : Position) → BeginsNone (c ∷ cs) → stops_or (bad_place (symbol_begun p c)) (lexed (state (symbol_begun p c) p (behind p c)) cs) ≡ ([], Some p)
symbol_bad c cs p n = elim (decide (c == 60)) [
  | inl h ↦ subst (λ x. stops_or (bad_place (symbol_begun p x)) (lexed (state (symbol_begun p x) p (behind p x)) cs) ≡ ([], Some p)) (sym (same_byte c 60 h))
      (less_bad cs p (behind p 60) (subst (λ x. BeginsNone (x ∷ cs)) (same_byte c 60 h) n))
  | inr h2 ↦ elim (decide (c == 62)) [
    | inl h ↦ subst (λ x. stops_or (bad_place (symbol_begun p x)) (lexed (state (symbol_begun p x) p (behind p x)) cs) ≡ ([], Some p)) (sym (same_byte c 62 h))
        (greater_bad cs p (behind p 62) (subst (λ x. BeginsNone (x ∷ cs)) (same_byte c 62 h) n))
    | inr h3 ↦ rw (
      not_first c 40 cs symbol.Open refl n,
      not_first c 41 cs symbol.Close refl n,
      not_first c 91 cs symbol.OpenBracket refl n,
      not_first c 93 cs symbol.CloseBracket refl n,
      not_first c 44 cs symbol.Comma refl n,
      not_first c 59 cs symbol.Semicolon refl n,
      not_first c 33 cs symbol.Bang refl n,
      not_first c 38 cs symbol.Ampersand refl n,
      not_first c 124 cs symbol.Bar refl n,
      not_first c 61 cs symbol.Equals refl n,
      not_first c 43 cs symbol.Plus refl n,
      not_first c 45 cs symbol.Minus refl n,
      h2,
      h3,
    ) refl
  ]
]

-- where no token begins, none is told, and the place is
pub bad_entered : (bytes : List ℕ) (p : Position) → (bytes ≡ [] → ⊥) → IsBad bytes → entered p bytes ≡ ([], Some p)
unfolding begun
bad_entered [] p some b = absurd (some refl)
bad_entered (c ∷ cs) p some b = let f = bare_parts (is_blank c) (c == 35) b.bare in
    rw (f.0, f.1, no_letter c cs b.none, no_number c cs b.none) (symbol_bad c cs p b.none)

-- all bytes, from the first
pub all_lexed : (bytes : List ℕ) → lexed new_lexer bytes ≡ entered start bytes
all_lexed bytes = between bytes start start

-- the tokens of pieces, up to the end
pub whole_told : (pieces : List Piece) → Cuts pieces [] → lexed new_lexer (texts pieces) ≡ (told start pieces, None)
whole_told ps c =
    ap (λ bs. lexed new_lexer bs) (sym (append-nil (texts ps))) ∙ all_lexed (texts ps ++ []) ∙ pieces_entered ps [] start c
    ∙ ap (λ ts. (ts, None)) (append-nil (told start ps))

-- the tokens of pieces, up to a place where none stands
pub bad_told : (pieces : List Piece) (rest : List ℕ) → Cuts pieces rest → (rest ≡ [] → ⊥) → IsBad rest → lexed new_lexer (texts pieces ++ rest) ≡ (told start pieces, Some (behind_all start (texts pieces)))
bad_told ps rest c some b =
    all_lexed (texts ps ++ rest) ∙ pieces_entered ps rest start c
    ∙ ap (after_tokens (told start ps)) (bad_entered rest (behind_all start (texts ps)) some b)
    ∙ ap (λ ts. (ts, Some (behind_all start (texts ps)))) (append-nil (told start ps))
