-- The bytes of a word, of digits and of symbols, one after the other.
use Rattle.std.proofs.Common.{◌≡◌, ℕ, ◌+◌, ◌≤◌, min, Bool, true, false, List, [], ◌∷◌, ◌++◌, length, take, None, refl, sym, ap, ◌∙◌, arith, append_assoc, length-append}
use Rattle.std.proofs.lemmas.Bool.Decides.{nat_tests}
use Rattle.std.proofs.lemmas.List.{append-nil, length-take, take_all, take-append-le}
use Rattle.std.specs.Prelude.{nat_lt, IsTrue, if◌then◌else◌}
use Rattle.std.specs.List.{AllByRecursion}
use Rattle.ps_text.specs.Tokens.{is_digit, is_word_byte}
use Rattle.ps_lex.specs.declared.position.Position.{Position}
use Rattle.ps_lex.specs.declared.digits.Digits.{Digits}
use Rattle.ps_lex.specs.declared.mode.Mode.{Mode}
use Rattle.ps_lex.specs.declared.mode.Mode.TheVariants as mode
use Rattle.ps_lex.specs.Counted.{with_digit, with_digits}
use Rattle.ps_lex.specs.Places.{behind}
use Rattle.ps_lex.specs.Seen.{behind_all}
use Rattle.ps_lex.specs.Lexing.{LexerState, continued, letter_kept, stepped_in, token_ended, with_byte, bad_place, lexed}

abbrev pub state : Mode → Position → Position → LexerState
state m began here = record { mode = m; began = began; here = here }

-- a byte that goes on: nothing is told
pub record Continues (m n : Mode) (b : ℕ) : Type 0 where
  pub step : (began here : Position) → stepped_in m began here b ≡ continued n began
  pub good : bad_place n ≡ None

pub one_more : (m n : Mode) (b : ℕ) (bs : List ℕ) (began here : Position) → Continues m n b → lexed (state m began here) (b ∷ bs) ≡ lexed (state n began (behind here b)) bs
unfolding lexed token_ended with_byte
one_more m n b bs began here g = rw (g.step began here, g.good) refl

-- the same at one place
pub one_at : (m n : Mode) (b : ℕ) (bs : List ℕ) (began here : Position) → stepped_in m began here b ≡ continued n began → bad_place n ≡ None
    → lexed (state m began here) (b ∷ bs) ≡ lexed (state n began (behind here b)) bs
unfolding lexed token_ended with_byte
one_at m n b bs began here step good = rw (step, good) refl

abbrev pub all_of : {X : Type 0} → (X → ℕ → X) → X → List ℕ → X
all_of g x [] = x
all_of g x (b ∷ bs) = all_of g (g x b) bs

-- bytes that go on, one after the other
pub span_lexed : {X : Type 0} (f : X → Mode) (g : X → ℕ → X) (p : ℕ → Bool) → ((x : X) (b : ℕ) → p b ≡ true → Continues (f x) (f (g x b)) b)
    → (bs after : List ℕ) (x : X) (began here : Position) → AllByRecursion (λ b. IsTrue (p b)) bs
    → lexed (state (f x) began here) (bs ++ after) ≡ lexed (state (f (all_of g x bs)) began (behind_all here bs)) after
span_lexed f g p step [] after x began here h = refl
span_lexed f g p step (b ∷ bs) after x began here h =
    one_more (f x) (f (g x b)) b (bs ++ after) began here (step x b h.0) ∙ span_lexed f g p step bs after (g x b) began (behind here b) h.1

kept_more : (u : List ℕ) (b : ℕ) → letter_kept (take 33 u) b ≡ take 33 (u ++ b ∷ [])
kept_more u b = by (nat_lt (length (take 33 u)) 33) refl
  where
    by : (c : Bool) → nat_lt (length (take 33 u)) 33 ≡ c → (if c then take 33 u ++ b ∷ [] else take 33 u) ≡ take 33 (u ++ b ∷ [])
    by true e = let l = length-take 33 u in let few : length u ≤ 32 = grind (arith, nat_tests) in
        let n = length-append u (b ∷ []) in
        ap (λ x. x ++ b ∷ []) (take_all 33 u (omega arith)) ∙ sym (take_all 33 (u ++ b ∷ []) (omega arith))
    by false e = let l = length-take 33 u in let many : 33 ≤ length u = grind (arith, nat_tests) in sym (take-append-le 33 u (b ∷ []) many)

letters_go : (u : List ℕ) (b : ℕ) → is_word_byte b ≡ true → Continues (mode.Word (take 33 u)) (mode.Word (take 33 (u ++ b ∷ []))) b
letters_go u b h = record { step = λ began here. rw (h, kept_more u b) refl; good = refl }

appended : (u bs : List ℕ) → all_of (λ w b. w ++ b ∷ []) u bs ≡ u ++ bs
appended u [] = sym (append-nil u)
appended u (b ∷ bs) = appended (u ++ b ∷ []) bs ∙ append_assoc u (b ∷ []) bs

-- the rest of a word
pub word_lexed : (u bs after : List ℕ) (began here : Position) → AllByRecursion (λ b. IsTrue (is_word_byte b)) bs
    → lexed (state (mode.Word (take 33 u)) began here) (bs ++ after) ≡ lexed (state (mode.Word (take 33 (u ++ bs))) began (behind_all here bs)) after
word_lexed u bs after began here h =
    span_lexed (λ w. mode.Word (take 33 w)) (λ w b. w ++ b ∷ []) is_word_byte letters_go bs after u began here h
    ∙ ap (λ w. lexed (state (mode.Word (take 33 w)) began (behind_all here bs)) after) (appended u bs)

counted : (d : Digits) (bs : List ℕ) → all_of with_digit d bs ≡ with_digits d bs
counted d [] = refl
counted d (b ∷ bs) = counted (with_digit d b) bs

whole_go : (d : Digits) (b : ℕ) → is_digit b ≡ true → Continues (mode.Whole d) (mode.Whole (with_digit d b)) b
whole_go d b h = record { step = λ began here. rw h refl; good = refl }

-- more digits of a number
pub whole_lexed : (d : Digits) (bs after : List ℕ) (began here : Position) → AllByRecursion (λ b. IsTrue (is_digit b)) bs
    → lexed (state (mode.Whole d) began here) (bs ++ after) ≡ lexed (state (mode.Whole (with_digits d bs)) began (behind_all here bs)) after
whole_lexed d bs after began here h =
    span_lexed mode.Whole with_digit is_digit whole_go bs after d began here h
    ∙ ap (λ e. lexed (state (mode.Whole e) began (behind_all here bs)) after) (counted d bs)

quotient_go : (o d : Digits) (b : ℕ) → is_digit b ≡ true → Continues (mode.Quotient o d) (mode.Quotient o (with_digit d b)) b
quotient_go o d b h = record { step = λ began here. rw h refl; good = refl }

-- more digits of a denominator
pub quotient_lexed : (o d : Digits) (bs after : List ℕ) (began here : Position) → AllByRecursion (λ b. IsTrue (is_digit b)) bs
    → lexed (state (mode.Quotient o d) began here) (bs ++ after) ≡ lexed (state (mode.Quotient o (with_digits d bs)) began (behind_all here bs)) after
quotient_lexed o d bs after began here h =
    span_lexed (mode.Quotient o) with_digit is_digit (quotient_go o) bs after d began here h
    ∙ ap (λ e. lexed (state (mode.Quotient o e) began (behind_all here bs)) after) (counted d bs)

abbrev decimal_mode : Digits × ℕ → Mode
decimal_mode x = mode.Decimal x.0 x.1

abbrev decimal_more : Digits × ℕ → ℕ → Digits × ℕ
decimal_more x b = (with_digit x.0 b, min (x.1 + 1) 7)

decimal_go : (x : Digits × ℕ) (b : ℕ) → is_digit b ≡ true → Continues (decimal_mode x) (decimal_mode (decimal_more x b)) b
decimal_go x b h = record { step = λ began here. rw h refl; good = refl }

decimals_counted : (d : Digits) (k : ℕ) (bs : List ℕ) → all_of decimal_more (d, min k 7) bs ≡ (with_digits d bs, min (k + length bs) 7)
decimals_counted d k [] = ap (λ n. (d, min n 7)) (omega arith)
decimals_counted d k (b ∷ bs) =
    ap (λ n. all_of decimal_more (with_digit d b, n) bs) (omega arith)
    ∙ decimals_counted (with_digit d b) (k + 1) bs
    ∙ ap (λ n. (with_digits (with_digit d b) bs, min n 7)) (omega arith)

-- more decimals
pub decimal_lexed : (d : Digits) (k : ℕ) (bs after : List ℕ) (began here : Position) → AllByRecursion (λ b. IsTrue (is_digit b)) bs
    → lexed (state (mode.Decimal d (min k 7)) began here) (bs ++ after) ≡ lexed (state (mode.Decimal (with_digits d bs) (min (k + length bs) 7)) began (behind_all here bs)) after
decimal_lexed d k bs after began here h =
    span_lexed decimal_mode decimal_more is_digit decimal_go bs after (d, min k 7) began here h
    ∙ ap (λ x. lexed (state (decimal_mode x) began (behind_all here bs)) after) (decimals_counted d k bs)
