-- Bytes of a word that are passed.
use Rattle.std.proofs.Common.{◌≡◌, ℕ, ◌-◌, Bool, true, false, List, [], ◌∷◌, ◌++◌, length, get_or, take, drop, inl, inr, refl, sym, ap, subst, ◌∙◌, arith, append_assoc, length-append, true≢false}
use Rattle.std.proofs.lemmas.Bool.Decides.{nat_tests}
use Rattle.std.specs.Prelude.{◌==◌, nat_lt, IsTrue, ◌≤◌, if◌then◌else◌}
use Rattle.std.specs.List.{AllByRecursion}
use Rattle.ps_text.specs.Tokens.{is_word_byte}
use Rattle.ps_text.proofs.Spans.{same_byte}
use Rattle.ps_text.proofs.Cutting.{decide}
use Rattle.ps_lex.specs.declared.position.Position.{Position}
use Rattle.ps_lex.specs.declared.mode.Mode.TheVariants as mode
use Rattle.ps_lex.specs.Places.{behind, along}
use Rattle.ps_lex.specs.Lexing.{LexerState, letter_kept, continued, stepped_in, token_ended, with_byte, bad_place}
use Rattle.ps_lex.specs.Passing.{with_bytes, TellsNothing, TellNothing, Passes, letters_kept, TakesLetters}
use Rattle.ps_lex.proofs.Passing.{along_none, along_more, all_more, with_place, first_and_others}
use Rattle.ps_lex.proofs.Words.{state}

-- a word and bytes of words, one after the other

kept_after : (w bs : List ℕ) (b : ℕ) → letters_kept w (bs ++ b ∷ []) ≡ letter_kept (letters_kept w bs) b
kept_after w [] b = refl
kept_after w (c ∷ cs) b = kept_after (letter_kept w c) cs b

letter_more : (w bytes n left : List ℕ) (b : ℕ) → TakesLetters w bytes n (b ∷ left) → is_word_byte b ≡ true → TakesLetters w bytes (letter_kept n b) left
letter_more w bytes n left b t h = record {
  passed = t.passed ++ b ∷ [];
  bytes_are = t.bytes_are ∙ sym (append_assoc t.passed (b ∷ []) left);
  all = all_more is_word_byte t.passed b t.all h;
  kept = ap (λ u. letter_kept u b) t.kept ∙ sym (kept_after w t.passed b);
}

pub letters_more : (w bytes n left m : List ℕ) → TakesLetters w bytes n left → 1 ≤ length left → is_word_byte (get_or left 0 0) ≡ true → m ≡ letter_kept n (get_or left 0 0)
    → TakesLetters w bytes m (take (length left - 1) (drop 1 left))
letters_more w bytes n left m t l h e =
    subst (λ u. TakesLetters w bytes u (take (length left - 1) (drop 1 left))) (sym e)
    (letter_more w bytes n (take (length left - 1) (drop 1 left)) (get_or left 0 0) (subst (TakesLetters w bytes n) (first_and_others left l) t) h)

kept_capped : (w : List ℕ) (b : ℕ) → length w ≤ 33 → length (letter_kept w b) ≤ 33
kept_capped w b h = by (nat_lt (length w) 33) refl
  where
    by : (c : Bool) → nat_lt (length w) 33 ≡ c → length (if c then w ++ b ∷ [] else w) ≤ 33
    by true e = let n = length-append w (b ∷ []) in grind (arith, nat_tests)
    by false e = h

letters_capped : (w bs : List ℕ) → length w ≤ 33 → length (letters_kept w bs) ≤ 33
letters_capped w [] h = h
letters_capped w (b ∷ bs) h = letters_capped (letter_kept w b) bs (kept_capped w b h)

pub taken_capped : (w bytes n left : List ℕ) → TakesLetters w bytes n left → length w ≤ 33 → length n ≤ 33
taken_capped w bytes n left t h = subst (λ u. length u ≤ 33) (sym t.kept) (letters_capped w t.passed h)

-- what the lexer stands in behind them

no_feed : (b : ℕ) → is_word_byte b ≡ true → b == 10 ≡ false
no_feed b h = elim (decide (b == 10)) [ inl e ↦ absurd (true≢false (sym h ∙ ap is_word_byte (same_byte b 10 e))) | inr e ↦ e ]

letter_state : (w : List ℕ) (began here : Position) (b : ℕ) → is_word_byte b ≡ true → with_byte (state (mode.Word w) began here) b ≡ state (mode.Word (letter_kept w b)) began (along here 1)
unfolding with_byte behind
letter_state w began here b h = rw (h, no_feed b h) refl

letter_step : (w : List ℕ) (began here : Position) (b : ℕ) → is_word_byte b ≡ true → stepped_in (mode.Word w) began here b ≡ continued (mode.Word (letter_kept w b)) began
letter_step w began here b h = rw h refl

letter_quiet : (w : List ℕ) (began here : Position) (b : ℕ) → is_word_byte b ≡ true → TellsNothing (state (mode.Word w) began here) b
unfolding token_ended with_byte
letter_quiet w began here b h = record { token = ap (λ s. s.ended) (letter_step w began here b h); place = ap (λ s. bad_place s.mode) (letter_step w began here b h) }

letters_quiet : (w : List ℕ) (began here : Position) (bs : List ℕ) → AllByRecursion (λ b. IsTrue (is_word_byte b)) bs → TellNothing (state (mode.Word w) began here) bs
letters_quiet w began here [] h = tt
letters_quiet w began here (b ∷ bs) h =
    (letter_quiet w began here b h.0, subst (λ s. TellNothing s bs) (sym (letter_state w began here b h.0)) (letters_quiet (letter_kept w b) began (along here 1) bs h.1))

letters_state : (w : List ℕ) (began here : Position) (bs : List ℕ) → AllByRecursion (λ b. IsTrue (is_word_byte b)) bs
    → with_bytes (state (mode.Word w) began here) bs ≡ state (mode.Word (letters_kept w bs)) began (along here (length bs))
letters_state w began here [] h = ap (λ p. state (mode.Word w) began p) (sym (along_none here))
letters_state w began here (b ∷ bs) h =
    ap (λ s. with_bytes s bs) (letter_state w began here b h.0)
    ∙ letters_state (letter_kept w b) began (along here 1) bs h.1
    ∙ ap (λ p. state (mode.Word (letters_kept (letter_kept w b) bs)) began p) (along_more here (length bs))

pub letters_pass : (w bytes n left : List ℕ) (began here : Position) (s m : LexerState) (count : ℕ) → TakesLetters w bytes n left → s ≡ state (mode.Word w) began here → length bytes - length left ≡ count
    → m ≡ state (mode.Word n) began (along here count) → Passes s bytes m left
letters_pass w bytes n left began here s m count t es ec em =
    let l = ap length t.bytes_are in let k = length-append t.passed left in
    let counted : length t.passed ≡ count = omega (arith, l, k, ec) in
    let st : m ≡ with_bytes (state (mode.Word w) began here) t.passed = em ∙ ap (λ u. state (mode.Word u) began (along here count)) t.kept ∙ ap (λ c. state (mode.Word (letters_kept w t.passed)) began (along here c)) (sym counted)
    ∙ sym (letters_state w began here t.passed t.all) in
    subst (λ z. Passes z bytes m left) (sym es) (record {
      passed = t.passed;
      bytes_are = t.bytes_are;
      nothing_told = letters_quiet w began here t.passed t.all;
      state = st;
      place = ap (λ z. z.here) st ∙ with_place (state (mode.Word w) began here) t.passed;
    })
