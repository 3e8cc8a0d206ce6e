-- What is written of a line within the limits is a line that says it.
use Rattle.std.proofs.Common.{◌≡◌, ◌≢◌, ℕ, ◌==◌, ◌<◌, ◌^◌, ℤ, pos, negsuc, Bool, true, false, not, ◌&&◌, List, [], ◌∷◌, ◌++◌, length, map, fold, refl, sym, ap, subst, ◌∙◌, append_assoc, append-nil, arith, unsigned_abs, All, true≢false}
use Rattle.std.specs.Prelude.{codes, decimal}
use Rattle.std.specs.Fmt.{signed_decimal}
use Rattle.std.specs.List.{list_all, AllByRecursion}
use Rattle.std.specs.Char.{digit_value}
use Rattle.std.specs.Str.Parse.{AllDigits}
use Rattle.std.proofs.lemmas.Bool.{eqb-true, and_parts, and_from}
use Rattle.std.proofs.lemmas.List.Elements.{All-cons, All-nil}
use Rattle.ps_io.specs.LineText.{with_word}
use Rattle.ps_meaning.specs.Formula.{World}
use Rattle.ps_table.specs.declared.col.Col.TheVariants as col
use Rattle.ps_log.specs.Spellings.{Spells}
use Rattle.ps_log.specs.Spellings.{words_of}
use Rattle.ps_log.specs.FirstLines.{IsOneLine}
use Rattle.ps_log.proofs.Spelled.{written-spells, decimal-spells}
use Rattle.ps_log.proofs.StepLines.{words-cut, words-one}
use Rattle.ps_answer.specs.Words.{Word, Letters, Number, Fraction, Column, Truths, SpellsWord, SpellWords, digit_of, word_text, joined}

-- neither a space nor a line feed
abbrev pub is_inner : ℕ → Bool
is_inner b = not (b == 32) && not (b == 10)

-- no byte is a space or a line feed
abbrev pub no_space : List ℕ → Bool
no_space bytes = list_all is_inner bytes

-- numbers that std spells in full
abbrev pub IsWordSmall : Word → Type 0
IsWordSmall (Letters l) = no_space l ≡ true
IsWordSmall (Number z) = unsigned_abs z < 10 ^ 64
IsWordSmall (Fraction q) = (unsigned_abs q.over < 10 ^ 64) × (q.under < 10 ^ 64)
IsWordSmall (Column (col.Home i)) = i < 10 ^ 64
IsWordSmall (Column (col.World n)) = n < 10 ^ 64
IsWordSmall (Truths w) = Unit {0}

-- what is written of a word spells it
pub written_word : (w : Word) → IsWordSmall w → SpellsWord (word_text w) w
written_word (Letters l) h = refl
written_word (Number z) h = written-spells z h
written_word (Fraction q) h = record {
  over = signed_decimal q.over;
  under = decimal q.under;
  is = append_assoc (signed_decimal q.over) (codes "/") (decimal q.under);
  over_is = written-spells q.over h.0;
  under_is = decimal-spells q.under h.1;
}
written_word (Column (col.Home i)) h = (refl, decimal-spells i h)
written_word (Column (col.World n)) h = (refl, decimal-spells n h)
written_word (Truths w) h = refl

-- no word has a space
no_space_append : (xs ys : List ℕ) → no_space xs ≡ true → no_space ys ≡ true → no_space (xs ++ ys) ≡ true
no_space_append [] ys p q = q
no_space_append (x ∷ xs) ys p q = let r = and_parts (is_inner x) (no_space xs) p in and_from _ _ r.0 (no_space_append xs ys r.1 q)

digit_is_not : (sep d : ℕ) → (digit_value sep < 10 → ⊥) → digit_value d < 10 → not (d == sep) ≡ true
digit_is_not sep d n h = by (d == sep) refl
  where
    by : (t : Bool) → (d == sep) ≡ t → not t ≡ true
    by false e = refl
    by true e = absurd (n (subst (λ m. digit_value m < 10) (eqb-true d sep e) h))

digit_no_space : (d : ℕ) → digit_value d < 10 → is_inner d ≡ true
digit_no_space d h = and_from _ _ (digit_is_not 32 d (λ g. omega (arith, g)) h) (digit_is_not 10 d (λ g. omega (arith, g)) h)

digits_no_space : (ds : List ℕ) → AllDigits 10 ds → no_space ds ≡ true
digits_no_space [] h = refl
digits_no_space (d ∷ ds) h = and_from _ _ (digit_no_space d h.0) (digits_no_space ds h.1)

spelled_no_space : (word : List ℕ) (z : ℤ) → Spells word z → no_space word ≡ true
spelled_no_space word (pos n) s = digits_no_space word s.plain.digits.1
spelled_no_space [] (negsuc n) s = absurd s
spelled_no_space (c ∷ cs) (negsuc n) s = rw s.0 (digits_no_space cs s.1.plain.digits.1)

truths_no_space : (w : World) → no_space (map digit_of w) ≡ true
truths_no_space [] = refl
truths_no_space (false ∷ w) = truths_no_space w
truths_no_space (true ∷ w) = truths_no_space w

word_no_space : (w : Word) → IsWordSmall w → no_space (word_text w) ≡ true
word_no_space (Letters l) h = h
word_no_space (Number z) h = spelled_no_space (signed_decimal z) z (written-spells z h)
word_no_space (Fraction q) h =
    no_space_append (signed_decimal q.over ++ codes "/") (decimal q.under)
    (no_space_append (signed_decimal q.over) (codes "/") (spelled_no_space (signed_decimal q.over) q.over (written-spells q.over h.0)) refl)
    (spelled_no_space (decimal q.under) (pos q.under) (decimal-spells q.under h.1))
word_no_space (Column (col.Home i)) h = spelled_no_space (decimal i) (pos i) (decimal-spells i h)
word_no_space (Column (col.World n)) h = spelled_no_space (decimal n) (pos n) (decimal-spells n h)
word_no_space (Truths []) h = refl
word_no_space (Truths (b ∷ w)) h = truths_no_space (b ∷ w)

not_space : (b : ℕ) → is_inner b ≡ true → b ≢ 32
not_space b h e = true≢false (sym (and_parts (not (b == 32)) (not (b == 10)) h).0 ∙ ap (λ n. not (n == 32)) e)

not_feed : (b : ℕ) → is_inner b ≡ true → b ≢ 10
not_feed b h e = true≢false (sym (and_parts (not (b == 32)) (not (b == 10)) h).1 ∙ ap (λ n. not (n == 10)) e)

all_not_space : (bs : List ℕ) → no_space bs ≡ true → All (λ b. b ≢ 32) bs
all_not_space [] h = All-nil (λ b. b ≢ 32)
all_not_space (b ∷ bs) h = let r = and_parts (is_inner b) (no_space bs) h in All-cons (λ b. b ≢ 32) b bs (not_space b r.0) (all_not_space bs r.1)

-- no line feed among bytes, and among further ones
feeds_none : (bs more : List ℕ) → no_space bs ≡ true → IsOneLine more → IsOneLine (bs ++ more)
feeds_none [] more h m = m
feeds_none (b ∷ bs) more h m = let r = and_parts (is_inner b) (no_space bs) h in All-cons (λ b. b ≢ 10) b (bs ++ more) (not_feed b r.0) (feeds_none bs more r.1 m)

-- words with a space before each
abbrev pub spaced : List Word → List ℕ
spaced [] = []
spaced (w ∷ ws) = 32 ∷ (word_text w ++ spaced ws)

with_spaced : (c : ℕ) (cs : List ℕ) (ws : List Word) → fold (λ l w. with_word l (word_text w)) (c ∷ cs) ws ≡ (c ∷ cs) ++ spaced ws
with_spaced c cs [] = sym (append-nil (c ∷ cs))
with_spaced c cs (w ∷ ws) = with_spaced c (cs ++ 32 ∷ word_text w) ws ∙ append_assoc (c ∷ cs) (32 ∷ word_text w) (spaced ws)

split_spaced : (w : List ℕ) (ws : List Word) → no_space w ≡ true → AllByRecursion IsWordSmall ws → words_of (w ++ spaced ws) ≡ w ∷ map word_text ws
split_spaced w [] n h = ap words_of (append-nil w) ∙ words-one w (all_not_space w n)
split_spaced w (v ∷ vs) n h =
    words-cut (w ++ spaced (v ∷ vs)) w (word_text v ++ spaced vs) refl (all_not_space w n)
    ∙ ap (λ l. w ∷ l) (split_spaced (word_text v) vs (word_no_space v h.0) h.1)

written_words : (ws : List Word) → AllByRecursion IsWordSmall ws → SpellWords (map word_text ws) ws
written_words [] h = tt
written_words (w ∷ ws) h = (written_word w h.0, written_words ws h.1)

-- a line whose first word is letters says its words
pub written_line : (c : ℕ) (cs : List ℕ) (ws : List Word) → no_space (c ∷ cs) ≡ true → AllByRecursion IsWordSmall ws → SpellWords (words_of (joined (Letters (c ∷ cs) ∷ ws))) (Letters (c ∷ cs) ∷ ws)
written_line c cs ws n h =
    subst (λ x. SpellWords x (Letters (c ∷ cs) ∷ ws)) (sym (ap words_of (with_spaced c cs ws) ∙ split_spaced (c ∷ cs) ws n h)) (refl, written_words ws h)

pub written_text : (l : List ℕ) (ws : List Word) → (0 < length l) × (no_space l ≡ true) → AllByRecursion IsWordSmall ws → SpellWords (words_of (joined (Letters l ∷ ws))) (Letters l ∷ ws)
written_text [] ws n h = absurd (omega (arith, n.0))
written_text (c ∷ cs) ws n h = written_line c cs ws n.1 h

spaced_one_line : (ws : List Word) → AllByRecursion IsWordSmall ws → IsOneLine (spaced ws)
spaced_one_line [] h = All-nil (λ b. b ≢ 10)
spaced_one_line (w ∷ ws) h = All-cons (λ b. b ≢ 10) 32 (word_text w ++ spaced ws) (λ e. omega (arith, e)) (feeds_none (word_text w) (spaced ws) (word_no_space w h.0) (spaced_one_line ws h.1))

-- such a line has no line feed
pub written_whole : (l : List ℕ) (ws : List Word) → (0 < length l) × (no_space l ≡ true) → AllByRecursion IsWordSmall ws → IsOneLine (joined (Letters l ∷ ws))
written_whole [] ws n h = absurd (omega (arith, n.0))
written_whole (c ∷ cs) ws n h = subst IsOneLine (sym (with_spaced c cs ws)) (feeds_none (c ∷ cs) (spaced ws) n.1 (spaced_one_line ws h))

-- the words of a line, and that it is one
pub written_both : (l : List ℕ) (ws : List Word) → (0 < length l) × (no_space l ≡ true) → AllByRecursion IsWordSmall ws
    → SpellWords (words_of (joined (Letters l ∷ ws))) (Letters l ∷ ws) × IsOneLine (joined (Letters l ∷ ws))
written_both l ws n h = (written_text l ws n h, written_whole l ws n h)
