-- Texts that are cut at blanks and line feeds.
use Rattle.std.proofs.Common.{◌≡◌, ◌≢◌, ℕ, ◌+◌, ◌-◌, ◌<◌, ◌≤◌, ◌==◌, true, false, List, [], ◌∷◌, ◌++◌, length, take, drop, get_or, arith, refl, sym, ap, ◌∙◌, eqb-true, length-drop}
use Rattle.std.specs.List.{All, filter, slice_split}
use Rattle.std.proofs.lemmas.List.{take-append-drop, drop_more, take_rest, get_or-take, length-take, drop_all}
use Rattle.std.proofs.lemmas.List.Splits.{slice_split_at, slice_split_none, length-slice_split}
use Rattle.ps_clause.proofs.Tidy.{by_bool}
use Rattle.ps_wcnf.specs.Splitting.{is_blank, has_bytes, words_of, without_return, ended_lines, lines_of, IsFirstPart, IsFirstWord}

-- no byte before a place is a blank
abbrev pub LacksBlanks : List ℕ → ℕ → Type 0
LacksBlanks text i = (k d : ℕ) → k < i → is_blank (get_or text k d) ≡ false

pub part-found : (text : List ℕ) (i d : ℕ) → i < length text → LacksBlanks text i → is_blank (get_or text i d) ≡ true
    → IsFirstPart text (take i text) (take (length text - (i + 1)) (drop (i + 1) text))
part-found text i d lt none here =
    let rest = take_rest text (i + 1) in
    let cut : text ≡ take i text ++ get_or text i d ∷ drop (i + 1) text = sym (take-append-drop i text) ∙ ap (λ r. take i text ++ r) (drop_more text i d lt) in
    let long = length-take i text in
    let all : All (λ b. is_blank b ≡ false) (take i text) = λ k e m. rw (get_or-take i text k e (omega (arith, m, long))) (none k e (omega (arith, m, long))) in
    record {
      parts = ap (slice_split is_blank) cut ∙ slice_split_at is_blank (take i text) (get_or text i d) (drop (i + 1) text) all here ∙ ap (λ r. take i text ∷ slice_split is_blank r) (sym rest);
      shorter = let e = ap length rest in let n = length-drop (i + 1) text in omega (arith, e, n, lt);
    }

pub part-none : (text : List ℕ) (i : ℕ) → length text ≤ i → LacksBlanks text i → slice_split is_blank text ≡ text ∷ []
part-none text i most none = slice_split_none is_blank text (λ k d lt. none k d (omega (arith, lt, most)))

has-bytes : (text : List ℕ) → 0 < length text → has_bytes text ≡ true
has-bytes text some = grind (arith, some)

has-none : (text : List ℕ) → length text ≤ 0 → has_bytes text ≡ false
has-none text none = grind (arith, none)

-- an empty part is no word
pub words-empty : (text part after : List ℕ) → IsFirstPart text part after → length part ≤ 0 → words_of text ≡ words_of after
words-empty text part after is none = ap (filter has_bytes) is.parts ∙ rw (has-none part none) refl

-- a part with bytes is one
pub words-first : (text part after : List ℕ) → IsFirstPart text part after → 0 < length part → words_of text ≡ part ∷ words_of after
words-first text part after is some = ap (filter has_bytes) is.parts ∙ rw (has-bytes part some) refl

pub words-last : (text : List ℕ) → slice_split is_blank text ≡ text ∷ [] → 0 < length text → words_of text ≡ text ∷ []
words-last text e some = ap (filter has_bytes) e ∙ rw (has-bytes text some) refl

pub words-none : (text : List ℕ) → slice_split is_blank text ≡ text ∷ [] → length text ≤ 0 → words_of text ≡ []
words-none text e none = ap (filter has_bytes) e ∙ rw (has-none text none) refl

-- what is left of a text, in words
pub record IsLeft (text rest : List ℕ) : Type 0 where
  pub words : words_of text ≡ words_of rest
  pub within : length rest ≤ length text

pub left-next : (text rest part after : List ℕ) → IsLeft text rest → IsFirstPart rest part after → length part ≤ 0 → IsLeft text after
left-next text rest part after left is none = record {
  words = left.words ∙ words-empty rest part after is none;
  within = omega (arith, left.within, is.shorter);
}

pub left-word : (text rest part after : List ℕ) → IsLeft text rest → IsFirstPart rest part after → 0 < length part → IsFirstWord text part after
left-word text rest part after left is some = record {
  words = left.words ∙ words-first rest part after is some;
  shorter = omega (arith, left.within, is.shorter);
}

pub left-last : (text rest : List ℕ) → IsLeft text rest → slice_split is_blank rest ≡ rest ∷ [] → 0 < length rest
    → IsFirstWord text rest (take (length rest - length rest) (drop (length rest) rest))
left-last text rest left e some =
    let none : take (length rest - length rest) (drop (length rest) rest) ≡ [] = take_rest rest (length rest) ∙ drop_all (length rest) rest (omega arith) in
    record {
      words = left.words ∙ words-last rest e some ∙ ap (λ r. rest ∷ words_of r) (sym none);
      shorter = rw none (omega (arith, left.within, some));
    }

pub left-none : (text rest : List ℕ) → IsLeft text rest → slice_split is_blank rest ≡ rest ∷ [] → length rest ≤ 0 → words_of text ≡ []
left-none text rest left e none = left.words ∙ words-none rest e none

-- ---- lines
other-byte : (b s : ℕ) → b ≢ s → (b == s) ≡ false
other-byte b s h = by_bool (b == s) (λ t. absurd (h (eqb-true b s t))) (λ f. f)

ended-more : (part : List ℕ) (parts : List (List ℕ)) → 0 < length parts → ended_lines (part ∷ parts) ≡ without_return part ∷ ended_lines parts
ended-more part [] some = absurd (omega (arith, some))
ended-more part (next ∷ parts) some = refl

pub lines-cut : (text line after : List ℕ) → text ≡ line ++ 10 ∷ after → All (λ b. b ≢ 10) line → lines_of text ≡ without_return line ∷ lines_of after
lines-cut text line after e none =
    let cut : slice_split (λ b. b == 10) text ≡ line ∷ slice_split (λ b. b == 10) after =
    ap (slice_split (λ b. b == 10)) e ∙ slice_split_at (λ b. b == 10) line 10 after (λ k d lt. other-byte (get_or line k d) 10 (none k d lt)) refl in
    ap ended_lines cut ∙ ended-more line (slice_split (λ b. b == 10) after) (let n = length-slice_split (λ b. b == 10) after in omega (arith, n))

pub lines-one : (text : List ℕ) → All (λ b. b ≢ 10) text → lines_of text ≡ text ∷ []
lines-one text none = ap ended_lines (slice_split_none (λ b. b == 10) text (λ k d lt. other-byte (get_or text k d) 10 (none k d lt)))
