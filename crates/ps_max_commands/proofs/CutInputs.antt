-- An answer is looked for line by line.
use Rattle.std.proofs.Common.{◌≡◌, ◌≢◌, ℕ, zero, suc, ◌-◌, ◌≤◌, ◌==◌, Bool, true, false, Option, Some, None, List, [], ◌∷◌, length, take, drop, get_or, arith, refl, sym, ap, ◌∙◌, length-append, eqb-true}
use Rattle.std.specs.List.{All, join_with_byte, slice_split}
use Rattle.std.proofs.lemmas.List.{take_rest, drop_all}
use Rattle.std.proofs.lemmas.List.Splits.{slice_split_at, slice_split_none, join_with_byte-slice_split}
use Rattle.ps_log.specs.FirstLines.{IsFirstLine, IsOneLine}
use Rattle.ps_wcnf.specs.Splitting.{lines_of, IsEndedLine, IsCutLine}
use Rattle.ps_wcnf.proofs.Cutting.{lines-cut, lines-one}
use Rattle.ps_max_commands.specs.Splits.{begins_answer, lines_before, behind_lines, answer_of_input}

-- the parts between line feeds
abbrev pub parts_of : List ℕ → List (List ℕ)
parts_of text = slice_split (λ b. b == 10) text

other_byte : (b s : ℕ) → b ≢ s → (b == s) ≡ false
other_byte b s h = by (b == s) refl
  where
    by : (t : Bool) → (b == s) ≡ t → t ≡ false
    by false e = refl
    by true e = absurd (h (eqb-true b s e))

no_feed : (line : List ℕ) → IsOneLine line → All (λ b. (b == 10) ≡ false) line
no_feed line one k d lt = other_byte (get_or line k d) 10 (one k d lt)

pub parts_cut : (text part after : List ℕ) → IsFirstLine text part after → parts_of text ≡ part ∷ parts_of after
parts_cut text part after first = ap parts_of first.is ∙ slice_split_at (λ b. b == 10) part 10 after (no_feed part first.whole) refl

pub parts_one : (text : List ℕ) → IsOneLine text → parts_of text ≡ text ∷ []
parts_one text one = slice_split_none (λ b. b == 10) text (no_feed text one)

pub lines_cut : (text line after : List ℕ) → IsEndedLine text line after → lines_of text ≡ line ∷ lines_of after
lines_cut text line after e = lines-cut text e.part after e.first.is e.first.whole ∙ ap (λ l. l ∷ lines_of after) (sym e.is)

-- ---- a line that begins no answer
no_answer : (line : List ℕ) (lines : List (List ℕ)) → begins_answer line ≡ false → lines_before (line ∷ lines) ≡ suc (lines_before lines)
no_answer line lines other = rw other refl

pub answer_later : (text line after : List ℕ) → IsEndedLine text line after → begins_answer line ≡ false → answer_of_input text ≡ answer_of_input after
answer_later text line after e other =
    ap (λ ls. behind_lines (lines_before ls) text) (lines_cut text line after e)
    ∙ ap (λ ps. join_with_byte 10 (drop (lines_before (line ∷ lines_of after)) ps)) (parts_cut text e.part after e.first)
    ∙ ap (λ n. join_with_byte 10 (drop n (e.part ∷ parts_of after))) (no_answer line (lines_of after) other)

answer_never : (text : List ℕ) → IsOneLine text → begins_answer text ≡ false → answer_of_input text ≡ []
answer_never text one other =
    ap (λ ls. behind_lines (lines_before ls) text) (lines-one text one)
    ∙ ap (λ ps. join_with_byte 10 (drop (lines_before (text ∷ [])) ps)) (parts_one text one)
    ∙ ap (λ n. join_with_byte 10 (drop n (text ∷ []))) (no_answer text [] other)

-- the answer of what is left
abbrev pub answer_left : Option (List ℕ) → List ℕ
answer_left None = []
answer_left (Some text) = answer_of_input text

pub left_later : (text line : List ℕ) (after : Option (List ℕ)) → IsCutLine text line after → begins_answer line ≡ false → answer_of_input text ≡ answer_left after
left_later text line (Some after) e other = answer_later text line after e other
left_later text line None e other = answer_never text e.1 (sym (ap begins_answer e.0) ∙ other)

-- ---- a line that begins one
pub answer_here : (text line : List ℕ) (lines : List (List ℕ)) → lines_of text ≡ line ∷ lines → begins_answer line ≡ true → answer_of_input text ≡ text
answer_here text line lines e begins =
    let none : lines_before (line ∷ lines) ≡ 0 = rw begins refl in
    ap (λ ls. behind_lines (lines_before ls) text) e ∙ ap (λ n. behind_lines n text) none ∙ join_with_byte-slice_split 10 text

-- ---- an answer is no longer than the input
joined_more : (p : List ℕ) (ps : List (List ℕ)) → length (join_with_byte 10 ps) ≤ length (join_with_byte 10 (p ∷ ps))
joined_more p [] = omega arith
joined_more p (q ∷ ps) = omega (arith, length-append p (10 ∷ join_with_byte 10 (q ∷ ps)))

joined_drop : (n : ℕ) (ps : List (List ℕ)) → length (join_with_byte 10 (drop n ps)) ≤ length (join_with_byte 10 ps)
joined_drop zero ps = omega arith
joined_drop (suc n) [] = omega arith
joined_drop (suc n) (p ∷ ps) = omega (arith, joined_drop n ps, joined_more p ps)

pub answer_within : (bytes : List ℕ) → length (answer_of_input bytes) ≤ length bytes
answer_within bytes =
    let all = ap length (join_with_byte-slice_split 10 bytes) in
    omega (arith, joined_drop (lines_before (lines_of bytes)) (parts_of bytes), all)

pub nothing_behind : (bytes : List ℕ) → take (length bytes - length bytes) (drop (length bytes) bytes) ≡ []
nothing_behind bytes = take_rest bytes (length bytes) ∙ drop_all (length bytes) bytes (omega arith)
