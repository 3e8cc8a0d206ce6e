-- Clauses, and an answer behind them.
use Rattle.std.specs.Prelude.{ℕ, suc, ◌==◌, ◌-◌, Bool, false, if◌then◌else◌, List, [], ◌∷◌, codes, bytes_eq, length, take, drop}
use Rattle.std.specs.List.{join_with_byte, slice_split}
use Rattle.ps_wcnf.specs.Splitting.{lines_of, words_of}

-- whether the first of these words is `maxsat`
abbrev pub is_answer_word : List (List ℕ) → Bool
is_answer_word [] = false
is_answer_word (w ∷ ws) = bytes_eq w (codes "maxsat")

-- whether the first word of a line is `maxsat`
abbrev pub begins_answer : List ℕ → Bool
begins_answer line = is_answer_word (words_of line)

-- how many lines stand before the first whose first word is `maxsat`; all of them where none is
abbrev pub lines_before : List (List ℕ) → ℕ
lines_before [] = 0
lines_before (line ∷ lines) = if begins_answer line then 0 else suc (lines_before lines)

-- what follows the first lines of a text, so many of them
abbrev pub behind_lines : ℕ → List ℕ → List ℕ
behind_lines n text = join_with_byte 10 (drop n (slice_split (λ b. b == 10) text))

-- the answer of an input: from the first line on whose first word is `maxsat`, and nothing where none is
abbrev pub answer_of_input : List ℕ → List ℕ
answer_of_input bytes = behind_lines (lines_before (lines_of bytes)) bytes

-- the clauses of an input: what stands before its answer
abbrev pub clauses_of_input : List ℕ → List ℕ
clauses_of_input bytes = take (length bytes - length (answer_of_input bytes)) bytes
