-- Sentences by their numbers.
use Rattle.std.specs.Prelude.{ℕ, ◌-◌, List, [], Option, Some, None, slice_get, get_or}
use Rattle.ps_problem.specs.declared.sentence.Sentence.{Sentence}
use Rattle.ps_problem.specs.Problems.{Parts}
use Rattle.ps_canonical.specs.Lines.{statement_text}

-- a sentence, where there is one
abbrev pub stated_text : Parts → Option Sentence → List ℕ
stated_text p (Some s) = statement_text p s
stated_text p None = []

-- the sentence of a number from 1
abbrev pub sentence_text : Parts → ℕ → List ℕ
sentence_text p n = stated_text p (slice_get p.sentences (n - 1))

-- the line on which the sentence of a number begins, or 0
abbrev pub line_at : List ℕ → ℕ → ℕ
line_at lines n = get_or lines (n - 1) 0
