-- Words of a line that are still to be read.
use Rattle.std.specs.Prelude.{List, [], ◌∷◌, ℕ, option_copied}
use Rattle.ps_log.specs.Numbers.{words_after}
use Rattle.ps_reader.specs.declared.words.Words.{Words}

-- the words that are left
abbrev pub words_in : Words → List (List ℕ)
words_in w = words_after (option_copied w.rest)

-- all but the first
abbrev pub later : List (List ℕ) → List (List ℕ)
later [] = []
later (w ∷ ws) = ws
