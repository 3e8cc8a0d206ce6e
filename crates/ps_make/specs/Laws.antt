-- What is read in the texts that are made.
use Rattle.std.specs.Prelude.{◌≡◌, ◌≤◌, ℕ}
use Rattle.ps_text.specs.Canonical.{canonical_text}
use Rattle.ps_problem.specs.Problems.{Parts}
use Rattle.ps_problem.specs.Written.{items_from}
use Rattle.ps_read.specs.Readings.{SpellsWhole}
use Rattle.ps_make.specs.declared.made.TheConstants.{MOST_LINKS}
use Rattle.ps_make.specs.Chain.{made_text, made_problem}

-- all of a made text spells the problem of its items
abbrev pub MadeTextsSpellTheirProblem : Type 0
MadeTextsSpellTheirProblem = (n : ℕ) → n ≤ MOST_LINKS → SpellsWhole (made_text n) (made_problem n)

-- it spells no other problem
abbrev pub MadeTextsSpellOneProblem : Type 0
MadeTextsSpellOneProblem = (n : ℕ) (p : Parts) → n ≤ MOST_LINKS → SpellsWhole (made_text n) p → p ≡ made_problem n

-- it is that problem's canonical text
abbrev pub MadeTextsAreCanonical : Type 0
MadeTextsAreCanonical = (n : ℕ) → canonical_text (items_from (made_problem n)) ≡ made_text n
