-- Numbers that words spell.
use Rattle.std.specs.Prelude.{◌≡◌, ◌≤◌, ℕ, List, Option, MatchOption, decimal}

-- a word is the one spelling of a number from the least to the most: without a sign and without leading zeros
pub record Spells (least most : ℕ) (word : List ℕ) (n : ℕ) : Type 0 where
  pub some : least ≤ n
  pub few : n ≤ most
  pub spelled : word ≡ decimal n

-- a word spells no number from the least to the most
pub record SpellsNone (least most : ℕ) (word : List ℕ) : Type 0 where
  pub none : (n : ℕ) → ¬ Spells least most word n

-- a word spells the number that is found, or none where there is none
abbrev pub FindsNumber : ℕ → ℕ → List ℕ → Option ℕ → Type 0
FindsNumber least most word found = MatchOption found (SpellsNone least most word) (Spells least most word)
