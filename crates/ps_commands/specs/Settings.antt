-- What the words behind a command's name set.
use Rattle.std.specs.Prelude.{◌≡◌, ◌≤◌, ℕ, Bool, true, false, List, [], ◌∷◌, Option, MatchOption, decimal}
use Rattle.ps_commands.specs.declared.command.Command.{Command}
use Rattle.ps_runs.specs.declared.limits.Limits.{Limits}
use Rattle.ps_make.specs.declared.made.TheConstants.{MOST_LINKS}
use Rattle.ps_commands.specs.declared.command.Limit.{Limit}
use Rattle.ps_commands.specs.declared.command.Limit.TheVariants.{Pivots}
use Rattle.ps_commands.specs.declared.command.LimitValue.{LimitValue}
use Rattle.ps_commands.specs.declared.command.LimitValue.TheVariants.{Number, Enough}
use Rattle.ps_commands.specs.declared.command.RunSettings.{RunSettings}
use Rattle.ps_commands.specs.declared.command.TheConstants.{DEFAULT_PIVOTS}
use Rattle.ps_commands.specs.Commands.{limit_word, value_word, MayBe, SetOne, SetRuns, Spell, SpellNone}

-- the two words set the limit to the value
pub record SetsLimit (word value : List ℕ) (limit : Limit) (v : LimitValue) : Type 0 where
  pub word_is : word ≡ limit_word limit
  pub value_is : value ≡ value_word v
  pub within : MayBe limit v

-- they don't set it
pub record IsUnset (word value : List ℕ) (limit : Limit) : Type 0 where
  pub none : (v : LimitValue) → ¬ SetsLimit word value limit v

-- they set it to no number
pub record HasNoNumber (word digits : List ℕ) (limit : Limit) : Type 0 where
  pub none : (n : ℕ) → ¬ SetsLimit word digits limit (Number n)

-- they set it to the value that is found, or don't set it where there is none
abbrev pub FindsValue : List ℕ → List ℕ → Limit → Option LimitValue → Type 0
FindsValue word value limit found = MatchOption found (IsUnset word value limit) (λ v. SetsLimit word value limit v)

-- they set it to the number that is found, or to none where there is none
abbrev pub FindsNumber : List ℕ → List ℕ → Limit → Option ℕ → Type 0
FindsNumber word digits limit found = MatchOption found (HasNoNumber word digits limit) (λ n.
    SetsLimit word digits limit (Number n))

-- the two words set pivots to what is enough
abbrev pub SetEnough : List ℕ → List ℕ → Type 0
SetEnough word value = (word ≡ limit_word Pivots) × (value ≡ value_word Enough)

-- the words don't set the one limit of a command
pub record SetsNoOne (limit : Limit) (words : List (List ℕ)) : Type 0 where
  pub none : (n : ℕ) → ¬ SetOne [] limit n words

-- the words set the one limit of a command to the number that is found, or don't set it where there is none
abbrev pub FindsOne : Limit → List (List ℕ) → Option ℕ → Type 0
FindsOne limit words found = MatchOption found (SetsNoOne limit words) (λ n. SetOne [] limit n words)

-- the words are no settings of the limits of runs
pub record SetNoRuns (words : List (List ℕ)) : Type 0 where
  pub none : (pivots : LimitValue) (conflicts : ℕ) → ¬ SetRuns [] pivots conflicts words

-- the words are the settings that are found, or none where there are none
abbrev pub FindsSettings : List (List ℕ) → Option RunSettings → Type 0
FindsSettings words found = MatchOption found (SetNoRuns words) (λ s. SetRuns [] s.pivots s.conflicts words)

-- limits of so many pivots, or of the default where pivots are to be enough, and of so many conflicts
abbrev pub limits_by : LimitValue → ℕ → Limits
limits_by (Number n) conflicts = record { pivots = n; conflicts = conflicts }
limits_by Enough conflicts = record { pivots = DEFAULT_PIVOTS; conflicts = conflicts }

-- whether pivots are to be enough
abbrev pub is_enough : LimitValue → Bool
is_enough (Number n) = false
is_enough Enough = true

-- behind a command's word the words spell the command that is found, or where there is none, they spell none
abbrev pub FindsBehind : List ℕ → List (List ℕ) → Option Command → Type 0
FindsBehind name words found = MatchOption found (SpellNone (name ∷ words)) (λ command. Spell (name ∷ words) command)

-- a word spells no number of links that may be
pub record SpellsNoLinks (word : List ℕ) : Type 0 where
  pub none : (n : ℕ) → 1 ≤ n → n ≤ MOST_LINKS → ¬ (word ≡ decimal n)

-- a word spells so many links, which may be
pub record SpellsLinks (word : List ℕ) (n : ℕ) : Type 0 where
  pub some : 1 ≤ n
  pub few : n ≤ MOST_LINKS
  pub spelled : word ≡ decimal n

-- a word spells the links that are found, or where there are none, spells none
abbrev pub FindsLinks : List ℕ → Option ℕ → Type 0
FindsLinks word found = MatchOption found (SpellsNoLinks word) (SpellsLinks word)
