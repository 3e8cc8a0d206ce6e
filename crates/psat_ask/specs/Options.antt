-- What the words of options set.
use Rattle.std.specs.Prelude.{◌≡◌, ◌≢◌, List, ℕ, Option, None, MatchOption, codes, true, false}
use Rattle.ps_answer.specs.declared.limits.TheConstants.{MOST_PIVOTS}
use Rattle.ps_log.specs.declared.limits.TheConstants.{MOST_CONFLICTS}
use Rattle.ps_frac.specs.declared.limits.TheConstants.{MOST_DIGITS}
use Rattle.ps_ask.specs.declared.settings.Settings.{Settings}
use Rattle.ps_ask.specs.declared.settings.Style.{Style}
use Rattle.ps_ask.specs.declared.settings.Style.TheVariants.{Words}
use Rattle.psat_ask.specs.declared.options.Valued.{Valued}
use Rattle.psat_ask.specs.declared.options.Valued.TheVariants.{Digits, Pivots, Conflicts, Report, TimeLimit}
use Rattle.psat_ask.specs.Numbers.{Spells, SpellsNone}
use Rattle.psat_ask.specs.Kinds.{all_kinds}

-- the settings without options: 10,000 pivots, 20,000 conflicts, six digits, words, nothing beneath bounds, no report, warnings,
-- no limit of time
abbrev pub usual_settings : Settings
usual_settings = record {
  limits = record { pivots = 10000; conflicts = 20000 };
  digits = 6;
  style = Words;
  tells_support = false;
  tells_examples = false;
  reports = false;
  warns = all_kinds;
  is_timed = false;
}

-- the word of an option with a value
abbrev pub name_of : Valued → List ℕ
name_of Digits = codes "--digits"
name_of Pivots = codes "--pivots"
name_of Conflicts = codes "--conflicts"
name_of Report = codes "--report"
name_of TimeLimit = codes "--time-limit"

-- the option that is found is the one that the word names; there is none where it names none
abbrev pub FindsNamed : List ℕ → Option Valued → Type 0
FindsNamed word found = MatchOption found ((option : Valued) → word ≢ name_of option) (λ option. word ≡ name_of option)

-- the digits of decimals are those that the word spells, and nothing else changes
pub record SetsDigits (word : List ℕ) (old new : Settings) : Type 0 where
  pub spelled : Spells 1 MOST_DIGITS word new.digits
  pub kept : new ≡ record old { digits = new.digits }

-- the most pivots of a run are those that the word spells, and nothing else changes
pub record SetsPivots (word : List ℕ) (old new : Settings) : Type 0 where
  pub spelled : Spells 0 MOST_PIVOTS word new.limits.pivots
  pub kept : new ≡ record old { limits = record old.limits { pivots = new.limits.pivots } }

-- the most conflicts of a search are those that the word spells, and nothing else changes
pub record SetsConflicts (word : List ℕ) (old new : Settings) : Type 0 where
  pub spelled : Spells 0 MOST_CONFLICTS word new.limits.conflicts
  pub kept : new ≡ record old { limits = record old.limits { conflicts = new.limits.conflicts } }

-- the settings that are found are the old ones with what the word spells for the option; there are none where it spells no number
-- that may be, and of an option that sets none of them
abbrev pub FindsValue : Valued → List ℕ → Settings → Option Settings → Type 0
FindsValue Digits word old found = MatchOption found (SpellsNone 1 MOST_DIGITS word) (SetsDigits word old)
FindsValue Pivots word old found = MatchOption found (SpellsNone 0 MOST_PIVOTS word) (SetsPivots word old)
FindsValue Conflicts word old found = MatchOption found (SpellsNone 0 MOST_CONFLICTS word) (SetsConflicts word old)
FindsValue other word old found = found ≡ None

-- settings have another style than this one, and it was asked for
pub record HasOtherStyle (settings : Settings) (style : Style) : Type 0 where
  pub asked : settings.style ≢ Words
  pub other : settings.style ≢ style

-- the old settings may take the style; then nothing else changes
pub record SetsStyle (style : Style) (old new : Settings) : Type 0 where
  pub free : ¬ HasOtherStyle old style
  pub kept : new ≡ record old { style = style }

-- the settings that are found are the old ones in the style; there are none where another was asked for
abbrev pub FindsStyle : Style → Settings → Option Settings → Type 0
FindsStyle style old found = MatchOption found (HasOtherStyle old style) (SetsStyle style old)
