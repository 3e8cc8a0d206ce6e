-- What words choose: the settings of answers, and what goes with them.
use Rattle.std.specs.Prelude.{◌≡◌, ℕ, Bool, true, List, [], ◌∷◌, ◌++◌, map, Option, None, option_map, string_bytes}
use Rattle.ps_ask.specs.declared.settings.Settings.{Settings}
use Rattle.ps_ask.specs.declared.settings.Style.{Style}
use Rattle.psat_ask.specs.declared.request.Asked.{Asked}
use Rattle.psat_ask.specs.Options.{SetsStyle, usual_settings}

-- the settings; the file of the report, where one is wanted beside what is shown; how many seconds a problem may take, where
-- that is limited; whether a terminal is told how far the answer is; the files of the problems
pub record Choices : Type 0 where
  pub settings : Settings
  pub report : Option (List ℕ)
  pub seconds : Option ℕ
  pub progress : Bool
  pub files : List (List ℕ)

-- what is chosen in what is asked for
abbrev pub choices_of : Asked → Choices
choices_of asked = record {
  settings = asked.settings;
  report = option_map string_bytes asked.report;
  seconds = asked.seconds;
  progress = asked.tells_progress;
  files = map string_bytes asked.files.items;
}

-- what is chosen without words
abbrev pub usual_choices : Choices
usual_choices = record { settings = usual_settings; report = None; seconds = None; progress = true; files = [] }

-- so many files more
abbrev pub with_files : Choices → List (List ℕ) → Choices
with_files c files = record c { files = c.files ++ files }

-- the settings change so, and nothing else does
pub record Changes (P : Settings → Settings → Type 0) (old new : Choices) : Type 0 where
  pub changed : P old.settings new.settings
  pub kept : new ≡ record old { settings = new.settings }

-- what is asked for takes the style
abbrev pub TakesStyle : Style → Asked → Asked → Type 0
TakesStyle style old new = Changes (SetsStyle style) (choices_of old) (choices_of new)

-- what is asked for takes a file more
abbrev pub TakesFile : List ℕ → Asked → Asked → Type 0
TakesFile file old new = choices_of new ≡ with_files (choices_of old) (file ∷ [])
