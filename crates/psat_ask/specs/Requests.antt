-- Requests, and what words choose.
use Rattle.std.specs.Prelude.{◌≡◌, ◌≢◌, ◌⊎◌, ℕ, false, true, List, [], ◌∷◌, ◌++◌, map, get_or, codes}
use Rattle.std.specs.Prelude.{Option, Some, MatchOption, Result, IfOk, String, string_bytes}
use Rattle.std.specs.List.{Contains}
use Rattle.std.specs.declared.alloc.Global.{Global}
use Rattle.ps_ask.specs.Shown.{AreSettings}
use Rattle.ps_ask.specs.declared.settings.Settings.{Settings}
use Rattle.ps_ask.specs.declared.settings.Style.TheVariants as style
use Rattle.psat_ask.specs.declared.options.TheConstants.{MOST_SECONDS}
use Rattle.psat_ask.specs.declared.options.Valued.{Valued}
use Rattle.psat_ask.specs.declared.options.Valued.TheVariants.{Digits, Pivots, Conflicts, Report, TimeLimit}
use Rattle.psat_ask.specs.declared.request.Asked.{Asked}
use Rattle.psat_ask.specs.declared.request.Next.{Next}
use Rattle.psat_ask.specs.declared.request.Next.TheVariants as next
use Rattle.psat_ask.specs.declared.request.Reading.{Reading}
use Rattle.psat_ask.specs.declared.request.Request.{Request}
use Rattle.psat_ask.specs.declared.request.Request.TheVariants.{Help, Version, Ask}
use Rattle.psat_ask.specs.Numbers.{Spells}
use Rattle.psat_ask.specs.Options.{SetsConflicts, SetsDigits, SetsPivots, SetsStyle, name_of}
use Rattle.psat_ask.specs.Kinds.{LeavesWanted, no_kinds}
use Rattle.psat_ask.specs.Choices.{Changes, Choices, choices_of, usual_choices, with_files}

-- the settings of a request are such as answers need
abbrev pub HasSettings : Request → Type 0
HasSettings (Ask asked) = AreSettings asked.settings
HasSettings other = Unit {0}

-- ---- options with a value
-- the report is what is shown, or it goes to the file that is named, beside that
pub data SetsReport (value : List ℕ) (old new : Choices) : Type 0 where
  Shown : value ≡ codes "-" → Changes (SetsStyle style.Report) old new → SetsReport value old new
  Beside : new ≡ record old { report = Some value; settings = record old.settings { reports = true } } → SetsReport value old new

-- time is limited to as many seconds as the value spells
pub record SetsTime (value : List ℕ) (old new : Choices) : Type 0 where
  pub seconds : ℕ
  pub spelled : Spells 1 MOST_SECONDS value seconds
  pub kept : new ≡ record old { seconds = Some seconds; settings = record old.settings { is_timed = true } }

-- what the value of an option sets
abbrev pub Sets : Valued → List ℕ → Choices → Choices → Type 0
Sets Digits value old new = Changes (SetsDigits value) old new
Sets Pivots value old new = Changes (SetsPivots value) old new
Sets Conflicts value old new = Changes (SetsConflicts value) old new
Sets Report value old new = SetsReport value old new
Sets TimeLimit value old new = SetsTime value old new

-- what is asked for takes the value
abbrev pub TakesValue : Valued → List ℕ → Asked → Asked → Type 0
TakesValue option value old new = Sets option value (choices_of old) (choices_of new)

-- ---- options without one, or with one behind =
-- some kinds of warnings are left out
pub record LeavesKinds (value : List ℕ) (old new : Settings) : Type 0 where
  pub left : LeavesWanted value old.warns new.warns
  pub kept : new ≡ record old { warns = new.warns }

-- what is asked for leaves them out
abbrev pub TakesKinds : List ℕ → Asked → Asked → Type 0
TakesKinds value old new = Changes (LeavesKinds value) (choices_of old) (choices_of new)

-- what an option with its value behind = sets
pub data SetsJoined (name value : List ℕ) (old new : Choices) : Type 0 where
  Value : (option : Valued) → name ≡ name_of option → Sets option value old new → SetsJoined name value old new
  Kinds : name ≡ codes "--no-warnings" → Changes (LeavesKinds value) old new → SetsJoined name value old new
  Exact : name ≡ codes "--quiet" → value ≡ codes "exact" → Changes (SetsStyle style.Exact) old new → SetsJoined name value old new

-- what is asked for takes it
abbrev pub TakesJoined : List ℕ → List ℕ → Asked → Asked → Type 0
TakesJoined name value old new = SetsJoined name value (choices_of old) (choices_of new)

-- what an option without a value sets
pub data SetsFlag (word : List ℕ) (old new : Choices) : Type 0 where
  Quiet : word ≡ codes "--quiet" → Changes (SetsStyle style.Values) old new → SetsFlag word old new
  Object : word ≡ codes "--json" → Changes (SetsStyle style.Json) old new → SetsFlag word old new
  Why : word ≡ codes "--why" → new ≡ record old { settings = record old.settings { tells_support = true } }
      → SetsFlag word old new
  ShowsExamples : word ≡ codes "--example" → new ≡ record old { settings = record old.settings { tells_examples = true } }
      → SetsFlag word old new
  NoWarnings : word ≡ codes "--no-warnings" → new ≡ record old { settings = record old.settings { warns = no_kinds } }
      → SetsFlag word old new
  NoProgress : word ≡ codes "--no-progress" → new ≡ record old { progress = false } → SetsFlag word old new

-- what is asked for takes it
abbrev pub TakesFlag : List ℕ → Asked → Asked → Type 0
TakesFlag word old new = SetsFlag word (choices_of old) (choices_of new)

-- ---- words behind the program's name
-- a word is a file: it doesn't begin with a minus sign, or is that alone
abbrev pub IsFile : List ℕ → Type 0
IsFile word = (word ≡ codes "-") ⊎ (get_or word 0 0 ≢ 45)

-- what they choose, one after the other, beginning with these choices; those behind -- are files
pub data SetBy : List (List ℕ) → Choices → Choices → Type 0 where
  Nothing : (c : Choices) → SetBy [] c c
  Files : (words : List (List ℕ)) (c : Choices) → SetBy (codes "--" ∷ words) c (with_files c words)
  File : (word : List ℕ) (words : List (List ℕ)) (c d : Choices) → IsFile word → SetBy words (with_files c (word ∷ [])) d
      → SetBy (word ∷ words) c d
  Flag : (word : List ℕ) (words : List (List ℕ)) (c d e : Choices) → SetsFlag word c d → SetBy words d e
      → SetBy (word ∷ words) c e
  Joined : (name value : List ℕ) (words : List (List ℕ)) (c d e : Choices) → SetsJoined name value c d → SetBy words d e
      → SetBy ((name ++ (61 ∷ value)) ∷ words) c e
  Apart : (option : Valued) (value : List ℕ) (words : List (List ℕ)) (c d e : Choices) → Sets option value c d → SetBy words d e
      → SetBy (name_of option ∷ value ∷ words) c e

-- a word that asks for something else than answers
abbrev pub AsksFor : List ℕ → Request → Type 0
AsksFor word Help = (word ≡ codes "--help") ⊎ (word ≡ codes "-h")
AsksFor word Version = (word ≡ codes "--version") ⊎ (word ≡ codes "-V")
AsksFor word (Ask asked) = ⊥

-- these words make a request: they choose all that is asked for, or one of them asks for something else than answers
abbrev pub IsAskedBy : List (List ℕ) → Request → Type 0
IsAskedBy words (Ask asked) = SetBy words usual_choices (choices_of asked)
IsAskedBy words other = (word : List ℕ) × Contains words word × AsksFor word other

-- a request for answers by these choices
abbrev pub IsOf : Choices → Request → Type 0
IsOf c (Ask asked) = choices_of asked ≡ c
IsOf c other = ⊥

-- ---- how far words are read
-- no value of an option is missing
abbrev pub IsNoValue : Next → Type 0
IsNoValue (next.Value option) = ⊥
IsNoValue other = Unit {0}

-- words behind those that were read lead from these choices to others
abbrev pub Behind : Next → Choices → List (List ℕ) → Choices → Type 0
Behind next.Word c words e = SetBy words c e
Behind (next.Value option) c [] e = ⊥
Behind (next.Value option) c (value ∷ words) e = (d : Choices) × Sets option value c d × SetBy words d e
Behind next.File c words e = e ≡ with_files c words

-- a word was read: what is behind it leads where that word and they lead
pub record Took (word : List ℕ) (old new : Reading) : Type 0 where
  pub leads : (words : List (List ℕ)) (c : Choices) → Behind new.next (choices_of new.asked) words c
      → Behind old.next (choices_of old.asked) (word ∷ words) c

-- a word was read, or it asks for something else than answers
abbrev pub TookOr : {E : Type 0} → Result (Option Request) E → List ℕ → Reading → Reading → Type 0
TookOr result word old new = IfOk result (λ asked. MatchOption asked (Took word old new) (AsksFor word))
