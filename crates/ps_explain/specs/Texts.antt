-- The text of an explanation.
use Rattle.std.specs.Prelude.{◌≡◌, ◌<◌, ℕ, ℤ, pos, List, [], ◌∷◌, ◌++◌, codes, length, map, flat_map, All, Result}
use Rattle.ps_io.specs.Wrote.{Wrote}
use Rattle.ps_io.specs.declared.limits.TheConstants.{LONGEST_LINE}
use Rattle.ps_io.specs.declared.lines.Lines.{Lines}
use Rattle.ps_io.specs.declared.sink.Sink.{Ghosts}
use Rattle.ps_io.specs.declared.sink.WriteFault.{WriteFault}
use Rattle.ps_log.specs.Texts.{with_numbers}
use Rattle.ps_table.specs.declared.event.Event.{Event}
use Rattle.ps_answer.specs.declared.answer.Cause.{Cause}
use Rattle.ps_answer.specs.declared.answer.Dual.{Dual}
use Rattle.ps_answer.specs.declared.answer.Model.{Model}
use Rattle.ps_answer.specs.declared.item.LineItem.{LineItem}
use Rattle.ps_answer.specs.declared.item.LineItem.TheVariants as line
use Rattle.ps_answer.specs.Items.{item_line}
use Rattle.ps_answer.specs.Answers.{model_items, dual_items, cause_items, trace_items}
use Rattle.ps_report.specs.Parts.{AreShort}
use Rattle.ps_explain.specs.declared.explained.Explained.{Explained}
use Rattle.ps_explain.specs.declared.explained.Explained.TheVariants as explained

-- these lines were written, or a proper prefix of them where a write failed
abbrev pub Prints : {O : Type 0} → Ghosts O → Lines O → Lines O → Result (Unit {0}) WriteFault → List (List ℕ) → Type 0
Prints sink old new result lines = Wrote sink.written sink.faults old new result lines

-- the lines of parts that reports have too
abbrev pub lines_of : List LineItem → List (List ℕ)
lines_of items = map item_line items

-- the first line, with the version
abbrev pub explanation_line : List ℕ
explanation_line = with_numbers (codes "explanation") (pos 1 ∷ [])

-- the numbers of sentences
abbrev pub number_list : List ℕ → List ℤ
number_list ns = flat_map (λ n. pos n ∷ []) ns

-- a word, how many numbers, and these
abbrev pub numbers_line : List ℕ → List ℕ → List ℕ
numbers_line word ns = with_numbers word (pos (length ns) ∷ number_list ns)

-- the line before the distribution that meets the others
abbrev pub without_line : ℕ → List ℕ
without_line n = with_numbers (codes "without") (pos n ∷ [])

-- the line of a sentence's number, and the distribution that meets the others
abbrev pub without_lines : ℕ → Model → List (List ℕ)
without_lines n m = without_line n ∷ lines_of (model_items m)

-- for each sentence the distribution that meets the others
abbrev pub models_lines : List ℕ → List Model → List (List ℕ)
models_lines [] ms = []
models_lines (n ∷ ns) [] = []
models_lines (n ∷ ns) (m ∷ ms) = without_lines n m ++ models_lines ns ms

-- a distribution that meets the sentences
abbrev pub consistent_lines : Model → List (List ℕ)
consistent_lines m = lines_of (line.Consistent ∷ model_items m)

-- what stands below the line of a core: its dual, and its distributions
abbrev pub below_core : List ℕ → Dual → List Model → List (List ℕ)
below_core ns d ms = lines_of (dual_items d) ++ models_lines ns ms

-- the numbers of a core, its dual, and its distributions
abbrev pub core_lines : List ℕ → Dual → List Model → List (List ℕ)
core_lines ns d ms = numbers_line (codes "core") ns ∷ below_core ns d ms

-- the numbers of a run's sentences, and its events
abbrev pub list_and_trace : List ℕ → List Event → List (List ℕ)
list_and_trace ns events = numbers_line (codes "sentences") ns ∷ lines_of (trace_items events)

-- why the run is open, the numbers of its sentences, and its events
abbrev pub open_lines : List ℕ → Cause → List Event → List (List ℕ)
open_lines ns cause events = lines_of (cause_items cause) ++ list_and_trace ns events

-- what an explanation says
abbrev pub body_lines : Explained → List (List ℕ)
body_lines (explained.Consistent m) = consistent_lines m
body_lines (explained.Core ns d ms) = core_lines ns d ms
body_lines (explained.Open ns cause events) = open_lines ns cause events

-- what an explanation says, and its last line
abbrev pub body_and_end : Explained → List (List ℕ)
body_and_end e = body_lines e ++ item_line line.End ∷ []

-- the lines of an explanation
abbrev pub explanation_lines : Explained → List (List ℕ)
explanation_lines e = explanation_line ∷ body_and_end e

-- ---- short lines
-- the numbers with a word are short enough for a line
abbrev pub IsShortList : List ℕ → List ℕ → Type 0
IsShortList word ns = length (numbers_line word ns) < LONGEST_LINE

-- so are the lines of a core, and it has a model for each of its sentences
pub record HasShortCore (ns : List ℕ) (d : Dual) (ms : List Model) : Type 0 where
  pub each : length ns ≡ length ms
  pub list : IsShortList (codes "core") ns
  pub dual : AreShort (dual_items d)
  pub models : All (λ m. AreShort (model_items m)) ms

-- so are the lines of what is open
pub record HasShortRun (ns : List ℕ) (cause : Cause) (events : List Event) : Type 0 where
  pub cause_lines : AreShort (cause_items cause)
  pub list : IsShortList (codes "sentences") ns
  pub events_lines : AreShort (trace_items events)

-- each line of an explanation is short enough to be written, and a core has a model for each of its sentences
abbrev pub HasShortLines : Explained → Type 0
HasShortLines (explained.Consistent m) = AreShort (model_items m)
HasShortLines (explained.Core ns d ms) = HasShortCore ns d ms
HasShortLines (explained.Open ns cause events) = HasShortRun ns cause events
