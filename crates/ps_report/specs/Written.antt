-- What a call does that writes lines of a report.
use Rattle.std.specs.Prelude.{ℕ, ◌<◌, Bool, List, [], ◌∷◌, codes, fold, length, Result}
use Rattle.ps_io.specs.LineText.{with_word}
use Rattle.ps_io.specs.Lines.{text_of}
use Rattle.ps_io.specs.Wrote.{Wrote}
use Rattle.ps_io.specs.declared.limits.TheConstants.{LONGEST_LINE}
use Rattle.ps_io.specs.declared.lines.Lines.{Lines}
use Rattle.ps_io.specs.declared.sink.Sink.{Ghosts}
use Rattle.ps_io.specs.declared.sink.WriteFault.{WriteFault}
use Rattle.ps_log.specs.Lines.{HoldsLine}
use Rattle.ps_meaning.specs.Rational.{Rational}
use Rattle.ps_table.specs.declared.place.WideAt.{WideAt}
use Rattle.ps_table.specs.declared.place.TableCol.{TableCol}
use Rattle.ps_answer.specs.declared.item.LineItem.{LineItem}
use Rattle.ps_answer.specs.declared.item.LineItem.TheVariants as line
use Rattle.ps_answer.specs.Items.{item_line, op_word, shown_word, count}
use Rattle.ps_answer.specs.Answers.{ratio_of}
use Rattle.ps_answer.specs.Words.{Word, Letters, Fraction, word_text}

-- a line with more words
abbrev pub with_words : List ℕ → List Word → List ℕ
with_words text words = fold (λ line word. with_word line (word_text word)) text words

-- nothing was written, and these words were added to the line
abbrev pub AddsWords : {O : Type 0} → Lines O → Lines O → List Word → Type 0
AddsWords old new words = HoldsLine old new (with_words (text_of old) words)

module _ {O : Type 0} (sink : Ghosts O) (old new : Lines O) (result : Result (Unit {0}) WriteFault) where
  -- the line of this item was written, or a proper prefix of it where the write failed
  abbrev pub WroteItem : LineItem → Type 0
  WroteItem item = Wrote sink.written sink.faults old new result (item_line item ∷ [])

-- the line of a side's value
abbrev pub bound_item : Bool → Rational → LineItem
bound_item upper value = line.Bound upper (ratio_of value)

-- the line of an operation that was refused
abbrev pub wide_item : WideAt → LineItem
wide_item at = line.OpenWide at.place at.op (ratio_of at.left) (ratio_of at.right)

-- the words of a place in the table: its name, a row, and a column
abbrev pub cell_words : List ℕ → ℕ → TableCol → List Word
cell_words name row col = Letters name ∷ count row ∷ shown_word col ∷ []

-- the words of a place in a world's column: its name, a world, a row, and a home
abbrev pub entry_words : List ℕ → ℕ → ℕ → ℕ → List Word
entry_words name world row home = Letters name ∷ count world ∷ count row ∷ count home ∷ []

-- `open`, and why
abbrev pub open_words : List ℕ → List Word
open_words name = Letters (codes "open") ∷ Letters name ∷ []

-- an operation's word and its operands
abbrev pub operation_words : WideAt → List Word
operation_words at = op_word at.op ∷ Fraction (ratio_of at.left) ∷ Fraction (ratio_of at.right) ∷ []

-- the line of an item is shorter than the longest that is written
abbrev pub IsShort : LineItem → Type 0
IsShort item = length (item_line item) < LONGEST_LINE
