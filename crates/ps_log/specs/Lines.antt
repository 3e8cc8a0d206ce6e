-- Lines that are being made.
use Rattle.std.specs.Prelude.{◌≡◌, ℕ, ℤ, List, length}
use Rattle.ps_io.specs.Lines.{text_of, is_commented, sink_of, name_of}
use Rattle.ps_io.specs.declared.lines.Lines.{Lines}
use Rattle.ps_log.specs.Texts.{with_numbers}

-- nothing was written, and this is the text of the line now
pub record HoldsLine {O : Type 0} (old new : Lines O) (text : List ℕ) : Type 0 where
  pub same_reference : name_of new ≡ name_of old
  pub same_mark : is_commented new ≡ is_commented old
  pub nothing_written : sink_of new ≡ sink_of old
  pub line : text_of new ≡ text

-- nothing was written, and these numbers were added to the line
abbrev pub AddsNumbers : {O : Type 0} → Lines O → Lines O → List ℤ → Type 0
AddsNumbers old new numbers = HoldsLine old new (with_numbers (text_of old) numbers)

-- how many bytes the line has with these numbers
abbrev pub length_with : {O : Type 0} → Lines O → List ℤ → ℕ
length_with lines numbers = length (with_numbers (text_of lines) numbers)
