use Rattle.std.proofs.Common.{[], ◌∷◌}
use Rattle.ps_io.specs.Lines.{text_of}
use Rattle.ps_report.proofs.Made.{word_fits}
use Rattle.ps_report.proofs.words.add_dash.Goals as goal

pub word-requires-clause-fits : goal.word-requires-clause-fits
word-requires-clause-fits g c = word_fits (text_of c.args.lines.now) (45 ∷ []) c.requires
