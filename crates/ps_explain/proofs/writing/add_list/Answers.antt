use Rattle.std.proofs.Common.{◌≡◌, length, pos, ap, refl, arith}
use Rattle.ps_io.specs.Lines.{text_of}
use Rattle.ps_explain.proofs.SentLines.{word_short, count_fits}
use Rattle.ps_explain.proofs.writing.add_list.Goals as goal

pub word-requires-clause-fits : goal.word-requires-clause-fits
word-requires-clause-fits g c =
    let empty : length (text_of c.args.lines.now) ≡ 0 = ap (λ t. length t) c.requires.empty in
    let short = word_short c.args.word.now c.args.numbers.now c.requires.short in
    omega (arith, empty, short)

pub add_count-requires : goal.add_count-requires
add_count-requires g c =
    count_fits (text_of c.args.lines.now) (text_of c.word.new.self) c.args.word.now c.args.numbers.now (pos (length c.args.numbers.now)) c.word.ensures.line c.requires.empty refl c.requires.short
