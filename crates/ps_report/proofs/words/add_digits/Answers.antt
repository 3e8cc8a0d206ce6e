use Rattle.std.proofs.Common.{arith, map}
use Rattle.std.proofs.lemmas.List.{length-map}
use Rattle.ps_answer.specs.Words.{digit_of}
use Rattle.ps_io.specs.Lines.{text_of}
use Rattle.ps_report.proofs.Spelled.{digits_are_word}
use Rattle.ps_report.proofs.Made.{word_fits}
use Rattle.ps_report.proofs.words.add_digits.Goals as goal

pub digits_word-word-requires : goal.digits_word-word-requires
digits_word-word-requires g c = omega (arith, length-map c.args.values.now digit_of, word_fits (text_of c.args.lines.now) (map digit_of c.args.values.now) c.requires)

pub word-requires-clause-one_word : goal.word-requires-clause-one_word
word-requires-clause-one_word g c = rw (c.as_slice.ensures.value, c.digits_word-word.ensures) (digits_are_word c.args.values.now)

pub word-requires-clause-fits : goal.word-requires-clause-fits
word-requires-clause-fits g c = rw (c.as_slice.ensures.value, c.digits_word-word.ensures) (word_fits (text_of c.args.lines.now) (map digit_of c.args.values.now) c.requires)
