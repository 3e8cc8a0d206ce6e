use Rattle.ps_report.proofs.Spelled.{fraction_is_word}
use Rattle.ps_report.proofs.words.add_fraction.Goals as goal

pub word-requires-clause-one_word : goal.word-requires-clause-one_word
word-requires-clause-one_word g c = rw (c.as_slice.ensures.value, c.fraction_word-word.ensures.text) (fraction_is_word c.args.q.now.over c.args.q.now.under c.fits.ensures.over c.fits.ensures.under)
