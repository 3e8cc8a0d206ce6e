use Rattle.ps_report.proofs.Spelled.{lettered_is_word}
use Rattle.ps_report.proofs.words.add_lettered.Goals as goal

pub word-requires-clause-one_word : goal.word-requires-clause-one_word
word-requires-clause-one_word g c = rw (c.as_slice.ensures.value, c.lettered_word-word.ensures.text) (lettered_is_word c.args.letter c.args.n c.requires.one_word c.ranges.n.fits)
