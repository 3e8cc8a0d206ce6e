use Rattle.std.proofs.Common.{◌<◌, ◌≤◌, length, arith}
use Rattle.ps_reader.proofs.WorldWords.{long_word, digits_word}
use Rattle.ps_reader.proofs.truths.few_truths.Goals as goal

pub returns-then-word-gt-MOST_ATOMS : goal.returns-then-word-gt-MOST_ATOMS
returns-then-word-gt-MOST_ATOMS c =
    let l : 128 < length c.args.word.now = omega (arith, c.if-word-gt-MOST_ATOMS.true) in long_word c.args.word.now c.requires.some c.requires.truths l

pub returns : goal.returns
returns c =
    let l : length c.args.word.now ≤ 128 = omega (arith, c.if-word-gt-MOST_ATOMS.false) in digits_word c.args.word.now c.in_ok-truths.field-0 c.requires.some c.requires.truths l c.in_ok-truths.ensures
