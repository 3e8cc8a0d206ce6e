use Rattle.std.proofs.Common.{◌<◌, ◌≤◌, length, arith}
use Rattle.ps_max_text.proofs.ValueWords.{long_word, digits_word}
use Rattle.ps_max_text.proofs.values.few_values.Goals as goal

pub returns-then-word : goal.returns-then-word
returns-then-word c =
    let l : 1024 < length c.args.word.now = omega (arith, c.if-word.true) in long_word c.args.word.now c.requires.some c.requires.truths l

pub returns : goal.returns
returns c =
    let l : length c.args.word.now ≤ 1024 = omega (arith, c.if-word.false) in digits_word c.args.word.now c.in_ok-truths.field-0 c.requires.some c.requires.truths l c.in_ok-truths.ensures
