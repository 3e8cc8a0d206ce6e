use Rattle.ps_ground.proofs.Counting.{above, within, marks-there}
use Rattle.ps_ground.proofs.marks.ground_marks.Goals as goal

pub returns-then-before-count : goal.returns-then-before-count
returns-then-before-count c = λ s e sentence.
    above c.args.parts.now c.requires.sound c.args.root s e c.requires.there c.args.counts.now c.requires.counts c.count_at-count.result c.count_at-count.ensures c.args.before c.if-before-count.true

pub returns : goal.returns
returns c = λ s e sentence. (
  marks-there c.args.parts.now c.requires.sound c.args.root s e sentence c.in_ok-numbers.numbers.items c.new-marks.result c.add_marks.new.marks c.new-marks.ensures c.in_ok-add_marks.ensures.marks,
  within c.args.parts.now c.requires.sound c.args.root s e c.requires.there c.args.counts.now c.requires.counts c.count_at-count.result c.count_at-count.ensures c.args.before c.if-before-count.false,
)
