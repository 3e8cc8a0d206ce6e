use Rattle.ps_check.proofs.PartialLines.{line_passed}
use Rattle.ps_check.proofs.judge.Judge.take.Goals as goal

pub loop-line-preserved : goal.loop-line-preserved
loop-line-preserved c =
    line_passed c.args.self.now c.loop-line.self c.end_line.new.self c.args.piece.now c.loop-line.left.now c.in-Some.line.now c.in-Some.rest.now c.loop-line.invariant
    c.in-Some.ensures.cut c.in_ok-end_line.ensures.taken c.in_ok-end_line.ensures.whole
