use Rattle.std.proofs.Common.{subst, option_copied}
use Rattle.ps_wcnf.specs.Counted.{TakesLine}
use Rattle.ps_wcnf.proofs.SoFar.{IsReadSoFar, read-more}
use Rattle.ps_wcnf.proofs.reading.read_wcnf.Goals as goal

pub loop-rest-preserved : goal.loop-rest-preserved
loop-rest-preserved c =
    read-more c.args.bytes.now c.in-Some.text.now c.next_line.result.0.now (option_copied c.next_line.result.1) c.loop-rest.draft c.take_line.new.draft c.loop-rest.number
    (subst (λ r. IsReadSoFar c.args.bytes.now (option_copied r) c.loop-rest.draft c.loop-rest.number) c.in-Some.is c.loop-rest.invariant)
    c.next_line.ensures.lines c.next_line.ensures.shorter
    (subst (TakesLine c.loop-rest.draft c.take_line.new.draft c.next_line.result.0.now) c.in_default-2.is c.in_ok-kind.ensures)
