use Rattle.std.specs.Prelude.{codes}
use Rattle.ps_spoken.specs.Supports.{lowered_text, moved_text}
use Rattle.ps_spoken.proofs.Said.{said}
use Rattle.ps_spoken.proofs.supports.write_lowered.Goals as goal

pub returns : goal.returns
unfolding lowered_text
returns c =
    rw (← c.down_is_least.ensures, ← c.neg.ensures.value)
    (said c.write_moved.result c.args.out.now.items c.append.new.out.items c.write_moved.new.out.items (codes "1/100 more there lowers the bound by ")
    (moved_text c.down_is_least.result c.neg.result) c.in_ok-append.ensures c.write_moved.ensures)
