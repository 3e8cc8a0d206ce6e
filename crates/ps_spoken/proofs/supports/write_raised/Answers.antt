use Rattle.std.specs.Prelude.{codes}
use Rattle.ps_spoken.specs.Supports.{moved_text, raised_text}
use Rattle.ps_spoken.proofs.Said.{said}
use Rattle.ps_spoken.proofs.supports.write_raised.Goals as goal

pub returns : goal.returns
unfolding raised_text
returns c =
    rw (← c.up_is_least.ensures)
    (said c.write_moved.result c.args.out.now.items c.append.new.out.items c.write_moved.new.out.items (codes "1/100 more there raises the bound by ")
    (moved_text c.up_is_least.result c.args.by.now) c.in_ok-append.ensures c.write_moved.ensures)
