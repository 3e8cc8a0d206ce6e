use Rattle.std.proofs.Common.{◌++◌}
use Rattle.std.specs.Prelude.{codes}
use Rattle.ps_spoken.specs.Numbers.{high_text}
use Rattle.ps_spoken.proofs.Said.{said}
use Rattle.ps_spoken.proofs.reached.write_lower_between.Goals as goal

pub returns-in_ok-high-in-Some : goal.returns-in_ok-high-in-Some
returns-in_ok-high-in-Some c =
    let value = high_text c.args.digits c.in-Some.known.least in
    let behind = codes " (reached)" in
    let after = c.append-in-Some.new.out.items in
    rw c.in-Some.is
    (said c.append-in-Some.result c.args.out.now.items c.append.new.out.items after (codes "lower bound between 0 (proved) and ") (value ++ behind) c.in_ok-append-in-Some.ensures
    (said c.append-in-Some.result c.append.new.out.items c.high.new.out.items after value behind c.in_ok-high-in-Some.ensures c.append-in-Some.ensures))
