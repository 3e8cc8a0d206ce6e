use Rattle.std.proofs.Common.{◌++◌}
use Rattle.std.specs.Prelude.{codes}
use Rattle.ps_spoken.specs.Numbers.{low_text}
use Rattle.ps_spoken.proofs.Said.{said}
use Rattle.ps_spoken.proofs.reached.write_upper_between.Goals as goal

pub returns-in_ok-low-in-Some : goal.returns-in_ok-low-in-Some
returns-in_ok-low-in-Some c =
    let value = low_text c.args.digits c.in-Some.known.greatest in
    let behind = codes " (reached) and 1 (proved)" in
    let after = c.append-in-Some.new.out.items in
    rw c.in-Some.is
    (said c.append-in-Some.result c.args.out.now.items c.append.new.out.items after (codes "upper bound between ") (value ++ behind) c.in_ok-append-in-Some.ensures
    (said c.append-in-Some.result c.append.new.out.items c.low.new.out.items after value behind c.in_ok-low-in-Some.ensures c.append-in-Some.ensures))
