use Rattle.std.proofs.Common.{◌++◌}
use Rattle.std.specs.Prelude.{codes}
use Rattle.ps_spoken.specs.Bounds.{greatest_object, open_upper, stopped_object}
use Rattle.ps_spoken.proofs.Said.{said}
use Rattle.ps_spoken.proofs.json_bounds.write_open_upper.Goals as goal

pub returns : goal.returns
unfolding open_upper
returns c =
    let stopped = stopped_object c.args.cause.now in
    let before = codes "1\",\"reached\":" in
    let value = greatest_object c.args.digits c.args.reached.now in
    let behind = codes "}" in
    let after = c.append-2.new.out.items in
    said c.append-2.result c.args.out.now.items c.write_stopped.new.out.items after stopped (before ++ (value ++ behind)) c.in_ok-write_stopped.ensures
    (said c.append-2.result c.write_stopped.new.out.items c.append.new.out.items after before (value ++ behind) c.in_ok-append.ensures
    (said c.append-2.result c.append.new.out.items c.write_greatest.new.out.items after value behind c.in_ok-write_greatest.ensures c.append-2.ensures))
