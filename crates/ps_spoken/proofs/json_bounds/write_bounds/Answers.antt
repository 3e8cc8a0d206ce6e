use Rattle.std.proofs.Common.{◌++◌}
use Rattle.std.specs.Prelude.{codes}
use Rattle.ps_spoken.specs.Bounds.{both_sides, status_text}
use Rattle.ps_spoken.proofs.Said.{said}
use Rattle.ps_spoken.proofs.json_bounds.write_bounds.Goals as goal

pub returns : goal.returns
returns c =
    let sides = both_sides c.args.digits c.args.problem.now c.args.lower.now c.args.upper.now c.args.told.now in
    let before = codes "\",\"why\":null,\"lower\":" in
    let after = c.write_sides.new.out.items in
    said c.write_sides.result c.args.out.now.items c.write_status.new.out.items after (status_text c.args.lower.now c.args.upper.now) (before ++ sides) c.in_ok-write_status.ensures
    (said c.write_sides.result c.write_status.new.out.items c.append.new.out.items after before sides c.in_ok-append.ensures c.write_sides.ensures)
