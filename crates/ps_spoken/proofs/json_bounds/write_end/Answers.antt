use Rattle.std.proofs.Common.{◌++◌}
use Rattle.std.specs.Prelude.{codes}
use Rattle.ps_spoken.specs.JsonDetails.{beneath_members}
use Rattle.ps_spoken.specs.Bounds.{end_text}
use Rattle.ps_spoken.proofs.Said.{said}
use Rattle.ps_spoken.proofs.json_bounds.write_end.Goals as goal

pub returns : goal.returns
unfolding end_text
returns c =
    let before = codes "\",\"why\":null" in
    let value = beneath_members c.args.problem.now c.args.told.now in
    let behind = codes "}" in
    let done = c.append-2.new.out.items in
    said c.append-2.result c.args.out.now.items c.append.new.out.items done before (value ++ behind) c.in_ok-append.ensures
    (said c.append-2.result c.append.new.out.items c.write_beneath.new.out.items done value behind c.in_ok-write_beneath.ensures c.append-2.ensures)
