use Rattle.std.proofs.Common.{◌++◌}
use Rattle.std.specs.Prelude.{codes}
use Rattle.ps_spoken.specs.JsonDetails.{example_member, likely_items}
use Rattle.ps_spoken.proofs.Said.{said}
use Rattle.ps_spoken.proofs.json_details.write_worlds.Goals as goal

pub returns : goal.returns
unfolding example_member
returns c =
    let before = codes ",\"example\":[" in
    let value = likely_items c.args.problem.now c.args.worlds.now in
    let behind = codes "]" in
    let done = c.append-2.new.out.items in
    said c.append-2.result c.args.out.now.items c.append.new.out.items done before (value ++ behind) c.in_ok-append.ensures
    (said c.append-2.result c.append.new.out.items c.write_all_likely.new.out.items done value behind c.in_ok-write_all_likely.ensures c.append-2.ensures)
