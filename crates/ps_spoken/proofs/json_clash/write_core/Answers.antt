use Rattle.std.proofs.Common.{◌++◌}
use Rattle.std.specs.Prelude.{codes}
use Rattle.ps_spoken.specs.JsonClashes.{clash_items}
use Rattle.ps_spoken.proofs.Said.{said}
use Rattle.ps_spoken.proofs.json_clash.write_core.Goals as goal

pub returns : goal.returns
returns c =
    let items = clash_items c.args.problem.now c.args.lines.now c.args.all.now in
    let after = c.append-2.new.out.items in
    said c.append-2.result c.args.out.now.items c.append.new.out.items after (codes "{\"irreducible\":true,\"why\":null,\"sentences\":[") (items ++ codes "]}") c.in_ok-append.ensures
    (said c.append-2.result c.append.new.out.items c.write_all_clashing.new.out.items after items (codes "]}") c.in_ok-write_all_clashing.ensures c.append-2.ensures)
