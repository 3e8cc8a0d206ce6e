use Rattle.std.proofs.Common.{◌++◌}
use Rattle.std.specs.Prelude.{codes}
use Rattle.ps_spoken.specs.Unused.{unused_array, unused_items}
use Rattle.ps_spoken.proofs.Said.{said}
use Rattle.ps_spoken.proofs.unused.write_array.Goals as goal

pub returns : goal.returns
unfolding unused_array
returns c =
    let before = codes ",\"unused\":[" in
    let value = unused_items c.args.problem.now c.args.lines.now c.args.sentences.now in
    let behind = codes "]" in
    let done = c.append-2.new.out.items in
    said c.append-2.result c.args.out.now.items c.append.new.out.items done before (value ++ behind) c.in_ok-append.ensures
    (said c.append-2.result c.append.new.out.items c.write_items.new.out.items done value behind c.in_ok-write_items.ensures c.append-2.ensures)
