use Rattle.std.proofs.Common.{◌++◌, length}
use Rattle.std.specs.Prelude.{codes}
use Rattle.ps_spoken.specs.Examples.{example_text, more_text, worlds_text}
use Rattle.ps_spoken.specs.Supports.{name_text}
use Rattle.ps_spoken.proofs.Said.{said}
use Rattle.ps_spoken.proofs.examples.write_example.Goals as goal

pub returns : goal.returns
unfolding example_text
returns c =
    let name = name_text c.args.side c.args.example.now.value in
    let by = codes " is reached by " in
    let worlds = worlds_text c.args.digits c.args.problem.now c.as_slice-worlds.result.now in
    let more = more_text (length c.as_slice-worlds.result.now) in
    let behind = codes "\n" in
    let done = c.append-2.new.out.items in
    let h =
    said c.append-2.result c.args.out.now.items c.write_name.new.out.items done name (by ++ (worlds ++ (more ++ behind))) c.in_ok-write_name.ensures
    (said c.append-2.result c.write_name.new.out.items c.append.new.out.items done by (worlds ++ (more ++ behind)) c.in_ok-append.ensures
    (said c.append-2.result c.append.new.out.items c.write_worlds.new.out.items done worlds (more ++ behind) c.in_ok-write_worlds.ensures
    (said c.append-2.result c.write_worlds.new.out.items c.write_more.new.out.items done more behind c.in_ok-write_more.ensures c.append-2.ensures))) in
    rw c.as_slice-worlds.ensures at h
