use Rattle.std.specs.Prelude.{codes}
use Rattle.ps_spoken.specs.Unused.{unused_lines, unused_list}
use Rattle.ps_spoken.proofs.Said.{said}
use Rattle.ps_spoken.proofs.unused.write_list.Goals as goal

pub returns : goal.returns
unfolding unused_list
returns c =
    said c.write_lines.result c.args.out.now.items c.append.new.out.items c.write_lines.new.out.items (codes "no bound rests on these sentences:\n")
    (unused_lines c.args.problem.now c.args.lines.now c.args.sentences.now) c.in_ok-append.ensures c.write_lines.ensures
