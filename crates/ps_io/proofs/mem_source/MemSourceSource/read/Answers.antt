use Rattle.std.proofs.Common.{◌≤◌, arith, drop, length}
use Rattle.std.proofs.lemmas.Grind.{common_steps}
use Rattle.ps_io.proofs.Bytes.{read_gives}
use Rattle.ps_io.proofs.mem_source.MemSourceSource.read.Goals as goal

pub returns-clause-ok : goal.returns-clause-ok
returns-clause-ok c =
    let fits : c.min-n.result ≤ length (drop c.self.inside.at c.self.inside.bytes.items) = grind (arith, common_steps) in
    rw (← c.self.view_is) (read_gives c.self.inside.at c.min-n.result c.self.inside.bytes.items c.args.buf.now c.copy_from_slice.new.self (grind (arith, common_steps)) fits)
