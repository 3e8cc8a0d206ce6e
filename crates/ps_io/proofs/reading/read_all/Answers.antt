use Rattle.std.proofs.Common.{◌++◌, take, arith, length-append, length-take}
use Rattle.ps_io.proofs.Bytes.{consumes-then}
use Rattle.ps_io.proofs.reading.read_all.Goals as goal

pub returns-then-limit-len-clause-err : goal.returns-then-limit-len-clause-err
returns-then-limit-len-clause-err g c = record {
  taken = c.loop-n.all.items ++ take c.in-Ok.n c.read.new.buf;
  consumed = consumes-then _ _ _ c.loop-n.all.items (take c.in-Ok.n c.read.new.buf) c.loop-n.invariant.taken c.in-Ok.ensures.ok;
  more = omega (arith, c.in-Ok.ensures.bound, length-append c.loop-n.all.items (take c.in-Ok.n c.read.new.buf), length-take c.in-Ok.n c.read.new.buf);
  within = omega (arith, c.loop-n.invariant.within, c.in-Ok.ensures.bound, length-append c.loop-n.all.items (take c.in-Ok.n c.read.new.buf), length-take c.in-Ok.n c.read.new.buf);
}

pub returns-then-is_err-clause-err : goal.returns-then-is_err-clause-err
returns-then-is_err-clause-err g c = record {
  taken = c.loop-n.all.items ++ take c.in-Ok.n c.read.new.buf;
  consumed = consumes-then _ _ _ c.loop-n.all.items (take c.in-Ok.n c.read.new.buf) c.loop-n.invariant.taken c.in-Ok.ensures.ok;
  within = omega (arith, c.in-Ok.ensures.bound, length-append c.loop-n.all.items (take c.in-Ok.n c.read.new.buf), length-take c.in-Ok.n c.read.new.buf);
}
