use Rattle.std.proofs.Common.{◌++◌, take, ◌∙◌, arith}
use Rattle.std.proofs.lemmas.List.{length-append, length-take}
use Rattle.ps_io.proofs.Bytes.{consumes-then}
use Rattle.ps_check.proofs.InputsSoFar.{come_more}
use Rattle.ps_check.proofs.reading.take_all.Goals as goal

pub returns-then-limit-taken-clause-err : goal.returns-then-limit-taken-clause-err
returns-then-limit-taken-clause-err g c =
    let before = c.loop-n.invariant.came in
    let len = length-append before.bytes (take c.in-Ok.n c.read.new.buf) in
    record {
      taken = before.bytes ++ take c.in-Ok.n c.read.new.buf;
      consumed = consumes-then _ _ _ before.bytes (take c.in-Ok.n c.read.new.buf) before.consumed c.in-Ok.ensures.ok;
      more = omega (arith, c.in-Ok.ensures.bound, len, before.all, length-take c.in-Ok.n c.read.new.buf);
      within = omega (arith, c.loop-n.invariant.within, c.in-Ok.ensures.bound, len, before.all, length-take c.in-Ok.n c.read.new.buf);
    }

pub returns-in-Err-take-clause-err : goal.returns-in-Err-take-clause-err
returns-in-Err-take-clause-err g c =
    let before = c.loop-n.invariant.came in
    record {
      taken = before.bytes ++ take c.in-Ok.n c.read.new.buf;
      consumed = consumes-then _ _ _ before.bytes (take c.in-Ok.n c.read.new.buf) before.consumed c.in-Ok.ensures.ok;
      within =
          omega (arith, c.in-Ok.ensures.bound, length-append before.bytes (take c.in-Ok.n c.read.new.buf), before.all, length-take c.in-Ok.n c.read.new.buf);
    }

pub loop-n-preserved : goal.loop-n-preserved
loop-n-preserved g c = record {
  sound = c.in-Ok-take.ensures.sound;
  came =
      come_more c.loop-n.intake c.take.new.self c.loop-n.taken c.in-Ok.n _ _ _ (take c.in-Ok.n c.read.new.buf) c.loop-n.invariant.came c.in-Ok-take.ensures.taken
      c.in-Ok.ensures.ok (omega (arith, c.in-Ok.ensures.bound, length-take c.in-Ok.n c.read.new.buf));
  within = omega (arith, c.loop-n.invariant.within);
  no_fault = c.in-Ok.ensures.faults.ok ∙ c.loop-n.invariant.no_fault;
}
