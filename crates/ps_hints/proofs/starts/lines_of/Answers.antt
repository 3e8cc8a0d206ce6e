use Rattle.std.proofs.Common.{All, subst, sym, arith}
use Rattle.std.proofs.lemmas.List.Elements.{All-append}
use Rattle.ps_hints.specs.Places.{IsLineOf, noted}
use Rattle.ps_hints.proofs.Moves.{noted_are}
use Rattle.ps_hints.proofs.starts.lines_of.Goals as goal

pub loop-byte-preserved : goal.loop-byte-preserved
loop-byte-preserved c =
    let bs = c.args.bytes.now in
    let there = c.loop-byte-test.true in
    let least = c.loop-byte.invariant.least in
    let most = c.loop-byte.invariant.most in
    let line = c.line.result in
    let is = c.line.ensures in
    let up = c.pass-begins.ensures.least in
    let by = c.pass-begins.ensures.most in record {
      least = omega (arith, least, up);
      most = omega (arith, most, by);
      lines = subst (All (IsLineOf bs)) (sym c.in_ok-note.ensures)
          (All-append (IsLineOf bs) c.loop-byte.lines.items (noted c.pass-begins.result line) c.loop-byte.invariant.lines
          (noted_are (IsLineOf bs) c.pass-begins.result line
          (λ begins. let same = c.pass-begins.ensures.same begins in (omega (arith, least, up, is), omega (arith, most, same, there, is)))));
    }
