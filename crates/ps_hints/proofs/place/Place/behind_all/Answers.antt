use Rattle.std.proofs.Common.{take, get_or, ap, sym, ◌∙◌, arith}
use Rattle.std.proofs.lemmas.List.{take_more, take_all}
use Rattle.ps_text.specs.Positions.{moved, position_behind}
use Rattle.ps_hints.proofs.Moves.{position-push}
use Rattle.ps_hints.proofs.place.Place.behind_all.Goals as goal

pub loop-byte-preserved : goal.loop-byte-preserved
loop-byte-preserved c =
    let i = c.loop-byte.byte-index in
    let bs = c.args.bytes.now in
    let there = c.loop-byte-test.true in
    let line = c.loop-byte.invariant.line in
    let column = c.loop-byte.invariant.column in record {
      line = omega (arith, c.behind-place.ensures.line, line);
      column = omega (arith, c.behind-place.ensures.column, column);
      is = λ room.
          c.behind-place.ensures.moved (omega (arith, room, there, line), omega (arith, room, there, column))
          ∙ ap (λ p. moved p (get_or bs i 0)) (c.loop-byte.invariant.is room)
          ∙ sym (position-push (take i bs) (get_or bs i 0)) ∙ ap position_behind (sym (take_more bs i 0 there));
    }

pub returns : goal.returns
returns c = λ room. c.loop-byte.invariant.is room ∙ ap position_behind (take_all c.loop-byte.byte-index c.args.bytes.now c.loop-byte-test.false)
