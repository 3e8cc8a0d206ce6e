use Rattle.std.proofs.Common.{length, get_or, sym, subst, ◌∙◌, arith}
use Rattle.ps_lex.specs.Places.{HasRoom}
use Rattle.ps_lex.specs.Passing.{gap_state, Passes}
use Rattle.ps_lex.proofs.Passing.{gap_more, room_more, passes_then, room_passed, first_and_others}
use Rattle.ps_lex.proofs.gap.Gap.pass.Goals as goal

pub pass_line-requires : goal.pass_line-requires
pass_line-requires c =
    let old = gap_state c.loop-left.gap.is_comment c.loop-left.gap.began c.loop-left.gap.here in
    let cut = first_and_others c.loop-left.left.now (omega (arith, c.in-len1-up.len_at_least)) in record {
      room = room_more old (gap_state c.with.result.is_comment c.with.result.began c.with.result.here) (get_or c.loop-left.left.now 0 0) _
          (subst (λ bs. HasRoom (length bs) c.loop-left.gap.here) cut c.loop-left.invariant.room) c.with.ensures;
    }

pub loop-left-preserved : goal.loop-left-preserved
loop-left-preserved c =
    let first = gap_state c.args.self.is_comment c.args.self.began c.args.self.here in
    let old = gap_state c.loop-left.gap.is_comment c.loop-left.gap.began c.loop-left.gap.here in
    let next = gap_state c.with.result.is_comment c.with.result.began c.with.result.here in
    let new = gap_state c.pass_line.result.0.is_comment c.pass_line.result.0.began c.pass_line.result.0.here in
    let byte = get_or c.loop-left.left.now 0 0 in
    let cut = first_and_others c.loop-left.left.now (omega (arith, c.in-len1-up.len_at_least)) in
    let room = room_more old next byte _ (subst (λ bs. HasRoom (length bs) c.loop-left.gap.here) cut c.loop-left.invariant.room) c.with.ensures in
    let one = gap_more first c.loop-left.gap.is_comment c.with.result.is_comment c.loop-left.gap.began c.loop-left.gap.here c.with.result.began c.with.result.here c.args.bytes.now _ byte
    (subst (Passes first c.args.bytes.now old) cut c.loop-left.invariant.passes) (sym c.has.ensures ∙ c.if-not-has.false) c.with.ensures in record {
      passes = passes_then first next new c.args.bytes.now _ c.pass_line.result.1.now one c.pass_line.ensures.passes;
      room = room_passed next new _ c.pass_line.result.1.now c.pass_line.ensures.passes room;
    }
