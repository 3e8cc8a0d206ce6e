use Rattle.std.proofs.Common.{◌+◌, ◌<◌, sym, ap, ◌∙◌, map-id, subst, inl, inr, chars, string_bytes, arith}
use Rattle.std.proofs.lemmas.Iterator.{YieldsList-from_chars}
use Rattle.std.proofs.lemmas.Iterator.Consumers.{YieldsList-end, YieldsList-so_far, YieldsList-turn}
use Rattle.ps_names.specs.Names.{ShowsSome, columns, shown, shown_columns, shown_text}
use Rattle.ps_names.specs.declared.name.TheConstants.{ROOM}
use Rattle.ps_names.proofs.Fronts.{cut}
use Rattle.ps_names.proofs.name.shown_name.Goals as goal

pub returns-then-used-columns-gt-ROOM-clause-shown : goal.returns-then-used-columns-gt-ROOM-clause-shown
returns-then-used-columns-gt-ROOM-clause-shown c =
    let source = YieldsList-from_chars c.args.name.now c.utf8.name cc in
    let so_far = YieldsList-so_far source c.loop-c.yielded _ c.loop-c.yielded_by in
    let turn = YieldsList-turn source c.loop-c.yielded _ c.loop-c.yielded_by _ _ c.in-Some.c c.in-Some.is c.next.ensures.steps in
    let wide = c.columns-columns.ensures.value ∙ ap columns c.shown_character-shown.ensures.shown in
    let used = c.loop-c.invariant.4 in
    let no_room : ROOM < shown_columns c.loop-c.yielded + columns (shown c.in-Some.c) = omega (arith, wide, used, c.if-used-columns-gt-ROOM.true) in
    inr (subst (λ t. ShowsSome ROOM (chars c.args.name.now) t) (sym c.in_ok-push_str.ensures.bytes)
    (cut ROOM (chars c.args.name.now) c.loop-c.yielded c.in-Some.c (string_bytes c.loop-c.text) (sym (map-id c.loop-c.yielded) ∙ so_far)
    turn.0 turn.1 c.loop-c.invariant.3 no_room))

pub returns-clause-shown : goal.returns-clause-shown
returns-clause-shown c =
    let end = YieldsList-end (YieldsList-from_chars c.args.name.now c.utf8.name cc) c.loop-c.yielded _ c.loop-c.yielded_by _ _ c.in-None.is c.next.ensures.steps in
    inl (c.loop-c.invariant.3 ∙ ap shown_text (sym (map-id c.loop-c.yielded) ∙ end.0))
