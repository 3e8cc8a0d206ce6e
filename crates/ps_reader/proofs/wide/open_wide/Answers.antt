use Rattle.std.proofs.Common.{ap, Err, ◌∙◌, ◌∷◌}
use Rattle.std.specs.Prelude.{codes}
use Rattle.std.proofs.lemmas.Result.{err_from_is_err_and}
use Rattle.ps_answer.specs.declared.part.Part.TheVariants as part
use Rattle.ps_reader.specs.Cursor.{words_in}
use Rattle.ps_reader.specs.Read.{both}
use Rattle.ps_reader.proofs.Sequences.{made_ok, made_err}
use Rattle.ps_reader.proofs.PlaceWords.{wide_item, wide_of}
use Rattle.ps_reader.proofs.wide.open_wide.Goals as goal

pub returns : goal.returns
returns c =
    made_ok part.ACause (codes "open" ∷ codes "wide" ∷ words_in c.args.words.now) wide_of c.both-3.result _
    (wide_item (words_in c.args.words.now) (words_in c.place-place.new.words) (words_in c.next.new.self) (words_in c.next-2.new.self) (words_in c.next-3.new.self) c.next.result.now c.next-2.result.now c.next-3.result.now
    c.place-place.result c.op-op.result c.operand-left.result c.operand-right.result c.end.result c.both-3.result c.place-place.ensures c.next.ensures.word c.next.ensures.later c.next-2.ensures.word c.next-2.ensures.later c.next-3.ensures.word c.next-3.ensures.later
    c.op-op.ensures c.operand-left.ensures c.operand-right.ensures c.end.ensures
    (c.both-3.ensures ∙ ap (both c.place-place.result) (c.both-rest.ensures ∙ ap (both c.op-op.result) (c.both-2.ensures ∙ ap (both c.operand-left.result) c.both.ensures))))
    c.in_ok-place.was

pub returns-in_err-place : goal.returns-in_err-place
returns-in_err-place c =
    let f = err_from_is_err_and c.from_residual.result c.from_residual.ensures.1 in
    made_err part.ACause (codes "open" ∷ codes "wide" ∷ words_in c.args.words.now) wide_of c.both-3.result c.in_err-place.field-0.0 c.from_residual.result
    (wide_item (words_in c.args.words.now) (words_in c.place-place.new.words) (words_in c.next.new.self) (words_in c.next-2.new.self) (words_in c.next-3.new.self) c.next.result.now c.next-2.result.now c.next-3.result.now
    c.place-place.result c.op-op.result c.operand-left.result c.operand-right.result c.end.result c.both-3.result c.place-place.ensures c.next.ensures.word c.next.ensures.later c.next-2.ensures.word c.next-2.ensures.later c.next-3.ensures.word c.next-3.ensures.later
    c.op-op.ensures c.operand-left.ensures c.operand-right.ensures c.end.ensures
    (c.both-3.ensures ∙ ap (both c.place-place.result) (c.both-rest.ensures ∙ ap (both c.op-op.result) (c.both-2.ensures ∙ ap (both c.operand-left.result) c.both.ensures))))
    c.in_err-place.was (f.1 ∙ ap Err f.2)
