use Rattle.std.proofs.Common.{◌∙◌, ap, Err, ◌∷◌}
use Rattle.std.specs.Prelude.{codes}
use Rattle.std.proofs.lemmas.Result.{err_from_is_err_and}
use Rattle.ps_reader.specs.Cursor.{words_in}
use Rattle.ps_reader.specs.Read.{both}
use Rattle.ps_max_text.specs.declared.item.MaxItem.TheVariants as line
use Rattle.ps_max_text.specs.declared.part.MaxPart.TheVariants as part
use Rattle.ps_max_text.proofs.Making.{made_ok, made_err}
use Rattle.ps_max_text.proofs.ItemKinds.{open_read}
use Rattle.ps_max_text.proofs.item_reader.open_conflicts.Goals as goal

pub returns : goal.returns
returns c = made_ok part.Answer (codes "open" ∷ codes "conflicts" ∷ words_in c.args.words.now) (λ a. line.OpenConflicts a.0 a.1.0) c.both-2.result _
    (open_read (words_in c.args.words.now) (words_in c.next.new.self) (words_in c.next-2.new.self) c.next.result.now c.next-2.result.now c.count-limit.result c.count-count.result c.end.result c.both-2.result
    c.next.ensures.word c.next.ensures.later c.next-2.ensures.word c.next-2.ensures.later
    c.count-limit.ensures c.count-count.ensures c.end.ensures (c.both-2.ensures ∙ ap (both c.count-limit.result) c.both.ensures))
    c.in_ok-limit.was

pub returns-in_err-limit : goal.returns-in_err-limit
returns-in_err-limit c =
    let f = err_from_is_err_and c.from_residual.result c.from_residual.ensures.1 in
    made_err part.Answer (codes "open" ∷ codes "conflicts" ∷ words_in c.args.words.now) (λ a. line.OpenConflicts a.0 a.1.0) c.both-2.result c.in_err-limit.field-0.0 c.from_residual.result
    (open_read (words_in c.args.words.now) (words_in c.next.new.self) (words_in c.next-2.new.self) c.next.result.now c.next-2.result.now c.count-limit.result c.count-count.result c.end.result c.both-2.result
    c.next.ensures.word c.next.ensures.later c.next-2.ensures.word c.next-2.ensures.later
    c.count-limit.ensures c.count-count.ensures c.end.ensures (c.both-2.ensures ∙ ap (both c.count-limit.result) c.both.ensures))
    c.in_err-limit.was (f.1 ∙ ap Err f.2)
