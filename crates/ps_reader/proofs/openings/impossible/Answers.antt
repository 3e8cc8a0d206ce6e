use Rattle.std.proofs.Common.{◌∙◌, ap, Err}
use Rattle.std.specs.Prelude.{codes, ◌∷◌}
use Rattle.std.proofs.lemmas.Result.{err_from_is_err_and}
use Rattle.ps_answer.specs.declared.item.LineItem.TheVariants as line
use Rattle.ps_answer.specs.declared.part.Part.TheVariants as part
use Rattle.ps_reader.specs.Cursor.{words_in}
use Rattle.ps_reader.proofs.Sequences.{made_ok, made_err}
use Rattle.ps_reader.proofs.OpeningLines.{impossible_read}
use Rattle.ps_reader.proofs.openings.impossible.Goals as goal

pub returns : goal.returns
returns c = made_ok part.AnAnswer (codes "impossible" ∷ words_in c.args.words.now) (λ u. line.Impossible) c.end.result tt (impossible_read (words_in c.args.words.now) c.end.result c.end.ensures) c.in_ok-end.was

pub returns-in_err-end : goal.returns-in_err-end
returns-in_err-end c =
    let f = err_from_is_err_and c.from_residual.result c.from_residual.ensures.1 in
    made_err part.AnAnswer (codes "impossible" ∷ words_in c.args.words.now) (λ u. line.Impossible) c.end.result c.in_err-end.field-0.0 c.from_residual.result (impossible_read (words_in c.args.words.now) c.end.result c.end.ensures) c.in_err-end.was (f.1 ∙ ap Err f.2)
