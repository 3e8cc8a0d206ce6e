use Rattle.std.proofs.Common.{true≢false, sym, subst, ◌∙◌, ◌∷◌}
use Rattle.std.specs.Prelude.{codes}
use Rattle.ps_answer.specs.declared.part.Part.TheVariants as part
use Rattle.ps_reader.specs.Cursor.{words_in}
use Rattle.ps_reader.specs.Read.{IsItemRead}
use Rattle.ps_reader.proofs.OpeningLines.{second_word}
use Rattle.ps_reader.proofs.openings.query.Goals as goal

pub returns : goal.returns
returns c =
    let e = second_word c.args.word.now (codes "query") (codes "end") c.requires (λ e. true≢false (sym (c.is.ensures.equal.1 e) ∙ c.if-is.false)) in
    subst (λ w. IsItemRead (part.AQuery c.args.due) (w ∷ words_in c.args.words.now) c.end.result) (sym e) (c.end.ensures c.args.due)
