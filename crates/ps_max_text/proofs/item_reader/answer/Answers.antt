use Rattle.std.proofs.Common.{true≢false, sym, subst, ◌∙◌, ◌∷◌}
use Rattle.std.specs.Prelude.{codes}
use Rattle.ps_reader.specs.Cursor.{words_in}
use Rattle.ps_reader.proofs.OpeningLines.{third_word}
use Rattle.ps_max_text.specs.Read.{IsItemRead}
use Rattle.ps_max_text.specs.declared.part.MaxPart.TheVariants as part
use Rattle.ps_max_text.proofs.item_reader.answer.Goals as goal

pub returns : goal.returns
returns c =
    let e = third_word c.args.word.now (codes "optimum") (codes "unsatisfiable") (codes "open") c.requires (λ e. true≢false (sym (c.is.ensures.equal.1 e) ∙ c.if-is.false)) (λ e. true≢false (sym (c.is-2.ensures.equal.1 e) ∙ c.if-is-2.false)) in
    subst (λ w. IsItemRead part.Answer (w ∷ words_in c.args.words.now) c.open.result) (sym e) c.open.ensures
