use Rattle.std.proofs.Common.{true≢false, sym, subst, ◌∙◌, ◌∷◌}
use Rattle.std.specs.Prelude.{codes}
use Rattle.ps_answer.specs.declared.part.Part.TheVariants as part
use Rattle.ps_reader.specs.Cursor.{words_in}
use Rattle.ps_reader.specs.Read.{IsItemRead}
use Rattle.ps_reader.proofs.OpeningLines.{cause_answer, third_word}
use Rattle.ps_reader.proofs.openings.answer.Goals as goal

pub returns : goal.returns
returns c =
    let e = third_word c.args.word.now (codes "bounds") (codes "impossible") (codes "open") c.requires (λ e. true≢false (sym (c.is.ensures.equal.1 e) ∙ c.if-is.false)) (λ e. true≢false (sym (c.is-2.ensures.equal.1 e) ∙ c.if-is-2.false)) in
    subst (λ w. IsItemRead part.AnAnswer (w ∷ words_in c.args.words.now) c.cause.result) (sym e) (cause_answer (words_in c.args.words.now) c.cause.result c.cause.ensures)
