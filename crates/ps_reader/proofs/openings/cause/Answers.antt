use Rattle.std.proofs.Common.{true≢false, sym, ◌∙◌}
use Rattle.ps_reader.specs.Cursor.{words_in}
use Rattle.ps_reader.proofs.OpeningLines.{no_cause}
use Rattle.ps_reader.proofs.openings.cause.Goals as goal

pub returns : goal.returns
returns c =
    no_cause (words_in c.args.words.now) (λ e. true≢false (sym (c.is.ensures.equal.1 (c.next-why.ensures.word ∙ e)) ∙ c.if-is.false))
    (λ e. true≢false (sym (c.is-2.ensures.equal.1 (c.next-why.ensures.word ∙ e)) ∙ c.if-is-2.false)) (λ e. true≢false (sym (c.is-3.ensures.equal.1 (c.next-why.ensures.word ∙ e)) ∙ c.if-is-3.false))
