use Rattle.std.proofs.Common.{true≢false, sym, ◌∙◌}
use Rattle.ps_reader.proofs.WorldWords.{other_bytes}
use Rattle.ps_max_text.proofs.values.values_of.Goals as goal

pub returns-else-are_truths : goal.returns-else-are_truths
returns-else-are_truths c =
    other_bytes c.args.word.now (λ e. true≢false (sym (c.is.ensures.equal.1 e) ∙ c.if-is.false)) (λ h. true≢false (sym (c.are_truths.ensures.1 h) ∙ c.if-are_truths.false))
