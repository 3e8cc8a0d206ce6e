use Rattle.std.proofs.Common.{true≢false, sym, ◌∙◌}
use Rattle.ps_reader.specs.Cursor.{words_in}
use Rattle.ps_max_text.proofs.ItemKinds.{no_open}
use Rattle.ps_max_text.proofs.item_reader.open.Goals as goal

pub returns : goal.returns
returns c = no_open (words_in c.args.words.now) (λ e. true≢false (sym (c.is.ensures.equal.1 (c.next-why.ensures.word ∙ e)) ∙ c.if-is.false))
