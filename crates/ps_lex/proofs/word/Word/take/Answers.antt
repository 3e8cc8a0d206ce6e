use Rattle.std.proofs.Common.{sym, ◌∙◌}
use Rattle.ps_lex.proofs.Letters.{letters_more}
use Rattle.ps_lex.proofs.word.Word.take.Goals as goal

pub loop-left-preserved : goal.loop-left-preserved
loop-left-preserved c =
    letters_more c.args.self.now c.args.bytes.now c.loop-left.self c.loop-left.left.now _ c.loop-left.invariant c.in-len1-up.len_at_least (sym c.is_word_byte.ensures ∙ c.if-not-is_word_byte.false) c.push.ensures
