use Rattle.std.proofs.Common.{false}
use Rattle.ps_lex.proofs.Passing.{line_more, is_space}
use Rattle.ps_lex.proofs.gap.behind_spaces.Goals as goal

pub loop-left-preserved : goal.loop-left-preserved
loop-left-preserved c = line_more false c.args.bytes.now c.loop-left.left.now c.loop-left.invariant c.in-len1-up.len_at_least (is_space _ c.if-byte-ne32.false)
