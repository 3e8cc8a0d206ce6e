use Rattle.std.proofs.Common.{true}
use Rattle.ps_lex.proofs.Passing.{line_more, no_feed}
use Rattle.ps_lex.proofs.gap.behind_comment.Goals as goal

pub loop-left-preserved : goal.loop-left-preserved
loop-left-preserved c = line_more true c.args.bytes.now c.loop-left.left.now c.loop-left.invariant c.in-len1-up.len_at_least (no_feed _ c.if-byte-eq10.false)
