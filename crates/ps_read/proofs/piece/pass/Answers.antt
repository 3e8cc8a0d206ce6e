use Rattle.std.proofs.Common.{sym, ◌∙◌}
use Rattle.ps_read.proofs.Readers.{passed, nothing_passed}
use Rattle.ps_read.proofs.piece.pass.Goals as goal

pub returns-clause-passed : goal.returns-clause-passed
returns-clause-passed c = passed c.args.bytes.now c.pass.result.now c.args.reader.now c.pass.new.self c.pass.ensures.passes c.pass.ensures.parser (sym c.is_done.ensures ∙ c.if-is_done.false) c.requires.waits

pub returns-then-is_done-clause-passed : goal.returns-then-is_done-clause-passed
returns-then-is_done-clause-passed c = nothing_passed c.args.bytes.now c.args.reader.now c.requires.waits
