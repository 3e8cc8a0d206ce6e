use Rattle.std.proofs.Common.{refl, arith}
use Rattle.ps_lex.proofs.Passing.{line_along}
use Rattle.ps_lex.proofs.gap.Gap.pass_line.Goals as goal

pub returns-clause-passes : goal.returns-clause-passes
returns-clause-passes c =
    line_along c.args.self.is_comment c.args.self.began c.args.self.here c.args.bytes.now c.behind_line-left.result.now _ _ c.behind_line-left.ensures.line (omega (arith, c.if-count-eq0.false)) refl c.along.ensures
