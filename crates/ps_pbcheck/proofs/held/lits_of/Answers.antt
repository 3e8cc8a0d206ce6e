use Rattle.std.proofs.Common.{arith, length, ap, ◌∙◌}
use Rattle.ps_pbcheck.proofs.Relisted.{firsts_end}
use Rattle.ps_pbcheck.proofs.held.lits_of.Goals as goal

pub returns : goal.returns
returns c =
    c.loop-term.invariant
    ∙ firsts_end c.args.c.now.terms c.loop-term.term-index (omega (arith, c.loop-term-test.false, ap length (c.as_slice-term-items.ensures ∙ c.terms.ensures.value)))
