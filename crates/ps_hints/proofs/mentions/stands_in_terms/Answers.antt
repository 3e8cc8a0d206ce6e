use Rattle.std.proofs.Common.{sym, ◌∙◌}
use Rattle.ps_hints.proofs.Atoms.{term-has, term-lacks, terms-none}
use Rattle.ps_hints.proofs.mentions.stands_in_terms.Goals as goal

pub returns-then-is_marked : goal.returns-then-is_marked
returns-then-is_marked c = λ a ns e.
    sym (c.loop-term.invariant a ns e ∙ term-has a ns c.args.marks.now e c.args.terms.now c.loop-term.term-index _ c.loop-term-test.true c.is_marked.result c.is_marked.ensures c.if-is_marked.true)

pub loop-term-preserved : goal.loop-term-preserved
loop-term-preserved c = λ a ns e.
    c.loop-term.invariant a ns e ∙ term-lacks a ns c.args.marks.now e c.args.terms.now c.loop-term.term-index _ c.loop-term-test.true c.is_marked.result c.is_marked.ensures c.if-is_marked.false

pub returns : goal.returns
returns c = λ a ns e. sym (c.loop-term.invariant a ns e ∙ terms-none a ns c.args.terms.now c.loop-term.term-index c.loop-term-test.false)
