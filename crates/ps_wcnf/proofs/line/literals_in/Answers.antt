use Rattle.std.proofs.Common.{sym, ◌∙◌, subst}
use Rattle.ps_wcnf.specs.Splitting.{words_of}
use Rattle.ps_wcnf.specs.Counted.{Takes}
use Rattle.ps_wcnf.proofs.Closing.{so-far-more}
use Rattle.ps_wcnf.proofs.line.literals_in.Goals as goal

pub loop-word-preserved : goal.loop-word-preserved
loop-word-preserved c =
    so-far-more (words_of c.args.text.now) (words_of c.loop-word.rest.now) (words_of c.in-Some.after.now) c.in-Some.word.now c.loop-word.lits c.take_word.new.lits c.loop-word.large c.in-Some-2.now
    c.loop-word.invariant c.in-Some.ensures.found.words (sym c.is_zero.ensures ∙ c.if-is_zero.false)
    (subst (λ o. Takes c.in-Some.word.now c.loop-word.lits c.take_word.new.lits c.loop-word.large o) c.in-Some-2.is c.in_ok-now.ensures)
