use Rattle.std.proofs.Common.{pos, arith}
use Rattle.std.proofs.lemmas.Grind.{common_steps}
use Rattle.ps_clause.proofs.Tidied.{once_new, once_old}
use Rattle.ps_wcnf.proofs.shape.once.Goals as goal
use Rattle.ps_wcnf.proofs.shape.once.Goals.{then-not-contains+in_ok-push, else-not-contains}

pub loop-lit-preserved : goal.loop-lit-preserved
loop-lit-preserved c = elim c.if-not-contains.branch [
  | then-not-contains+in_ok-push w ↦ (let more = once_new c.args.lits.now c.loop-lit.lit-index (pos 1) c.loop-lit-test.true (grind (arith, common_steps)) in
      grind (arith, common_steps, more))
  | else-not-contains w ↦ (let more = once_old c.args.lits.now c.loop-lit.lit-index (pos 1) c.loop-lit-test.true (grind (arith, common_steps)) in
      grind (arith, common_steps, more))
]
