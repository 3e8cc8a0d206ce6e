use Rattle.ps_clause.proofs.Kept.{kept-added}
use Rattle.ps_clause.proofs.form.ClauseForm.add.Goals as goal

pub invariant_of-self : goal.invariant_of-self
invariant_of-self c =
    kept-added c.push.result c.self.inside.variables c.self.inside.others c.self.inside.clauses c.push.new.self c.in_ok-constraint.constraint c.args.lits.now c.push.ensures.ok c.push.ensures.err c.in_ok-constraint.ensures
    (rw (← c.self.view_is) at c.requires.within) c.requires.once (rw (← c.self.view_is) at c.requires.room) c.self.invariant
