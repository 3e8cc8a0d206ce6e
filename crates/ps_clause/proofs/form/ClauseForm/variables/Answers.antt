use Rattle.ps_clause.specs.Forms.{form_over}
use Rattle.ps_clause.proofs.Inside.{clauses-inside}
use Rattle.ps_clause.proofs.form.ClauseForm.variables.Goals as goal

pub returns-clause-inside : goal.returns-clause-inside
returns-clause-inside c =
    rw (← c.self.view_is) (clauses-inside (form_over c.self.inside.variables c.self.inside.others c.self.inside.clauses) c.self.invariant.clauses)
