use Rattle.std.proofs.Common.{sym, arith}
use Rattle.std.proofs.lemmas.Grind.{common_steps}
use Rattle.ps_clause.proofs.Nodes.{unmarked}
use Rattle.ps_clause.proofs.form.ClauseForm.is_atom.Goals as goal

pub returns-in-None : goal.returns-in-None
returns-in-None c = sym (unmarked c.args.self.now c.args.var (grind (arith, common_steps)) (grind (arith, common_steps)) (grind (arith, common_steps)))
