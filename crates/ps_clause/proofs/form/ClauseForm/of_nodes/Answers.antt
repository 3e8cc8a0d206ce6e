use Rattle.std.proofs.Common.{length, refl}
use Rattle.ps_clause.proofs.Kept.{kept-nodes}
use Rattle.ps_clause.proofs.form.ClauseForm.of_nodes.Goals as goal

pub invariant_of-result : goal.invariant_of-result
invariant_of-result c =
    kept-nodes c.args.nodes.now (length c.args.nodes.now) c.in_ok-others.others c.in_ok-clauses.clauses c.requires.sound c.requires.most refl c.in_ok-others.ensures c.in_ok-clauses.ensures
