use Rattle.std.proofs.Common.{◌<◌, length, arith}
use Rattle.ps_formula.specs.declared.limits.TheConstants.{MOST_NODES}
use Rattle.ps_formula.specs.Nodes.{Fits}
use Rattle.ps_formula.proofs.Nodes.{kept, not_full, added}
use Rattle.ps_formula.proofs.formulas.Formulas.add.Goals as goal
use Rattle.ps_formula.proofs.formulas.Formulas.add.Goals.{in-Ok, in-Err}

pub returns-in-Some-clause-ok : goal.returns-in-Some-clause-ok
returns-in-Some-clause-ok c = rw (← c.self.view_is) (kept c.self.inside.nodes.keys c.args.node c.in-Some.i c.in-Some.ensures.index)

pub returns-in-Some-clause-full : goal.returns-in-Some-clause-full
returns-in-Some-clause-full c = rw (← c.self.view_is) (not_full c.self.inside.nodes.keys c.args.node c.in-Some.i c.in-Some.ensures.index)

pub invariant_of-self : goal.invariant_of-self
invariant_of-self c =
    let fits : Fits (length c.self.inside.nodes.keys) c.args.node = rw c.self.view_is c.requires in
    let few : length c.self.inside.nodes.keys < MOST_NODES = omega arith in
    elim c.match-insert_full.branch [
      | in-Ok w ↦ added _ _ c.args.node c.self.invariant.0 few fits c.in_default.ensures.found w.in-Ok.ensures.keys
      | in-Err w ↦ rw w.in-Err.ensures.err c.self.invariant
    ]
