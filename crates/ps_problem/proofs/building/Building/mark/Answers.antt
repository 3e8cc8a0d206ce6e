use Rattle.std.proofs.Common.{length, subst, ◌∙◌}
use Rattle.ps_problem.specs.Drafts.{NameBelow, made_by}
use Rattle.ps_problem.proofs.Steps.{step-known}
use Rattle.ps_problem.proofs.Operators.{operator-ready, operator-node}
use Rattle.ps_problem.proofs.building.Building.mark.Goals as goal

pub returns-in-Name : goal.returns-in-Name
returns-in-Name c = record { each = λ names h below fs s. rw c.in-Name.is (c.atom.ensures.each names h (subst (NameBelow (length names)) c.in-Name.is below)) }

pub returns : goal.returns
returns c = record {
  each = λ names h below fs s.
      let i = c.args.self.now in
      rw c.node.ensures.atoms (step-known names i.atoms i.formulas h (made_by names fs c.args.mark)
      (operator-ready h.formulas fs c.args.stack.now s names c.args.mark c.in_default.not-Name c.requires.operands)
      _ (c.node_of.ensures ∙ operator-node h.formulas fs c.args.stack.now s names c.args.mark c.in_default.not-Name c.requires.operands)
      c.node.new.self.formulas c.node.result c.node.ensures.nodes);
}
