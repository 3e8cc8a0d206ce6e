use Rattle.ps_problem.specs.Numbered.{Built, MarksNumbered}
use Rattle.ps_problem.proofs.building.Building.formula.Given as goal

abbrev pub invariant-loop-mark : goal.invariant-loop-mark
invariant-loop-mark l = (h : Built l.draft.names l.initial.self.atoms l.initial.self.formulas) → MarksNumbered l.draft.names h.formulas l.marks l.mark-index l.self l.stack.items
