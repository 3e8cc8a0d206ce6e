use Rattle.std.proofs.Common.{map}
use Rattle.ps_problem.specs.Drafts.{summand_at}
use Rattle.ps_problem.specs.Numbered.{Built, TermsNumbered}
use Rattle.ps_problem.proofs.building.Building.terms.Given as goal

abbrev pub invariant-loop-term : goal.invariant-loop-term
invariant-loop-term l = (h : Built l.draft.names l.initial.self.atoms l.initial.self.formulas)
    → TermsNumbered l.draft.names h.formulas l.scale (map (summand_at l.draft.formulas) l.terms) l.term-index l.self l.made
