use Rattle.ps_ground.proofs.Marking.{IsAsFar}
use Rattle.ps_ground.proofs.marks.+add_marks.Given as goal

abbrev pub decreases-add_marks : goal.decreases-add_marks
decreases-add_marks l = l.i

abbrev pub invariant-loop-constant : goal.invariant-loop-constant
invariant-loop-constant l = IsAsFar l.parts l.quantifier l.variable l.body l.initial.numbers.items l.initial.marks l.constant l.numbers.items l.marks
