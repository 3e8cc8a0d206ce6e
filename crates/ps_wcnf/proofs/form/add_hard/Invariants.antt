use Rattle.std.proofs.Common.{◌≡◌, take}
use Rattle.ps_wcnf.specs.Built.{with_clauses}
use Rattle.ps_wcnf.proofs.form.add_hard.Given as goal

abbrev pub invariant-loop-lits : goal.invariant-loop-lits
invariant-loop-lits l = l.form ≡ with_clauses l.initial.form (take l.lits-index l.hard)
