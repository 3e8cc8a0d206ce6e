use Rattle.ps_report.proofs.causes.write_cause.Goals as goal

pub returns-in-Conflicts : goal.returns-in-Conflicts
returns-in-Conflicts g c = rw c.in-Conflicts.is (rw c.as_slice.ensures at c.write_conflicts.ensures)
