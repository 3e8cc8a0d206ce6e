use Rattle.std.proofs.Common.{All, take}
use Rattle.ps_valid.specs.Valuations.{MeetsAt, valued_entries}
use Rattle.ps_valid.proofs.meeting.first_missed.Given as goal

abbrev pub invariant-loop-i : goal.invariant-loop-i
invariant-loop-i l = All (MeetsAt (valued_entries l.valued)) (take l.i l.rows)
