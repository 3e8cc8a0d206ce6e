use Rattle.ps_pb.specs.Steps.{known_of}
use Rattle.ps_sat.specs.Scans.{AreIdleTo}
use Rattle.ps_sat.proofs.scanning.scan_these.Given as goal

abbrev pub invariant-loop-i : goal.invariant-loop-i
invariant-loop-i l = AreIdleTo (known_of l.known) l.ids l.a l.i
