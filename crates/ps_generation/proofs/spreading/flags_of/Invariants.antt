use Rattle.std.proofs.Common.{◌≡◌, ◌++◌, drop}
use Rattle.ps_runs.specs.Kept.{flags_of}
use Rattle.ps_generation.proofs.spreading.flags_of.Given as goal

abbrev pub invariant-loop-i : goal.invariant-loop-i
invariant-loop-i l = l.flags ++ flags_of (drop l.i l.kept) (drop l.i l.sentences) ≡ flags_of l.kept l.sentences
