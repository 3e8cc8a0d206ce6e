use Rattle.std.proofs.Common.{◌≡◌, ◌++◌, ◌+◌, drop}
use Rattle.ps_ask.specs.Unused.{unused_from}
use Rattle.ps_ask.proofs.unused.unused_by.Given as goal

abbrev pub invariant-loop-place : goal.invariant-loop-place
invariant-loop-place l = l.unused ++ unused_from (l.place + 1) (drop l.place l.sentences) l.details ≡ unused_from 1 l.sentences l.details
