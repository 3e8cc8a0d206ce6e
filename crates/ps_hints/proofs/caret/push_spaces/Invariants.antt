use Rattle.std.proofs.Common.{◌≡◌, ◌++◌}
use Rattle.ps_hints.specs.Shown.{spaces}
use Rattle.ps_hints.proofs.caret.push_spaces.Given as goal

abbrev pub invariant-loop-space : goal.invariant-loop-space
invariant-loop-space l = l.message ≡ l.fn.message ++ spaces l._space
