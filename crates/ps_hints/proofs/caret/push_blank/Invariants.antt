use Rattle.std.proofs.Common.{◌≡◌, ◌++◌, take}
use Rattle.ps_hints.specs.Shown.{blank_below}
use Rattle.ps_hints.proofs.caret.push_blank.Given as goal

abbrev pub invariant-loop-c : goal.invariant-loop-c
invariant-loop-c l = l.message ≡ l.fn.message ++ blank_below (take l.c-index l.characters)
