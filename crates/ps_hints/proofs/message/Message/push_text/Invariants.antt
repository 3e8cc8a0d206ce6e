use Rattle.std.proofs.Common.{◌≡◌, ◌++◌}
use Rattle.ps_hints.specs.Shown.{shown_text}
use Rattle.ps_hints.proofs.message.Message.push_text.Given as goal

abbrev pub invariant-loop-c : goal.invariant-loop-c
invariant-loop-c l = l.self ≡ l.fn.self ++ shown_text l.yielded
