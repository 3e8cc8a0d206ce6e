use Rattle.std.proofs.Common.{◌≡◌, ◌≤◌}
use Rattle.std.specs.String.{string_bytes}
use Rattle.ps_names.specs.Names.{IsPlain, TakesAtMost, shown_columns, shown_text}
use Rattle.ps_names.proofs.name.shown_name.Given as goal

abbrev pub invariant-loop-c : goal.invariant-loop-c
invariant-loop-c l =
    IsPlain (string_bytes l.text) × TakesAtMost l.used (string_bytes l.text) × (l.used ≤ 197)
    × (string_bytes l.text ≡ shown_text l.yielded) × (l.used ≡ shown_columns l.yielded)
