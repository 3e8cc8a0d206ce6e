use Rattle.std.proofs.Common.{◌≡◌, length}
use Rattle.ps_text_tests.proofs.building.fill.Given as goal

abbrev pub invariant-loop : goal.invariant-loop
invariant-loop l = (length l.draft.formulas ≡ 2) × (length l.draft.items ≡ l.counter)
