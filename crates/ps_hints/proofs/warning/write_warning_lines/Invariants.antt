use Rattle.ps_hints.specs.Shown.{AddsLines}
use Rattle.ps_hints.proofs.warning.write_warning_lines.Given as goal

abbrev pub invariant-loop-warning : goal.invariant-loop-warning
invariant-loop-warning l = AddsLines l.fn.out.items l.out.items
