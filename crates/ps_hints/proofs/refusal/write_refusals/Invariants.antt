use Rattle.ps_hints.specs.Shown.{AddsLines}
use Rattle.ps_hints.proofs.refusal.write_refusals.Given as goal

abbrev pub invariant-loop-refusal : goal.invariant-loop-refusal
invariant-loop-refusal l = AddsLines l.fn.out.items l.out.items
