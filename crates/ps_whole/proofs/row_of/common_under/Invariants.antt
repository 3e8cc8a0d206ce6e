use Rattle.ps_whole.specs.Rows.{IsUnderOf}
use Rattle.ps_whole.proofs.row_of.common_under.Given as goal

abbrev pub invariant-loop-m : goal.invariant-loop-m
invariant-loop-m l = IsUnderOf l.entries l.m l.under
