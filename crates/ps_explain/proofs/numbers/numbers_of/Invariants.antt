use Rattle.std.proofs.Common.{◌≡◌, ◌++◌, drop, map, suc}
use Rattle.ps_explain.specs.Explanations.{numbers_of, places_from}
use Rattle.ps_explain.proofs.numbers.numbers_of.Given as goal

abbrev pub invariant-loop-place : goal.invariant-loop-place
invariant-loop-place l = l.numbers ++ map suc (places_from l.place (drop l.place l.kept)) ≡ numbers_of l.kept
