use Rattle.std.proofs.Common.{◌≡◌, drop}
use Rattle.std.specs.Prelude.{slice_get}
use Rattle.ps_problem.specs.Problems.{bounds_in}
use Rattle.ps_problem.proofs.sentence.bound_in.Given as goal

abbrev pub invariant-loop-sentence : goal.invariant-loop-sentence
invariant-loop-sentence l = slice_get (bounds_in (drop l.sentence-index l.sentences)) l.place ≡ slice_get (bounds_in l.sentences) l.i
