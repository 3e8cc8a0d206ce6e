use Rattle.std.proofs.Common.{◌≡◌, ◌++◌}
use Rattle.ps_make.specs.Chain.{links_from}
use Rattle.ps_make.specs.Lines.{lines_of}
use Rattle.ps_make.proofs.Laid.{front}
use Rattle.ps_make.proofs.made.make_text.Given as goal

abbrev pub invariant-loop-atom : goal.invariant-loop-atom
invariant-loop-atom l = l.out.items ≡ front ++ lines_of (links_from 0 l.atom)
