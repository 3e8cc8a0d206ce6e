use Rattle.ps_ground.specs.GroundParts.{AreCounted}
use Rattle.ps_ground.proofs.mark_counts.counts.Given as goal

abbrev pub invariant-loop-part : goal.invariant-loop-part
invariant-loop-part l = AreCounted l.parts l.part-index l.counts.items
