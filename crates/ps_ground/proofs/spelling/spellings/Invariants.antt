use Rattle.ps_ground.specs.Spellings.{AreSpelled}
use Rattle.ps_ground.proofs.spelling.spellings.Given as goal

abbrev pub invariant-loop-part : goal.invariant-loop-part
invariant-loop-part l = AreSpelled l.parts l.part-index l.spellings.items
