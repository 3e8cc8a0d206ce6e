use Rattle.std.proofs.Common.{subst, ap}
use Rattle.ps_wcnf.specs.Spelling.{Hard, hard_of}
use Rattle.ps_wcnf.specs.Counted.{AreEnded}
use Rattle.ps_wcnf.specs.declared.line.Ended.TheVariants as ended
use Rattle.ps_wcnf.proofs.line.hard_of.Goals as goal

pub returns-in-Large : goal.returns-in-Large
returns-in-Large c = λ words h. let e : AreEnded words ended.Large = subst (AreEnded words) c.in-Large.is h in (Hard e.0, ap hard_of e.1, e.2)
