use Rattle.ps_sat.proofs.Linked.{shifted-at}
use Rattle.ps_sat.proofs.links.Links.shift.Goals as goal

pub returns-clause-shifted : goal.returns-clause-shifted
returns-clause-shifted c = shifted-at _ _ _ _ c.index.result.now c.requires.linked c.requires.from c.requires.to c.index.ensures c.requires.empty
