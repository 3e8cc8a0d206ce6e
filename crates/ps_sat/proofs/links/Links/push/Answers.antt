use Rattle.ps_sat.proofs.Linked.{pushed-at}
use Rattle.ps_sat.proofs.links.Links.push.Goals as goal

pub returns-clause-pushed : goal.returns-clause-pushed
returns-clause-pushed c = pushed-at _ _ _ _ c.index.result.now c.requires.linked c.requires.within c.requires.node c.requires.free c.index.ensures
