use Rattle.ps_sat.proofs.Linked.{grown}
use Rattle.ps_sat.proofs.links.Links.add.Goals as goal

pub returns-clause-added : goal.returns-clause-added
returns-clause-added c = rw c.push_reserved.ensures.items (grown _ _ _ c.requires.linked c.requires.few)
