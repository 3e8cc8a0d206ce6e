use Rattle.std.proofs.Common.{length, map}
use Rattle.ps_problem.specs.DraftLists.{spelled}
use Rattle.ps_problem.proofs.Values.{reduced-items, nested-items}
use Rattle.ps_problem.proofs.draft.Draft.names.Goals as goal

pub returns-clause-reduced : goal.returns-clause-reduced
returns-clause-reduced c =
    let i = c.self.inside in
    rw (← c.self.view_is) (reduced-items (map (spelled i.names i.marks) i.spans) (length i.spans) i.items c.self.invariant.sound)

pub returns-clause-nested : goal.returns-clause-nested
returns-clause-nested c =
    let i = c.self.inside in
    rw (← c.self.view_is) (nested-items i.names i.marks i.ended i.spans i.items c.self.invariant.formulas c.self.invariant.sound)
