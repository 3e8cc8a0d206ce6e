use Rattle.ps_problem.proofs.DraftLists.{with_formula-is, IsDraft-end}
use Rattle.ps_problem.proofs.draft.Draft.end_formula.Goals as goal

pub invariant_of-self-2 : goal.invariant_of-self-2
invariant_of-self-2 c =
    let i = c.self.inside in
    let one = rw (← c.self.view_is) at c.requires.one in
    let nesting = rw (← c.self.view_is) at c.requires.nesting in
    rw (c.in_ok-push.ensures.ok, c.len-end.ensures) (IsDraft-end i.names i.marks i.ended i.spans i.items c.self.invariant one nesting)

pub returns-clause-ok : goal.returns-clause-ok
returns-clause-ok c =
    let i = c.self.inside in
    let one = rw (← c.self.view_is) at c.requires.one in
    let nesting = rw (← c.self.view_is) at c.requires.nesting in
    rw (← c.self.view_is, c.in_ok-push.ensures.ok, c.len-end.ensures) (with_formula-is i.names i.marks i.ended i.spans i.items c.self.invariant one nesting)
