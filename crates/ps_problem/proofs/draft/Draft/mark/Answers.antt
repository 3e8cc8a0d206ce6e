use Rattle.ps_problem.proofs.DraftLists.{with_mark-is, IsDraft-mark}
use Rattle.ps_problem.proofs.draft.Draft.mark.Goals as goal

pub invariant_of-self-2 : goal.invariant_of-self-2
invariant_of-self-2 c =
    let i = c.self.inside in
    let name = rw (← c.self.view_is) at c.requires.name in
    let operands = rw (← c.self.view_is) at c.requires.operands in
    rw c.in_ok-push.ensures.ok (IsDraft-mark i.names i.marks i.ended i.spans i.items c.self.invariant c.args.mark name operands)

pub returns-clause-ok : goal.returns-clause-ok
returns-clause-ok c =
    let i = c.self.inside in
    rw (← c.self.view_is, c.in_ok-push.ensures.ok) (with_mark-is i.names i.marks i.ended i.spans i.items c.self.invariant c.args.mark)
