use Rattle.ps_problem.proofs.DraftLists.{with_name-is, IsDraft-name}
use Rattle.ps_problem.proofs.draft.Draft.name.Goals as goal

pub invariant_of-self-2 : goal.invariant_of-self-2
invariant_of-self-2 c =
    let i = c.self.inside in
    rw c.in_ok-number.ensures.names (IsDraft-name i.names i.marks i.ended i.spans i.items c.self.invariant c.args.text.now c.requires.name)

pub returns-clause-ok : goal.returns-clause-ok
returns-clause-ok c =
    let i = c.self.inside in
    rw (← c.self.view_is, c.in_ok-number.ensures.names) (with_name-is i.names i.marks i.ended i.spans i.items c.self.invariant c.args.text.now)
