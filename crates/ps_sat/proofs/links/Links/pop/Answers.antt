use Rattle.std.proofs.Common.{arith}
use Rattle.ps_sat.proofs.Linked.{none-at, within-at, popped-at}
use Rattle.ps_sat.proofs.links.Links.pop.Goals as goal

pub returns-then-head-clause-none : goal.returns-then-head-clause-none
returns-then-head-clause-none c = none-at _ _ _ c.index-head.result.now c.requires.linked c.requires.within c.index-head.ensures (omega (arith, c.if-head.true))

pub index-requires : goal.index-requires
index-requires c =
    let r = within-at c.args.self.now.next.items c.args.self.now.heads.items c.args.slot c.index-head.result.now c.requires.linked c.requires.within c.index-head.ensures (λ e. absurd (omega (arith, e, c.if-head.false))) in
    omega (arith, r, c.args.self.now.next.ok.0)

pub returns-clause-some : goal.returns-clause-some
returns-clause-some c = popped-at _ _ _ c.index-head.result.now c.index.result.now c.requires.linked c.requires.within c.index-head.ensures (λ e. absurd (omega (arith, e, c.if-head.false))) c.index.ensures
