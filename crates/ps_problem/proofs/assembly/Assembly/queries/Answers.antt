use Rattle.std.proofs.Common.{◌≡◌, length, subst, arith}
use Rattle.ps_problem.specs.Making.{QueriesMade}
use Rattle.ps_problem.proofs.assembly.Assembly.queries.Goals as goal

pub returns-clause-ok : goal.returns-clause-ok
returns-clause-ok c =
    let s = c.loop-i.self in
    let d = c.args.draft.now in
    let le = c.loop-i.invariant.0 in
    let end = c.loop-i-test.false in
    let n = c.len-i-end.ensures in
    let e : c.loop-i.i ≡ length d.items = omega (arith, le, end, n, c.loop-i.auto.i-end) in
    subst (λ i. QueriesMade d i s) e c.loop-i.invariant.1
