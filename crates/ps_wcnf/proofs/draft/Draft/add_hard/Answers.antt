use Rattle.std.proofs.Common.{◌≡◌, max, arith, ap}
use Rattle.ps_wcnf.specs.Limits.{last_in}
use Rattle.ps_wcnf.proofs.Drafts.{kept-long, wide-hard, kept-hard, same-hard}
use Rattle.ps_wcnf.proofs.draft.Draft.add_hard.Goals as goal

pub overflow_add-variables : goal.overflow_add-variables
overflow_add-variables c =
    omega (arith, c.max-variables.ensures, c.last_in.ensures.within, kept-long c.self.inside.text c.self.inside.sum c.self.inside.long c.self.invariant)

pub returns-then-variables-self-gt-MOST_VARIABLES : goal.returns-then-variables-self-gt-MOST_VARIABLES
returns-then-variables-self-gt-MOST_VARIABLES c =
    let e : c.max-variables.result ≡ max (last_in c.args.lits) c.self.inside.text.variables = omega (arith, c.max-variables.ensures, c.last_in.ensures.value, ap last_in c.as_slice.ensures) in
    rw (← c.self.view_is) (wide-hard c.self.inside.text c.args.lits c.max-variables.result c.self.inside.sum c.self.inside.long c.self.invariant e (omega (arith, c.if-variables-self-gt-MOST_VARIABLES.true)))

pub invariant_of-self-2 : goal.invariant_of-self-2
invariant_of-self-2 c =
    let e : c.max-variables.result ≡ max (last_in c.args.lits) c.self.inside.text.variables = omega (arith, c.max-variables.ensures, c.last_in.ensures.value, ap last_in c.as_slice.ensures) in
    rw c.in_ok-push.ensures.ok (kept-hard c.self.inside.text c.args.lits c.max-variables.result c.self.inside.sum c.self.inside.long c.self.invariant e
    (omega (arith, c.if-len-ge-MOST_CLAUSES.false, c.len.ensures, c.len-2.ensures)) (omega (arith, c.if-variables-self-gt-MOST_VARIABLES.false)))

pub returns : goal.returns
returns c =
    let e : c.max-variables.result ≡ max (last_in c.args.lits) c.self.inside.text.variables = omega (arith, c.max-variables.ensures, c.last_in.ensures.value, ap last_in c.as_slice.ensures) in (
      rw (c.in_ok-push.ensures.ok, ← c.self.view_is) (same-hard c.self.inside.text c.args.lits c.max-variables.result e),
      rw c.in_ok-push.ensures.ok (kept-hard c.self.inside.text c.args.lits c.max-variables.result c.self.inside.sum c.self.inside.long c.self.invariant e
          (omega (arith, c.if-len-ge-MOST_CLAUSES.false, c.len.ensures, c.len-2.ensures)) (omega (arith, c.if-variables-self-gt-MOST_VARIABLES.false))).text,
    )
