use Rattle.std.proofs.Common.{◌≡◌, ◌+◌, ◌+ℤ◌, max, arith, ap, cond, to_z, of_z, ◌∙◌, ℕ, ℤ, ◌++◌, ◌∷◌, []}
use mir.Syntax.{w128}
use Rattle.std.proofs.lemmas.Int.{ints}
use Rattle.ps_wcnf.specs.Limits.{last_in}
use Rattle.ps_wcnf.specs.Valued.{is_long}
use Rattle.ps_wcnf.proofs.Drafts.{kept-long, kept-sum, wide-soft, heavy-soft, kept-soft, same-soft}
use Rattle.ps_wcnf.proofs.draft.Draft.add_soft.Goals as goal

pub overflow_add-long : goal.overflow_add-long
overflow_add-long c = omega (arith, c.one_if.ensures.within, kept-long c.self.inside.text c.self.inside.sum c.self.inside.long c.self.invariant)

pub overflow_add-variables : goal.overflow_add-variables
overflow_add-variables c =
    omega (arith, c.one_if.ensures.within, c.max-variables.ensures, c.last_in.ensures.within, kept-long c.self.inside.text c.self.inside.sum c.self.inside.long c.self.invariant)

pub returns-then-variables-long-gt-MOST_VARIABLES : goal.returns-then-variables-long-gt-MOST_VARIABLES
returns-then-variables-long-gt-MOST_VARIABLES c =
    let e : c.max-variables.result ≡ max (last_in c.args.lits) c.self.inside.text.variables = omega (arith, c.max-variables.ensures, c.last_in.ensures.value, ap last_in c.as_slice.ensures) in
    let m : c.self.inside.long + c.one_if.result ≡ c.self.inside.long + cond (is_long c.args.lits) 1 0 =
    ap (λ (n : ℕ). c.self.inside.long + n) (c.one_if.ensures.value ∙ ap (λ b. cond b 1 0) (c.in_ok-is_long.ensures ∙ ap is_long c.as_slice-2.ensures)) in
    rw (← c.self.view_is) (wide-soft c.self.inside.text c.args.weight c.args.lits c.max-variables.result c.self.inside.sum c.self.inside.long (c.self.inside.long + c.one_if.result) c.self.invariant e m
    (omega (arith, c.if-variables-long-gt-MOST_VARIABLES.true)))

pub returns-then-self-weight-gt-MOST_WEIGHTS : goal.returns-then-self-weight-gt-MOST_WEIGHTS
returns-then-self-weight-gt-MOST_WEIGHTS c =
    let small = kept-sum c.self.inside.text c.self.inside.sum c.self.inside.long c.self.invariant in
    rw (← c.self.view_is) (heavy-soft c.self.inside.text c.args.weight c.args.lits c.self.inside.sum (c.self.inside.sum +ℤ c.args.weight) c.self.inside.long c.self.invariant (omega (arith, ints))
    (omega (arith, ints, c.if-self-weight-gt-MOST_WEIGHTS.true, small.some, small.most, c.requires.some, c.requires.most)))

pub invariant_of-self : goal.invariant_of-self
invariant_of-self c = rw c.in_err-push.ensures.err c.self.invariant

pub invariant_of-self-2 : goal.invariant_of-self-2
invariant_of-self-2 c =
    let e : c.max-variables.result ≡ max (last_in c.args.lits) c.self.inside.text.variables = omega (arith, c.max-variables.ensures, c.last_in.ensures.value, ap last_in c.as_slice.ensures) in
    let m : c.self.inside.long + c.one_if.result ≡ c.self.inside.long + cond (is_long c.args.lits) 1 0 =
    ap (λ (n : ℕ). c.self.inside.long + n) (c.one_if.ensures.value ∙ ap (λ b. cond b 1 0) (c.in_ok-is_long.ensures ∙ ap is_long c.as_slice-2.ensures)) in
    let small = kept-sum c.self.inside.text c.self.inside.sum c.self.inside.long c.self.invariant in
    let k : to_z w128 (of_z w128 c.args.weight) ≡ c.args.weight = omega (arith, ints, c.ranges.weight) in
    let ok = c.in_ok-push.ensures.ok ∙ ap (λ (z : ℤ). c.self.inside.text.soft ++ (z, c.args.lits) ∷ []) k in
    rw ok (kept-soft c.self.inside.text c.args.weight c.args.lits c.max-variables.result c.self.inside.sum _ c.self.inside.long (c.self.inside.long + c.one_if.result) c.self.invariant
    c.requires.some c.requires.most e m (omega (arith, ints, small.some, small.most, c.requires.some, c.requires.most))
    (omega (arith, c.if-len-ge-MOST_CLAUSES.false, c.len.ensures, c.len-2.ensures)) (omega (arith, c.if-variables-long-gt-MOST_VARIABLES.false))
    (omega (arith, ints, c.if-self-weight-gt-MOST_WEIGHTS.false, small.some, small.most, c.requires.some, c.requires.most)))

pub returns : goal.returns
returns c =
    let e : c.max-variables.result ≡ max (last_in c.args.lits) c.self.inside.text.variables = omega (arith, c.max-variables.ensures, c.last_in.ensures.value, ap last_in c.as_slice.ensures) in
    let m : c.self.inside.long + c.one_if.result ≡ c.self.inside.long + cond (is_long c.args.lits) 1 0 =
    ap (λ (n : ℕ). c.self.inside.long + n) (c.one_if.ensures.value ∙ ap (λ b. cond b 1 0) (c.in_ok-is_long.ensures ∙ ap is_long c.as_slice-2.ensures)) in
    let small = kept-sum c.self.inside.text c.self.inside.sum c.self.inside.long c.self.invariant in
    let k : to_z w128 (of_z w128 c.args.weight) ≡ c.args.weight = omega (arith, ints, c.ranges.weight) in
    let ok = c.in_ok-push.ensures.ok ∙ ap (λ (z : ℤ). c.self.inside.text.soft ++ (z, c.args.lits) ∷ []) k in (
      rw (ok, ← c.self.view_is) (same-soft c.self.inside.text c.args.weight c.args.lits c.max-variables.result e),
      rw ok (kept-soft c.self.inside.text c.args.weight c.args.lits c.max-variables.result c.self.inside.sum (c.self.inside.sum +ℤ c.args.weight) c.self.inside.long (c.self.inside.long + c.one_if.result) c.self.invariant
          c.requires.some c.requires.most e m (omega (arith, ints))
          (omega (arith, c.if-len-ge-MOST_CLAUSES.false, c.len.ensures, c.len-2.ensures)) (omega (arith, c.if-variables-long-gt-MOST_VARIABLES.false))
          (omega (arith, ints, c.if-self-weight-gt-MOST_WEIGHTS.false, small.some, small.most, c.requires.some, c.requires.most))).text,
    )
