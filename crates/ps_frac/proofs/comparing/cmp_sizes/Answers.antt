use Rattle.std.proofs.Common.{◌≡◌, ◌/◌, ◌%◌, ◌⊎◌, arith, ◌∙◌, inl, inr}
use Rattle.ps_frac.proofs.CrossOrder.{cmp_wholes, cmp_rests, cmp_zero}
use Rattle.ps_frac.proofs.comparing.cmp_sizes.Goals as goal
use Rattle.ps_frac.proofs.comparing.cmp_sizes.Goals.{then-left_rest-eq0-via-then-left_rest-eq0, then-left_rest-eq0-via-else-left_rest-eq0+then-right_rest-eq0}

pub returns-then-whole-other : goal.returns-then-whole-other
returns-then-whole-other c = record {
  value =
      c.cmp.ensures ∙ cmp_wholes c.loop-whole.left c.loop-whole.left_under c.loop-whole.right c.loop-whole.right_under c.loop-whole.invariant.left_positive c.loop-whole.invariant.right_positive c.if-whole-other.true ∙ c.loop-whole.invariant.same;
}

pub returns-then-left_rest-eq0 : goal.returns-then-left_rest-eq0
returns-then-left_rest-eq0 c =
    let e : c.loop-whole.left / c.loop-whole.left_under ≡ c.loop-whole.right / c.loop-whole.right_under = omega arith in
    let z : (c.loop-whole.left % c.loop-whole.left_under ≡ 0) ⊎ (c.loop-whole.right % c.loop-whole.right_under ≡ 0) = elim c.then-left_rest-eq0.branch [
      | then-left_rest-eq0-via-then-left_rest-eq0 w ↦ inl (omega arith)
      | then-left_rest-eq0-via-else-left_rest-eq0+then-right_rest-eq0 w ↦ inr (omega arith)
    ] in
    record {
      value = c.cmp-then-left_rest-eq0.ensures
          ∙ cmp_zero _ _ c.loop-whole.left_under c.loop-whole.right_under c.loop-whole.invariant.left_positive c.loop-whole.invariant.right_positive z
          ∙ cmp_rests c.loop-whole.left c.loop-whole.left_under c.loop-whole.right c.loop-whole.right_under e
          ∙ c.loop-whole.invariant.same;
    }

pub loop-whole-preserved : goal.loop-whole-preserved
loop-whole-preserved c =
    let e : c.loop-whole.left / c.loop-whole.left_under ≡ c.loop-whole.right / c.loop-whole.right_under = omega arith in
    record {
      left_positive = omega arith;
      right_positive = omega arith;
      same = cmp_rests c.loop-whole.left c.loop-whole.left_under c.loop-whole.right c.loop-whole.right_under e ∙ c.loop-whole.invariant.same;
    }
