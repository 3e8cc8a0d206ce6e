use Rattle.std.proofs.Common.{◌≡◌, ◌≤◌, ℤ, true, Option, Some, None, length, arith, sym, ap, ◌∙◌, subst}
use Rattle.std.specs.Prelude.{option_to_list, is_some}
use Rattle.ps_pb.specs.Constraints.{is_open}
use Rattle.ps_pbcheck.proofs.Opened.{several}
use Rattle.ps_pbcheck.proofs.propagation.left_of.Goals as goal

some_one : (o : Option ℤ) → is_some o ≡ true → 1 ≤ length (option_to_list o)
some_one None h = absurd (cc)
some_one (Some l) h = omega arith

pub returns-then-is_some : goal.returns-then-is_some
returns-then-is_some c =
    several (is_open c.args.a.now) c.args.lits.now c.loop-lit.lit-index c.lit-item.result c.loop-lit-test.true
    (subst (λ x. 1 ≤ length x) c.loop-lit.invariant (some_one c.loop-lit.one (sym c.is_some.ensures ∙ c.if-is_some.true)))
    (ap (is_open c.args.a.now) (sym c.lit-item.is) ∙ sym c.if-is_open.ensures)
