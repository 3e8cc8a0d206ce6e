use Rattle.std.proofs.Common.{◌≡◌, arith}
use Rattle.std.proofs.lemmas.Nat.Gcd.{IsGcd-from_zero, IsGcd-from_mod}
use Rattle.ps_meaning.specs.Gcd.{gcd}
use Rattle.ps_meaning.specs.Coprime.{is_gcd, gcd_pos_right}
use Rattle.ps_widening.proofs.units.gcd.Goals as goal

pub loop-y-preserved : goal.loop-y-preserved
loop-y-preserved c = λ g h. c.loop-y.invariant g (IsGcd-from_mod _ _ g h)

pub returns : goal.returns
returns c =
    let e : c.loop-y.x ≡ gcd c.args.a c.args.b = is_gcd _ _ _ (c.loop-y.invariant _ (IsGcd-from_zero _ _ (omega arith))) in
    record { value = e; positive = λ h. omega (arith, e, gcd_pos_right c.args.a c.args.b h) }
