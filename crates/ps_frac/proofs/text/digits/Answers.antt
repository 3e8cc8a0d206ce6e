use Rattle.std.proofs.Common.{◌≡◌, ◌-◌, ◌^◌, ◌∙◌, ap, arith}
use Rattle.ps_frac.proofs.Digits.{more_digits, no_digits, place_behind, some_place, tenfold}
use Rattle.ps_frac.proofs.text.digits.Goals as goal

pub loop-written-init : goal.loop-written-init
loop-written-init c =
    let e : c.args.count ≡ c.args.count - 0 = omega arith in
    record { place = c.requires.scale ∙ ap (λ k. 10 ^ k) e; text = no_digits _ _ }

pub nonzero_div-n : goal.nonzero_div-n
nonzero_div-n c = some_place _ _ _ c.loop-written.invariant.place c.loop-written-test.true

pub loop-written-preserved : goal.loop-written-preserved
loop-written-preserved c = record {
  place = place_behind _ _ _ c.loop-written.invariant.place c.loop-written-test.true;
  text = more_digits _ _ _ _ _ _ _ c.loop-written.invariant.text
      (tenfold _ _ _ c.loop-written.invariant.place c.loop-written-test.true) c.in_ok-digit.ensures;
}
