use Rattle.std.proofs.Common.{◌≡◌, ◌+◌, ◌*◌, ◌^◌, ◌∙◌, ap, arith}
use Rattle.ps_frac.proofs.Rounding.{few_units, most_units, next_same}
use Rattle.ps_frac.proofs.division.long_division.Goals as goal

pub next_digit-requires-clause-few : goal.next_digit-requires-clause-few
next_digit-requires-clause-few c =
    few_units c.loop-digit.quotient c.loop-digit._digit
    (most_units _ _ _ _ (10 ^ c.loop-digit._digit) c.loop-digit.invariant.same c.requires.positive c.requires.within)
    (omega (arith, c.requires.few))

pub loop-digit-preserved : goal.loop-digit-preserved
loop-digit-preserved c = record {
  same = next_same _ _ _ _ _ _ _ c.loop-digit.invariant.same c.next_digit.ensures.same;
  rest = c.next_digit.ensures.rest;
}

pub returns-clause-most : goal.returns-clause-most
returns-clause-most c =
    let e : c.loop-digit._digit ≡ c.args.digits = omega arith in
    let s : c.loop-digit.quotient * c.args.under + c.loop-digit.rest ≡ c.args.over * 10 ^ c.args.digits
    = c.loop-digit.invariant.same ∙ ap (λ k. c.args.over * 10 ^ k) e in
    most_units _ _ _ _ (10 ^ c.args.digits) s c.requires.positive c.requires.within
