use Rattle.std.proofs.Common.{◌≡◌, ◌++◌, ◌/◌, ◌^◌, ◌-◌}
use Rattle.ps_frac.specs.Decimals.{last_digits}
use Rattle.ps_frac.proofs.text.digits.Given as goal

abbrev pub invariant-loop-written : goal.invariant-loop-written
invariant-loop-written l = record {
  place : l.place ≡ 10 ^ (l.count - l._written);
  text : l.out.items ≡ l.initial.out.items ++ last_digits l._written (l.n / l.place);
}
