use Rattle.std.proofs.Common.{◌≡◌, ◌<◌, ◌≤◌, ◌+◌, ◌*◌, ℕ, ◌-◌, length}
use Rattle.ps_frac.specs.declared.limits.TheConstants.{MOST_DIGITS}
use Rattle.ps_spoken.specs.declared.digits.TheConstants.{MORE_DIGITS}
use Rattle.ps_spoken.specs.Digits.{digits_from, shown_digits}
use Rattle.ps_spoken.proofs.digits.shown_digits.Given as goal

abbrev pub invariant-loop : goal.invariant-loop
invariant-loop l = (l.digits ≤ l.shown) × (l.shown + MORE_DIGITS * (l.end - l.counter) ≤ MOST_DIGITS)
    × (digits_from (l.end - l.counter) l.shown l.lower l.upper ≡ shown_digits l.digits l.lower l.upper)
