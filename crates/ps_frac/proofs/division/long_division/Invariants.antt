use Rattle.std.proofs.Common.{◌≡◌, ◌+◌, ◌*◌, ◌^◌, ◌<◌}
use Rattle.ps_frac.proofs.division.long_division.Given as goal

abbrev pub invariant-loop-digit : goal.invariant-loop-digit
invariant-loop-digit l = record {
  same : l.quotient * l.under + l.rest ≡ l.over * 10 ^ l._digit;
  rest : l.rest < l.under;
}
