use Rattle.std.proofs.Common.{◌≡◌, take}
use Rattle.std.specs.Str.Parse.{digits_value}
use Rattle.ps_reader.specs.Numerals.{capped_size}
use Rattle.ps_reader.proofs.numeral.value.Given as goal

abbrev pub invariant-loop-digit : goal.invariant-loop-digit
invariant-loop-digit l = l.value ≡ capped_size (digits_value 10 (take l.digit-index l.digits))
