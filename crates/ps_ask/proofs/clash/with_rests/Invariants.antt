use Rattle.std.proofs.Common.{◌≡◌, take, map, All}
use Rattle.ps_ask.specs.Clashes.{IsRestFor, number_of}
use Rattle.ps_ask.proofs.clash.with_rests.Given as goal

abbrev pub invariant-loop-number : goal.invariant-loop-number
invariant-loop-number g l = record {
  numbers : map number_of l.clashing ≡ take l.number-index l.numbers;
  rests : All (IsRestFor l.settings l.problem) l.clashing;
}
