use Rattle.std.proofs.Common.{refl, arith}
use Rattle.std.proofs.lemmas.Nat.Gcd.{IsGcd-from_mod, IsGcd-from_zero}
use Rattle.ps_text.specs.Canonical.{IsReduced}
use Rattle.ps_text_tests.proofs.building.add_items.Goals as goal

half : IsReduced (record { num = 1; den = 2 })
half = record {
  lowest = IsGcd-from_mod 1 2 1 (IsGcd-from_mod 2 1 1 (IsGcd-from_zero 1 0 refl));
  some = omega arith;
  small = omega arith;
  least = omega arith;
}

pub sentence-requires-clause-value : goal.sentence-requires-clause-value
sentence-requires-clause-value c = record {
  lowest = IsGcd-from_mod 1 4 1 (IsGcd-from_mod 4 1 1 (IsGcd-from_zero 1 0 refl));
  some = omega arith;
  small = omega arith;
  least = omega arith;
}

pub sentence-requires-clause-upper : goal.sentence-requires-clause-upper
sentence-requires-clause-upper c = half

pub sentence-requires-2-clause-value : goal.sentence-requires-2-clause-value
sentence-requires-2-clause-value c = half
