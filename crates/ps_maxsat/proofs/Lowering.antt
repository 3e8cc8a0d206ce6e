-- A bound that is lowered by steps from a value that was found.
use Rattle.std.proofs.Common.{◌≡◌, ℕ, ℤ, pos, ◌+ℤ◌, ◌≤ℤ◌, ◌<ℤ◌, arith, sym, subst}
use Rattle.std.proofs.lemmas.Int.{ints}
use Rattle.ps_pb.specs.Assignments.{Assignment}
use Rattle.ps_pb.specs.Weights.{Weighted}
use Rattle.ps_maxsat.specs.declared.problem.Wcnf.{Wcnf}
use Rattle.ps_maxsat.specs.Spacing.{DividesWeights, IsUnit}
use Rattle.ps_maxsat.specs.Values.{most_value, IsOf, NoneIsAbove, NoneIsBetween, LeavesNone}
use Rattle.ps_maxsat.proofs.Rounds.{none-lower}

-- a bound that is no lower than a value that was found, and above which no value lies up to the old one
pub record IsLowered (p : Wcnf) (found bound low : ℤ) : Type 0 where
  pub from : found ≤ℤ low
  pub within : low ≤ℤ bound
  pub next : NoneIsBetween p low (bound +ℤ pos 1)

pub lowered : (p : Wcnf) (a : Assignment) (ts : Weighted) (unit : ℕ) (found bound r low : ℤ) → IsOf p a found → ts ≡ p.soft → IsUnit ts unit → low ≡ r → found ≤ℤ r → r ≤ℤ bound → LeavesNone unit found r bound → IsLowered p found bound low
lowered p a ts unit found bound r low own same is e from within next =
    let all : DividesWeights unit p.soft = subst (DividesWeights unit) same is.divides in
    let last : NoneIsBetween p r (bound +ℤ pos 1) = next p own.0 all own.4 in
    record {
      from = omega (arith, ints, from, e);
      within = omega (arith, ints, within, e);
      next = subst (λ x. NoneIsBetween p x (bound +ℤ pos 1)) (sym e) last;
    }

-- no value is above it, where none was above the old one
pub lowered-none : (p : Wcnf) (found bound low : ℤ) → IsLowered p found bound low → NoneIsAbove p bound → NoneIsAbove p low
lowered-none p found bound low is none = none-lower p low bound none is.next

pub lowered-most : (p : Wcnf) (found bound low : ℤ) → IsLowered p found bound low → bound ≤ℤ most_value p → low ≤ℤ most_value p
lowered-most p found bound low is h = omega (arith, ints, is.within, h)

-- a refuted goal is above it
pub lowered-below : (p : Wcnf) (found bound low goal : ℤ) → IsLowered p found bound low → bound +ℤ pos 1 ≡ goal → low <ℤ goal
lowered-below p found bound low goal is e = omega (arith, ints, is.within, e)

pub lowered-next : (p : Wcnf) (found bound low goal : ℤ) → IsLowered p found bound low → bound +ℤ pos 1 ≡ goal → NoneIsBetween p low goal
lowered-next p found bound low goal is e = subst (NoneIsBetween p low) e is.next

pub most-same : (p : Wcnf) (m b : ℤ) → b ≡ m → m ≡ most_value p → b ≤ℤ most_value p
most-same p m b e q = omega (arith, ints, e, q)

pub below-most : (p : Wcnf) (b g r d : ℤ) → g ≤ℤ b → r ≡ g → d +ℤ pos 1 ≡ r → b ≤ℤ most_value p → d ≤ℤ most_value p
below-most p b g r d l e q h = omega (arith, ints, l, e, q, h)
