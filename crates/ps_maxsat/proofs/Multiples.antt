-- Multiples of a unit.
use Rattle.std.proofs.Common.{◌≡◌, ℕ, zero, suc, ◌+◌, ◌-◌, ◌*◌, ◌/◌, ◌%◌, ◌<◌, ◌≤◌, ℤ, pos, negsuc, neg_ℤ, ◌+ℤ◌, ◌-ℤ◌, ◌≤ℤ◌, ◌<ℤ◌, Bool, true, false, cond, List, [], ◌∷◌, length, get_or, drop, arith, sym, subst, unsigned_abs, to_z, of_z, ◌^◌}
use mir.Syntax.{w128}
use Rattle.std.specs.Int.{IsGcd, ◌∣◌}
use Rattle.std.proofs.Math.Nat.{dvd-add, dvd-sub, dvd-mul_right, div-add-mod, mod-lt, eq-zero_of_zero-dvd}
use Rattle.std.proofs.lemmas.Int.{ints}
use Rattle.std.proofs.lemmas.List.{drop_all}
use Rattle.std.proofs.lemmas.List.Elements.{All-cons, All-nil}
use Rattle.std.proofs.lemmas.Nat.Gcd.{dvd_refl, dvd-zero, dvd_trans, le_of_dvd}
use Rattle.ps_pb.specs.Assignments.{holds}
use Rattle.ps_pb.specs.Weights.{Weighted, true_weight}
use Rattle.ps_pb.proofs.Summed.{drop-item}
use Rattle.ps_maxsat.specs.Spacing.{DividesWeights, IsUnit}

-- ---- the unit
-- the greatest common divisor of a number and of weights
pub record IsUnitFrom (u : ℕ) (ts : Weighted) (g : ℕ) : Type 0 where
  pub first : g ∣ u
  pub rest : DividesWeights g ts
  pub greatest : (d : ℕ) → d ∣ u → DividesWeights d ts → d ∣ g

pub unit-first : (ts : Weighted) (g : ℕ) → IsUnitFrom 0 ts g → IsUnit ts g
unit-first ts g h = record { divides = h.rest; greatest = λ d all. h.greatest d (dvd-zero d) all }

unit_on : (u r g : ℕ) (t : ℤ × ℤ) (ts : Weighted) → IsGcd u (unsigned_abs t.1) r → IsUnitFrom r ts g → IsUnitFrom u (t ∷ ts) g
unit_on u r g t ts of h = record {
  first = dvd_trans g h.first of.0;
  rest = All-cons (λ x. g ∣ unsigned_abs x.1) t ts (dvd_trans g h.first of.1) h.rest;
  greatest = λ d own all. h.greatest d (of.2 d own (all zero t (omega arith))) (λ k x lt. all (suc k) x (omega (arith, lt)));
}

-- one weight on
pub unit-next : (ts : Weighted) (i : ℕ) (t : ℤ × ℤ) (u r g : ℕ) → i < length ts → t ≡ get_or ts i t → IsGcd u (unsigned_abs t.1) r → IsUnitFrom r (drop (i + 1) ts) g → IsUnitFrom u (drop i ts) g
unit-next ts i t u r g lt e of h = subst (λ (x : Weighted). IsUnitFrom u x g) (sym (drop-item ts i t lt e)) (unit_on u r g t (drop (i + 1) ts) of h)

pub unit-last : (ts : Weighted) (i u : ℕ) → length ts ≤ i → IsUnitFrom u (drop i ts) u
unit-last ts i u h =
    subst (λ (x : Weighted). IsUnitFrom u x u) (sym (drop_all i ts h))
    (record { first = dvd_refl u; rest = All-nil (λ x. u ∣ unsigned_abs x.1); greatest = λ d own _. own })

-- ---- sums of multiples
sum_divides : (u : ℕ) (a b : ℤ) → u ∣ unsigned_abs a → u ∣ unsigned_abs b → u ∣ unsigned_abs (a +ℤ b)
sum_divides u (pos m) (pos n) p q = let e : m + n ≡ unsigned_abs (pos m +ℤ pos n) = omega (arith, ints) in subst (λ k. u ∣ k) e (dvd-add u p q)
sum_divides u (negsuc m) (negsuc n) p q = let e : suc m + suc n ≡ unsigned_abs (negsuc m +ℤ negsuc n) = omega (arith, ints) in subst (λ k. u ∣ k) e (dvd-add u p q)
sum_divides u (pos m) (negsuc n) p q =
    let e : (m - suc n) + (suc n - m) ≡ unsigned_abs (pos m +ℤ negsuc n) = omega (arith, ints) in
    subst (λ k. u ∣ k) e (dvd-add u (dvd-sub u p q) (dvd-sub u q p))
sum_divides u (negsuc m) (pos n) p q =
    let e : (suc m - n) + (n - suc m) ≡ unsigned_abs (negsuc m +ℤ pos n) = omega (arith, ints) in
    subst (λ k. u ∣ k) e (dvd-add u (dvd-sub u p q) (dvd-sub u q p))

difference_divides : (u : ℕ) (a b c : ℤ) → c ≡ a -ℤ b → u ∣ unsigned_abs a → u ∣ unsigned_abs b → u ∣ unsigned_abs c
difference_divides u a b c e p q =
    let turned : unsigned_abs b ≡ unsigned_abs (neg_ℤ b) = omega (arith, ints) in
    let same : a +ℤ neg_ℤ b ≡ c = omega (arith, ints, e) in
    subst (λ x. u ∣ unsigned_abs x) same (sum_divides u a (neg_ℤ b) p (subst (λ k. u ∣ k) turned q))

part_divides : (u : ℕ) (b : Bool) (k : ℤ) → u ∣ unsigned_abs k → u ∣ unsigned_abs (cond b k (pos 0))
part_divides u true k h = h
part_divides u false k h = dvd-zero u

weight_divides : (u : ℕ) (w : List Bool) (ts : Weighted) → DividesWeights u ts → u ∣ unsigned_abs (true_weight w ts)
weight_divides u w [] h = dvd-zero u
weight_divides u w (t ∷ ts) h =
    sum_divides u (cond (holds w t.0) t.1 (pos 0)) (true_weight w ts) (part_divides u (holds w t.0) t.1 (h zero t (omega arith)))
    (weight_divides u w ts (λ k x lt. h (suc k) x (omega (arith, lt))))

-- ---- steps of the unit
above_by_unit : (unit : ℕ) (r v bound : ℤ) → unit ∣ unsigned_abs (v -ℤ r) → (0 < unit → bound <ℤ (r +ℤ pos unit)) → r <ℤ v → (bound +ℤ pos 1) ≤ℤ v
above_by_unit zero r v bound d near up = let none : unsigned_abs (v -ℤ r) ≡ 0 = eq-zero_of_zero-dvd d in absurd (omega (arith, ints, none, up))
above_by_unit (suc k) r v bound d near up =
    let some : 0 < unsigned_abs (v -ℤ r) = omega (arith, ints, up) in
    let far : suc k ≤ unsigned_abs (v -ℤ r) = le_of_dvd some d in
    omega (arith, ints, near (omega arith), far, up)

-- no value lies above a number of steps that the next step takes above the bound
pub none-between : (unit : ℕ) (ts : Weighted) (base found r bound : ℤ) (v w : List Bool) → unit ∣ unsigned_abs (r -ℤ found) → (0 < unit → bound <ℤ (r +ℤ pos unit))
    → DividesWeights unit ts → found ≡ base +ℤ true_weight v ts → r <ℤ (base +ℤ true_weight w ts) → (bound +ℤ pos 1) ≤ℤ (base +ℤ true_weight w ts)
none-between unit ts base found r bound v w steps near all own up =
    let apart : unit ∣ unsigned_abs ((base +ℤ true_weight w ts) -ℤ found) =
    difference_divides unit (true_weight w ts) (true_weight v ts) ((base +ℤ true_weight w ts) -ℤ found) (omega (arith, ints, own)) (weight_divides unit w ts all) (weight_divides unit v ts all) in
    let rest : unit ∣ unsigned_abs ((base +ℤ true_weight w ts) -ℤ r) = difference_divides unit ((base +ℤ true_weight w ts) -ℤ found) (r -ℤ found) ((base +ℤ true_weight w ts) -ℤ r) (omega (arith, ints)) apart steps in
    above_by_unit unit r (base +ℤ true_weight w ts) bound rest near up

-- a number that stands still has made a multiple of any step
pub no-step : (unit : ℕ) (found r : ℤ) → r ≡ found → unit ∣ unsigned_abs (r -ℤ found)
no-step unit found r e = let none : 0 ≡ unsigned_abs (r -ℤ found) = omega (arith, ints, e) in subst (λ k. unit ∣ k) none (dvd-zero unit)

-- what is left of a way is less than a step, and what was gone is a multiple of it
pub record IsRest (way unit rest : ℕ) : Type 0 where
  pub less : rest < unit
  pub within : rest ≤ way
  pub gone : unit ∣ way - rest

rest_of : (way unit : ℕ) → 0 < unit → IsRest way unit (way % unit)
rest_of way unit h =
    let whole = div-add-mod way unit in
    let gone : unit * (way / unit) ≡ way - way % unit = omega (arith, whole) in
    record { less = mod-lt way h; within = omega (arith, whole); gone = subst (λ k. unit ∣ k) gone (dvd-mul_right unit (way / unit)) }

-- a number of steps above what was found, from which the next step goes above the bound
pub record IsLastStep (found bound r : ℤ) (unit : ℕ) : Type 0 where
  pub from : found ≤ℤ r
  pub within : r ≤ℤ bound
  pub steps : unit ∣ unsigned_abs (r -ℤ found)
  pub near : bound <ℤ (r +ℤ pos unit)

-- the rest of the way is taken from the bound, as the code does
down : (found bound r : ℤ) (way unit rest : ℕ) → found ≤ℤ bound → way ≡ unsigned_abs (bound -ℤ found) → r ≡ bound -ℤ pos rest → IsRest way unit rest → IsLastStep found bound r unit
down found bound r way unit rest h e q is =
    let less = is.less in
    let within = is.within in
    let gone : way - rest ≡ unsigned_abs (r -ℤ found) = omega (arith, ints, h, e, q, within) in
    record {
      from = omega (arith, ints, h, e, q, within);
      within = omega (arith, ints, q);
      steps = subst (λ k. unit ∣ k) gone is.gone;
      near = omega (arith, ints, q, less);
    }

pub down-by-rest : (found bound : ℤ) (way unit : ℕ) → found ≤ℤ bound → unsigned_abs found ≤ 2 ^ 120 → unsigned_abs bound ≤ 2 ^ 120 → way ≡ unsigned_abs (bound -ℤ found) → 0 < unit
    → IsLastStep found bound (to_z w128 (of_z w128 (to_z w128 (of_z w128 bound) -ℤ to_z w128 (way % unit)))) unit
down-by-rest found bound way unit h f b e some =
    let is = rest_of way unit some in
    let within : way % unit ≤ way = is.within in
    let same : to_z w128 (of_z w128 (to_z w128 (of_z w128 bound) -ℤ to_z w128 (way % unit))) ≡ bound -ℤ pos (way % unit) = omega (arith, ints, h, f, b, e, within) in
    down found bound _ way unit (way % unit) h e same is
