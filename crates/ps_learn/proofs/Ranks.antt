-- The rank of a trail rises where an implied literal takes the place of a decided one.
use Rattle.std.proofs.Common.{◌≡◌, ℕ, zero, suc, ◌+◌, ◌<◌, ◌≤◌, ◌^◌, Bool, true, false, cond, Some, None, List, [], ◌∷◌, ◌++◌, length, arith}
use Rattle.std.specs.Prelude.{is_none}
use Rattle.ps_learn.specs.Trails.{TrailEntry, rank}

power_some : (n : ℕ) → 1 ≤ 2 ^ n
power_some zero = omega arith
power_some (suc n) = omega (arith, power_some n)

digit_below : (b : Bool) (p : ℕ) → cond b 0 p ≤ p
digit_below true p = omega arith
digit_below false p = omega arith

-- fewer ranks than 2 to the number of variables
pub rank-bound : (n : ℕ) (es : List TrailEntry) → rank n es < 2 ^ n
rank-bound n [] = omega (arith, power_some n)
rank-bound zero (e ∷ es) = omega arith
rank-bound (suc n) (e ∷ es) = omega (arith, digit_below (is_none e.reason) (2 ^ n), rank-bound n es)

-- an implied literal at the place of a decided one
pub rank-rises : (n : ℕ) (front : List TrailEntry) (d y : TrailEntry) (rest more : List TrailEntry) (id : ℕ) → length front < n → d.reason ≡ None → y.reason ≡ Some id → rank n (front ++ d ∷ rest) < rank n (front ++ y ∷ more)
rank-rises zero front d y rest more id h p q = absurd (omega (arith, h))
rank-rises (suc n) [] d y rest more id h p q =
    let a : rank (suc n) (d ∷ rest) ≡ rank n rest = rw p (omega arith) in
    let b : rank (suc n) (y ∷ more) ≡ 2 ^ n + rank n more = rw q (omega arith) in
    omega (arith, a, b, rank-bound n rest)
rank-rises (suc n) (x ∷ front) d y rest more id h p q = omega (arith, rank-rises n front d y rest more id (omega (arith, h)) p q)
