-- The weight of one more entry, and sums that don't wrap.
use Rattle.std.proofs.Common.{◌≡◌, ℕ, ◌+◌, ◌<◌, ◌*◌, ◌^◌, ℤ, pos, ◌+ℤ◌, ◌≤ℤ◌, to_z, of_z, Bool, true, false, cond, List, [], ◌∷◌, ◌++◌, length, map, take, get_or, arith}
use Rattle.std.proofs.lemmas.Int.{ints}
use mir.Syntax.{w128}
use Rattle.std.proofs.lemmas.List.{map-append, take_more}
use Rattle.ps_meaning.specs.Formula.{Formula, is_true}
use Rattle.ps_meaning.specs.Distribution.{Entry, weight}

weight-push : (d : List Entry) (e : Entry) (f : Formula ℕ) → weight (d ++ e ∷ []) f ≡ weight d f +ℤ cond (is_true f e.world) e.weight (pos 0)
weight-push [] e f = omega (arith, ints)
weight-push (x ∷ d) e f = omega (arith, ints, weight-push d e f)

pub weight-more : {X : Type 0} (entry : X → Entry) (xs : List X) (i : ℕ) (x : X) (f : Formula ℕ) → i < length xs
    → weight (map entry (take (i + 1) xs)) f ≡ weight (map entry (take i xs)) f +ℤ cond (is_true f (entry (get_or xs i x)).world) (entry (get_or xs i x)).weight (pos 0)
weight-more entry xs i x f lt = rw (take_more xs i x lt, map-append entry (take i xs) (get_or xs i x ∷ [])) (weight-push (map entry (take i xs)) (entry (get_or xs i x)) f)

-- a sum of few small weights goes on without a wrap
pub record GoesOn (a' a share : ℤ) (n : ℕ) : Type 0 where
  pub sum : a' ≡ a +ℤ share
  pub low : pos 0 ≤ℤ a'
  pub high : a' ≤ℤ pos ((n + 1) * 2 ^ 90)

pub goes_on : (a s weight : ℤ) (b : Bool) (n : ℕ) → pos 0 ≤ℤ a → a ≤ℤ pos (n * 2 ^ 90) → n < 101 → pos 0 ≤ℤ weight → weight ≤ℤ pos (2 ^ 90)
    → s ≡ cond b (to_z w128 (of_z w128 weight)) (pos 0)
    → GoesOn (to_z w128 (of_z w128 (a +ℤ to_z w128 (of_z w128 s)))) a (cond b weight (pos 0)) n
goes_on a s weight true n low high few light heavy e = record { sum = omega (arith, ints); low = omega (arith, ints); high = omega (arith, ints) }
goes_on a s weight false n low high few light heavy e = record { sum = omega (arith, ints); low = omega (arith, ints); high = omega (arith, ints) }
