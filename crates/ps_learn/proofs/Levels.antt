-- What stands at a level or below it is the first part of the trail.
use Rattle.std.proofs.Common.{◌≡◌, ℕ, zero, suc, ◌<◌, ◌≤◌, Bool, true, false, Some, List, [], ◌∷◌, take, arith, refl, ap}
use Rattle.std.specs.Prelude.{slice_get, nat_le}
use Rattle.std.specs.List.{filter}
use Rattle.ps_learn.specs.Trails.{TrailEntry, decisions, AreLevels}

-- levels rise
pub record AreRising (es : List TrailEntry) : Type 0 where
  pub at : (i j : ℕ) (d e : TrailEntry) → i ≤ j → slice_get es i ≡ Some d → slice_get es j ≡ Some e → d.level ≤ e.level

-- an earlier part of a trail has at most as many decisions
pub decisions-more : (es : List TrailEntry) (i j : ℕ) → i ≤ j → decisions (take i es) ≤ decisions (take j es)
decisions-more es zero j h = omega arith
decisions-more es (suc i) zero h = absurd (omega (arith, h))
decisions-more [] (suc i) (suc j) h = omega arith
decisions-more (e ∷ es) (suc i) (suc j) h = omega (arith, decisions-more es i j (omega (arith, h)))

pub levels-rise : (es : List TrailEntry) → AreLevels es → AreRising es
levels-rise es f = record { at = λ i j d e h p q. omega (arith, f.at i d p, f.at j e q, decisions-more es (suc i) (suc j) (omega (arith, h))) }

abbrev pub below : ℕ → TrailEntry → Bool
below n e = nat_le e.level n

none_below : (n : ℕ) (es : List TrailEntry) → ((i : ℕ) (e : TrailEntry) → slice_get es i ≡ Some e → n < e.level) → filter (below n) es ≡ []
none_below n [] h = refl
none_below n (e ∷ es) h = let b : below n e ≡ false = grind (arith, h zero e refl) in rw b (none_below n es (λ i d q. h (suc i) d q))

rest_rises : (e : TrailEntry) (es : List TrailEntry) → AreRising (e ∷ es) → AreRising es
rest_rises e es r = record { at = λ i j d f h p q. r.at (suc i) (suc j) d f (omega (arith, h)) p q }

first_part : (n : ℕ) (es : List TrailEntry) → AreRising es → (k : ℕ) × (filter (below n) es ≡ take k es)
first_part n [] r = (zero, refl)
first_part n (e ∷ es) r = by_case (below n e) refl (first_part n es (rest_rises e es r))
  where
    by_case : (b : Bool) → below n e ≡ b → (k : ℕ) × (filter (below n) es ≡ take k es) → (k : ℕ) × (filter (below n) (e ∷ es) ≡ take k (e ∷ es))
    by_case true q s = (suc s.0, rw q (ap (λ t. e ∷ t) s.1))
    by_case false q s = (zero, rw q (none_below n es (λ i d p. (let l : n < e.level = grind (arith, q) in omega (arith, l, r.at zero (suc i) e d (omega arith) refl p)))))

pub up_to-take : (n : ℕ) (es : List TrailEntry) → AreLevels es → (k : ℕ) × (filter (below n) es ≡ take k es)
up_to-take n es f = first_part n es (levels-rise es f)
