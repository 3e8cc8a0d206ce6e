-- Different numbers below m are m at most.
use Rattle.std.proofs.Common.{◌≡◌, ◌≢◌, ℕ, zero, suc, ◌-◌, ◌<◌, ◌≤◌, cond, ltb, lt-ltb, le-ltb, ap, arith, inl, inr}
use Rattle.std.proofs.lemmas.Bool.{cases_lt}

-- the numbers above v, one lower
abbrev lower : ℕ → ℕ → ℕ
lower v x = cond (ltb v x) (x - 1) x

lower_above : (v x : ℕ) → v < x → lower v x ≡ x - 1
lower_above v x h = ap (λ b. cond b (x - 1) x) (lt-ltb v x h)

lower_below : (v x : ℕ) → x ≤ v → lower v x ≡ x
lower_below v x h = ap (λ b. cond b (x - 1) x) (le-ltb v x h)

lower_less : (v x m : ℕ) → x ≢ v → v < suc m → x < suc m → lower v x < m
lower_less v x m ne hv hx =
    elim (cases_lt v x) [
      | inl l ↦ let e = lower_above v x l in omega (arith, e, l, hx)
      | inr l ↦ let e = lower_below v x l in omega (arith, e, l, hv, ne)
    ]

lower_apart : (v x y : ℕ) → x ≢ v → y ≢ v → x ≢ y → lower v x ≢ lower v y
lower_apart v x y nx ny ne e =
    elim (cases_lt v x) [
      | inl a ↦
          let ex = lower_above v x a in
          elim (cases_lt v y) [
            | inl b ↦ let ey = lower_above v y b in absurd (omega (arith, ex, ey, a, b, ne, e))
            | inr b ↦ let ey = lower_below v y b in absurd (omega (arith, ex, ey, a, b, ny, e))
          ]
      | inr a ↦
          let ex = lower_below v x a in
          elim (cases_lt v y) [
            | inl b ↦ let ey = lower_above v y b in absurd (omega (arith, ex, ey, a, b, nx, e))
            | inr b ↦ let ey = lower_below v y b in absurd (omega (arith, ex, ey, ne, e))
          ]
    ]

pub pigeons : (l m : ℕ) (f : ℕ → ℕ) → ((i : ℕ) → i < l → f i < m) → ((i j : ℕ) → i < j → j < l → f i ≢ f j) → l ≤ m
pigeons zero m f below apart = omega arith
pigeons (suc l) zero f below apart = let h = below l (omega arith) in absurd (omega (arith, h))
pigeons (suc l) (suc m) f below apart =
    let rest : l ≤ m =
    pigeons l m (λ i. lower (f l) (f i))
    (λ i h. lower_less (f l) (f i) m (apart i l h (omega arith)) (below l (omega arith)) (below i (omega arith)))
    (λ i j h k. lower_apart (f l) (f i) (f j) (apart i l (omega arith) (omega arith)) (apart j l k (omega arith)) (apart i j h (omega arith))) in
    omega (arith, rest)
