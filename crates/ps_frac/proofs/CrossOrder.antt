-- The order of two fractions by whole parts and rests is that of the cross products.
use Rattle.std.proofs.Common.{◌≡◌, ◌≢◌, ℕ, ◌+◌, ◌*◌, ◌/◌, ◌%◌, ◌<◌, ◌≤◌, ◌⊎◌, Ordering, Less, Equal, Greater, refl, ap, arith}
use Rattle.std.specs.Ordering.{nat_cmp, MatchOrdering}
use Rattle.std.specs.Cmp.{nat_cmp_is, ranks}
use Rattle.std.proofs.Math.Nat.{div-add-mod, mod-lt, mul-le-mul_left, mul-lt-mul_of_pos_right, mul-zero, mul-pos}

moved : (x y z w : ℕ) (r : Ordering) → (x < y → z < w) → (x ≡ y → z ≡ w) → (y < x → w < z) → MatchOrdering r (x < y) (x ≡ y) (y < x) → MatchOrdering r (z < w) (z ≡ w) (w < z)
moved x y z w Less f g h m = f m
moved x y z w Equal f g h m = g m
moved x y z w Greater f g h m = h m

-- two pairs of numbers with one order
pub same_order : (x y z w : ℕ) → (x < y → z < w) → (x ≡ y → z ≡ w) → (y < x → w < z) → nat_cmp x y ≡ nat_cmp z w
same_order x y z w f g h = nat_cmp_is z w (nat_cmp x y) (moved x y z w (nat_cmp x y) f g h (ranks x y))

less_whole : (a b c d : ℕ) → 0 < b → 0 < d → a / b < c / d → a * d < c * b
less_whole a b c d hb hd h =
    let ea = div-add-mod a b in
    let ec = div-add-mod c d in
    let la : a < b * (c / d) = omega (arith, mod-lt a hb, mul-le-mul_left b h) in
    let lc : d * (c / d) ≤ c = omega arith in
    let s : a * d < b * (c / d) * d = mul-lt-mul_of_pos_right la hd in
    omega (arith, s, mul-le-mul_left b lc)

-- the whole parts differ
pub cmp_wholes : (a b c d : ℕ) → 0 < b → 0 < d → a / b ≢ c / d → nat_cmp (a / b) (c / d) ≡ nat_cmp (a * d) (c * b)
cmp_wholes a b c d hb hd n =
    same_order (a / b) (c / d) (a * d) (c * b) (less_whole a b c d hb hd) (λ e. absurd (n e)) (less_whole c d a b hd hb)

-- the whole parts are equal: the rests decide
pub cmp_rests : (a b c d : ℕ) → a / b ≡ c / d → nat_cmp (d * (a % b)) (b * (c % d)) ≡ nat_cmp (a * d) (c * b)
cmp_rests a b c d e =
    let ea : a * d ≡ b * (a / b) * d + d * (a % b) = omega (arith, ap (λ n. n * d) (div-add-mod a b)) in
    let ec : c * b ≡ b * (a / b) * d + b * (c % d) = omega (arith, ap (λ n. n * b) (div-add-mod c d), ap (λ n. d * b * n) e) in
    same_order (d * (a % b)) (b * (c % d)) (a * d) (c * b) (λ h. omega arith) (λ h. omega arith) (λ h. omega arith)

-- a rest is 0
pub cmp_zero : (r s b d : ℕ) → 0 < b → 0 < d → (r ≡ 0) ⊎ (s ≡ 0) → nat_cmp r s ≡ nat_cmp (d * r) (b * s)
cmp_zero r s b d hb hd h =
    same_order r s (d * r) (b * s)
    (λ l. let e : r ≡ 0 = omega arith in let p : 0 < b * s = mul-pos hb (omega arith) in rw (e, mul-zero) p)
    (λ l. let e : r ≡ 0 = omega arith in let f : s ≡ 0 = omega arith in rw (e, f, mul-zero, mul-zero) refl)
    (λ l. let e : s ≡ 0 = omega arith in let p : 0 < d * r = mul-pos hd (omega arith) in rw (e, mul-zero) p)
