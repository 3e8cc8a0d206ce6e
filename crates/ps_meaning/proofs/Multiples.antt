-- The least common multiple.
use Rattle.std.proofs.Common.{◌≡◌, ℕ, zero, suc, ◌*◌, ◌/◌, ◌<◌, sym, ap, ◌∙◌, subst, arith, inl, inr}
use Rattle.std.proofs.lemmas.Bool.{cases_eq}
use Rattle.std.proofs.Math.Nat.{div-mul_cancel, dvd-mul_left, mul-dvd-mul_right, dvd_of_mul-dvd-mul_right, dvd_antisymm, dvd_trans, one-dvd, mul-pos, mul_assoc}
use Rattle.std.specs.Int.{IsGcd, ◌∣◌}
use Rattle.ps_meaning.specs.Gcd.{gcd, lcm, lcm_to, IsLeastCommonMultiple, ArePositive, IsMultipleOfEach}
use Rattle.ps_meaning.specs.Coprime.{gcd_is, gcd_pos_right, coprime_rest, gauss}
use Rattle.ps_meaning.specs.Parts.{part_pos}

-- with u and v coprime, a common multiple of u * g and v * g is a multiple of u * (v * g)
common : (u v g k : ℕ) → 0 < g → IsGcd u v 1 → u * g ∣ k → v * g ∣ k → u * (v * g) ∣ k
common u v g k h p da db =
    let c = k / (v * g) in
    let e : c * (v * g) ≡ k = div-mul_cancel (v * g) db in
    let d : u * g ∣ c * v * g = subst (λ n. u * g ∣ n) (sym e ∙ sym (mul_assoc c v g)) da in
    subst (λ n. u * (v * g) ∣ n) e (mul-dvd-mul_right u (gauss u v c p (dvd_of_mul-dvd-mul_right u h d)) (v * g))

turned : (u v g : ℕ) → v * (u * g) ≡ u * (v * g)
turned u v g = omega arith

pub lcm_is : (a b : ℕ) → 0 < b → IsLeastCommonMultiple a b (lcm a b)
lcm_is a b h =
    let g = gcd a b in
    let i = gcd_is a b in
    let hg = gcd_pos_right a b h in
    let u = a / g in
    let v = b / g in
    let ea : u * g ≡ a = div-mul_cancel g i.0 in
    let eb : v * g ≡ b = div-mul_cancel g i.1 in
    record {
      left = subst (λ n. a ∣ n) (ap (λ n. v * n) (sym ea) ∙ turned u v g ∙ ap (λ n. u * n) eb) (dvd-mul_left a v);
      right = dvd-mul_left b u;
      least = λ k da db.
          subst (λ n. u * n ∣ k) eb
          (common u v g k hg (coprime_rest a b g hg i) (subst (λ n. n ∣ k) (sym ea) da) (subst (λ n. n ∣ k) (sym eb) db));
    }

-- there is one least common multiple
pub same_lcm : (a b m k : ℕ) → IsLeastCommonMultiple a b m → IsLeastCommonMultiple a b k → m ≡ k
same_lcm a b m k p q = dvd_antisymm (p.least k q.left q.right) (q.least m p.left p.right)

-- ---- of numbers one after the other
pub lcm_to_positive : (n : ℕ) (d : ℕ → ℕ) → ArePositive n d → 0 < lcm_to n d
lcm_to_positive zero d h = omega arith
lcm_to_positive (suc n) d h =
    let before : 0 < lcm_to n d = lcm_to_positive n d (λ i l. h i (omega arith)) in
    let last : 0 < d n = h n (omega arith) in
    mul-pos (part_pos (lcm_to n d) (gcd (lcm_to n d) (d n)) before (gcd_is (lcm_to n d) (d n)).0) last

pub lcm_to_multiple : (n : ℕ) (d : ℕ → ℕ) → ArePositive n d → IsMultipleOfEach n d (lcm_to n d)
lcm_to_multiple zero d h = λ i l. absurd (omega arith)
lcm_to_multiple (suc n) d h = λ i l.
    let least = lcm_is (lcm_to n d) (d n) (h n (omega arith)) in
    elim (cases_eq i n) [
      | inl e ↦ subst (λ k. d k ∣ lcm (lcm_to n d) (d n)) (sym e) least.right
      | inr ne ↦ dvd_trans (d i) (lcm_to_multiple n d (λ k r. h k (omega arith)) i (omega arith)) least.left
    ]

pub lcm_to_least : (n : ℕ) (d : ℕ → ℕ) (m : ℕ) → ArePositive n d → IsMultipleOfEach n d m → lcm_to n d ∣ m
lcm_to_least zero d m h k = one-dvd m
lcm_to_least (suc n) d m h k =
    (lcm_is (lcm_to n d) (d n) (h n (omega arith))).least m (lcm_to_least n d m (λ i l. h i (omega arith)) (λ i l. k i (omega arith))) (k n (omega arith))
