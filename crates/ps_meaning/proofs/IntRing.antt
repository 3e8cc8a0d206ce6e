-- Identities over ℤ by arithmetic on ℕ: each integer is a difference of two naturals, and sums and products of differences are differences.
use Rattle.std.proofs.Common.{◌≡◌, ℕ, suc, ◌+◌, ◌*◌, ◌<◌, ℤ, pos, negsuc, ◌+ℤ◌, ◌-ℤ◌, ◌*ℤ◌, neg_ℤ, List, sym, ap, ◌∙◌, arith}
use Rattle.std.proofs.lemmas.Int.{ints}
use Rattle.std.proofs.Math.Nat.{eq_of_mul-eq-mul_right}
use Rattle.ps_meaning.specs.Laws.{CommutativeRing}
use Rattle.ps_meaning.proofs.Ring.{Term, eval, ring, join, gains, losses}
use borrow.Author.Differences.{up, down, product_is, same_in}

unfoldable pub diff : ℕ → ℕ → ℤ
diff p n = pos p -ℤ pos n

diff_is : (p n : ℕ) → up (diff p n) + n ≡ down (diff p n) + p
unfolding diff
diff_is p n = omega (arith, ints)

pub same_by_parts : (z : ℤ) (p n : ℕ) → up z + n ≡ down z + p → z ≡ diff p n
same_by_parts z p n e = same_in z (diff p n) (omega (arith, diff_is p n))

pub diff-same : (p n q m : ℕ) → p + m ≡ q + n → diff p n ≡ diff q m
diff-same p n q m e = same_by_parts (diff p n) q m (omega (arith, diff_is p n))

pub diff_same_back : (p n q m : ℕ) → diff p n ≡ diff q m → p + m ≡ q + n
diff_same_back p n q m e = omega (arith, diff_is p n, diff_is q m, ap up e, ap down e)

pub diff-pos : (n : ℕ) → pos n ≡ diff n 0
diff-pos n = same_by_parts (pos n) n 0 (omega arith)

pub diff-neg : (p n : ℕ) → neg_ℤ (diff p n) ≡ diff n p
diff-neg p n = same_by_parts (neg_ℤ (diff p n)) n p (omega (arith, ints, diff_is p n))

pub diff-add : (p n q m : ℕ) → diff p n +ℤ diff q m ≡ diff (p + q) (n + m)
diff-add p n q m = same_by_parts (diff p n +ℤ diff q m) (p + q) (n + m) (omega (arith, ints, diff_is p n, diff_is q m))

pub diff-sub : (p n q m : ℕ) → diff p n -ℤ diff q m ≡ diff (p + m) (n + q)
diff-sub p n q m = same_by_parts (diff p n -ℤ diff q m) (p + m) (n + q) (omega (arith, ints, diff_is p n, diff_is q m))

mul_parts : (u d v e p n q m : ℕ) → u + n ≡ d + p → v + m ≡ e + q → (u * v + d * e) + (p * m + n * q) ≡ (u * e + d * v) + (p * q + n * m)
mul_parts u d v e p n q m x y =
    omega (arith, ap (λ k. k * v) x, ap (λ k. k * e) x, ap (λ k. p * k) y, ap (λ k. n * k) y)

pub diff-mul : (p n q m : ℕ) → diff p n *ℤ diff q m ≡ diff (p * q + n * m) (p * m + n * q)
diff-mul p n q m =
    same_by_parts (diff p n *ℤ diff q m) (p * q + n * m) (p * m + n * q)
    (omega (arith, product_is (diff p n) (diff q m), mul_parts (up (diff p n)) (down (diff p n)) (up (diff q m)) (down (diff q m)) p n q m (diff_is p n) (diff_is q m)))

-- each integer is a difference
pub record Parts (z : ℤ) : Type 0 where
  pub p : ℕ
  pub n : ℕ
  pub is : z ≡ diff p n

pub parts : (z : ℤ) → Parts z
parts z = record { p = up z; n = down z; is = same_by_parts z (up z) (down z) (omega arith) }

pub ruleset diffs = (diff-pos, diff-neg, diff-add, diff-sub, diff-mul)

-- ---- laws of ℤ
assoc : (a b c d e f : ℕ) → (diff a b *ℤ diff c d) *ℤ diff e f ≡ diff a b *ℤ (diff c d *ℤ diff e f)
assoc a b c d e f = simp diffs (diff-same _ _ _ _ (omega arith))

pub *ℤ_assoc : (x y z : ℤ) → (x *ℤ y) *ℤ z ≡ x *ℤ (y *ℤ z)
*ℤ_assoc x y z = let a = parts x in let b = parts y in let c = parts z in rw (a.is, b.is, c.is) (assoc _ _ _ _ _ _)

distrib : (a b c d e f : ℕ) → (diff a b +ℤ diff c d) *ℤ diff e f ≡ diff a b *ℤ diff e f +ℤ diff c d *ℤ diff e f
distrib a b c d e f = simp diffs (diff-same _ _ _ _ (omega arith))

pub +ℤ-*ℤ : (x y z : ℤ) → (x +ℤ y) *ℤ z ≡ x *ℤ z +ℤ y *ℤ z
+ℤ-*ℤ x y z = let a = parts x in let b = parts y in let c = parts z in rw (a.is, b.is, c.is) (distrib _ _ _ _ _ _)

-- a positive factor cancels
cancel : (a b c d k : ℕ) → 0 < k → diff a b *ℤ pos k ≡ diff c d *ℤ pos k → diff a b ≡ diff c d
cancel a b c d k h e =
    let f = simp diffs at e in
    let sums : (a + d) * k ≡ (c + b) * k = omega (arith, diff_same_back _ _ _ _ f) in
    diff-same a b c d (eq_of_mul-eq-mul_right k h (a + d) (c + b) sums)

pub *ℤ_cancel : (x y : ℤ) (k : ℕ) → 0 < k → x *ℤ pos k ≡ y *ℤ pos k → x ≡ y
*ℤ_cancel x y k h e =
    let a = parts x in
    let b = parts y in
    let f : diff a.p a.n *ℤ pos k ≡ diff b.p b.n *ℤ pos k = ap (λ z. z *ℤ pos k) (sym a.is) ∙ e ∙ ap (λ z. z *ℤ pos k) b.is in
    a.is ∙ cancel _ _ _ _ k h f ∙ sym b.is

-- the cross products of a reduced product
pub cross_product : (x y : ℤ) (g h b d : ℕ) → (x *ℤ y) *ℤ pos ((b * h) * (d * g)) ≡ ((x *ℤ pos g) *ℤ (y *ℤ pos h)) *ℤ pos (b * d)
cross_product x y g h b d =
    let p = parts x in
    let q = parts y in
    rw (p.is, q.is) (simp diffs (diff-same _ _ _ _ (omega arith)))

neg_times : (a b c d : ℕ) → neg_ℤ (diff a b) *ℤ diff c d ≡ neg_ℤ (diff a b *ℤ diff c d)
neg_times a b c d = simp diffs (diff-same _ _ _ _ (omega arith))

pub neg-*ℤ : (x y : ℤ) → neg_ℤ x *ℤ y ≡ neg_ℤ (x *ℤ y)
neg-*ℤ x y = let p = parts x in let q = parts y in rw (p.is, q.is) (neg_times _ _ _ _)

pub cross_reduced : (x : ℤ) (g b : ℕ) → x *ℤ pos (b * g) ≡ (x *ℤ pos g) *ℤ pos b
cross_reduced x g b = let p = parts x in rw p.is (simp diffs (diff-same _ _ _ _ (omega arith)))

pub sub-*ℤ : (x y : ℤ) (p : ℕ) → (x *ℤ pos p) -ℤ (y *ℤ pos p) ≡ (x -ℤ y) *ℤ pos p
sub-*ℤ x y p = let a = parts x in let b = parts y in rw (a.is, b.is) (simp diffs (diff-same _ _ _ _ (omega arith)))

sum_split : (n m : ℤ) (b d c k : ℕ) → (n *ℤ pos (d * c) +ℤ m *ℤ pos (b * c)) *ℤ pos (b * (d * k)) ≡ (n *ℤ pos d +ℤ m *ℤ pos b) *ℤ pos (c * (b * (d * k)))
sum_split n m b d c k = let p = parts n in let q = parts m in rw (p.is, q.is) (simp diffs (diff-same _ _ _ _ (omega arith)))

-- the cross products of a reduced sum
pub cross_sum : (n m q : ℤ) (b d k h : ℕ) → n *ℤ pos d +ℤ m *ℤ pos b ≡ q *ℤ pos h
    → q *ℤ pos ((b * (k * h)) * (d * (k * h))) ≡ (n *ℤ pos (d * (k * h)) +ℤ m *ℤ pos (b * (k * h))) *ℤ pos (b * (d * k))
cross_sum n m q b d k h e =
    let f = sum_split n m b d (k * h) k in
    let p = parts q in
    let g : q *ℤ pos ((b * (k * h)) * (d * (k * h))) ≡ (q *ℤ pos h) *ℤ pos ((k * h) * (b * (d * k))) = rw p.is (simp diffs (diff-same _ _ _ _ (omega arith))) in
    g ∙ ap (λ z. z *ℤ pos ((k * h) * (b * (d * k)))) (sym e) ∙ sym f

pub diff-negsuc : (n : ℕ) → negsuc n ≡ diff 0 (suc n)
diff-negsuc n = same_by_parts (negsuc n) 0 (suc n) (omega arith)

pub neg-pos : (n : ℕ) → neg_ℤ (pos n) ≡ diff 0 n
neg-pos n = ap neg_ℤ (diff-pos n) ∙ diff-neg n 0

-- ---- the integers are a ring, so identities between them hold by computation
swap : (a b c d : ℕ) → diff a b *ℤ diff c d ≡ diff c d *ℤ diff a b
swap a b c d = simp diffs (diff-same _ _ _ _ (omega arith))

pub *ℤ_comm : (x y : ℤ) → x *ℤ y ≡ y *ℤ x
*ℤ_comm x y = let a = parts x in let b = parts y in rw (a.is, b.is) (swap _ _ _ _)

pub *ℤ-+ℤ : (x y z : ℤ) → x *ℤ (y +ℤ z) ≡ x *ℤ y +ℤ x *ℤ z
*ℤ-+ℤ x y z = *ℤ_comm x (y +ℤ z) ∙ +ℤ-*ℤ y z x ∙ (λ i. *ℤ_comm y x i +ℤ *ℤ_comm z x i)

pub *ℤ-zero : (x : ℤ) → x *ℤ pos 0 ≡ pos 0
*ℤ-zero x = let p = parts x in rw p.is (simp diffs (diff-same _ _ _ _ (omega arith)))

pub *ℤ-one : (x : ℤ) → x *ℤ pos 1 ≡ x
*ℤ-one x = let p = parts x in rw p.is (simp diffs (diff-same _ _ _ _ (omega arith)))

pub +ℤ_assoc : (x y z : ℤ) → (x +ℤ y) +ℤ z ≡ x +ℤ (y +ℤ z)
+ℤ_assoc x y z = omega (arith, ints)

pub +ℤ_comm : (x y : ℤ) → x +ℤ y ≡ y +ℤ x
+ℤ_comm x y = omega (arith, ints)

pub +ℤ-zero : (x : ℤ) → x +ℤ pos 0 ≡ x
+ℤ-zero x = omega (arith, ints)

pub +ℤ-neg : (x : ℤ) → x +ℤ neg_ℤ x ≡ pos 0
+ℤ-neg x = omega (arith, ints)

pub int_laws : CommutativeRing (λ x y. x +ℤ y) (λ x y. x *ℤ y) neg_ℤ (pos 0) (pos 1)
int_laws = record {
  add_assoc = +ℤ_assoc;
  add_comm = +ℤ_comm;
  add-zero = +ℤ-zero;
  add-neg = +ℤ-neg;
  mul_assoc = *ℤ_assoc;
  mul_comm = *ℤ_comm;
  mul-one = *ℤ-one;
  add-mul = +ℤ-*ℤ;
}

pub ring_z : (xs : List ℤ) (s t : Term) → join (gains s) (losses t) ≡ join (gains t) (losses s) → eval (λ x y. x +ℤ y) (λ x y. x *ℤ y) neg_ℤ (pos 0) (pos 1) int_laws xs s ≡ eval (λ x y. x +ℤ y) (λ x y. x *ℤ y) neg_ℤ (pos 0) (pos 1) int_laws xs t
ring_z = ring (λ x y. x +ℤ y) (λ x y. x *ℤ y) neg_ℤ (pos 0) (pos 1) int_laws
