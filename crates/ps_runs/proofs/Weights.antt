-- The weights of the entries that a table's values give.
use Rattle.std.proofs.Common.{◌≡◌, ℕ, zero, suc, ◌+◌, ◌*◌, ◌/◌, ◌<◌, ℤ, pos, negsuc, ◌+ℤ◌, ◌*ℤ◌, ◌≤ℤ◌, ◌<ℤ◌, Bool, true, false, cond, List, [], ◌∷◌, ◌++◌, get_or, All, sym, refl, ap, ◌∙◌, arith}
use Rattle.std.proofs.lemmas.Int.{ints}
use Rattle.std.proofs.lemmas.List.Elements.{All-nil, All-append, All-cons}
use Rattle.std.proofs.Math.Nat.{mul-pos}
use Rattle.std.specs.Int.{◌∣◌, is_positive}
use Rattle.ps_meaning.specs.Parts.{part_pos}
use Rattle.ps_meaning.specs.Rational.{Rational, whole, add, mul, zero_q}
use Rattle.ps_meaning.specs.Order.{IsNonneg}
use Rattle.ps_meaning.specs.Sums.{sum_to}
use Rattle.ps_meaning.proofs.Ring.{var, plus, by, none}
use Rattle.ps_meaning.proofs.Field.{ring_q, over_is_zero, zero_is_fraction}
use Rattle.ps_meaning.proofs.Whole.{whole-add, whole-mul}
use Rattle.ps_meaning.specs.Formula.{World}
use Rattle.ps_meaning.specs.Distribution.{Entry}
use Rattle.ps_meaning.specs.Rows.{weighted_sum}
use Rattle.ps_simplex.specs.Rule.{SimplexTable}
use Rattle.ps_runs.specs.Certificates.{value_of, is_above, entry_for, entries_to}
use Rattle.ps_meaning.proofs.Scaling.{scaled_is}
use Rattle.ps_meaning.specs.Scaled.{scaled}

pub weighted_sum-append : (d e : List Entry) (G : World → ℤ) → weighted_sum (d ++ e) G ≡ weighted_sum d G +ℤ weighted_sum e G
weighted_sum-append [] e G = omega (arith, ints)
weighted_sum-append (x ∷ d) e G = let h = weighted_sum-append d e G in omega (arith, ints, h)

pub weighted_sum-same : (d : List Entry) (F G : World → ℤ) → ((w : World) → F w ≡ G w) → weighted_sum d F ≡ weighted_sum d G
weighted_sum-same [] F G h = refl
weighted_sum-same (e ∷ d) F G h = λ i. (e.weight *ℤ h e.world i) +ℤ weighted_sum-same d F G h i

not_above_zero : (z : ℤ) → pos 0 ≤ℤ z → is_positive z ≡ false → z ≡ pos 0
not_above_zero z h e = grind (arith, ints)

above_zero : (z : ℤ) → is_positive z ≡ true → pos 0 <ℤ z
above_zero z e = grind (arith, ints)

pub not_above : (x : Rational) → IsNonneg x → is_above x ≡ false → x ≡ zero_q
not_above x h e = over_is_zero x (not_above_zero x.over h e)

pub above : (x : Rational) → is_above x ≡ true → pos 0 <ℤ x.over
above x e = above_zero x.over e

pub entry_weighs : (big : ℕ) (x : Rational) (w : World) (G : World → ℤ) → IsNonneg x → (is_above x ≡ true → x.under ∣ big)
    → whole (weighted_sum (entry_for big x w) G) ≡ mul (whole (pos big)) (mul x (whole (G w)))
entry_weighs big x w G h d = cases (is_above x) refl
  where
    cases : (b : Bool) → is_above x ≡ b → whole (weighted_sum (cond b (record { weight = scaled big x; world = w } ∷ []) []) G) ≡ mul (whole (pos big)) (mul x (whole (G w)))
    cases true e =
        let plain : (scaled big x *ℤ G w) +ℤ pos 0 ≡ scaled big x *ℤ G w = omega (arith, ints) in
        ap whole plain
        ∙ sym (whole-mul (scaled big x) (G w))
        ∙ ap (λ k. mul k (whole (G w))) (scaled_is big x (d e))
        ∙ ring_q (whole (pos big) ∷ (x ∷ (whole (G w) ∷ []))) (by (by (var 0) (var 1)) (var 2)) (by (var 0) (by (var 1) (var 2))) refl
    cases false e =
        zero_is_fraction
        ∙ ring_q (whole (pos big) ∷ (whole (G w) ∷ [])) none (by (var 0) (by none (var 1))) refl
        ∙ ap (λ k. mul (whole (pos big)) (mul k (whole (G w)))) (sym (not_above x h e))

-- the sum over the entries
pub entries_weigh : (f : SimplexTable) (big : ℕ) (pool : List World) (G : World → ℤ) (k : ℕ)
    → ((i : ℕ) → i < k → IsNonneg (value_of f (suc (f.rows + i))))
    → ((i : ℕ) → i < k → is_above (value_of f (suc (f.rows + i))) ≡ true → (value_of f (suc (f.rows + i))).under ∣ big)
    → whole (weighted_sum (entries_to f big pool k) G) ≡ mul (whole (pos big)) (sum_to k (λ i. mul (value_of f (suc (f.rows + i))) (whole (G (get_or pool i [])))))
entries_weigh f big pool G zero h d = zero_is_fraction ∙ ring_q (whole (pos big) ∷ []) none (by (var 0) none) refl
entries_weigh f big pool G (suc k) h d =
    let v = value_of f (suc (f.rows + k)) in
    let w = get_or pool k [] in
    let before = sum_to k (λ i. mul (value_of f (suc (f.rows + i))) (whole (G (get_or pool i [])))) in
    ap whole (weighted_sum-append (entries_to f big pool k) (entry_for big v w) G)
    ∙ sym (whole-add (weighted_sum (entries_to f big pool k) G) (weighted_sum (entry_for big v w) G))
    ∙ (λ i. add (entries_weigh f big pool G k (λ m l. h m (omega arith)) (λ m l. d m (omega arith)) i) (entry_weighs big v w G (h k (omega arith)) (d k (omega arith)) i))
    ∙ ring_q (whole (pos big) ∷ (before ∷ (mul v (whole (G w)) ∷ []))) (plus (by (var 0) (var 1)) (by (var 0) (var 2))) (by (var 0) (plus (var 1) (var 2))) refl

-- each entry weighs at least 1
scaled_above : (big : ℕ) (x : Rational) → 0 < big → x.under ∣ big → is_above x ≡ true → pos 1 ≤ℤ scaled big x
scaled_above big x hb d e = by_sign x.over (big / x.under) (above x e) (part_pos big x.under hb d)
  where
    by_sign : (z : ℤ) (c : ℕ) → pos 0 <ℤ z → 0 < c → pos 1 ≤ℤ (z *ℤ pos c)
    by_sign (pos n) c h k = let p : 0 < n * c = mul-pos (omega (arith, ints)) k in omega (arith, ints, p)
    by_sign (negsuc n) c h k = absurd (omega (arith, ints))

entry_heavy : (big : ℕ) (x : Rational) (w : World) → 0 < big → (is_above x ≡ true → x.under ∣ big) → All (λ (e : Entry). pos 1 ≤ℤ e.weight) (entry_for big x w)
entry_heavy big x w hb d = cases (is_above x) refl
  where
    cases : (b : Bool) → is_above x ≡ b → All (λ (e : Entry). pos 1 ≤ℤ e.weight) (cond b (record { weight = scaled big x; world = w } ∷ []) [])
    cases true e = All-cons (λ (e : Entry). pos 1 ≤ℤ e.weight) (record { weight = scaled big x; world = w }) [] (scaled_above big x hb (d e) e) (All-nil (λ (e : Entry). pos 1 ≤ℤ e.weight))
    cases false e = All-nil (λ (e : Entry). pos 1 ≤ℤ e.weight)

pub entries_heavy : (f : SimplexTable) (big : ℕ) (pool : List World) (k : ℕ) → 0 < big
    → ((i : ℕ) → i < k → is_above (value_of f (suc (f.rows + i))) ≡ true → (value_of f (suc (f.rows + i))).under ∣ big)
    → All (λ (e : Entry). pos 1 ≤ℤ e.weight) (entries_to f big pool k)
entries_heavy f big pool zero hb d = All-nil (λ (e : Entry). pos 1 ≤ℤ e.weight)
entries_heavy f big pool (suc k) hb d =
    All-append (λ (e : Entry). pos 1 ≤ℤ e.weight) (entries_to f big pool k) (entry_for big (value_of f (suc (f.rows + k))) (get_or pool k []))
    (entries_heavy f big pool k hb (λ m l. d m (omega arith)))
    (entry_heavy big (value_of f (suc (f.rows + k))) (get_or pool k []) hb (d k (omega arith)))

-- what holds of each world holds of each entry's world
pub entries_have : (P : World → Type 0) (f : SimplexTable) (big : ℕ) (pool : List World) (k : ℕ) → ((i : ℕ) → i < k → P (get_or pool i [])) → All (λ (e : Entry). P e.world) (entries_to f big pool k)
entries_have P f big pool zero h = All-nil (λ (e : Entry). P e.world)
entries_have P f big pool (suc k) h =
    All-append (λ (e : Entry). P e.world) (entries_to f big pool k) (entry_for big (value_of f (suc (f.rows + k))) (get_or pool k []))
    (entries_have P f big pool k (λ i l. h i (omega arith)))
    (cases (is_above (value_of f (suc (f.rows + k)))))
  where
    cases : (b : Bool) → All (λ (e : Entry). P e.world) (cond b (record { weight = scaled big (value_of f (suc (f.rows + k))); world = get_or pool k [] } ∷ []) [])
    cases true = All-cons (λ (e : Entry). P e.world) (record { weight = scaled big (value_of f (suc (f.rows + k))); world = get_or pool k [] }) [] (h k (omega arith)) (All-nil (λ (e : Entry). P e.world))
    cases false = All-nil (λ (e : Entry). P e.world)
