-- Least common multiples of denominators, and whole numbers.
use Rattle.std.proofs.Common.{◌≡◌, ℕ, zero, suc, ◌+◌, ◌*◌, ◌/◌, ◌<◌, ◌≤◌, ℤ, pos, Bool, true, false, List, [], ◌∷◌, ◌++◌, length, map, drop, get_or, option_map, All, IfSome, ◌||◌, Option, Some, None, refl, sym, ap, subst, ◌∙◌, arith, add-one, w64, to_z, of_z}
use Rattle.std.specs.Prelude.{unsigned_abs, nat_lt, if◌then◌else◌, ◌*ℤ◌, FitsSigned}
use Rattle.std.specs.Int.{◌∣◌, IsGcd}
use Rattle.std.proofs.lemmas.Bool.Decides.{nat_tests}
use Rattle.std.proofs.lemmas.Int.{unsigned_abs-mul, to_z-of_z, fits_signed_from_abs}
use Rattle.std.proofs.lemmas.Nat.{mul-le}
use Rattle.std.proofs.lemmas.Nat.Gcd.{le_of_dvd}
use Rattle.std.proofs.Math.Nat.{div-le_self, div-mul_cancel, dvd-mul_left, dvd-mul_right, dvd_refl, dvd_trans, mul-pos, pos_of_dvd_of_pos}
use Rattle.std.proofs.Math.Seq.{drop-cons}
use Rattle.std.proofs.lemmas.List.{drop_all}
use Rattle.std.proofs.lemmas.List.Elements.{All-map, All-weaker, All-head, All-tail, All-drop, All-nil, All-push, All-append}
use Rattle.ps_meaning.specs.Gcd.{lcm}
use Rattle.ps_meaning.specs.Coprime.{IsGcd-scale}
use Rattle.ps_meaning.specs.Statements.{SignedRatio, LinearStatement}
use Rattle.ps_meaning.proofs.Multiples.{lcm_is}
use Rattle.ps_problem.specs.declared.limits.TheConstants.{GREATEST_SCALE, MOST_SIZES}
use Rattle.ps_problem.specs.declared.term.Term.{Term}
use Rattle.ps_problem.specs.declared.term.Signed.{Signed}
use Rattle.ps_problem.specs.declared.draft_item.DraftLinear.{DraftLinear}
use Rattle.ps_problem.specs.Scales.{right_sides, coefficients, lcm_with, denominators, scale_of, scaled, size_at, sizes_at, scale_within, IsNumber, IsNumberTerm, den_of, coefficient_of, fraction_of, plain_summand, is_wide, is_upper_wide, small_scale, small_scale_of, dens_of, linear_dens, AreNumbers, IsReread, AreReread, AreDivisors}

pub lcm_some : (m d : ℕ) → 0 < m → 0 < d → 0 < lcm m d
lcm_some m d h k = pos_of_dvd_of_pos ((lcm_is m d k).least (m * d) (dvd-mul_right m d) (dvd-mul_left d m)) (mul-pos h k)

-- no least common multiple is less than what it is of
lcm_more : (m d : ℕ) → 0 < m → 0 < d → m ≤ lcm m d
lcm_more m d h k = le_of_dvd (lcm_some m d h k) (lcm_is m d k).left

more_with : (m : ℕ) (ds : List ℕ) → 0 < m → All (λ d. 0 < d) ds → m ≤ lcm_with m ds
more_with m [] h a = omega arith
more_with m (d ∷ ds) h a =
    let k : 0 < d = All-head (λ e. 0 < e) d ds a in
    let l = more_with (lcm m d) ds (lcm_some m d h k) (All-tail (λ e. 0 < e) d ds a) in
    omega (arith, lcm_more m d h k, l)

past : (m : ℕ) → GREATEST_SCALE < m → scale_within m ≡ None
past m h = let t : nat_lt GREATEST_SCALE m ≡ true = grind (arith, nat_tests) in rw t refl

pub within : (m : ℕ) → m ≤ GREATEST_SCALE → scale_within m ≡ Some m
within m h = let t : nat_lt GREATEST_SCALE m ≡ false = grind (arith, nat_tests) in rw t refl

-- a scale past its limit stays past it
pub stays_past : (m : ℕ) (ds : List ℕ) → 0 < m → All (λ d. 0 < d) ds → GREATEST_SCALE < m → scale_within (lcm_with m ds) ≡ None
stays_past m ds h a p = past (lcm_with m ds) (omega (arith, more_with m ds h a, p))

pub positive : (ts : List Term) → All IsNumberTerm ts → All (λ d. 0 < d) (map den_of ts)
positive ts h = All-map (λ d. 0 < d) den_of ts (All-weaker IsNumberTerm (λ t. 0 < t.coefficient.den) (λ t i. i.some) ts h)

-- the next term
next_term : (ts : List Term) (i : ℕ) (t : Term) → i < length ts → drop i ts ≡ get_or ts i t ∷ drop (i + 1) ts
next_term ts i t h = drop-cons ts i t h ∙ ap (λ n. get_or ts i t ∷ drop n ts) (sym (add-one i))

pub some_scale : (m k : ℕ) → scale_within m ≡ Some k → (k ≡ m) × (m ≤ GREATEST_SCALE)
some_scale m k e = by (nat_lt GREATEST_SCALE m) refl e
  where
    by : (b : Bool) → nat_lt GREATEST_SCALE m ≡ b → (if b then None else Some m) ≡ Some k → (k ≡ m) × (m ≤ GREATEST_SCALE)
    by true f g = absurd (cc)
    by false f g = (sym cc, grind (arith, nat_tests))

pub none_scale : (m : ℕ) → scale_within m ≡ None → GREATEST_SCALE < m
none_scale m e = by (nat_lt GREATEST_SCALE m) refl e
  where
    by : (b : Bool) → nat_lt GREATEST_SCALE m ≡ b → (if b then None else Some m) ≡ None → GREATEST_SCALE < m
    by true f g = grind (arith, nat_tests)
    by false f g = absurd (cc)

module _ (scale : ℕ) (ts : List Term) (all i : ℕ) (t : Term) (h : All IsNumberTerm ts) (some : 0 < all)
    (rest : scale_within (lcm_with all (map den_of (drop i ts))) ≡ scale_within (lcm_with scale (map den_of ts))) (there : i < length ts) where
  turned_rest : scale_within (lcm_with (lcm all (den_of (get_or ts i t))) (map den_of (drop (i + 1) ts))) ≡ scale_within (lcm_with scale (map den_of ts))
  turned_rest = ap (λ us. scale_within (lcm_with all (map den_of us))) (sym (next_term ts i t there)) ∙ rest

  more_some : 0 < lcm all (den_of (get_or ts i t))
  more_some = lcm_some all (den_of (get_or ts i t)) some (h i t there).some

  -- the limit is passed at a term
  pub over_stop : scale_within (lcm all (den_of (get_or ts i t))) ≡ None → None ≡ scale_within (lcm_with scale (map den_of ts))
  over_stop e = sym (stays_past (lcm all (den_of (get_or ts i t))) (map den_of (drop (i + 1) ts)) more_some
      (positive (drop (i + 1) ts) (All-drop IsNumberTerm (i + 1) ts h)) (none_scale (lcm all (den_of (get_or ts i t))) e)) ∙ turned_rest

  -- a term more
  pub over_next : (more : ℕ) → scale_within (lcm all (den_of (get_or ts i t))) ≡ Some more
      → (0 < more) × (more ≤ GREATEST_SCALE) × (scale_within (lcm_with more (map den_of (drop (i + 1) ts))) ≡ scale_within (lcm_with scale (map den_of ts)))
  over_next more e =
      let k = some_scale (lcm all (den_of (get_or ts i t))) more e in (
        subst (λ n. 0 < n) (sym k.0) more_some,
        subst (λ n. n ≤ GREATEST_SCALE) (sym k.0) k.1,
        ap (λ n. scale_within (lcm_with n (map den_of (drop (i + 1) ts)))) k.0 ∙ turned_rest,
      )

with-append : (m : ℕ) (xs ys : List ℕ) → lcm_with m (xs ++ ys) ≡ lcm_with (lcm_with m xs) ys
with-append m [] ys = refl
with-append m (x ∷ xs) ys = with-append (lcm m x) xs ys

upper_positive : (upper : Option Signed) → IfSome upper IsNumber → All (λ d. 0 < d) (dens_of upper)
upper_positive None h = All-nil (λ d. 0 < d)
upper_positive (Some u) h = All-push (λ d. 0 < d) [] u.den (All-nil (λ d. 0 < d)) h.some

one_with : (d : ℕ) → 0 < d → 0 < lcm 1 d
one_with d h = lcm_some 1 d (omega arith) h

module _ (l : DraftLinear) (h : AreNumbers l) where
  others_positive : All (λ d. 0 < d) (dens_of l.upper ++ map den_of l.terms)
  others_positive = All-append (λ d. 0 < d) (dens_of l.upper) (map den_of l.terms) (upper_positive l.upper h.upper) (positive l.terms h.terms)

  -- the limit is passed at the value
  pub right_stop : scale_within (lcm 1 l.right.den) ≡ None → None ≡ scale_within (lcm_with 1 (linear_dens l))
  right_stop e = sym (stays_past (lcm 1 l.right.den) (dens_of l.upper ++ map den_of l.terms) (one_with l.right.den h.right.some) others_positive (none_scale (lcm 1 l.right.den) e))

  module _ (right : ℕ) (is : scale_within (lcm 1 l.right.den) ≡ Some right) where
    pub right_some : (0 < right) × (right ≤ GREATEST_SCALE)
    right_some = let k = some_scale (lcm 1 l.right.den) right is in (subst (λ n. 0 < n) (sym k.0) (one_with l.right.den h.right.some), subst (λ n. n ≤ GREATEST_SCALE) (sym k.0) k.1)

    all_is : lcm_with 1 (linear_dens l) ≡ lcm_with (lcm_with right (dens_of l.upper)) (map den_of l.terms)
    all_is = with-append (lcm 1 l.right.den) (dens_of l.upper) (map den_of l.terms) ∙ ap (λ m. lcm_with (lcm_with m (dens_of l.upper)) (map den_of l.terms)) (sym (some_scale (lcm 1 l.right.den) right is).0)

    with_some : 0 < lcm_with right (dens_of l.upper)
    with_some = let a = right_some.0 in let b = more_with right (dens_of l.upper) right_some.0 (upper_positive l.upper h.upper) in omega arith

    -- the limit is passed at the upper value
    pub upper_stop : scale_within (lcm_with right (dens_of l.upper)) ≡ None → None ≡ scale_within (lcm_with 1 (linear_dens l))
    upper_stop e = sym (ap scale_within all_is ∙ stays_past (lcm_with right (dens_of l.upper)) (map den_of l.terms) with_some (positive l.terms h.terms) (none_scale (lcm_with right (dens_of l.upper)) e))

    module _ (rights : ℕ) (is_also : scale_within (lcm_with right (dens_of l.upper)) ≡ Some rights) where
      pub rights_some : (0 < rights) × (rights ≤ GREATEST_SCALE)
      rights_some = let k = some_scale (lcm_with right (dens_of l.upper)) rights is_also in (subst (λ n. 0 < n) (sym k.0) with_some, subst (λ n. n ≤ GREATEST_SCALE) (sym k.0) k.1)

      pub terms_with : scale_within (lcm_with rights (map den_of l.terms)) ≡ scale_within (lcm_with 1 (linear_dens l))
      terms_with = ap (λ m. scale_within (lcm_with m (map den_of l.terms))) (some_scale (lcm_with right (dens_of l.upper)) rights is_also).0 ∙ ap scale_within (sym all_is)

-- the coefficients of a draft's linear sentence
same_coefficients : (ts : List Term) → map (λ u. u.coefficient) (map plain_summand ts) ≡ map coefficient_of ts
same_coefficients [] = refl
same_coefficients (t ∷ ts) = ap (λ rs. coefficient_of t ∷ rs) (same_coefficients ts)

same_dens : (ts : List Term) → map (λ r. r.den) (map coefficient_of ts) ≡ map den_of ts
same_dens [] = refl
same_dens (t ∷ ts) = ap (λ ds. t.coefficient.den ∷ ds) (same_dens ts)

or_false : (b : Bool) → (b || false) ≡ b
or_false true = refl
or_false false = refl

-- the scale of all denominators, and how too large a sentence is told
abbrev pub told : ℕ → List SignedRatio → SignedRatio → Option Signed → Option ℕ
told m cs right upper = if nat_lt GREATEST_SCALE m || (is_wide m cs right || is_upper_wide m (sizes_at m cs) upper) then None else Some m

pub small_is : (l : DraftLinear) → small_scale_of l ≡ told (lcm_with 1 (linear_dens l)) (map coefficient_of l.terms) (fraction_of l.right) l.upper
small_is l = by l.upper
  where
    right : ℕ
    right = l.right.den

    chosen : Option Signed → Option ℕ
    chosen upper = small_scale (record { terms = map plain_summand l.terms; side = l.side; value = fraction_of l.right; upper = option_map fraction_of upper })

    by : (upper : Option Signed) → chosen upper ≡ told (lcm_with 1 (right ∷ dens_of upper ++ map den_of l.terms)) (map coefficient_of l.terms) (fraction_of l.right) upper
    by None =
        ap (λ cs. told (lcm_with 1 (right ∷ map (λ r. r.den) cs)) cs (fraction_of l.right) None) (same_coefficients l.terms)
        ∙ ap (λ ds. told (lcm_with 1 (right ∷ ds)) (map coefficient_of l.terms) (fraction_of l.right) None) (same_dens l.terms)
    by (Some u) =
        ap (λ cs. listed (lcm_with 1 (right ∷ u.den ∷ map (λ r. r.den) cs)) cs u) (same_coefficients l.terms)
        ∙ ap (λ ds. listed (lcm_with 1 (right ∷ u.den ∷ ds)) (map coefficient_of l.terms) u) (same_dens l.terms)
        ∙ ap (λ b. if nat_lt GREATEST_SCALE (lcm_with 1 (right ∷ u.den ∷ map den_of l.terms)) || (is_wide (lcm_with 1 (right ∷ u.den ∷ map den_of l.terms)) (map coefficient_of l.terms) (fraction_of l.right) || b) then None else Some (lcm_with 1 (right ∷ u.den ∷ map den_of l.terms)))
        (or_false (is_wide (lcm_with 1 (right ∷ u.den ∷ map den_of l.terms)) (map coefficient_of l.terms) (fraction_of u)))
      where
        listed : ℕ → List SignedRatio → Signed → Option ℕ
        listed m cs u = if nat_lt GREATEST_SCALE m || (is_wide m cs (fraction_of l.right) || (is_wide m cs (fraction_of u) || false)) then None else Some m

module _ (m : ℕ) (cs : List SignedRatio) (right : SignedRatio) (upper : Option Signed) where
  told_by : (a b c : Bool) → nat_lt GREATEST_SCALE m ≡ a → is_wide m cs right ≡ b → is_upper_wide m (sizes_at m cs) upper ≡ c → told m cs right upper ≡ (if a || (b || c) then None else Some m)
  told_by a b c e f g = ap (λ x. if x || (is_wide m cs right || is_upper_wide m (sizes_at m cs) upper) then None else Some m) e
      ∙ ap (λ x. if a || (x || is_upper_wide m (sizes_at m cs) upper) then None else Some m) f ∙ ap (λ x. if a || (b || x) then None else Some m) g

or_true : (a : Bool) → (a || true) ≡ true
or_true true = refl
or_true false = refl

module _ (l : DraftLinear) where
  all_dens : ℕ
  all_dens = lcm_with 1 (linear_dens l)

  pub past_scale : scale_within (lcm_with 1 (linear_dens l)) ≡ None → None ≡ small_scale_of l
  past_scale e =
      let m = lcm_with 1 (linear_dens l) in
      let n = none_scale m e in
      let t : nat_lt GREATEST_SCALE m ≡ true = grind (arith, nat_tests) in
      sym (small_is l ∙ told_by m (map coefficient_of l.terms) (fraction_of l.right) l.upper true (is_wide m (map coefficient_of l.terms) (fraction_of l.right)) (is_upper_wide m (sizes_at m (map coefficient_of l.terms)) l.upper) t refl refl)

  module _ (scale sum : ℕ) (is : scale_within (lcm_with 1 (linear_dens l)) ≡ Some scale) (sums : sum ≡ sizes_at scale (map coefficient_of l.terms)) where
    same : small_scale_of l ≡ told scale (map coefficient_of l.terms) (fraction_of l.right) l.upper
    same = small_is l ∙ ap (λ m. told m (map coefficient_of l.terms) (fraction_of l.right) l.upper) (sym (some_scale (lcm_with 1 (linear_dens l)) scale is).0)

    pub scale_small : scale ≤ GREATEST_SCALE
    scale_small = subst (λ n. n ≤ GREATEST_SCALE) (sym (some_scale (lcm_with 1 (linear_dens l)) scale is).0) (some_scale (lcm_with 1 (linear_dens l)) scale is).1

    not_past : nat_lt GREATEST_SCALE scale ≡ false
    not_past = let s = scale_small in grind (arith, nat_tests)

    wide : (b : Bool) → nat_lt MOST_SIZES (sum + size_at scale (fraction_of l.right)) ≡ b → is_wide scale (map coefficient_of l.terms) (fraction_of l.right) ≡ b
    wide b e = ap (λ s. nat_lt MOST_SIZES (s + size_at scale (fraction_of l.right))) (sym sums) ∙ e

    upper_wide : (b : Bool) → is_upper_wide scale sum l.upper ≡ b → is_upper_wide scale (sizes_at scale (map coefficient_of l.terms)) l.upper ≡ b
    upper_wide b e = ap (λ s. is_upper_wide scale s l.upper) (sym sums) ∙ e

    pub right_wide : nat_lt MOST_SIZES (sum + size_at scale (fraction_of l.right)) ≡ true → None ≡ small_scale_of l
    right_wide e = sym (same ∙ told_by scale (map coefficient_of l.terms) (fraction_of l.right) l.upper false true (is_upper_wide scale (sizes_at scale (map coefficient_of l.terms)) l.upper) not_past (wide true e) refl)

    module _ (narrow : nat_lt MOST_SIZES (sum + size_at scale (fraction_of l.right)) ≡ false) where
      pub also_wide : is_upper_wide scale sum l.upper ≡ true → None ≡ small_scale_of l
      also_wide e = sym (same ∙ told_by scale (map coefficient_of l.terms) (fraction_of l.right) l.upper false false true not_past (wide false narrow) (upper_wide true e))

      pub all_small : is_upper_wide scale sum l.upper ≡ false → Some scale ≡ small_scale_of l
      all_small e = sym (same ∙ told_by scale (map coefficient_of l.terms) (fraction_of l.right) l.upper false false false not_past (wide false narrow) (upper_wide false e))

-- a size is far below the greatest number of its type
pub size_small : (m : ℕ) (s : Signed) → IsNumber s → m ≤ GREATEST_SCALE → unsigned_abs s.num * (m / s.den) ≤ 1000000000000000000
size_small m s h l =
    let n : unsigned_abs s.num ≤ 1000000000000 = (let a = h.least in let b = mul-le 1000000 s.den 1000000 1000000 (omega arith) h.small in omega arith) in
    let d : m / s.den ≤ 1000000 = (let a = div-le_self m s.den in omega arith) in
    mul-le (unsigned_abs s.num) (m / s.den) 1000000000000 1000000 n d

pub read_back : (s : Signed) → IsNumber s → to_z w64 (of_z w64 s.num) ≡ s.num
read_back s h =
    let n : unsigned_abs s.num ≤ 1000000000000 = (let a = h.least in let b = mul-le 1000000 s.den 1000000 1000000 (omega arith) h.small in omega arith) in
    to_z-of_z w64 s.num (fits_signed_from_abs w64 s.num (omega arith))

factor_back : (k : ℕ) → k ≤ 1000000 → to_z w64 (of_z w64 (pos k)) ≡ pos k
factor_back k h = to_z-of_z w64 (pos k) (fits_signed_from_abs w64 (pos k) (omega arith))

-- a number times its factor in a scale
module _ (m : ℕ) (s : Signed) (h : IsNumber s) (l : m ≤ GREATEST_SCALE) where
  factor_small : m / s.den ≤ 1000000
  factor_small = let a = div-le_self m s.den in omega arith

  product_fits : FitsSigned w64 (s.num *ℤ pos (m / s.den))
  product_fits =
      let z = size_small m s h l in
      let u : unsigned_abs (s.num *ℤ pos (m / s.den)) ≡ unsigned_abs s.num * (m / s.den) = unsigned_abs-mul s.num (pos (m / s.den)) in
      fits_signed_from_abs w64 (s.num *ℤ pos (m / s.den)) (omega (arith, z, u))

  pub scaled_back : (z : ℤ) → z ≡ scaled m (fraction_of s) → to_z w64 (of_z w64 z) ≡ scaled m (fraction_of s)
  scaled_back z e = ap (λ x. to_z w64 (of_z w64 x)) e ∙ to_z-of_z w64 (s.num *ℤ pos (m / s.den)) product_fits

  module _ (f : ℤ) (e : f ≡ pos (m / s.den)) where
    factors_back : to_z w64 (of_z w64 s.num) *ℤ to_z w64 (of_z w64 f) ≡ s.num *ℤ pos (m / s.den)
    factors_back = ap (λ x. x *ℤ to_z w64 (of_z w64 f)) (read_back s h)
        ∙ ap (λ x. s.num *ℤ x) (ap (λ x. to_z w64 (of_z w64 x)) e ∙ factor_back (m / s.den) factor_small)

    pub whole_fits : FitsSigned w64 (to_z w64 (of_z w64 s.num) *ℤ to_z w64 (of_z w64 f))
    whole_fits = subst (FitsSigned w64) (sym factors_back) product_fits

    pub whole_is : to_z w64 (of_z w64 (to_z w64 (of_z w64 s.num) *ℤ to_z w64 (of_z w64 f))) ≡ scaled m (fraction_of s)
    whole_is = ap (λ x. to_z w64 (of_z w64 x)) factors_back ∙ to_z-of_z w64 (s.num *ℤ pos (m / s.den)) product_fits

-- whole numbers

pub reread : AreReread
reread m r some den divides lowest =
    let k : ℕ = m / r.den in
    let whole : k * r.den ≡ m = div-mul_cancel r.den divides in
    let positive : 0 < k = pos_of_dvd_of_pos (subst (λ n. k ∣ n) whole (dvd-mul_right k r.den)) some in
    let size : unsigned_abs (scaled m r) ≡ unsigned_abs r.num * k = unsigned_abs-mul r.num (pos k) in
    let scale = IsGcd-scale k (unsigned_abs r.num) r.den 1 positive lowest in
    record {
      lowest = record {
        divisor = k;
        greatest = gcd_at (unsigned_abs (scaled m r)) m k (unsigned_abs r.num) r.den size whole scale;
        num = size;
        den = sym whole ∙ turned k r.den;
      };
    }
  where
    turned : (a b : ℕ) → a * b ≡ b * a
    turned a b = omega arith

    gcd_at : (a m k n d : ℕ) → a ≡ n * k → k * d ≡ m → IsGcd (k * n) (k * d) (k * 1) → IsGcd a m k
    gcd_at a m k n d e f g =
        let one : k * 1 ≡ k = omega arith in
        subst (λ x. IsGcd x m k) (turned k n ∙ sym e) (subst (λ x. IsGcd (k * n) x k) f (subst (λ x. IsGcd (k * n) (k * d) x) one g))

pub divides_with : (m : ℕ) (ds : List ℕ) → All (λ d. 0 < d) ds → m ∣ lcm_with m ds
divides_with m [] h = dvd_refl m
divides_with m (d ∷ ds) h =
    let k : 0 < d = All-head (λ e. 0 < e) d ds h in
    dvd_trans m (lcm_is m d k).left (divides_with (lcm m d) ds (All-tail (λ e. 0 < e) d ds h))

each_divides : (m : ℕ) (before : List ℕ) (d : ℕ) (after : List ℕ) → All (λ d. 0 < d) (before ++ d ∷ after) → d ∣ lcm_with m (before ++ d ∷ after)
each_divides m [] d after h =
    let k : 0 < d = All-head (λ e. 0 < e) d after h in
    dvd_trans d (lcm_is m d k).right (divides_with (lcm m d) after (All-tail (λ e. 0 < e) d after h))
each_divides m (b ∷ before) d after h = each_divides (lcm m b) before d after (All-tail (λ e. 0 < e) b (before ++ d ∷ after) h)

pub divisors : AreDivisors
divisors s before after d h e = subst (λ ds. d ∣ lcm_with 1 ds) (sym e) (each_divides 1 before d after (subst (All (λ x. 0 < x)) e h))
