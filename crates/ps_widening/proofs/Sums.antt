-- Widened rows that are met.
use Rattle.std.proofs.Common.{◌≡◌, ℕ, ◌<◌, ℤ, pos, ◌+ℤ◌, ◌-ℤ◌, ◌*ℤ◌, ◌≤ℤ◌, List, [], ◌∷◌, sum, sym, refl, ap, ◌∙◌, arith}
use Rattle.std.proofs.lemmas.Int.{ints}
use Rattle.std.proofs.lemmas.List.Sums.{sum_by-cons}
use Rattle.ps_meaning.specs.Distribution.{Entry, total, IsDistribution}
use Rattle.ps_meaning.specs.Rational.{Rational}
use Rattle.ps_meaning.specs.Rows.{Row}
use Rattle.ps_meaning.proofs.Integers.{mul_add, mul_sub, add_mul, mul_assoc, mul-zero, mul-one}
use Rattle.ps_meaning.proofs.IntRing.{*ℤ_comm}
use Rattle.ps_meaning.proofs.Weights.{total-positive}
use Rattle.ps_widening.specs.Widenings.{miss, missed, IsLeastWidening, MeetsAllWidened}
use Rattle.ps_widening.proofs.Books.{times-more}
use Rattle.ps_claims.proofs.Products.{mul-positive_back}

positive-product : (n : ℕ) (t : ℤ) → 0 < n → pos 1 ≤ℤ t → pos 1 ≤ℤ (pos n *ℤ t)
positive-product n t some positive =
    let h = times-more (pos 1) (pos n) t (omega (arith, ints, some)) (omega (arith, ints, positive)) in
    let e = *ℤ_comm (pos 1) t ∙ mul-one t in
    omega (arith, ints, h, e, positive)

-- where each row is met as it is widened, what is missed in all is within the sum of the widenings
missed-within : (unit den : ℕ) (rs : List Row) (xs : List ℕ) (d : List Entry) → MeetsAllWidened unit den rs xs d
    → (pos den *ℤ pos (missed rs d)) ≤ℤ (pos (sum xs) *ℤ (pos unit *ℤ total d))
missed-within unit den [] [] d met =
    let a = mul-zero (pos den) in
    let b = *ℤ_comm (pos 0) (pos unit *ℤ total d) ∙ mul-zero (pos unit *ℤ total d) in
    omega (arith, ints, a, b)
missed-within unit den [] (x ∷ xs) d met = absurd met
missed-within unit den (r ∷ rs) [] d met = absurd met
missed-within unit den (r ∷ rs) (x ∷ xs) d met =
    let h = missed-within unit den rs xs d met.1 in
    let a : pos den *ℤ pos (missed (r ∷ rs) d) ≡ pos den *ℤ pos (miss r d) +ℤ pos den *ℤ pos (missed rs d) =
    mul_add (pos den) (pos (miss r d)) (pos (missed rs d)) in
    let b : pos (sum (x ∷ xs)) *ℤ (pos unit *ℤ total d) ≡ pos x *ℤ (pos unit *ℤ total d) +ℤ pos (sum xs) *ℤ (pos unit *ℤ total d) =
    ap (λ z. pos z *ℤ (pos unit *ℤ total d)) (sum_by-cons (λ n. n) x xs) ∙ add_mul (pos x) (pos (sum xs)) (pos unit *ℤ total d) in
    omega (arith, ints, met.0, h, a, b)

-- a sum that bounds what is missed is no less than the value
bound-by : (value : Rational) (den s : ℕ) (t : ℤ) (m : ℕ) → pos 1 ≤ℤ t → (value.over *ℤ t) ≤ℤ (pos value.under *ℤ pos m)
    → (pos den *ℤ pos m) ≤ℤ (pos s *ℤ t) → (value.over *ℤ pos den) ≤ℤ (pos value.under *ℤ pos s)
bound-by value den s t m positive least within =
    let low = times-more (value.over *ℤ t) (pos value.under *ℤ pos m) (pos den) least (omega (arith, ints)) in
    let high = times-more (pos den *ℤ pos m) (pos s *ℤ t) (pos value.under) within (omega (arith, ints)) in
    let a : (value.over *ℤ t) *ℤ pos den ≡ t *ℤ (value.over *ℤ pos den) =
    rw (*ℤ_comm value.over t, mul_assoc t value.over (pos den)) refl in
    let b : (pos value.under *ℤ pos m) *ℤ pos den ≡ (pos den *ℤ pos m) *ℤ pos value.under =
    *ℤ_comm (pos value.under *ℤ pos m) (pos den) ∙ ap (λ z. pos den *ℤ z) (*ℤ_comm (pos value.under) (pos m)) ∙ sym (mul_assoc (pos den) (pos m) (pos value.under)) in
    let c : (pos s *ℤ t) *ℤ pos value.under ≡ t *ℤ (pos value.under *ℤ pos s) =
    ap (λ z. z *ℤ pos value.under) (*ℤ_comm (pos s) t) ∙ mul_assoc t (pos s) (pos value.under) ∙ ap (λ z. t *ℤ z) (*ℤ_comm (pos s) (pos value.under)) in
    let d = mul_sub t (pos value.under *ℤ pos s) (value.over *ℤ pos den) in
    let z = mul-positive_back t ((pos value.under *ℤ pos s) -ℤ (value.over *ℤ pos den)) positive (omega (arith, ints, low, high, a, b, c, d)) in
    omega (arith, ints, z)

pub sums-bounded : (atoms unit den : ℕ) (rows : List Row) (value : Rational) (d e : List Entry) (xs : List ℕ) → 0 < unit
    → IsLeastWidening atoms unit rows value d → IsDistribution atoms e → MeetsAllWidened unit den rows xs e
    → (value.over *ℤ pos den) ≤ℤ (pos value.under *ℤ pos (sum xs))
sums-bounded atoms unit den rows value d e xs some least is met =
    bound-by value den (sum xs) (pos unit *ℤ total e) (missed rows e) (positive-product unit (total e) some (total-positive atoms e is))
    (least.least e is) (missed-within unit den rows xs e met)
