-- The whole numbers of a linear sentence: its numbers times the least common multiple of their denominators.
use Rattle.std.specs.Prelude.{◌≡◌, ◌≤◌, ◌<◌, ℕ, ℤ, pos, int_div, ◌+◌, ◌*◌, ◌/◌, ◌*ℤ◌}
use Rattle.std.specs.Prelude.{unsigned_abs, nat_lt, Bool, true, ◌||◌, if◌then◌else◌}
use Rattle.std.specs.Prelude.{List, [], ◌∷◌, ◌++◌, map, All, Option, Some, None}
use Rattle.std.specs.Prelude.{option_to_list, IfSome, length, option_map, false}
use Rattle.std.specs.Int.{◌∣◌, IsGcd}
use Rattle.std.specs.List.{list_any}
use Rattle.ps_meaning.specs.Gcd.{gcd, lcm}
use Rattle.ps_meaning.specs.Formula.{Truth}
use Rattle.ps_meaning.specs.Statements.{SignedRatio, size_of, Summand, LinearStatement}
use Rattle.ps_text.specs.Meanings.{IsLowest}
use Rattle.ps_text.specs.declared.limits.TheConstants.{GREATEST_DENOMINATOR, GREATEST_NUMBER}
use Rattle.ps_problem.specs.declared.limits.TheConstants.{GREATEST_SCALE, MOST_SIZES}
use Rattle.ps_problem.specs.declared.term.Signed.{Signed}
use Rattle.ps_problem.specs.declared.term.Term.{Term}
use Rattle.ps_problem.specs.declared.draft_item.DraftLinear.{DraftLinear}
use Rattle.ps_text.specs.declared.limits.TheConstants.{MOST_TERMS}

-- the right sides of a sum: its value, and an interval's upper value
abbrev pub right_sides : LinearStatement → List SignedRatio
right_sides s = s.value ∷ option_to_list s.upper

-- the coefficients of a sum
abbrev pub coefficients : LinearStatement → List SignedRatio
coefficients s = map (λ t. t.coefficient) s.terms

-- the least common multiple of a number and of these
abbrev pub lcm_with : ℕ → List ℕ → ℕ
lcm_with m [] = m
lcm_with m (d ∷ ds) = lcm_with (lcm m d) ds

-- the denominators of a sum: those of its right sides, and those of its coefficients
abbrev pub denominators : LinearStatement → List ℕ
denominators s = map (λ r. r.den) (right_sides s ++ coefficients s)

-- the scale of a sum: the least common multiple of the denominators of its right sides and coefficients
abbrev pub scale_of : LinearStatement → ℕ
scale_of s = lcm_with 1 (denominators s)

-- a fraction times the scale, which is whole
abbrev pub scaled : ℕ → SignedRatio → ℤ
scaled m r = r.num *ℤ pos (m / r.den)

-- the size of a fraction times the scale
abbrev pub size_at : ℕ → SignedRatio → ℕ
size_at m r = unsigned_abs r.num * (m / r.den)

-- the sum of the sizes of some fractions times the scale
abbrev pub sizes_at : ℕ → List SignedRatio → ℕ
sizes_at m [] = 0
sizes_at m (r ∷ rs) = size_at m r + sizes_at m rs

-- the sizes of the whole numbers of a bound with this right side are past their limit
abbrev pub is_wide : ℕ → List SignedRatio → SignedRatio → Bool
is_wide m coefficients r = nat_lt MOST_SIZES (sizes_at m coefficients + size_at m r)

-- the scale is past its limit, or the sizes of the whole numbers of a bound are
abbrev pub is_too_large : LinearStatement → Bool
is_too_large s = nat_lt GREATEST_SCALE (scale_of s) || list_any (is_wide (scale_of s) (coefficients s)) (right_sides s)

-- the scale of a sum, unless it is too large
abbrev pub small_scale : LinearStatement → Option ℕ
small_scale s = if is_too_large s then None else Some (scale_of s)

-- a scale, if it is within its limit
abbrev pub scale_within : ℕ → Option ℕ
scale_within m = if nat_lt GREATEST_SCALE m then None else Some m

-- a number over a denominator within its limit, whose value is within that of a linear sentence
pub record IsNumber (s : Signed) : Type 0 where
  pub some : 0 < s.den
  pub small : s.den ≤ GREATEST_DENOMINATOR
  pub least : unsigned_abs s.num ≤ GREATEST_NUMBER * s.den

-- the same of a term's coefficient
abbrev pub IsNumberTerm : Term → Type 0
IsNumberTerm t = IsNumber t.coefficient

-- the denominator of a term's coefficient
abbrev pub den_of : Term → ℕ
den_of t = t.coefficient.den

-- a number as a fraction
abbrev pub fraction_of : Signed → SignedRatio
fraction_of s = record { num = s.num; den = s.den }

-- the coefficient of a term as a fraction
abbrev pub coefficient_of : Term → SignedRatio
coefficient_of t = fraction_of t.coefficient

-- the denominators of numbers, if there are any
abbrev pub dens_of : Option Signed → List ℕ
dens_of upper = map (λ s. s.den) (option_to_list upper)

-- the numbers of a draft's linear sentence are within their limits, and its terms are no more than may be
pub record AreNumbers (l : DraftLinear) : Type 0 where
  pub right : IsNumber l.right
  pub upper : IfSome l.upper IsNumber
  pub terms : All IsNumberTerm l.terms
  pub few : length l.terms ≤ MOST_TERMS

-- the denominators of a draft's linear sentence
abbrev pub linear_dens : DraftLinear → List ℕ
linear_dens l = l.right.den ∷ dens_of l.upper ++ map den_of l.terms

-- the sizes of the whole numbers of an interval's upper bound are past their limit
abbrev pub is_upper_wide : ℕ → ℕ → Option Signed → Bool
is_upper_wide m sum None = false
is_upper_wide m sum (Some r) = nat_lt MOST_SIZES (sum + size_at m (fraction_of r))

-- a term's coefficient with some formula, which counts for nothing in a scale
abbrev pub plain_summand : Term → Summand
plain_summand t = record { coefficient = coefficient_of t; formula = Truth }

-- the scale of a draft's linear sentence, unless it is too large
abbrev pub small_scale_of : DraftLinear → Option ℕ
small_scale_of l = small_scale (record {
  terms = map plain_summand l.terms;
  side = l.side;
  value = fraction_of l.right;
  upper = option_map fraction_of l.upper;
})

-- a whole number over a scale, in lowest terms
abbrev pub lowest : ℕ → ℤ → SignedRatio
lowest m z = record { num = int_div z (pos (gcd (unsigned_abs z) m)); den = m / gcd (unsigned_abs z) m }

-- a fraction in lowest terms, whose denominator divides the scale, is read back from its whole number over the scale
pub record IsReread (m : ℕ) (r : SignedRatio) : Type 0 where
  pub lowest : IsLowest (record { num = unsigned_abs (scaled m r); den = m }) (size_of r)

-- each fraction in lowest terms is, at each scale that its denominator divides
abbrev pub AreReread : Type 0
AreReread = (m : ℕ) (r : SignedRatio) → 0 < m → 0 < r.den → r.den ∣ m → IsGcd (unsigned_abs r.num) r.den 1 → IsReread m r

-- each denominator of a sum divides its scale
abbrev pub AreDivisors : Type 0
AreDivisors = (s : LinearStatement) (before after : List ℕ) (d : ℕ) → All (λ e. 0 < e) (denominators s)
    → denominators s ≡ before ++ d ∷ after → d ∣ scale_of s
