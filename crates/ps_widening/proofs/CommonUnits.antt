-- The common unit of rows, one by one.
use Rattle.std.proofs.Common.{◌≡◌, ℕ, suc, ◌+◌, ◌<◌, ◌≤◌, true, false, Some, None, inl, inr, List, [], ◌∷◌, length, drop, get_or, All, refl, sym, arith}
use Rattle.std.specs.Prelude.{nat_lt}
use Rattle.std.proofs.lemmas.List.{drop_more, drop_all}
use Rattle.std.proofs.lemmas.Bool.{cases_Bool}
use Rattle.std.proofs.lemmas.Bool.Decides.{nat_tests}
use Rattle.std.proofs.lemmas.List.Elements.{All-head, All-tail}
use Rattle.ps_meaning.specs.Gcd.{lcm}
use Rattle.ps_problem.specs.declared.limits.TheConstants.{GREATEST_SCALE}
use Rattle.ps_problem.specs.declared.row.Row.{Row}
use Rattle.ps_problem.specs.Scales.{scale_within}
use Rattle.ps_problem.proofs.Scales.{lcm_some, some_scale, none_scale}
use Rattle.ps_widening.specs.Measured.{IsMeasured}
use Rattle.ps_widening.specs.Units.{unit_with, common_unit, first_past, is_wide, first_wide}

-- the unit of the rows before this one
pub record IsUnitSoFar (rs : List Row) (i unit : ℕ) : Type 0 where
  pub some : 0 < unit
  pub small : unit ≤ GREATEST_SCALE
  pub rest : unit_with unit (drop i rs) ≡ common_unit rs
  pub past : first_past (i + 1) unit (drop i rs) ≡ first_past 1 1 rs

pub unit-first : (rs : List Row) → IsUnitSoFar rs 0 1
unit-first rs = record { some = omega arith; small = omega arith; rest = refl; past = refl }

pub unit-next : (rs : List Row) (i unit more : ℕ) (r : Row) → i < length rs → 0 < (get_or rs i r).unit → IsUnitSoFar rs i unit
    → scale_within (lcm unit (get_or rs i r).unit) ≡ Some more → IsUnitSoFar rs (i + 1) more
unit-next rs i unit more r lt positive so e =
    let d = drop_more rs i r lt in
    let k = some_scale (lcm unit (get_or rs i r).unit) more e in
    let test : nat_lt GREATEST_SCALE (lcm unit (get_or rs i r).unit) ≡ false = grind (arith, nat_tests, k.1) in
    let n : suc (i + 1) ≡ i + 1 + 1 = omega arith in
    record {
      some = rw k.0 (lcm_some unit (get_or rs i r).unit so.some positive);
      small = rw k.0 k.1;
      rest = rw k.0 (rw d at so.rest);
      past = rw k.0 (rw (d, test, n) at so.past);
    }

pub unit-past : (rs : List Row) (i unit : ℕ) (r : Row) → i < length rs → IsUnitSoFar rs i unit
    → scale_within (lcm unit (get_or rs i r).unit) ≡ None → first_past 1 1 rs ≡ Some (i + 1)
unit-past rs i unit r lt so e =
    let d = drop_more rs i r lt in
    let past = none_scale (lcm unit (get_or rs i r).unit) e in
    let test : nat_lt GREATEST_SCALE (lcm unit (get_or rs i r).unit) ≡ true = grind (arith, nat_tests, past) in
    sym (rw (d, test) at so.past)

pub unit-all : (rs : List Row) (i unit : ℕ) → length rs ≤ i → IsUnitSoFar rs i unit → (first_past 1 1 rs ≡ None) × (unit ≡ common_unit rs)
unit-all rs i unit most so = let d = drop_all i rs most in (sym (rw d at so.past), rw d at so.rest)

pub wide-next : (unit : ℕ) (rs : List Row) (i : ℕ) (r : Row) → i < length rs → first_wide (i + 1) unit (drop i rs) ≡ first_wide 1 unit rs → is_wide unit (get_or rs i r) ≡ false
    → first_wide (i + 1 + 1) unit (drop (i + 1) rs) ≡ first_wide 1 unit rs
wide-next unit rs i r lt so e = let d = drop_more rs i r lt in let n : suc (i + 1) ≡ i + 1 + 1 = omega arith in rw (d, e, n) at so

pub wide-here : (unit : ℕ) (rs : List Row) (i : ℕ) (r : Row) → i < length rs → first_wide (i + 1) unit (drop i rs) ≡ first_wide 1 unit rs → is_wide unit (get_or rs i r) ≡ true
    → Some (i + 1) ≡ first_wide 1 unit rs
wide-here unit rs i r lt so e = let d = drop_more rs i r lt in rw (d, e) at so

pub wide-none : (unit : ℕ) (rs : List Row) (i : ℕ) → length rs ≤ i → first_wide (i + 1) unit (drop i rs) ≡ first_wide 1 unit rs → None ≡ first_wide 1 unit rs
wide-none unit rs i most so = let d = drop_all i rs most in rw d at so

-- a common unit up to no row of which the limit is passed is within it
pub unit-within : (n unit : ℕ) (rs : List Row) → All IsMeasured rs → 0 < unit → unit ≤ GREATEST_SCALE → first_past n unit rs ≡ None
    → (0 < unit_with unit rs) × (unit_with unit rs ≤ GREATEST_SCALE)
unit-within n unit [] are some small e = (some, small)
unit-within n unit (r ∷ rs) are some small e = elim (cases_Bool (nat_lt GREATEST_SCALE (lcm unit r.unit))) [
  | inl past ↦ absurd (let no : Some n ≡ None = rw past at e in cc)
  | inr within ↦ unit-within (suc n) (lcm unit r.unit) rs (All-tail IsMeasured r rs are)
      (lcm_some unit r.unit some (omega (arith, (All-head IsMeasured r rs are).some))) (grind (arith, nat_tests, within)) (rw within at e)
]
