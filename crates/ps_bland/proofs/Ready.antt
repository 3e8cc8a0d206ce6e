-- What each phase needs, kept by a lawful pivot; and no ray.
use Rattle.std.proofs.Common.{◌≡◌, ◌≢◌, inl, inr, ℕ, suc, zero, ◌+◌, ◌<◌, ℤ, pos, ◌≤ℤ◌, length, get_or, true, refl, sym, ap, ◌∙◌, subst, arith}
use Rattle.std.proofs.lemmas.Int.{ints}
use Rattle.std.proofs.lemmas.Bool.{cases_eq, cases_lt}
use Rattle.ps_meaning.proofs.Ring.{none}
use Rattle.ps_meaning.specs.Rational.{Rational, mul, zero_q, one_q}
use Rattle.ps_meaning.specs.Order.{IsNonneg}
use Rattle.ps_meaning.proofs.Field.{div-mul}
use Rattle.ps_meaning.proofs.Order.{zero_nonneg, above_nonneg, one_above}
use Rattle.ps_meaning.proofs.Whole.{whole_nonneg}
use Rattle.std.proofs.Math.ListN.{get_or-append}
use Rattle.std.proofs.Common.{get_or-append-add, ◌++◌}
use Rattle.ps_simplex.specs.Table.{unit_at, Belongs}
use Rattle.ps_simplex.proofs.PivotKeeps.{swapped}
use Rattle.ps_simplex.proofs.Units.{unit_at-same, unit_at-other}
use Rattle.std.proofs.Common.{List, ◌≤◌, ◌-◌}
use Rattle.ps_simplex.proofs.Rays.{no_ray, no_ray_upper}
use Rattle.ps_simplex.specs.Rule.{Improves, IsFeasible, table_of}
use Rattle.ps_simplex.specs.Cycle.{HasZeroArtificials, IsStart}
use Rattle.ps_simplex.proofs.Values as values
use Rattle.ps_table.specs.declared.home.Home.{Home}
use Rattle.ps_table.specs.declared.costs.Costs.{Costs}
use Rattle.ps_table.specs.declared.col.Col.{Col}
use Rattle.ps_table.specs.declared.col.Col.TheVariants as col
use Rattle.ps_table.specs.Tableau.{Tableau, IsTableau, IsInside, IsPivot, IsAdded, basic_at, entry_at, number_in}
use Rattle.ps_table.specs.Pricing.{cost_at}
use Rattle.ps_table.proofs.Columns.{number_within}
use Rattle.ps_simplex.specs.declared.phase.Phase.{Phase}
use Rattle.ps_simplex.specs.declared.phase.Phase.TheVariants.{One, Lower, Upper}
use Rattle.ps_bland.specs.Rules.{simplex_of, artificial_at, IsLawful}
use Rattle.ps_bland.specs.Ready.{HasNoNegativeCost, HasUnitRow, BelongsTo, FitsPhase, IsReady}
use Rattle.ps_bland.specs.Rounds.{HasRising, CanLeave}
use Rattle.ps_bland.proofs.Steps.{not_above, costs_kept}

-- basic artificials are at 0 where a phase on the sides begins
pub zero_artificials : (phase : Phase) (costs : Costs) (t : Tableau) → FitsPhase phase costs t → HasZeroArtificials phase (simplex_of t)
zero_artificials One costs t fits = tt
zero_artificials Lower costs t fits = fits.0
zero_artificials Upper costs t fits = fits.0

module _ (t u : Tableau) (enter : Col) (leave : ℕ) (pivot : IsPivot leave enter t u) where
  abbrev n : ℕ
  n = length t.kinds

  abbrev w : ℕ
  w = suc (length t.kinds + t.worlds)

  abbrev q : ℕ
  q = number_in (length t.kinds) enter

  -- a phase may start at the new table, seen with the old one's kinds and worlds
  abbrev StartsOf : Phase → List Home → ℕ → Type 0
  StartsOf phase kinds worlds = IsStart phase (table_of (length kinds) (suc (length kinds + worlds)) (basic_at u) (artificial_at kinds) (entry_at u))

  starts : (phase : Phase) (costs : Costs) → IsReady phase costs t → IsLawful phase costs t enter leave → IsStart phase (simplex_of u)
  starts phase costs ready lawful =
      subst (λ kinds. StartsOf phase kinds u.worlds) (sym pivot.kinds)
      (subst (StartsOf phase t.kinds) (sym pivot.worlds)
      (values.start_kept n w (artificial_at t.kinds) (basic_at t) (basic_at u) (entry_at t) (entry_at u) q leave (omega arith) lawful.enters.improves.within pivot.based pivot.cells phase
      (record { values = ready.values; artificials = zero_artificials phase costs t ready.fits })
      lawful.enters.improves.real lawful.leaves))

  width_same : suc (length u.kinds + u.worlds) ≡ w
  width_same = λ z. suc (length (pivot.kinds z) + pivot.worlds z)

  costs_not_negative : (costs : Costs) → HasNoNegativeCost costs t → HasNoNegativeCost costs u
  costs_not_negative costs h = record { cost = λ j a b. h.cost j a (subst (λ k. j < k) width_same b) }

  belongs_here : (A : ℕ → ℕ → Rational) → leave < n → q < w → entry_at t leave q ≢ zero_q → BelongsTo A t → Belongs n w A (basic_at u) (entry_at u)
  belongs_here A hp hc hq belongs = λ m j hm hj.
      swapped n leave (λ i. entry_at t i j) (λ i. entry_at t i q) (λ i. A m (basic_at t i)) (λ i. entry_at u i j) (λ i. A m (basic_at u i)) (entry_at u leave j) (A m q)
      hp
      refl
      (ap (A m) pivot.based.here)
      (ap (λ k. mul k (entry_at t leave q)) (pivot.cells.row j hj) ∙ div-mul (entry_at t leave j) (entry_at t leave q) hq)
      (λ i h ne. pivot.cells.others i j h hj ne)
      (λ i h ne. ap (A m) (pivot.based.others i h ne))
      (belongs m q hm hc)
      ∙ belongs m j hm hj

  belongs_kept : (A : ℕ → ℕ → Rational) → leave < n → q < w → entry_at t leave q ≢ zero_q → BelongsTo A t → BelongsTo A u
  belongs_kept A hp hc hq belongs =
      subst (λ k. Belongs (length k) (suc (length k + u.worlds)) A (basic_at u) (entry_at u)) (sym pivot.kinds)
      (subst (λ k. Belongs n (suc (n + k)) A (basic_at u) (entry_at u)) (sym pivot.worlds) (belongs_here A hp hc hq belongs))

  upper_kept : (costs : Costs) → leave < n → q < w → entry_at t leave q ≢ zero_q → HasUnitRow costs t → HasUnitRow costs u
  upper_kept costs hp hc hq h = record {
    columns = h.columns;
    belongs = belongs_kept h.columns hp hc hq h.belongs;
    row = λ j a b. h.row j a (subst (λ k. j < k) width_same b);
    cost = λ j a b. h.cost j a (subst (λ k. j < k) width_same b);
  }

  leaves_how : (phase : Phase) (costs : Costs) → IsReady phase costs t → IsLawful phase costs t enter leave → values.HowLeaves (simplex_of t) q leave
  leaves_how phase costs ready lawful =
      values.how n w (artificial_at t.kinds) (basic_at t) (basic_at u) (entry_at t) (entry_at u) q leave (omega arith) lawful.enters.improves.within pivot.based pivot.cells phase
      (zero_artificials phase costs t ready.fits) lawful.leaves

  upper_fits : (costs : Costs) → IsReady Upper costs t → IsLawful Upper costs t enter leave → HasUnitRow costs u
  upper_fits costs ready lawful =
      let how = leaves_how Upper costs ready lawful in
      let column = lawful.enters.improves.within in
      upper_kept costs
      (values.row_within n w (artificial_at t.kinds) (basic_at t) (basic_at u) (entry_at t) (entry_at u) q leave (omega arith) column pivot.based pivot.cells how)
      column
      (values.entry_filled n w (artificial_at t.kinds) (basic_at t) (basic_at u) (entry_at t) (entry_at u) q leave (omega arith) column pivot.based pivot.cells how)
      ready.fits.1

  fits_kept : (phase : Phase) (costs : Costs) → IsReady phase costs t → IsLawful phase costs t enter leave → FitsPhase phase costs u
  fits_kept One costs ready lawful = costs_not_negative costs ready.fits
  fits_kept Lower costs ready lawful = ((starts Lower costs ready lawful).artificials, costs_not_negative costs ready.fits.1)
  fits_kept Upper costs ready lawful = ((starts Upper costs ready lawful).artificials, upper_fits costs ready lawful)

  pub ready_kept : (phase : Phase) (costs : Costs) → IsReady phase costs t → IsLawful phase costs t enter leave → IsReady phase costs u
  ready_kept phase costs ready lawful = record {
    costs_there = costs_kept costs enter leave t u pivot ready.costs_there;
    values = (starts phase costs ready lawful).values;
    fits = fits_kept phase costs ready lawful;
  }

-- ---- no ray
spot_above : (m worlds : ℕ) (c : Col) → IsInside m worlds c → 0 < number_in m c
spot_above m worlds (col.Home i) h = omega arith
spot_above m worlds (col.World k) h = omega (arith, h.0)

pub basic_above : (t : Tableau) (i : ℕ) → IsTableau t → i < length t.kinds → 0 < basic_at t i
basic_above t i ok l = spot_above (length t.kinds) t.worlds (get_or t.basic i (col.Home 0)) (ok.inside i l)

pub basic_within : (t : Tableau) (i : ℕ) → IsTableau t → i < length t.kinds → basic_at t i < suc (length t.kinds + t.worlds)
basic_within t i ok l = number_within (length t.kinds) t.worlds (get_or t.basic i (col.Home 0)) (ok.inside i l)

rising_first : (costs : Costs) (t : Tableau) (q : ℕ) → IsTableau t → HasNoNegativeCost costs t → Improves (simplex_of t) (cost_at costs) q → HasRising t q
rising_first costs t q ok gain improves = λ none.
    no_ray (length t.kinds) (λ i. cost_at costs (basic_at t i)) (λ i. entry_at t i q) (cost_at costs q)
    (λ i l. gain.cost (basic_at t i) (basic_above t i ok l) (basic_within t i ok l))
    (λ i l. not_above (entry_at t i q) (λ a. none i (record { within = l; above = a })))
    (gain.cost q improves.column improves.within)
    improves.more

rising_upper : (costs : Costs) (t : Tableau) (q : ℕ) → IsTableau t → HasUnitRow costs t → Improves (simplex_of t) (cost_at costs) q → HasRising t q
rising_upper costs t q ok upper improves = λ none.
    no_ray_upper (length t.kinds) (λ i. upper.columns 0 (basic_at t i)) (λ i. cost_at costs (basic_at t i)) (λ i. entry_at t i q) (upper.columns 0 q) (cost_at costs q)
    (λ i l. upper.row (basic_at t i) (basic_above t i ok l) (basic_within t i ok l))
    (λ i l. upper.cost (basic_at t i) (basic_above t i ok l) (basic_within t i ok l))
    (upper.row q improves.column improves.within)
    (upper.cost q improves.column improves.within)
    (upper.belongs 0 q ok.some improves.within)
    (λ i l. not_above (entry_at t i q) (λ a. none i (record { within = l; above = a })))
    improves.more

-- in no phase is a column that improves a ray
pub can_leave : (phase : Phase) (costs : Costs) (t : Tableau) (q : ℕ) → IsTableau t → FitsPhase phase costs t → Improves (simplex_of t) (cost_at costs) q → CanLeave phase t q
can_leave One costs t q ok fits improves = rising_first costs t q ok fits improves
can_leave Lower costs t q ok fits improves = λ none. rising_first costs t q ok fits.1 improves
can_leave Upper costs t q ok fits improves = λ none. rising_upper costs t q ok fits.1 improves

-- ---- how callers come to a ready table
pub unit_nonneg : (i j : ℕ) → IsNonneg (unit_at i j)
unit_nonneg i j =
    elim (cases_eq i j) [
      | inl e ↦ subst IsNonneg (sym (ap (unit_at i) (sym e) ∙ unit_at-same i)) (above_nonneg one_q one_above)
      | inr ne ↦ subst IsNonneg (sym (unit_at-other i j ne)) zero_nonneg
    ]

pub values_added : (entries : List ℤ) (t u : Tableau) → IsAdded entries t u → ((i : ℕ) → i < length t.kinds → IsNonneg (entry_at t i 0)) → (i : ℕ) → i < length u.kinds → IsNonneg (entry_at u i 0)
values_added entries t u added values = λ i l.
    let h : i < length t.kinds = subst (λ k. i < length k) added.kinds l in
    subst IsNonneg (sym (added.before i 0 h (omega arith))) (values i h)

-- a world that is added keeps the end of phase one
pub feasible_added : (entries : List ℤ) (t u : Tableau) → IsAdded entries t u → IsFeasible (simplex_of t) → IsFeasible (simplex_of u)
feasible_added entries t u added feasible = record {
  zero = λ i l a.
      let h : i < length t.kinds = subst (λ k. i < length k) added.kinds l in
      let same : basic_at u i ≡ basic_at t i = λ z. number_in (length (added.kinds z)) (get_or (added.basic z) i (col.Home 0)) in
      let b : artificial_at t.kinds (basic_at t i) ≡ true = (λ z. artificial_at (sym added.kinds z) (sym same z)) ∙ a in
      added.before i 0 h (omega arith) ∙ feasible.zero i h b;
}

-- costs of 0 or more give no column a cost below 0
costs_nonneg : (costs : Costs) → ((i : ℕ) → i < length costs.homes → pos 0 ≤ℤ get_or costs.homes i (pos 0)) → ((i : ℕ) → i < length costs.worlds → pos 0 ≤ℤ get_or costs.worlds i (pos 0)) → (k : ℕ) → k < length costs.homes + length costs.worlds → pos 0 ≤ℤ get_or (costs.homes ++ costs.worlds) k (pos 0)
costs_nonneg costs homes worlds k l =
    elim (cases_lt k (length costs.homes)) [
      | inl h ↦ subst (λ z. pos 0 ≤ℤ z) (sym (get_or-append costs.homes costs.worlds (pos 0) k h)) (homes k h)
      | inr h ↦
          let e : length costs.homes + (k - length costs.homes) ≡ k = omega arith in
          subst (λ m. pos 0 ≤ℤ get_or (costs.homes ++ costs.worlds) m (pos 0)) e
          (subst (λ z. pos 0 ≤ℤ z) (sym (get_or-append-add costs.homes costs.worlds (k - length costs.homes) (pos 0))) (worlds (k - length costs.homes) (omega arith)))
    ]

-- costs of 0 and 1 and values of 0 or more are what phase one needs
pub ready_one : (costs : Costs) (t : Tableau) → length costs.homes ≡ length t.kinds → t.worlds ≤ length costs.worlds
    → ((i : ℕ) → i < length costs.homes → pos 0 ≤ℤ get_or costs.homes i (pos 0)) → ((i : ℕ) → i < length costs.homes → get_or costs.homes i (pos 0) ≤ℤ pos 1)
    → ((i : ℕ) → i < length costs.worlds → pos 0 ≤ℤ get_or costs.worlds i (pos 0)) → ((i : ℕ) → i < length costs.worlds → get_or costs.worlds i (pos 0) ≤ℤ pos 1)
    → ((i : ℕ) → i < length t.kinds → IsNonneg (entry_at t i 0)) → IsReady One costs t
ready_one costs t eh lw hl hh wl wh values = record {
  costs_there = record {
    homes = eh;
    worlds = lw;
    small = record {
      homes_low = λ i l. let a = hl i l in omega (arith, ints, a);
      homes_high = hh;
      worlds_low = λ i l. let a = wl i l in omega (arith, ints, a);
      worlds_high = wh;
    };
  };
  values = values;
  fits = record { cost = λ j a b. whole_nonneg (get_or (costs.homes ++ costs.worlds) (j - 1) (pos 0)) (costs_nonneg costs hl wl (j - 1) (omega arith)) };
}
