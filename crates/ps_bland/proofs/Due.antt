-- Where no due place of the table is too wide.
use Rattle.std.proofs.Common.{◌≡◌, ℕ, suc, ◌+◌, ◌-◌, ◌<◌, ◌≤◌, length, Bool, true, false, true≢false, refl, sym, ap, ◌∙◌, subst, arith, inl, inr, Result, Ok, Err, IfErr}
use Rattle.std.proofs.lemmas.Bool.{cases_eq, cases_lt}
use Rattle.std.proofs.lemmas.List.{get_or_past}
use Rattle.ps_table.specs.declared.home.Home.TheVariants.{Slack}
use Rattle.ps_simplex.specs.Rule.{Improves}
use Rattle.ps_table.specs.declared.costs.Costs.{Costs}
use Rattle.ps_table.specs.declared.place.WideAt.{WideAt}
use Rattle.ps_table.specs.declared.col.Col.{Col}
use Rattle.ps_table.specs.declared.col.Col.TheVariants as col
use Rattle.ps_table.specs.Tableau.{Tableau, number_in, number_of, rows_of, HasColumn, HasWorld}
use Rattle.ps_table.specs.Pricing.{cost_at}
use Rattle.ps_table.specs.Places.{Operation, HomePlaces, PricePlaces, WorldPlaces, of_multiplier, of_price, IsWide, IsWideAt, IsNarrow}
use Rattle.ps_table.specs.Prices.{AreMultipliersNarrow, IsMultiplierWide}
use Rattle.ps_table.proofs.Operations.{operation_of}
use Rattle.ps_simplex.specs.declared.phase.Phase.{Phase}
use Rattle.ps_bland.specs.Rules.{simplex_of, is_artificial, artificial_at, is_artificial_column}
use Rattle.ps_bland.specs.Ends.{IsPriced, IsHomeWide, IsPriceWide, IsCarriedWide, IsDueWide}
use Rattle.ps_bland.specs.Ends.IsPriced.{as_slack, as_artificial}
use Rattle.ps_bland.specs.Ends.IsCarriedWide.{of_home, of_world}
use Rattle.ps_bland.specs.Rounds.{AreCarriedNarrow, AreSlacksNarrowTo, ArePricesNarrowTo, NoHomeImproves}
use Rattle.ps_bland.specs.Ends.IsDueWide.{at_cost, at_column, at_ratio, at_pivot}

-- a wide operation at places none of which is wide
pub not_wide : (P : Operation → Type 0) (w : WideAt) → IsNarrow P → IsWideAt P w → ⊥
not_wide P w narrow h = narrow.nowhere (operation_of w) h.at h.wide

-- the first slack that improves is the home of row m: the slacks up to it are priced, and nothing else
pub first_narrow : (costs : Costs) (t : Tableau) (m : ℕ) → m < rows_of t → Improves (simplex_of t) (cost_at costs) (suc m) → AreSlacksNarrowTo costs t (suc m)
    → AreCarriedNarrow costs t
first_narrow costs t m within improves slacks w (of_home h) = home_case h.priced
  where
    home_case : IsPriced costs t h.row → ⊥
    home_case (as_slack real least) = elim (cases_lt m h.row) [
      | inl l ↦ least (suc m) (omega (arith, l)) improves
      | inr l ↦ not_wide (HomePlaces t costs h.row) w (slacks h.row (omega (arith, l)) real) h.wide
    ]
    home_case (as_artificial real least) = least (suc m) (omega (arith, within)) improves
first_narrow costs t m within improves slacks w (of_world h) = h.least (suc m) (omega (arith, within, h.inside.0)) improves

-- no slack improves: all homes are priced, and the worlds up to the first that improves
pub world_first : (costs : Costs) (t : Tableau) (k : ℕ) → Improves (simplex_of t) (cost_at costs) (rows_of t + k) → AreMultipliersNarrow t costs → ArePricesNarrowTo costs t k
    → AreCarriedNarrow costs t
world_first costs t k improves homes prices w (of_home h) = not_wide (HomePlaces t costs h.row) w (homes h.row h.within) h.wide
world_first costs t k improves homes prices w (of_world h) = elim (cases_lt k h.world) [
  | inl l ↦ h.least (rows_of t + k) (omega (arith, l)) improves
  | inr l ↦ not_wide (PricePlaces t costs h.world) w (prices h.world h.inside.0 l) h.wide
]

-- none improves
pub all_narrow : (costs : Costs) (t : Tableau) → AreMultipliersNarrow t costs → ArePricesNarrowTo costs t t.worlds → AreCarriedNarrow costs t
all_narrow costs t homes prices w (of_home h) = not_wide (HomePlaces t costs h.row) w (homes h.row h.within) h.wide
all_narrow costs t homes prices w (of_world h) = not_wide (PricePlaces t costs h.world) w (prices h.world h.inside.0 h.inside.1) h.wide

-- one price more
pub prices_next : (costs : Costs) (t : Tableau) (k : ℕ) → ArePricesNarrowTo costs t k → IsNarrow (PricePlaces t costs (k + 1)) → ArePricesNarrowTo costs t (k + 1)
prices_next costs t k before here m some l = elim (cases_eq m (k + 1)) [
  | inl same ↦ subst (λ j. IsNarrow (PricePlaces t costs j)) (sym same) here
  | inr ne ↦ before m some (omega (arith, l, ne))
]

-- one slack more
pub slacks_next : (costs : Costs) (t : Tableau) (m : ℕ) → AreSlacksNarrowTo costs t m → (artificial_at t.kinds (suc m) ≡ false → IsNarrow (HomePlaces t costs m)) → AreSlacksNarrowTo costs t (suc m)
slacks_next costs t m before here k l real = elim (cases_eq k m) [
  | inl same ↦ subst (λ j. IsNarrow (HomePlaces t costs j)) (sym same) (here (subst (λ j. artificial_at t.kinds (suc j) ≡ false) same real))
  | inr ne ↦ before k (omega (arith, l, ne)) real
]

-- where no slack improves each home is priced
pub priced_home : (costs : Costs) (t : Tableau) (m : ℕ) → m < rows_of t → NoHomeImproves costs t → IsPriced costs t m
priced_home costs t m within none = by_kind (artificial_at t.kinds (suc m)) refl
  where
    by_kind : (b : Bool) → artificial_at t.kinds (suc m) ≡ b → IsPriced costs t m
    by_kind true e = as_artificial e none
    by_kind false e = as_slack e (λ j l. none j (omega (arith, l, within)))

pub multiplier_due : (costs : Costs) (t : Tableau) (w : WideAt) → NoHomeImproves costs t → IsMultiplierWide t costs w → IsCarriedWide costs t w
multiplier_due costs t w none h = of_home (record { row = h.row; within = h.within; priced = priced_home costs t h.row h.within none; wide = h.wide })

pub slack_due : (costs : Costs) (t : Tableau) (m : ℕ) (w : WideAt) → m < rows_of t → artificial_at t.kinds (suc m) ≡ false
    → ((j : ℕ) → j < suc m → Improves (simplex_of t) (cost_at costs) j → ⊥) → IsWideAt (HomePlaces t costs m) w → IsCarriedWide costs t w
slack_due costs t m w within real least h = of_home (record { row = m; within = within; priced = as_slack real least; wide = h })

-- what is refused of a world is due where no column before it improves
pub world_due : (costs : Costs) (t : Tableau) (k : ℕ) (w : WideAt) → HasWorld t k → ((j : ℕ) → j < rows_of t + k → Improves (simplex_of t) (cost_at costs) j → ⊥)
    → IsWideAt (WorldPlaces t costs k) w → IsCarriedWide costs t w
world_due costs t k w inside least h = by_place h.at
  where
    by_place : WorldPlaces t costs k (operation_of w) → IsCarriedWide costs t w
    by_place (of_multiplier m hm at) =
        multiplier_due costs t w (λ j l. least j (omega (arith, l, inside.0))) (record { row = m; within = hm; wide = record { at = at; wide = h.wide } })
    by_place (of_price at) = of_world (record { world = k; inside = inside; least = least; wide = record { at = at; wide = h.wide } })

-- no column improves: only sums were due
pub rest_narrow : (phase : Phase) (costs : Costs) (t : Tableau) (left : ℕ) → ((j : ℕ) → Improves (simplex_of t) (cost_at costs) j → ⊥) → AreCarriedNarrow costs t → (w : WideAt) → IsDueWide phase costs t left w → ⊥
rest_narrow phase costs t left none entries w (at_cost _ wide) = entries w wide
rest_narrow phase costs t left none entries w (at_column q _ _ _ enters _) = none (number_in (length t.kinds) q) enters.improves
rest_narrow phase costs t left none entries w (at_ratio q _ _ _ enters _ _) = none (number_in (length t.kinds) q) enters.improves
rest_narrow phase costs t left none entries w (at_pivot q p _ lawful _) = none (number_in (length t.kinds) q) lawful.enters.improves

-- no pivot is left: the same
pub out_narrow : (phase : Phase) (costs : Costs) (t : Tableau) (left : ℕ) → left ≡ 0 → AreCarriedNarrow costs t → (w : WideAt) → IsDueWide phase costs t left w → ⊥
out_narrow phase costs t left out entries w (at_cost _ wide) = entries w wide
out_narrow phase costs t left out entries w (at_column q _ some _ _ _) = omega (arith, some, out)
out_narrow phase costs t left out entries w (at_ratio q _ some _ _ _ _) = omega (arith, some, out)
out_narrow phase costs t left out entries w (at_pivot q p some _ _) = omega (arith, some, out)

-- a refusal of a kind, as one of another
pub err_due : {X E : Type 0} (r : Result X E) (P Q : E → Type 0) → ((e : E) → P e → Q e) → IfErr r P → IfErr r Q
err_due (Ok x) P Q f h = tt
err_due (Err e) P Q f h = f e h

-- a world is no artificial
pub world_real : (t : Tableau) (k : ℕ) → is_artificial_column t (col.World (k + 1)) ≡ false
world_real t k = ap is_artificial (get_or_past t.kinds (number_in (length t.kinds) (col.World (k + 1)) - 1) Slack (omega arith))
