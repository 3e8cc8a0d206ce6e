-- The costs that a phase is for are what it asks.
use Rattle.std.proofs.Common.{◌≡◌, ◌⊎◌, inl, inr, suc, length, Bool, true, false, cond, sym, subst, arith}
use Rattle.std.proofs.lemmas.Bool.{cases_lt}
use Rattle.ps_meaning.specs.Rational.{Rational, neg, zero_q, one_q}
use Rattle.ps_meaning.specs.Order.{IsNonneg}
use Rattle.ps_meaning.proofs.Order.{zero_nonneg, above_nonneg, one_above}
use Rattle.ps_table.specs.declared.costs.Costs.{Costs}
use Rattle.ps_table.specs.Tableau.{Tableau}
use Rattle.ps_table.specs.Pricing.{cost_at, HasCosts}
use Rattle.ps_simplex.specs.declared.phase.Phase.{Phase}
use Rattle.ps_simplex.specs.declared.phase.Phase.TheVariants.{One, Lower, Upper}
use Rattle.ps_bland.specs.Rules.{artificial_at}
use Rattle.ps_bland.specs.Ready.{HasNoNegativeCost, HasUnitRow, FitsPhase, HasNoNegativeValue, IsReady, HasFirstCosts, HasWorldCosts, HasWorldRow, IsPosed}

one_nonneg : IsNonneg one_q
one_nonneg = above_nonneg one_q one_above

unit_cost : (b : Bool) → IsNonneg (cond b one_q zero_q)
unit_cost true = one_nonneg
unit_cost false = zero_nonneg

zero_or_one : (x : Rational) → (x ≡ zero_q) ⊎ (x ≡ one_q) → IsNonneg x
zero_or_one x h = elim h [ inl e ↦ subst IsNonneg (sym e) zero_nonneg | inr e ↦ subst IsNonneg (sym e) one_nonneg ]

first_posed : (costs : Costs) (t : Tableau) → HasFirstCosts costs t → HasNoNegativeCost costs t
first_posed costs t h = record { cost = λ j a b. subst IsNonneg (sym (h.cost j a b)) (unit_cost (artificial_at t.kinds j)) }

lower_posed : (costs : Costs) (t : Tableau) → HasWorldCosts one_q costs t → HasNoNegativeCost costs t
lower_posed costs t h = record {
  cost = λ j a b. elim (cases_lt j (suc (length t.kinds))) [ inl l ↦ subst IsNonneg (sym (h.homes j a (omega arith))) zero_nonneg | inr l ↦ zero_or_one (cost_at costs j) (h.worlds j (omega arith) b) ];
}

upper_posed : (costs : Costs) (t : Tableau) → HasWorldCosts (neg one_q) costs t → HasWorldRow costs t → HasUnitRow costs t
upper_posed costs t h row = record {
  columns = row.columns;
  belongs = row.belongs;
  row = λ j a b. elim (cases_lt j (suc (length t.kinds))) [ inl l ↦ row.homes j a (omega arith) | inr l ↦ zero_or_one (row.columns 0 j) (row.worlds j (omega arith) b) ];
  cost = λ j a b.
      elim (cases_lt j (suc (length t.kinds))) [
        | inl l ↦ inl (h.homes j a (omega arith))
        | inr l ↦ elim (h.worlds j (omega arith) b) [ inl e ↦ inl e | inr e ↦ inr (e, row.costly j (omega arith) b e) ]
      ];
}

fits_posed : (phase : Phase) (costs : Costs) (t : Tableau) → IsPosed phase costs t → FitsPhase phase costs t
fits_posed One costs t h = first_posed costs t h
fits_posed Lower costs t h = (h.0, lower_posed costs t h.1)
fits_posed Upper costs t h = (h.0, upper_posed costs t h.1 h.2)

-- the costs of a phase make a table without values below 0 ready for it
pub ready_posed : (phase : Phase) (costs : Costs) (t : Tableau) → HasCosts costs t → HasNoNegativeValue t → IsPosed phase costs t → IsReady phase costs t
ready_posed phase costs t has values posed = record { costs_there = has; values = values; fits = fits_posed phase costs t posed }
