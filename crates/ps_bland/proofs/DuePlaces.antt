-- The due places of a solver's table are those of its basis, its entries and those of its worlds.
use Rattle.std.proofs.Common.{◌≡◌, ℕ, suc, ◌<◌, ◌≤◌, refl, sym, subst, arith}
use Rattle.ps_table.specs.declared.costs.Costs.{Costs}
use Rattle.ps_table.specs.declared.place.WideAt.{WideAt}
use Rattle.ps_table.specs.declared.col.Col.{Col}
use Rattle.ps_table.specs.declared.col.Col.TheVariants as col
use Rattle.ps_table.specs.Tableau.{Tableau, HasColumn, number_of, rows_of, home_at, entry_at, entries_of}
use Rattle.ps_table.specs.Pricing.{cost_at}
use Rattle.ps_table.specs.Places.{Operation, IsWide, IsWideAt, IsColumnWide, column_of}
use Rattle.ps_table.proofs.Operations.{operation_of}
use Rattle.ps_table.proofs.Narrow.{place_kept, column_kept}
use Rattle.ps_table.proofs.TableEntries.{home_is}
use Rattle.ps_simplex.specs.Rule.{Enters}
use Rattle.ps_simplex.specs.declared.phase.Phase.{Phase}
use Rattle.ps_bland.specs.Rules.{simplex_of, IsDueToEndIn}
use Rattle.ps_bland.specs.Ends.{IsDueWide, IsHomeWide, IsPriced, IsCarriedWide}
use Rattle.ps_bland.specs.Ends.IsPriced.{as_slack, as_artificial}
use Rattle.ps_bland.specs.Ends.IsCarriedWide.{of_home, of_world}
use Rattle.ps_bland.specs.Ends.IsDueWide.{at_cost, at_column, at_ratio, at_pivot}
use Rattle.ps_bland.specs.DuePlaces.{DuePlace, worlds_in, of_slack, of_artificial, of_price, of_column, of_ratio, of_pivot}

-- the right side and the homes, one way and the other
kept_entry : (t : Tableau) (i j : ℕ) → j < suc (rows_of t) → home_at t i j ≡ entry_at t i j
kept_entry t i j l = sym (home_is t i j (omega (arith, l)))

entry_kept : (t : Tableau) (i j : ℕ) → j < suc (rows_of t) → entry_at t i j ≡ home_at t i j
entry_kept t i j l = home_is t i j (omega (arith, l))

module _ (phase : Phase) (costs : Costs) (t : Tableau) (left : ℕ) where
  abbrev Due : Operation → Type 0
  Due = DuePlace phase (simplex_of t) (worlds_in t) left (cost_at costs)

  home_there : (w : WideAt) → (IsDueToEndIn phase t → ⊥) → (h : IsHomeWide costs t w) → IsPriced costs t h.row → IsWideAt Due w
  home_there w unfinished h (as_slack real least) = record { at = of_slack h.row (operation_of w) unfinished h.within real least h.wide.at; wide = h.wide.wide }
  home_there w unfinished h (as_artificial real least) = record { at = of_artificial h.row (operation_of w) unfinished h.within real least h.wide.at; wide = h.wide.wide }

  carried_there : (w : WideAt) → (IsDueToEndIn phase t → ⊥) → IsCarriedWide costs t w → IsWideAt Due w
  carried_there w unfinished (of_home h) = home_there w unfinished h h.priced
  carried_there w unfinished (of_world h) = record { at = of_price h.world (operation_of w) unfinished h.inside.0 h.inside.1 h.least h.wide.at; wide = h.wide.wide }

  column_there : (w : WideAt) (q : Col) → (IsDueToEndIn phase t → ⊥) → 0 < left → HasColumn t q → Enters (simplex_of t) (cost_at costs) (number_of t q) → IsColumnWide t q w → IsWideAt Due w
  column_there w (col.Home m) unfinished some inside enters h = absurd h.wide.at
  column_there w (col.World k) unfinished some inside enters h = record {
    at = of_column k h.row (operation_of w) unfinished some inside.0 inside.1 enters h.within
        (column_kept (rows_of t) (home_at t) (entry_at t) (entries_of t k) k h.row (λ m l. kept_entry t h.row (suc m) (omega (arith, l))) (operation_of w) h.wide.at);
    wide = h.wide.wide;
  }

  pub due_there : (w : WideAt) → IsDueWide phase costs t left w → IsWideAt Due w
  due_there w (at_cost unfinished h) = carried_there w unfinished h
  due_there w (at_column q unfinished some inside enters h) = column_there w q unfinished some inside enters h
  due_there w (at_ratio q unfinished some inside enters ratios h) =
      subst (IsWideAt Due) (sym h.is)
      (record { at = of_ratio q h.row unfinished some inside enters ratios h.rising; wide = h.wide })
  due_there w (at_pivot q p some lawful h) = record {
    at = of_pivot q p (operation_of w) lawful.unfinished some lawful.inside lawful.enters lawful.leaves
        (place_kept (rows_of t) (home_at t) (entry_at t) (column_of t q) p (kept_entry t) (operation_of w) h.at);
    wide = h.wide;
  }

  due_at : (o : Operation) → Due o → IsWide o → IsDueWide phase costs t left (record { place = o.place; op = o.op; left = o.left; right = o.right })
  due_at _ (of_slack m o unfinished within real least at) wide =
      at_cost unfinished (of_home (record { row = m; within = within; priced = as_slack real least; wide = record { at = at; wide = wide } }))
  due_at _ (of_artificial m o unfinished within real least at) wide =
      at_cost unfinished (of_home (record { row = m; within = within; priced = as_artificial real least; wide = record { at = at; wide = wide } }))
  due_at _ (of_price k o unfinished some most least at) wide =
      at_cost unfinished (of_world (record { world = k; inside = (some, most); least = least; wide = record { at = at; wide = wide } }))
  due_at _ (of_column k i o unfinished some first most enters within at) wide =
      at_column (col.World k) unfinished some (first, most) enters
      (record {
        row = i;
        within = within;
        wide = record { at = column_kept (rows_of t) (entry_at t) (home_at t) (entries_of t k) k i (λ m l. entry_kept t i (suc m) (omega (arith, l))) o at; wide = wide };
      })
  due_at _ (of_ratio c i unfinished some inside enters ratios rising) wide =
      at_ratio c unfinished some inside enters ratios (record { row = i; rising = rising; is = refl; wide = wide })
  due_at _ (of_pivot c p o unfinished some inside enters leaves at) wide =
      at_pivot c p some (record { inside = inside; unfinished = unfinished; enters = enters; leaves = leaves })
      (record { at = place_kept (rows_of t) (entry_at t) (home_at t) (column_of t c) p (entry_kept t) o at; wide = wide })

  pub due_here : (w : WideAt) → IsWideAt Due w → IsDueWide phase costs t left w
  due_here w h = due_at (operation_of w) h.at h.wide
