-- A run's table is ready for each phase with the phase's costs.
use Rattle.std.proofs.Common.{◌≡◌, ℕ, suc, ◌+◌, ◌<◌, ◌≤◌, ℤ, pos, negsuc, neg_ℤ, ◌≤ℤ◌, Bool, true, false, cond, List, [], map, length, get_or, sym, ap, ◌∙◌, subst, arith}
use Rattle.std.proofs.lemmas.Int.{ints}
use Rattle.std.proofs.lemmas.List.{get_or-map, length-map}
use Rattle.ps_meaning.specs.Formula.{World, is_true}
use Rattle.ps_meaning.specs.Rational.{one_q, zero_q}
use Rattle.ps_simplex.specs.Rule.{IsFeasible}
use Rattle.ps_table.specs.Tableau.{Tableau}
use Rattle.ps_table.specs.Pricing.{HasCosts}
use Rattle.ps_simplex.specs.declared.phase.Phase.TheVariants as phase
use Rattle.ps_bland.specs.Rules.{simplex_of}
use Rattle.ps_bland.specs.Ready.{IsReady}
use Rattle.ps_bland.proofs.Posed.{ready_posed}
use Rattle.ps_claims.specs.declared.claim_kind.ClaimKind.{ClaimKind}
use Rattle.ps_claims.specs.declared.claim_kind.ClaimKind.TheVariants.{Nothing, Lower, Upper}
use Rattle.ps_runs.specs.Rows.{Setting, both_of, artificial_rows, rows_of, width_of, columns_of, home_cost, world_cost}
use Rattle.ps_runs.proofs.Columns.{rows_length}
use Rattle.ps_runs.proofs.Starts.{first_costs, side_homes, lower_worlds, upper_worlds, row_homes, row_worlds, row_costly}
use Rattle.ps_runs.specs.Tables.{costs_for, IsRunTable}
use Rattle.ps_runs.proofs.Shapes.{rows_are, width_is, artificial_is}
use Rattle.ps_runs.specs.Subjects.{frame_over}

abbrev is_first : ClaimKind → Type 0
is_first Nothing = Unit {0}
is_first Lower = ⊥
is_first Upper = ⊥

-- the sides aren't phase one
pub lower_apart : Lower ≡ Nothing → ⊥
lower_apart e = subst is_first (sym e) tt

pub upper_apart : Upper ≡ Nothing → ⊥
upper_apart e = subst is_first (sym e) tt

abbrev Narrow : ℤ → Type 0
Narrow z = (negsuc 0 ≤ℤ z) × (z ≤ℤ pos 1)

narrow_home : (kind : ClaimKind) (b : Bool) → Narrow (home_cost kind b)
narrow_home Nothing true = (omega (arith, ints), omega (arith, ints))
narrow_home Nothing false = (omega (arith, ints), omega (arith, ints))
narrow_home Lower b = (omega (arith, ints), omega (arith, ints))
narrow_home Upper b = (omega (arith, ints), omega (arith, ints))

narrow_up : (b : Bool) → Narrow (cond b (pos 1) (pos 0))
narrow_up true = (omega (arith, ints), omega (arith, ints))
narrow_up false = (omega (arith, ints), omega (arith, ints))

narrow_down : (b : Bool) → Narrow (neg_ℤ (cond b (pos 1) (pos 0)))
narrow_down true = (omega (arith, ints), omega (arith, ints))
narrow_down false = (omega (arith, ints), omega (arith, ints))

narrow_world : (kind : ClaimKind) (s : Setting) (w : World) → Narrow (world_cost kind s w)
narrow_world Nothing s w = (omega (arith, ints), omega (arith, ints))
narrow_world Lower s w = narrow_up (is_true (both_of s) w)
narrow_world Upper s w = narrow_down (is_true (both_of s) w)

-- what holds of a function's values holds of a list's images
images : {A : Type 0} (P : ℤ → Type 0) (f : A → ℤ) (xs : List A) (d : A) → ((x : A) → P (f x)) → (i : ℕ) → i < length (map f xs) → P (get_or (map f xs) i (pos 0))
images P f xs d h i l = subst P (sym (get_or-map f xs i d (pos 0) (subst (λ k. i < k) (length-map xs f) l))) (h (get_or xs i d))

module _ (s : Setting) (pool : List World) (t : Tableau) (run : IsRunTable (frame_over s) pool t) where
  abbrev rows_same : length t.kinds ≡ rows_of s
  rows_same = rows_are s pool t run.kinds run.worlds

  abbrev width_same : suc (length t.kinds + t.worlds) ≡ width_of s pool
  width_same = width_is s pool t run.kinds run.worlds

  pub has_costs : (kind : ClaimKind) → HasCosts (costs_for kind s pool) t
  has_costs kind = record {
    homes = length-map (artificial_rows s) (home_cost kind) ∙ rows_length s ∙ sym rows_same;
    worlds = let e = length-map pool (world_cost kind s) in let k = run.worlds in omega (arith, e, k);
    small = record {
      homes_low = images (λ z. negsuc 0 ≤ℤ z) (home_cost kind) (artificial_rows s) false (λ b. (narrow_home kind b).0);
      homes_high = images (λ z. z ≤ℤ pos 1) (home_cost kind) (artificial_rows s) false (λ b. (narrow_home kind b).1);
      worlds_low = images (λ z. negsuc 0 ≤ℤ z) (world_cost kind s) pool [] (λ w. (narrow_world kind s w).0);
      worlds_high = images (λ z. z ≤ℤ pos 1) (world_cost kind s) pool [] (λ w. (narrow_world kind s w).1);
    };
  }

  pub ready_first : IsReady phase.One (costs_for Nothing s pool) t
  ready_first =
      ready_posed phase.One (costs_for Nothing s pool) t (has_costs Nothing) run.values
      (record { cost = λ j h l. first_costs s pool j h (subst (λ w. j < w) width_same l) ∙ ap (λ b. cond b one_q zero_q) (sym (artificial_is s pool t run.kinds run.worlds j)) })

  pub ready_lower : IsFeasible (simplex_of t) → IsReady phase.Lower (costs_for Lower s pool) t
  ready_lower feasible =
      ready_posed phase.Lower (costs_for Lower s pool) t (has_costs Lower) run.values (
        feasible,
        record {
          homes = λ j h l. side_homes Lower s pool j (λ e. lower_apart e) h (subst (λ k. j ≤ k) rows_same l);
          worlds = λ j h l. lower_worlds s pool j (subst (λ k. k < j) rows_same h) (subst (λ w. j < w) width_same l);
        },
      )

  pub ready_upper : IsFeasible (simplex_of t) → IsReady phase.Upper (costs_for Upper s pool) t
  ready_upper feasible =
      ready_posed phase.Upper (costs_for Upper s pool) t (has_costs Upper) run.values (
        feasible,
        record {
          homes = λ j h l. side_homes Upper s pool j (λ e. upper_apart e) h (subst (λ k. j ≤ k) rows_same l);
          worlds = λ j h l. upper_worlds s pool j (subst (λ k. k < j) rows_same h) (subst (λ w. j < w) width_same l);
        },
        record {
          columns = columns_of s pool;
          belongs = run.stands.belongs;
          homes = λ j h l. row_homes s pool j (subst (λ k. j ≤ k) rows_same l);
          worlds = λ j h l. row_worlds s pool j (subst (λ k. k < j) rows_same h) (subst (λ w. j < w) width_same l);
          costly = λ j h l e. row_costly s pool j (subst (λ k. k < j) rows_same h) (subst (λ w. j < w) width_same l) e;
        },
      )
