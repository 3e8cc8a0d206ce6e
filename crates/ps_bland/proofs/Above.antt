-- Columns of worlds that have 1 in row 0, and costs of 0 and -1.
use Rattle.std.proofs.Common.{◌≡◌, ◌⊎◌, inl, inr, ℕ, suc, zero, ◌+◌, ◌-◌, ◌<◌, ◌≤◌, ℤ, pos, negsuc, ◌≤ℤ◌, List, [], ◌++◌, length, get_or, get_or-append-add, Bool, true, false, ltb, lt-ltb, le-ltb, refl, sym, ap, ◌∙◌, subst, arith}
use Rattle.std.proofs.Math.ListN.{get_or-append}
use Rattle.std.proofs.lemmas.Int.{ints}
use Rattle.std.proofs.lemmas.Bool.{cases_lt}
use Rattle.ps_meaning.specs.Rational.{Rational, fraction, neg, zero_q, one_q}
use Rattle.ps_meaning.specs.Order.{IsNonneg}
use Rattle.ps_meaning.proofs.Field.{zero_is_fraction, one_is_fraction, minus_one_is_fraction}
use Rattle.ps_meaning.proofs.Order.{above_nonneg, one_above}
use Rattle.ps_simplex.specs.Table.{unit_at}
use Rattle.ps_table.specs.declared.costs.Costs.{Costs}
use Rattle.ps_table.specs.Tableau.{Tableau, IsTableFor, IsColumn}
use Rattle.ps_table.specs.Pricing.{cost_at, cost_number, HasCosts}
use Rattle.ps_simplex.specs.Rule.{IsFeasible}
use Rattle.ps_simplex.specs.declared.phase.Phase.TheVariants.{Upper}
use Rattle.ps_bland.specs.Columns.{AreColumns}
use Rattle.ps_bland.specs.Rules.{simplex_of}
use Rattle.ps_bland.specs.Ready.{HasUnitRow, HasNoNegativeValue, IsReady}
use Rattle.ps_bland.proofs.Ready.{unit_nonneg}

-- row m of a home's column, and of a world's
pick : ℕ → List (List ℤ) → ℕ → ℕ → Bool → Rational
pick n worlds m j false = unit_at m (j - 1)
pick n worlds m j true = fraction (get_or (get_or worlds (j - suc n) []) m (pos 0)) 1

columns_of : ℕ → List (List ℤ) → ℕ → ℕ → Rational
columns_of n worlds m j = pick n worlds m j (ltb n j)

column_home : (n : ℕ) (worlds : List (List ℤ)) (m j : ℕ) → j ≤ n → columns_of n worlds m j ≡ unit_at m (j - 1)
unfolding columns_of pick
column_home n worlds m j h = ap (pick n worlds m j) (le-ltb n j h)

column_world : (n : ℕ) (worlds : List (List ℤ)) (m k : ℕ) → columns_of n worlds m (suc (n + k)) ≡ fraction (get_or (get_or worlds k []) m (pos 0)) 1
unfolding columns_of pick
column_world n worlds m k =
    let e : suc (n + k) - suc n ≡ k = omega arith in
    ap (pick n worlds m (suc (n + k))) (lt-ltb n (suc (n + k)) (omega arith)) ∙ ap (λ i. fraction (get_or (get_or worlds i []) m (pos 0)) 1) e

are_columns : (n : ℕ) (worlds : List (List ℤ)) → AreColumns n worlds (columns_of n worlds)
are_columns n worlds = record { homes = λ m j _ h. column_home n worlds m j h; entries = λ k m _ _. column_world n worlds m k }

-- a place behind the homes is that of a world
world_at : (n j : ℕ) → n < j → j ≡ suc (n + (j - suc n))
world_at n j h = omega arith

row_one : (n : ℕ) (worlds : List (List ℤ)) → ((k : ℕ) → k < length worlds → get_or (get_or worlds k []) 0 (pos 0) ≡ pos 1) → (j : ℕ) → n < j → j < suc (n + length worlds) → columns_of n worlds 0 j ≡ one_q
row_one n worlds ones j h l =
    ap (columns_of n worlds 0) (world_at n j h) ∙ column_world n worlds 0 (j - suc n) ∙ ap (λ z. fraction z 1) (ones (j - suc n) (omega arith)) ∙ one_is_fraction

row_nonneg : (n : ℕ) (worlds : List (List ℤ)) → ((k : ℕ) → k < length worlds → get_or (get_or worlds k []) 0 (pos 0) ≡ pos 1) → (j : ℕ) → j < suc (n + length worlds) → IsNonneg (columns_of n worlds 0 j)
row_nonneg n worlds ones j l =
    elim (cases_lt n j) [
      | inl h ↦ subst IsNonneg (sym (row_one n worlds ones j h l)) (above_nonneg one_q one_above)
      | inr h ↦ subst IsNonneg (sym (column_home n worlds 0 j h)) (unit_nonneg 0 (j - 1))
    ]

between : (z : ℤ) → negsuc 0 ≤ℤ z → z ≤ℤ pos 0 → (z ≡ pos 0) ⊎ (z ≡ negsuc 0)
between (pos zero) l h = inl refl
between (pos (suc n)) l h = absurd (omega (arith, ints, l, h))
between (negsuc zero) l h = inr refl
between (negsuc (suc n)) l h = absurd (omega (arith, ints, l, h))

only_zero : (z : ℤ) → pos 0 ≤ℤ z → z ≤ℤ pos 0 → z ≡ pos 0
only_zero z l h = omega (arith, ints, l, h)

home_number : (costs : Costs) (n j : ℕ) → length costs.homes ≡ n → 0 < j → j ≤ n → cost_number costs j ≡ get_or costs.homes (j - 1) (pos 0)
home_number costs n j e a b = get_or-append costs.homes costs.worlds (pos 0) (j - 1) (omega arith)

world_number : (costs : Costs) (n j : ℕ) → length costs.homes ≡ n → n < j → cost_number costs j ≡ get_or costs.worlds (j - suc n) (pos 0)
world_number costs n j e a =
    let k : j - 1 ≡ length costs.homes + (j - suc n) = omega arith in
    ap (λ i. get_or (costs.homes ++ costs.worlds) i (pos 0)) k ∙ get_or-append-add costs.homes costs.worlds (j - suc n) (pos 0)

-- what is known of costs and worlds
pub record AreAbove (costs : Costs) (t : Tableau) (worlds : List (List ℤ)) : Type 0 where
  pub costs_there : HasCosts costs t
  pub enough : t.worlds ≤ length worlds
  pub homes_low : (i : ℕ) → i < length costs.homes → pos 0 ≤ℤ get_or costs.homes i (pos 0)
  pub homes_high : (i : ℕ) → i < length costs.homes → get_or costs.homes i (pos 0) ≤ℤ pos 0
  pub worlds_low : (i : ℕ) → i < length costs.worlds → negsuc 0 ≤ℤ get_or costs.worlds i (pos 0)
  pub worlds_high : (i : ℕ) → i < length costs.worlds → get_or costs.worlds i (pos 0) ≤ℤ pos 0
  pub ones : (k : ℕ) → k < length worlds → get_or (get_or worlds k []) 0 (pos 0) ≡ pos 1

module _ (costs : Costs) (t : Tableau) (worlds : List (List ℤ)) (above : AreAbove costs t worlds) where
  abbrev n : ℕ
  n = length t.kinds

  home_zero : (j : ℕ) → 0 < j → j ≤ n → cost_at costs j ≡ zero_q
  home_zero j a b =
      let l : j - 1 < length costs.homes = omega (arith, above.costs_there.homes) in
      ap (λ z. fraction z 1) (home_number costs n j above.costs_there.homes a b ∙ only_zero (get_or costs.homes (j - 1) (pos 0)) (above.homes_low (j - 1) l) (above.homes_high (j - 1) l)) ∙ zero_is_fraction

  world_cost : (j : ℕ) → n < j → j < suc (n + t.worlds) → (cost_at costs j ≡ zero_q) ⊎ (cost_at costs j ≡ neg one_q)
  world_cost j a b =
      let l : j - suc n < length costs.worlds = omega (arith, above.costs_there.worlds) in
      let e : cost_number costs j ≡ get_or costs.worlds (j - suc n) (pos 0) = world_number costs n j above.costs_there.homes a in
      elim (between (get_or costs.worlds (j - suc n) (pos 0)) (above.worlds_low (j - suc n) l) (above.worlds_high (j - suc n) l)) [
        | inl z ↦ inl (ap (λ k. fraction k 1) (e ∙ z) ∙ zero_is_fraction)
        | inr z ↦ inr (ap (λ k. fraction k 1) (e ∙ z) ∙ minus_one_is_fraction)
      ]

  unit_row : 0 < n → ((A : ℕ → ℕ → Rational) → AreColumns n worlds A → IsTableFor A t) → HasUnitRow costs t
  unit_row some stands = record {
    columns = columns_of n worlds;
    belongs = (stands (columns_of n worlds) (are_columns n worlds)).belongs;
    row = λ j a b. row_nonneg n worlds above.ones j (omega (arith, above.enough));
    cost = λ j a b.
        elim (cases_lt n j) [
          | inl h ↦ elim (world_cost j h b) [ inl e ↦ inl e | inr e ↦ inr (e, row_one n worlds above.ones j h (omega (arith, above.enough))) ]
          | inr h ↦ inl (home_zero j a h)
        ];
  }

  pub ready_above : 0 < n → ((A : ℕ → ℕ → Rational) → AreColumns n worlds A → IsTableFor A t) → HasNoNegativeValue t → IsFeasible (simplex_of t) → IsReady Upper costs t
  ready_above some stands values feasible = record { costs_there = above.costs_there; values = values; fits = (feasible, unit_row some stands) }

-- what a test asks of costs and worlds makes a table ready for the greatest value
pub ready_checked : (n : ℕ) (costs : Costs) (t : Tableau) (worlds : List (List ℤ)) → 0 < n → length t.kinds ≡ n → length costs.homes ≡ n → t.worlds ≤ length costs.worlds → t.worlds ≤ length worlds
    → ((i : ℕ) → i < length costs.homes → pos 0 ≤ℤ get_or costs.homes i (pos 0)) → ((i : ℕ) → i < length costs.homes → get_or costs.homes i (pos 0) ≤ℤ pos 0)
    → ((i : ℕ) → i < length costs.worlds → negsuc 0 ≤ℤ get_or costs.worlds i (pos 0)) → ((i : ℕ) → i < length costs.worlds → get_or costs.worlds i (pos 0) ≤ℤ pos 0)
    → ((k : ℕ) → k < length worlds → get_or (get_or worlds k []) 0 (pos 0) ≡ pos 1)
    → ((A : ℕ → ℕ → Rational) → AreColumns n worlds A → IsTableFor A t) → HasNoNegativeValue t → IsFeasible (simplex_of t) → IsReady Upper costs t
ready_checked n costs t worlds some rows eh lw le hl hh wl wh ones stands values feasible =
    let above : AreAbove costs t worlds = record {
      costs_there = record {
        homes = eh ∙ sym rows;
        worlds = lw;
        small = record {
          homes_low = λ i l. let a = hl i l in omega (arith, ints, a);
          homes_high = λ i l. let a = hh i l in omega (arith, ints, a);
          worlds_low = wl;
          worlds_high = λ i l. let a = wh i l in omega (arith, ints, a);
        };
      };
      enough = le;
      homes_low = hl;
      homes_high = hh;
      worlds_low = wl;
      worlds_high = wh;
      ones = ones;
    } in
    ready_above costs t worlds above (omega (arith, rows, some)) (λ A h. stands A (subst (λ k. AreColumns k worlds A) rows h)) values feasible

-- the column of the next world
pub world_column : (n : ℕ) (A : ℕ → ℕ → Rational) (worlds : List (List ℤ)) (k : ℕ) (entries : List ℤ) (t : Tableau) → entries ≡ get_or worlds k [] → length t.kinds ≡ n → t.worlds ≡ k → k < length worlds → AreColumns n worlds A → IsColumn entries (length t.kinds) (suc (length t.kinds + t.worlds)) A
world_column n A worlds k entries t e rows count within h = λ m l.
    (λ z. A m (suc (rows z + count z))) ∙ h.entries k m within (subst (λ n. m < n) rows l) ∙ ap (λ list. fraction (get_or list m (pos 0)) 1) (sym e)
