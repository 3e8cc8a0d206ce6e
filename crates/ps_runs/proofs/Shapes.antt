-- A solver's table of the setting's rows and the pool's worlds is, as the rule sees it, the table of the setting.
use Rattle.std.proofs.Common.{◌≡◌, ℕ, zero, suc, ◌+◌, ◌-◌, ◌<◌, Bool, true, false, List, [], ◌∷◌, map, length, get_or, sym, refl, ap, ◌∙◌, subst, arith, inl, inr}
use Rattle.std.proofs.lemmas.Bool.{cases_eq}
use Rattle.std.proofs.lemmas.List.{length-map}
use Rattle.ps_meaning.specs.Formula.{World}
use Rattle.ps_meaning.specs.Rational.{Rational}
use Rattle.ps_meaning.proofs.Field.{one_not_zero}
use Rattle.ps_simplex.specs.Table.{IsBasisTable}
use Rattle.ps_table.specs.declared.col.Col.{Col}
use Rattle.ps_table.specs.declared.col.Col.TheVariants as col
use Rattle.ps_table.specs.declared.home.Home.TheVariants.{Slack}
use Rattle.ps_table.specs.Tableau.{Tableau, IsInside, IsTableFor, number_in, entry_at, basic_at}
use Rattle.ps_bland.specs.Rules.{simplex_of, is_artificial, artificial_at}
use Rattle.ps_runs.specs.Rows.{Setting, artificial_rows, artificial_of, rows_of, width_of, columns_of, table_of, IsTable}
use Rattle.ps_runs.proofs.Columns.{rows_length}
use Rattle.ps_runs.specs.Rows.{home_of, homes_of}
use Rattle.ps_runs.specs.Tables.{IsRunTable}
use Rattle.ps_runs.specs.Subjects.{frame_over}

home_back : (b : Bool) → is_artificial (home_of b) ≡ b
home_back true = refl
home_back false = refl

homes_back : (bs : List Bool) (i : ℕ) → is_artificial (get_or (map home_of bs) i Slack) ≡ get_or bs i false
homes_back [] i = refl
homes_back (b ∷ bs) zero = home_back b
homes_back (b ∷ bs) (suc i) = homes_back bs i

pub inside_number : (n worlds : ℕ) (c : Col) → IsInside n worlds c → (0 < number_in n c) × (number_in n c < suc (n + worlds))
inside_number n worlds (col.Home i) h = (omega arith, omega (arith, h))
inside_number n worlds (col.World k) h = (omega (arith, h.0), omega (arith, h.1))

pub homes_count : (s : Setting) → length (homes_of s) ≡ rows_of s
homes_count s = length-map (artificial_rows s) home_of ∙ rows_length s

module _ (s : Setting) (pool : List World) (t : Tableau) (kinds : t.kinds ≡ homes_of s) (worlds : t.worlds ≡ length pool) where
  pub rows_are : length t.kinds ≡ rows_of s
  rows_are = ap (λ ks. length ks) kinds ∙ homes_count s

  pub width_is : suc (length t.kinds + t.worlds) ≡ width_of s pool
  width_is = λ i. suc (rows_are i + worlds i)

  pub artificial_is : (j : ℕ) → artificial_at t.kinds j ≡ artificial_of s j
  artificial_is j = ap (λ ks. is_artificial (get_or ks (j - 1) Slack)) kinds ∙ homes_back (artificial_rows s) (j - 1)

  pub same_table : simplex_of t ≡ table_of s pool (basic_at t) (entry_at t)
  same_table = λ i. record { rows = rows_are i; width = width_is i; entry = entry_at t; basic = basic_at t; artificial = λ j. artificial_is j i }

  pub stands_there : (A : ℕ → ℕ → Rational) → IsTableFor A t → IsBasisTable (rows_of s) (width_of s pool) A (basic_at t) (entry_at t)
  stands_there A stands = subst (λ k. IsBasisTable k (width_of s pool) A (basic_at t) (entry_at t)) rows_are (subst (λ w. IsBasisTable (length t.kinds) w A (basic_at t) (entry_at t)) width_is stands)

  pub stands_back : (A : ℕ → ℕ → Rational) → IsBasisTable (rows_of s) (width_of s pool) A (basic_at t) (entry_at t) → IsTableFor A t
  stands_back A stands =
      subst (λ w. IsBasisTable (length t.kinds) w A (basic_at t) (entry_at t)) (sym width_is) (subst (λ k. IsBasisTable k (width_of s pool) A (basic_at t) (entry_at t)) (sym rows_are) stands)

-- the table is one of the setting
pub run_table : (s : Setting) (pool : List World) (t : Tableau) → IsRunTable (frame_over s) pool t → IsTable s pool (basic_at t) (entry_at t)
run_table s pool t run =
    let e = rows_are s pool t run.kinds run.worlds in
    let w = width_is s pool t run.kinds run.worlds in
    record {
      stands = stands_there s pool t run.kinds run.worlds (columns_of s pool) run.stands;
      first = λ i l. (inside_number (length t.kinds) t.worlds (get_or t.basic i (col.Home 0)) (run.tableau.inside i (omega (arith, l, e)))).0;
      last = λ i l. let p = (inside_number (length t.kinds) t.worlds (get_or t.basic i (col.Home 0)) (run.tableau.inside i (omega (arith, l, e)))).1 in omega (arith, p, w);
      values = λ i l. run.values i (omega (arith, l, e));
    }

-- no column is basic in two rows
pub basics_differ : (s : Setting) (pool : List World) (t : Tableau) → IsRunTable (frame_over s) pool t → (i k : ℕ) → i < length t.kinds → k < length t.kinds → basic_at t i ≡ basic_at t k → i ≡ k
basics_differ s pool t run i k h l e =
    elim (cases_eq k i) [
      | inl same ↦ sym same
      | inr ne ↦ absurd (one_not_zero (sym (run.stands.here i h) ∙ ap (entry_at t i) e ∙ run.stands.apart i k h l ne))
    ]
