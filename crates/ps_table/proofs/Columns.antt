-- Places in a list of columns.
use Rattle.std.proofs.Common.{◌≡◌, ◌≢◌, ℕ, suc, ◌+◌, ◌-◌, ◌*◌, ◌/◌, ◌%◌, ◌<◌, ◌≤◌, List, [], ◌∷◌, ◌++◌, length, get_or, arith, refl, ap, sym, ◌∙◌, subst}
use Rattle.std.proofs.lemmas.Nat.{mod-mul-add, div-mul-add}
use Rattle.std.proofs.Math.ListN.{get_or-append}
use Rattle.std.proofs.Common.{Result, Ok, Err, IfErr, IsErr}
use Rattle.ps_meaning.specs.Rational.{Rational}
use Rattle.ps_meaning.specs.Rational.{zero_q}
use Rattle.ps_frac.specs.declared.wide.Op.{Op}
use Rattle.ps_table.specs.declared.place.Place.{Place}
use Rattle.ps_table.specs.declared.place.WideAt.{WideAt}
use Rattle.ps_table.specs.Places.{Operation, IsWide, IsWideAt}
use Rattle.ps_table.proofs.Operations.{operation}
use Rattle.std.proofs.Common.{set, get_or-set_same, get_or-set_other, cond, eq-eqb}
use Rattle.std.proofs.lemmas.Bool.{ne_eqb}
use Rattle.ps_meaning.specs.Rational.{mul, neg, fraction}
use Rattle.ps_meaning.proofs.Ring.{var, by, minus, none, unit}
use Rattle.ps_meaning.specs.Sums.{sum_to}
use Rattle.ps_meaning.proofs.Sums.{sum_same}
use Rattle.std.proofs.Common.{ℤ, pos, negsuc, get_or-append-add}
use Rattle.ps_table.specs.declared.home.Home.{Home}
use Rattle.ps_simplex.specs.Table.{unit_at, HasHomes, IsBasisTable, Based}
use Rattle.ps_simplex.proofs.Units.{unit_at-same, unit_at-other}
use Rattle.ps_simplex.proofs.Columns.{stands_new, stands_more}
use Rattle.ps_meaning.specs.Rational.{sub, div}
use Rattle.ps_meaning.proofs.Field.{ring_q, one_is_fraction, zero_is_fraction, minus_one_is_fraction}
use Rattle.ps_simplex.proofs.PivotKeeps.{stands_kept}
use Rattle.ps_table.specs.declared.col.Col.{Col}
use Rattle.ps_table.specs.declared.col.Col.TheVariants as col
use Rattle.std.proofs.Common.{inl, inr}
use Rattle.std.proofs.lemmas.Bool.{cases_eq}
use Rattle.std.proofs.lemmas.List.{length-append}
use Rattle.std.proofs.Math.Seq.{get_or-append_seam}
use Rattle.ps_table.specs.declared.pool.TheConstants.{MOST_WORLDS}
use Rattle.ps_table.specs.Tableau.{Tableau, IsTableau, IsInside, IsPivot, home_at, entry_at, cell_at, basic_at, number_in, IsTableFor, IsAdded, IsColumn, extended, column_part, world_entry}
use Rattle.ps_table.specs.Places.{column_of}
use Rattle.ps_table.specs.Grids.{pivot_cell, grid_of, ArePivotedBy}
use Rattle.ps_table.proofs.Extended.{extended_home, extended_before, extended_here, pivots_extend}
use Rattle.std.proofs.Math.Nat.{mul-le-mul_right}

pub cell_within : (i j n w len : ℕ) → i < n → j < w → len ≡ w * n → j * n + i < len
cell_within i j n w len hi hj e = let l : suc j ≤ w = omega arith in omega (arith, mul-le-mul_right n l)

-- what is refused where it is wide, with its place and operands, is refused at one of the places
pub refused_at : (P : Operation → Type 0) (r : Result Rational WideAt) (place : Place) (op : Op) (x y a b : Rational) → x ≡ a → y ≡ b → IfErr r (λ w. w ≡ record { place = place; op = op; left = x; right = y }) → (IsErr r → IsWide (operation place op x y)) → P (operation place op a b) → IfErr r (IsWideAt P)
refused_at P (Ok v) place op x y a b ex ey e h p = tt
refused_at P (Err w) place op x y a b ex ey e h p =
    subst (IsWideAt P) (sym e) (record { at = subst (λ k. P (operation place op k y)) (sym ex) (subst (λ k. P (operation place op a k)) (sym ey) p); wide = h refl })

-- a column that is there has a place in the order
inside_more : (n worlds : ℕ) (q : Col) → IsInside n worlds q → IsInside n (worlds + 1) q
inside_more n worlds (col.Home i) h = h
inside_more n worlds (col.World k) h = (h.0, omega (arith, h.1))

pub number_within : (n worlds : ℕ) (q : Col) → IsInside n worlds q → number_in n q < suc (n + worlds)
number_within n worlds (col.Home i) h = omega arith
number_within n worlds (col.World k) h = omega (arith, h.1)

pivot_at : (X : ℕ → ℕ → Rational) (y : ℕ → Rational) (n p i j k : ℕ) → k ≡ j * n + i → i < n → pivot_cell X y p (k % n) (k / n) ≡ pivot_cell X y p i j
pivot_at X y n p i j k e h = (λ z. pivot_cell X y p ((ap (λ m. m % n) e ∙ mod-mul-add j n i h) z) ((ap (λ m. m / n) e ∙ div-mul-add j n i h) z))

pub pivot_own : (X : ℕ → ℕ → Rational) (y : ℕ → Rational) (p j : ℕ) → pivot_cell X y p p j ≡ div (X p j) (y p)
pivot_own X y p j = ap (λ b. cond b (div (X p j) (y p)) (sub (X p j) (mul (y p) (div (X p j) (y p))))) (eq-eqb p p refl)

pub pivot_other : (X : ℕ → ℕ → Rational) (y : ℕ → Rational) (p i j : ℕ) → i ≢ p → pivot_cell X y p i j ≡ sub (X i j) (mul (y i) (div (X p j) (y p)))
pivot_other X y p i j ne = ap (λ b. cond b (div (X p j) (y p)) (sub (X i j) (mul (y i) (div (X p j) (y p))))) (ne_eqb i p ne)

-- the table after a pivot that made these cells
abbrev pub turned : Tableau → ℕ → Col → List Rational → Tableau
turned t p q made = record { kinds = t.kinds; worlds = t.worlds; entries = t.entries; cells = made; basic = set t.basic p q }

pivot_based : (p : ℕ) (q : Col) (t : Tableau) (made : List Rational) → IsTableau t → p < length t.kinds → Based (length t.kinds) p (number_in (length t.kinds) q) (basic_at t) (basic_at (turned t p q made))
pivot_based p q t made ok hp =
    let n = length t.kinds in
    let hb : p < length t.basic = omega (arith, ok.basics) in
    record {
      here = ap (number_in n) (get_or-set_same t.basic p q (col.Home 0) hb);
      others = λ i hi ne. ap (number_in n) (rw get_or-set_other refl);
    }

pub pivot_is : (p : ℕ) (q : Col) (t : Tableau) (made : List Rational) → IsTableau t → p < length t.kinds
    → ArePivotedBy (grid_of t) (column_of t q) p made → IsPivot p q t (turned t p q made)
pivot_is p q t made ok hp h =
    let n = length t.kinds in
    let X = home_at t in
    let y = column_of t q in
    let at : (i j : ℕ) → i < n → j < suc n → cell_at n made i j ≡ pivot_cell X y p i j = λ i j hi hj. h.entries (j * n + i) (cell_within i j n (suc n) (length t.cells) hi hj ok.cells) ∙ pivot_at X y n p i j (j * n + i) refl hi in
    record {
      kinds = refl;
      worlds = refl;
      entries = refl;
      basic = refl;
      based = pivot_based p q t made ok hp;
      cells = pivots_extend n (suc (n + t.worlds)) p (number_in n q) X (cell_at n made) t.entries hp
          (λ j l. at p j hp (omega (arith, l)) ∙ pivot_own X y p j)
          (λ i j hi l ne. at i j hi (omega (arith, l)) ∙ pivot_other X y p i j ne ∙ ap (λ k. sub (X i j) (mul (y i) k)) (sym (at p j hp (omega (arith, l)) ∙ pivot_own X y p j)));
    }

pub pivot_stands : (A : ℕ → ℕ → Rational) (p : ℕ) (q : Col) (t : Tableau) (made : List Rational) → IsTableau t → p < length t.kinds → IsInside (length t.kinds) t.worlds q
    → entry_at t p (number_in (length t.kinds) q) ≢ zero_q
    → IsPivot p q t (turned t p q made) → IsTableFor A t → IsTableFor A (turned t p q made)
pivot_stands A p q t made ok hp hq nz h stands =
    let n = length t.kinds in
    stands_kept n (suc (n + t.worlds)) p (number_in n q) A (entry_at t) (entry_at (turned t p q made)) (basic_at t) (λ i. number_in n (get_or (set t.basic p q) i (col.Home 0)))
    (omega arith) (λ i hi. number_within n t.worlds (get_or t.basic i (col.Home 0)) (ok.inside i hi)) hp (number_within n t.worlds q hq) nz h.cells h.based stands

pub cost_of_one : (x : Rational) → x ≡ mul (fraction (pos 1) 1) x
cost_of_one x = ring_q (x ∷ []) (var 0) (by unit (var 0)) refl ∙ ap (λ k. mul k x) (sym one_is_fraction)

pub cost_of_zero : (x : Rational) → fraction (pos 0) 1 ≡ mul (fraction (pos 0) 1) x
cost_of_zero x = zero_is_fraction ∙ ring_q (x ∷ []) none (by none (var 0)) refl ∙ ap (λ k. mul k x) (sym zero_is_fraction)

pub cost_of_minus_one : (x : Rational) → neg x ≡ mul (fraction (negsuc 0) 1) x
cost_of_minus_one x = ring_q (x ∷ []) (minus (var 0)) (by (minus unit) (var 0)) refl ∙ ap (λ k. mul k x) (sym minus_one_is_fraction)

pub home_one : (i j : ℕ) → i ≡ j → fraction (pos 1) 1 ≡ unit_at i j
home_one i j e = one_is_fraction ∙ sym (unit_at-same i) ∙ ap (unit_at i) e

pub home_zero : (i j : ℕ) → i ≢ j → fraction (pos 0) 1 ≡ unit_at i j
home_zero i j ne = zero_is_fraction ∙ sym (unit_at-other i j ne)

first_at : (n i j k : ℕ) → k ≡ j * n + i → i < n → unit_at (k % n) (k / n - 1) ≡ unit_at i (j - 1)
first_at n i j k e h = λ z. unit_at ((ap (λ m. m % n) e ∙ mod-mul-add j n i h) z) ((ap (λ m. m / n) e ∙ div-mul-add j n i h) z - 1)

-- a table of these homes without a world
abbrev pub first_table : List Home → List Rational → List Col → Tableau
first_table kinds cells basic = record { kinds = kinds; worlds = 0; entries = []; cells = cells; basic = basic }

pub new_cells : (n : ℕ) (kinds : List Home) (cells : List Rational) (basic : List Col) → length kinds ≡ n
    → ((k : ℕ) → k < suc n * n → get_or cells k zero_q ≡ unit_at (k % n) (k / n - 1))
    → (i j : ℕ) → i < n → j ≤ n → entry_at (first_table kinds cells basic) i j ≡ unit_at i (j - 1)
new_cells n kinds cells basic e value = λ i j hi hj.
    extended_home (length kinds) (cell_at (length kinds) cells) [] i j (omega (arith, e, hj))
    ∙ ap (λ m. cell_at m cells i j) e ∙ value (j * n + i) (cell_within i j n (suc n) (suc n * n) hi (omega arith) refl) ∙ first_at n i j (j * n + i) refl hi

-- the table of the homes stands for all columns that begin with them
pub new_stands : (n : ℕ) (kinds : List Home) (cells : List Rational) (basic : List Col) → length kinds ≡ n → 0 < n → length cells ≡ suc n * n
    → ((k : ℕ) → k < suc n * n → get_or cells k zero_q ≡ unit_at (k % n) (k / n - 1))
    → ((i : ℕ) → i < n → get_or basic i (col.Home 0) ≡ col.Home i)
    → (A : ℕ → ℕ → Rational) → HasHomes n A → IsTableFor A (first_table kinds cells basic)
new_stands n kinds cells basic e h0 count value basics A homes =
    subst (λ m. IsBasisTable m (suc (m + 0)) A (λ i. number_in m (get_or basic i (col.Home 0))) (extended m (cell_at m cells) [])) (sym e)
    (stands_new n (suc (n + 0)) A (extended n (cell_at n cells) []) (λ i. number_in n (get_or basic i (col.Home 0))) h0 (omega arith) homes
    (λ i j hi hj. extended_home n (cell_at n cells) [] i j (omega (arith, hj)) ∙ value (j * n + i) (cell_within i j n (suc n) (suc n * n) hi (omega arith) refl) ∙ first_at n i j (j * n + i) refl hi)
    (λ i hi. ap (number_in n) (basics i hi))
    (omega arith))

-- the table with a world of these entries
abbrev pub grown : Tableau → List ℤ → Tableau
grown t entries = record { kinds = t.kinds; worlds = t.worlds + 1; entries = t.entries ++ entries ∷ []; cells = t.cells; basic = t.basic }

pub added_is : (entries : List ℤ) (t : Tableau) → IsTableau t → IsAdded entries t (grown t entries)
added_is entries t ok =
    let n = length t.kinds in
    record {
      kinds = refl;
      worlds = omega arith;
      added = refl;
      basic = refl;
      before = λ i j hi hj. extended_before n (home_at t) t.entries entries i j (omega (arith, ok.worlds, hj));
      here = λ i hi.
          extended_here n (home_at t) t.entries entries i (suc (n + t.worlds)) (ap (λ k. suc (n + k)) (sym ok.worlds))
          ∙ sum_same n (column_part (home_at t) entries i) (λ m. mul (entry_at t i (suc m)) (world_entry entries m))
          (λ m l. ap (λ k. mul k (world_entry entries m)) (sym (extended_home n (home_at t) t.entries i (suc m) (omega (arith, l)))));
    }

pub added_stands : (entries : List ℤ) (t : Tableau) → IsTableau t
    → (A : ℕ → ℕ → Rational) → IsColumn entries (length t.kinds) (suc (length t.kinds + t.worlds)) A → IsTableFor A t
    → IsTableFor A (grown t entries)
added_stands entries t ok A column stands =
    let n = length t.kinds in
    let w = suc (n + t.worlds) in
    let added = added_is entries t ok in
    let e : suc w ≡ suc (n + (t.worlds + 1)) = omega arith in
    subst (λ k. IsBasisTable n k A (basic_at t) (entry_at (grown t entries))) e
    (stands_more n w A (entry_at t) (entry_at (grown t entries)) (basic_at t) (omega arith) (λ i hi. number_within n t.worlds (get_or t.basic i (col.Home 0)) (ok.inside i hi))
    added.before
    (λ i hi. added.here i hi ∙ sum_same n (λ m. mul (entry_at t i (suc m)) (world_entry entries m)) (λ m. mul (entry_at t i (suc m)) (A m w)) (λ m l. ap (mul (entry_at t i (suc m))) (sym (column m l))))
    stands)

-- a table that has grown is one as it is kept
pub grown_is_tableau : (entries : List ℤ) (t : Tableau) → IsTableau t → length entries ≡ length t.kinds → t.worlds < MOST_WORLDS → IsTableau (grown t entries)
grown_is_tableau entries t ok count room = record {
  some = ok.some;
  few = ok.few;
  many = omega (arith, room);
  cells = ok.cells;
  worlds = length-append t.entries (entries ∷ []) ∙ ap (λ n. n + 1) ok.worlds;
  columns = λ k l. elim (cases_eq k t.worlds) [
    | inl same ↦ ap (λ es. length es) (ap (λ m. get_or (t.entries ++ entries ∷ []) m []) (same ∙ sym ok.worlds) ∙ get_or-append_seam t.entries entries [] []) ∙ count
    | inr ne ↦ ap (λ es. length es) (get_or-append t.entries (entries ∷ []) [] k (omega (arith, l, ne, ok.worlds))) ∙ ok.columns k (omega (arith, l, ne))
  ];
  basics = ok.basics;
  inside = λ i l. inside_more (length t.kinds) t.worlds (get_or t.basic i (col.Home 0)) (ok.inside i l);
}
