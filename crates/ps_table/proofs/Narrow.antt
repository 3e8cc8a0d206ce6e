-- Operations that are not wide, at single cells and at all places of a call.
use Rattle.std.proofs.Common.{◌≡◌, ◌≢◌, ℕ, suc, ◌+◌, ◌*◌, ◌/◌, ◌%◌, ◌<◌, List, length, arith, sym, ◌∙◌, ap, subst, ℤ, Result, Ok, Err, IfOk, IsErr, true, false, inl, inr}
use Rattle.std.proofs.lemmas.Bool.{cases_eq}
use Rattle.std.proofs.lemmas.Nat.{mod-mul-add, div-mul-add}
use Rattle.ps_frac.specs.declared.wide.Op.{Op}
use Rattle.ps_frac.specs.declared.wide.Op.TheVariants.{Add, Div}
use Rattle.ps_meaning.specs.Rational.{Rational}
use Rattle.ps_meaning.specs.Sums.{sum_to}
use Rattle.ps_meaning.proofs.Sums.{sum_same}
use Rattle.ps_table.specs.declared.col.Col.{Col}
use Rattle.ps_table.specs.declared.place.WideAt.{WideAt}
use Rattle.ps_table.specs.declared.place.TableCol.{TableCol}
use Rattle.ps_table.specs.declared.place.TableCol.TheVariants.{Right, Of}
use Rattle.ps_table.specs.declared.col.Col.TheVariants as col
use Rattle.ps_table.specs.declared.costs.Costs.{Costs}
use Rattle.ps_table.specs.declared.place.Place.TheVariants.{Scale, Times, Minus, ColumnTimes, ColumnPlus}
use Rattle.ps_frac.specs.declared.wide.Op.TheVariants.{Sub, Mul}
use Rattle.ps_meaning.specs.Rational.{mul, div}
use Rattle.ps_table.specs.Tableau.{Tableau, number_in, number_shown, rows_of, home_at, IsShown, world_entry, column_part}
use Rattle.ps_table.specs.Places.{Operation, IsWide, IsWideAt, IsOperationWide, PivotPlace, at_scale, at_times, at_minus, ColumnPlace, at_column_times, at_column_plus, CostPlace, at_cost, IsNarrow}
use Rattle.ps_table.specs.Places.{at_price_times, at_price_plus, HomePlaces, PricePlaces, WorldPlaces, of_multiplier, of_price, PivotPlaces, of_column, of_homes, HasNarrowColumn, column_of}
use Rattle.ps_table.specs.Prices.{IsNarrowPrice}
use Rattle.ps_table.proofs.Operations.{operation, operation_of}
use Rattle.ps_table.specs.Pricing.{cost_part}
use Rattle.ps_table.specs.Grids.{IsNarrowCell, IsNarrowPart}
use Rattle.ps_table.proofs.Columns.{cell_within}

-- what is refused wherever it is wide is not wide where it is done
narrow_at : (r : Result Rational WideAt) (W : Type 0) → (W → IsErr r) → IfOk r (λ _. ¬ W)
narrow_at (Ok v) W h = λ w. let bad : false ≡ true = h w in cc
narrow_at (Err e) W h = tt

-- the same for operands that are given by name
pub narrow_as : (r : Result Rational WideAt) (op : Op) (x y a b : Rational) → x ≡ a → y ≡ b → (IsOperationWide op x y → IsErr r) → IfOk r (λ _. ¬ IsOperationWide op a b)
narrow_as r op x y a b ex ey h = narrow_at r (IsOperationWide op a b) (λ w. h (subst (λ k. IsOperationWide op k y) (sym ex) (subst (λ k. IsOperationWide op a k) (sym ey) w)))

-- what holds below k and at k holds below k + 1
pub all_more : (P : ℕ → Type 0) (k : ℕ) → ((m : ℕ) → m < k → P m) → P k → (m : ℕ) → m < k + 1 → P m
all_more P k h e = λ m l. elim (cases_eq m k) [
  | inl same ↦ subst P (sym same) e
  | inr ne ↦ h m (omega arith)
]

shown_within : (n : ℕ) (c : TableCol) → IsShown n c → number_shown n c < suc n
shown_within n Right h = omega arith
shown_within n (Of (col.Home i)) h = omega (arith, h)
shown_within n (Of (col.World k)) h = absurd h

pivot_nowhere : (n : ℕ) (X : ℕ → ℕ → Rational) (y : ℕ → Rational) (p : ℕ)
    → ((j : ℕ) → j < suc n → ¬ IsOperationWide Div (X p j) (y p))
    → ((i j : ℕ) → i < n → j < suc n → i ≢ p → IsNarrowCell X y p i j)
    → (o : Operation) → PivotPlace n X y p o → ¬ IsWide o
pivot_nowhere n X y p scale cells _ (at_scale c shown) = scale (number_shown n c) (shown_within n c shown)
pivot_nowhere n X y p scale cells _ (at_times i c hi ne shown) = (cells i (number_shown n c) hi (shown_within n c shown) ne).times
pivot_nowhere n X y p scale cells _ (at_minus i c hi ne shown) = (cells i (number_shown n c) hi (shown_within n c shown) ne).minus

cell_of : (n w p len : ℕ) (X : ℕ → ℕ → Rational) (y : ℕ → Rational) → len ≡ w * n
    → ((k : ℕ) → k < len → k % n ≢ p → IsNarrowCell X y p (k % n) (k / n))
    → (i j : ℕ) → i < n → j < w → i ≢ p → IsNarrowCell X y p i j
cell_of n w p len X y e h i j hi hj ne =
    let row : (j * n + i) % n ≡ i = mod-mul-add j n i hi in
    let column : (j * n + i) / n ≡ j = div-mul-add j n i hi in
    subst (λ b. IsNarrowCell X y p i b) column
    (subst (λ a. IsNarrowCell X y p a ((j * n + i) / n)) row (h (j * n + i) (cell_within i j n w len hi hj e) (λ same. ne (sym row ∙ same))))

-- the row that is divided, and then all cells in their order, make the whole pivot
pub pivot_narrow : (n p len : ℕ) (X : ℕ → ℕ → Rational) (y : ℕ → Rational) → len ≡ suc n * n
    → ((j : ℕ) → j < suc n → ¬ IsOperationWide Div (X p j) (y p))
    → ((k : ℕ) → k < len → k % n ≢ p → IsNarrowCell X y p (k % n) (k / n))
    → IsNarrow (PivotPlace n X y p)
pivot_narrow n p len X y e scale cells = record { nowhere = pivot_nowhere n X y p scale (cell_of n (suc n) p len X y e cells) }

-- the places of a pivot are those by a column of the same entries
pub place_same : (n : ℕ) (X Z : ℕ → ℕ → Rational) (y z : ℕ → Rational) (p : ℕ) → p < n → ((i j : ℕ) → i < n → j < suc n → X i j ≡ Z i j) → ((i : ℕ) → i < n → y i ≡ z i)
    → (o : Operation) → PivotPlace n X y p o → PivotPlace n Z z p o
place_same n X Z y z p hp same by_is _ (at_scale c shown) =
    let j = number_shown n c in
    subst (PivotPlace n Z z p) (λ k. operation (Scale c) Div (sym (same p j hp (shown_within n c shown)) k) (sym (by_is p hp) k)) (at_scale c shown)
place_same n X Z y z p hp same by_is _ (at_times i c hi ne shown) =
    let j = number_shown n c in
    subst (PivotPlace n Z z p) (λ k. operation (Times i c) Mul (sym (by_is i hi) k) (div (sym (same p j hp (shown_within n c shown)) k) (sym (by_is p hp) k))) (at_times i c hi ne shown)
place_same n X Z y z p hp same by_is _ (at_minus i c hi ne shown) =
    let j = number_shown n c in
    subst (PivotPlace n Z z p)
    (λ k. operation (Minus i c) Sub (sym (same i j hi (shown_within n c shown)) k) (mul (sym (by_is i hi) k) (div (sym (same p j hp (shown_within n c shown)) k) (sym (by_is p hp) k))))
    (at_minus i c hi ne shown)

-- the places of a pivot are those over the same right side and homes
pub place_kept : (n : ℕ) (X Z : ℕ → ℕ → Rational) (y : ℕ → Rational) (p : ℕ) → ((i j : ℕ) → j < suc n → X i j ≡ Z i j) → (o : Operation) → PivotPlace n X y p o → PivotPlace n Z y p o
place_kept n X Z y p same _ (at_scale c shown) =
    subst (PivotPlace n Z y p) (λ k. operation (Scale c) Div (sym (same p (number_shown n c) (shown_within n c shown)) k) (y p)) (at_scale c shown)
place_kept n X Z y p same _ (at_times i c hi ne shown) =
    subst (PivotPlace n Z y p) (λ k. operation (Times i c) Mul (y i) (div (sym (same p (number_shown n c) (shown_within n c shown)) k) (y p))) (at_times i c hi ne shown)
place_kept n X Z y p same _ (at_minus i c hi ne shown) =
    let j = number_shown n c in
    subst (PivotPlace n Z y p)
    (λ k. operation (Minus i c) Sub (sym (same i j (shown_within n c shown)) k) (mul (y i) (div (sym (same p j (shown_within n c shown)) k) (y p))))
    (at_minus i c hi ne shown)

-- and so are those of a column
pub column_kept : (n : ℕ) (X Z : ℕ → ℕ → Rational) (entries : List ℤ) (k i : ℕ) → ((m : ℕ) → m < n → X i (suc m) ≡ Z i (suc m)) → (o : Operation) → ColumnPlace n X entries k i o → ColumnPlace n Z entries k i o
column_kept n X Z entries k i same _ (at_column_times m hm) =
    subst (ColumnPlace n Z entries k i) (λ z. operation (ColumnTimes k i m) Mul (sym (same m hm) z) (world_entry entries m)) (at_column_times m hm)
column_kept n X Z entries k i same _ (at_column_plus m hm) =
    let part : (a : ℕ) → a < n → column_part Z entries i a ≡ column_part X entries i a = λ a l. ap (λ x. mul x (world_entry entries a)) (sym (same a l)) in
    subst (ColumnPlace n Z entries k i)
    (λ z. operation (ColumnPlus k i m) Add (sum_same m (column_part Z entries i) (column_part X entries i) (λ a l. part a (omega (arith, l, hm))) z) (part m hm z))
    (at_column_plus m hm)

column_nowhere : (n : ℕ) (X : ℕ → ℕ → Rational) (entries : List ℤ) (k i : ℕ) → ((m : ℕ) → m < n → IsNarrowPart X entries i m)
    → (o : Operation) → ColumnPlace n X entries k i o → ¬ IsWide o
column_nowhere n X entries k i parts _ (at_column_times m hm) = (parts m hm).times
column_nowhere n X entries k i parts _ (at_column_plus m hm) = (parts m hm).plus

-- all parts make the whole entry
pub column_narrow : (n : ℕ) (X : ℕ → ℕ → Rational) (entries : List ℤ) (k i : ℕ) → ((m : ℕ) → m < n → IsNarrowPart X entries i m) → IsNarrow (ColumnPlace n X entries k i)
column_narrow n X entries k i parts = record { nowhere = column_nowhere n X entries k i parts }

price_nowhere : (t : Tableau) (costs : Costs) (k : ℕ) → ((m : ℕ) → m < length t.kinds → IsNarrowPrice t costs k m)
    → (o : Operation) → PricePlaces t costs k o → ¬ IsWide o
price_nowhere t costs k parts _ (at_price_times m hm) = (parts m hm).times
price_nowhere t costs k parts _ (at_price_plus m hm) = (parts m hm).plus

-- all parts make the whole price
pub price_narrow : (t : Tableau) (costs : Costs) (k : ℕ) → ((m : ℕ) → m < length t.kinds → IsNarrowPrice t costs k m) → IsNarrow (PricePlaces t costs k)
price_narrow t costs k parts = record { nowhere = price_nowhere t costs k parts }

world_nowhere : (t : Tableau) (costs : Costs) (k : ℕ) → ((m : ℕ) → m < length t.kinds → IsNarrow (HomePlaces t costs m)) → IsNarrow (PricePlaces t costs k)
    → (o : Operation) → WorldPlaces t costs k o → ¬ IsWide o
world_nowhere t costs k homes price o (of_multiplier m hm h) = (homes m hm).nowhere o h
world_nowhere t costs k homes price o (of_price h) = price.nowhere o h

-- all multipliers and the price make what is carried of a world
pub world_narrow : (t : Tableau) (costs : Costs) (k : ℕ) → ((m : ℕ) → m < length t.kinds → IsNarrow (HomePlaces t costs m)) → IsNarrow (PricePlaces t costs k)
    → IsNarrow (WorldPlaces t costs k)
world_narrow t costs k homes price = record { nowhere = world_nowhere t costs k homes price }

pivots_nowhere : (t : Tableau) (p : ℕ) (q : Col) → HasNarrowColumn t q → IsNarrow (PivotPlace (rows_of t) (home_at t) (column_of t q) p)
    → (o : Operation) → PivotPlaces t p q o → ¬ IsWide o
pivots_nowhere t p q column homes o (of_column i hi h) = (column i hi).nowhere o h
pivots_nowhere t p q column homes o (of_homes h) = homes.nowhere o h

-- the column that enters and the pivot of the homes make the whole pivot
pub pivots_narrow : (t : Tableau) (p : ℕ) (q : Col) → HasNarrowColumn t q → IsNarrow (PivotPlace (rows_of t) (home_at t) (column_of t q) p)
    → IsNarrow (PivotPlaces t p q)
pivots_narrow t p q column homes = record { nowhere = pivots_nowhere t p q column homes }

-- a refusal at one of some places is at one of more
pub wide_more : (P Q : Operation → Type 0) (w : WideAt) → ((o : Operation) → P o → Q o) → IsWideAt P w → IsWideAt Q w
wide_more P Q w f h = record { at = f (operation_of w) h.at; wide = h.wide }

cost_nowhere : (n : ℕ) (cost : ℕ → Rational) (basic : ℕ → ℕ) (X : ℕ → ℕ → Rational) (c : Col)
    → ((i : ℕ) → i < n → ¬ IsOperationWide Add (sum_to i (cost_part cost basic X (number_in n c))) (cost_part cost basic X (number_in n c) i))
    → (o : Operation) → CostPlace n cost basic X c o → ¬ IsWide o
cost_nowhere n cost basic X c sums _ (at_cost i hi) = sums i hi

-- the sums of all rows make the whole of what is carried
pub cost_narrow : (n : ℕ) (cost : ℕ → Rational) (basic : ℕ → ℕ) (X : ℕ → ℕ → Rational) (c : Col)
    → ((i : ℕ) → i < n → ¬ IsOperationWide Add (sum_to i (cost_part cost basic X (number_in n c))) (cost_part cost basic X (number_in n c) i))
    → IsNarrow (CostPlace n cost basic X c)
cost_narrow n cost basic X c sums = record { nowhere = cost_nowhere n cost basic X c sums }
