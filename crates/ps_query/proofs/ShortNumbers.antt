-- The numbers in the line of an open part where a number is too wide are below 10^64.
use Rattle.std.proofs.Common.{ℕ, ◌+◌, ◌<◌, ◌≤◌, List, [], ◌∷◌, ◌++◌, arith}
use Rattle.std.specs.List.{AllByRecursion}
use Rattle.ps_frac.specs.declared.wide.Op.{Op}
use Rattle.ps_frac.specs.declared.wide.Op.TheVariants as op
use Rattle.ps_table.specs.declared.col.Col.{Col}
use Rattle.ps_table.specs.declared.col.Col.TheVariants as col
use Rattle.ps_table.specs.Tableau.{IsHome, IsShown}
use Rattle.ps_table.specs.declared.limits.TheConstants.{MOST_ROWS}
use Rattle.ps_table.specs.declared.place.Place.{Place}
use Rattle.ps_table.specs.declared.place.Place.TheVariants as place
use Rattle.ps_table.specs.declared.place.TableCol.{TableCol}
use Rattle.ps_table.specs.declared.place.TableCol.TheVariants as shown
use Rattle.ps_answer.specs.declared.limits.TheConstants.{MOST_OPERAND, MOST_WORLD}
use Rattle.ps_answer.specs.declared.item.Ratio.{Ratio}
use Rattle.ps_answer.specs.declared.item.LineItem.{LineItem}
use Rattle.ps_answer.specs.declared.item.LineItem.TheVariants as line
use Rattle.ps_answer.specs.Words.{Word, Fraction, Column, IsShortWord}
use Rattle.ps_answer.specs.Items.{IsTold, IsProper, IsRatioWithin, HasShortNumbers, count, op_word, shown_word, place_words}
use Rattle.ps_query.proofs.Places.{IsWorldUnder, IsPlaceUnder}

-- the numbers of a proper line tell a step or a goal
pub told_of : (i : LineItem) → IsProper i → IsTold i
told_of (line.StepLine s) h = h
told_of (line.GoalLine g) h = h
told_of other h = tt

row_short : (rows i : ℕ) → rows ≤ MOST_ROWS → i < rows → IsShortWord (count i)
row_short rows i few h = omega (arith, few, h)

world_short : (most n : ℕ) → most ≤ MOST_WORLD + 1 → IsWorldUnder most n → IsShortWord (count n)
world_short most n worlds h = omega (arith, worlds, h.1)

home_short : (rows : ℕ) (c : Col) → rows ≤ MOST_ROWS → IsHome rows c → IsShortWord (Column c)
home_short rows (col.Home i) few h = omega (arith, few, h)
home_short rows (col.World n) few h = absurd h

shown_short : (rows : ℕ) (c : TableCol) → rows ≤ MOST_ROWS → IsShown rows c → IsShortWord (shown_word c)
shown_short rows shown.Right few h = tt
shown_short rows (shown.Of c) few h = home_short rows c few h

place_short : (rows most : ℕ) (at : Place) (more : List Word) → rows ≤ MOST_ROWS → most ≤ MOST_WORLD + 1 → IsPlaceUnder rows most at → AllByRecursion IsShortWord more
    → AllByRecursion IsShortWord (place_words at ++ more)
place_short rows most (place.Ratio i) more few worlds h m = (tt, (row_short rows i few h, m))
place_short rows most (place.Scale j) more few worlds h m = (tt, (shown_short rows j few h, m))
place_short rows most (place.Times i j) more few worlds h m = (tt, (row_short rows i few h.0, (shown_short rows j few h.1, m)))
place_short rows most (place.Minus i j) more few worlds h m = (tt, (row_short rows i few h.0, (shown_short rows j few h.1, m)))
place_short rows most (place.Cost j i) more few worlds h m = (tt, (home_short rows j few h.0, (row_short rows i few h.1, m)))
place_short rows most (place.Whole i) more few worlds h m = (tt, (row_short rows i few h, m))
place_short rows most (place.Scaled i) more few worlds h m = (tt, (row_short rows i few h, m))
place_short rows most (place.Weight i) more few worlds h m = (tt, (row_short rows i few h, m))
place_short rows most (place.Weighed i) more few worlds h m = (tt, (row_short rows i few h, m))
place_short rows most (place.Total i) more few worlds h m = (tt, (row_short rows i few h, m))
place_short rows most (place.PriceTimes n k) more few worlds h m = (tt, (world_short most n worlds h.0, (row_short rows k few h.1, m)))
place_short rows most (place.PricePlus n k) more few worlds h m = (tt, (world_short most n worlds h.0, (row_short rows k few h.1, m)))
place_short rows most (place.ColumnTimes n i k) more few worlds h m =
    (tt, (world_short most n worlds h.0, (row_short rows i few h.1, (row_short rows k few h.2, m))))
place_short rows most (place.ColumnPlus n i k) more few worlds h m =
    (tt, (world_short most n worlds h.0, (row_short rows i few h.1, (row_short rows k few h.2, m))))

op_short : (o : Op) → IsShortWord (op_word o)
op_short op.Add = tt
op_short op.Sub = tt
op_short op.Mul = tt
op_short op.Div = tt
op_short op.Lcm = tt

operand_short : (q : Ratio) → IsRatioWithin MOST_OPERAND q → IsShortWord (Fraction q)
operand_short q h = (let a = h.0 in omega (arith, a), let b = h.1 in omega (arith, b))

pub wide_numbers : (rows most : ℕ) (at : Place) (o : Op) (left right : Ratio) → rows ≤ MOST_ROWS → most ≤ MOST_WORLD + 1 → IsPlaceUnder rows most at
    → IsRatioWithin MOST_OPERAND left → IsRatioWithin MOST_OPERAND right → HasShortNumbers (line.OpenWide at o left right)
wide_numbers rows most at o left right few worlds h l r =
    (tt, (tt, place_short rows most at (op_word o ∷ Fraction left ∷ Fraction right ∷ []) few worlds h (op_short o, (operand_short left l, (operand_short right r, tt)))))
