-- What the rule says of one table it says of each that is alike.
use Rattle.std.proofs.Common.{◌≡◌, ℕ, ◌<◌, Bool, List, [], ◌∷◌, ◌++◌, append-nil, append_assoc, sym, refl, ap, ◌∙◌, subst, inl, inr}
use Rattle.std.proofs.lemmas.Bool.{cases_eq}
use Rattle.ps_meaning.specs.Rational.{Rational, mul, div}
use Rattle.ps_meaning.specs.Order.{AtMost, IsLess, IsAbove}
use Rattle.ps_meaning.specs.Sums.{sum_to}
use Rattle.ps_simplex.specs.Table.{Based, IsBasis, AreSameWithin, HaveSameCosts}
use Rattle.ps_simplex.proofs.Agreeing.{same_carried, same_belongs}
use Rattle.ps_simplex.specs.declared.phase.Phase.{Phase}
use Rattle.ps_simplex.specs.declared.phase.Phase.TheVariants.{One, Lower, Upper}
use Rattle.ps_simplex.specs.Rule.{SimplexTable, table_of, Improves, IsFeasible, IsDueToEnd, IsMoving, IsResting, Enters, IsArtificialRow, IsLeastArtificialRow, IsRising, ratio, Precedes, HasLeastRatio, LeavesInPhaseTwo, Leaves}
use Rattle.ps_simplex.specs.Pivots.{system_of, LinearProgram, linear_program, IsLawfulAt, Pivot, Pivots, still, more}
use Rattle.ps_simplex.specs.RuleLaws.{HaveSameArtificials, priced_columns, AreAlike}

module _ (n w : ℕ) (basic : ℕ → ℕ) (a b : ℕ → Bool) (cost other : ℕ → Rational) (X Y : ℕ → ℕ → Rational) where
  pub turned : AreAlike n w basic (priced_columns a cost X) (priced_columns b other Y) → AreAlike n w basic (priced_columns b other Y) (priced_columns a cost X)
  turned h = record {
    some = h.some;
    basis = h.basis;
    artificials = record { same = λ j l. sym (h.artificials.same j l) };
    costs = record { same = λ j l. sym (h.costs.same j l) };
    entries = record { same = λ i j k l. sym (h.entries.same i j k l) };
  }

module _ (n w : ℕ) (basic : ℕ → ℕ) (a b : ℕ → Bool) (cost other : ℕ → Rational) (X Y : ℕ → ℕ → Rational) (alike : AreAlike n w basic (priced_columns a cost X) (priced_columns b other Y)) where
  abbrev F : SimplexTable
  F = table_of n w basic a X

  abbrev G : SimplexTable
  G = table_of n w basic b Y

  pub improves : (j : ℕ) → Improves (table_of n w basic a X) cost j → Improves (table_of n w basic b Y) other j
  improves j h = record {
    column = h.column;
    within = h.within;
    real = sym (alike.artificials.same j h.within) ∙ h.real;
    more =
        subst (λ k. IsLess k (sum_to n (λ i. mul (other (basic i)) (Y i j)))) (alike.costs.same j h.within)
        (subst (IsLess (cost j)) (same_carried n w X Y basic cost other j alike.basis alike.entries alike.costs h.within) h.more);
  }

  feasible : IsFeasible F → IsFeasible G
  feasible h = record { zero = λ i l e. sym (alike.entries.same i 0 l alike.some) ∙ h.zero i l (alike.artificials.same (basic i) (alike.basis i l) ∙ e) }

  pub due : (phase : Phase) → IsDueToEnd phase (table_of n w basic a X) → IsDueToEnd phase (table_of n w basic b Y)
  due One h = feasible h
  due Lower h = h
  due Upper h = h

  artificial : (q i : ℕ) → q < w → IsArtificialRow F q i → IsArtificialRow G q i
  artificial q i l h = record {
    within = h.within;
    artificial = sym (alike.artificials.same (basic i) (alike.basis i h.within)) ∙ h.artificial;
    entry = λ e. h.entry (alike.entries.same i q h.within l ∙ e);
  }

  rising : (q i : ℕ) → q < w → IsRising F q i → IsRising G q i
  rising q i l h = record { within = h.within; above = subst IsAbove (alike.entries.same i q h.within l) h.above }

  ratios : (q i : ℕ) → q < w → i < n → ratio F q i ≡ ratio G q i
  ratios q i l h = λ k. div (alike.entries.same i 0 h alike.some k) (alike.entries.same i q h l k)

  precedes : (q p i : ℕ) → q < w → p < n → i < n → Precedes F q p i → Precedes G q p i
  precedes q p i l hp hi h = record {
    at_most = subst (λ r. AtMost r (ratio G q i)) (ratios q p l hp) (subst (λ r. AtMost (ratio F q p) r) (ratios q i l hi) h.at_most);
    tie = λ e. h.tie (ratios q p l hp ∙ e ∙ sym (ratios q i l hi));
  }

module _ (n w : ℕ) (basic : ℕ → ℕ) (a b : ℕ → Bool) (cost other : ℕ → Rational) (X Y : ℕ → ℕ → Rational) (alike : AreAlike n w basic (priced_columns a cost X) (priced_columns b other Y)) where
  back : AreAlike n w basic (priced_columns b other Y) (priced_columns a cost X)
  back = turned n w basic a b cost other X Y alike

  pub enters : (q : ℕ) → Enters (table_of n w basic a X) cost q → Enters (table_of n w basic b Y) other q
  enters q h = record {
    improves = improves n w basic a b cost other X Y alike q h.improves;
    least = λ j l k. h.least j l (improves n w basic b a other cost Y X back j k);
  }

  ratio_least : (q p : ℕ) → q < w → HasLeastRatio (table_of n w basic a X) q p → HasLeastRatio (table_of n w basic b Y) q p
  ratio_least q p l h = record {
    rising = rising n w basic a b cost other X Y alike q p l h.rising;
    least = λ i k.
        let r = rising n w basic b a other cost Y X back q i l k in
        precedes n w basic a b cost other X Y alike q p i l h.rising.within k.within (h.least i r);
  }

  row_least : (q p : ℕ) → q < w → IsLeastArtificialRow (table_of n w basic a X) q p → IsLeastArtificialRow (table_of n w basic b Y) q p
  row_least q p l h = record {
    row = artificial n w basic a b cost other X Y alike q p l h.row;
    least = λ i k r. h.least i k (artificial n w basic b a other cost Y X back q i l r);
  }

  in_phase_two : (q p : ℕ) → q < w → LeavesInPhaseTwo (table_of n w basic a X) q p → LeavesInPhaseTwo (table_of n w basic b Y) q p
  in_phase_two q p l h =
      elim h [
        | inl r ↦ inl (row_least q p l r)
        | inr r ↦ inr (λ i k. r.0 i (artificial n w basic b a other cost Y X back q i l k), ratio_least q p l r.1)
      ]

  pub leaves : (phase : Phase) (q p : ℕ) → q < w → Leaves phase (table_of n w basic a X) q p → Leaves phase (table_of n w basic b Y) q p
  leaves One q p l h = ratio_least q p l h
  leaves Lower q p l h = in_phase_two q p l h
  leaves Upper q p l h = in_phase_two q p l h

  pub moving : (phase : Phase) → IsMoving phase (table_of n w basic a X) cost → IsMoving phase (table_of n w basic b Y) other
  moving phase h = record {
    unfinished = λ d. h.unfinished (due n w basic b a other cost Y X back phase d);
    column = h.column;
    improves = improves n w basic a b cost other X Y alike h.column h.improves;
  }

  pub resting : (phase : Phase) → IsResting phase (table_of n w basic a X) cost → IsResting phase (table_of n w basic b Y) other
  resting phase h = record {
    unfinished = λ d. h.unfinished (due n w basic b a other cost Y X back phase d);
    none = λ j k. h.none j (improves n w basic b a other cost Y X back j k);
  }

-- ---- lists of pivots
-- a pivot leads from a basis within the width to one
pub basis_kept : (n w p q : ℕ) (x y : ℕ → ℕ) → IsBasis n w x → q < w → Based n p q x y → IsBasis n w y
basis_kept n w p q x y hb hq based i l =
    elim (cases_eq i p) [
      | inl e ↦ subst (λ k. k < w) (sym (ap y e ∙ based.here)) hq
      | inr ne ↦ subst (λ k. k < w) (sym (based.others i l ne)) (hb i l)
    ]

module _ (phase : Phase) (n w : ℕ) (a b : ℕ → Bool) (A B : ℕ → ℕ → Rational) (cost other : ℕ → Rational) (some : 0 < w) (ab : HaveSameArtificials w a b) (cd : HaveSameCosts w cost other) (columns : AreSameWithin n w A B) where
  lawful : (basic : ℕ → ℕ) (q p : ℕ) → IsBasis n w basic → IsLawfulAt (linear_program phase (system_of n a A) cost w) basic q p → IsLawfulAt (linear_program phase (system_of n b B) other w) basic q p
  lawful basic q p hb h =
      let same : AreSameWithin n w h.table h.table = record { same = λ i j k l. refl } in
      let alike : AreAlike n w basic (priced_columns a cost h.table) (priced_columns b other h.table) = record { some = some; basis = hb; artificials = ab; costs = cd; entries = same } in
      let back = turned n w basic a b cost other h.table h.table alike in
      record {
        table = h.table;
        belongs = same_belongs n w A B h.table h.table basic hb columns same h.belongs;
        unfinished = λ d. h.unfinished (due n w basic b a other cost h.table h.table back phase d);
        enters = enters n w basic a b cost other h.table h.table alike q h.enters;
        leaves = leaves n w basic a b cost other h.table h.table alike phase q p h.enters.improves.within h.leaves;
      }

  pub same_pivots : (x y : ℕ → ℕ) (pivots : List Pivot) → IsBasis n w x → Pivots (linear_program phase (system_of n a A) cost w) x pivots y → Pivots (linear_program phase (system_of n b B) other w) x pivots y × IsBasis n w y
  same_pivots x y pivots hb (still z) = (still x, hb)
  same_pivots x y pivots hb (more z m c ps q p first at based) =
      let r = same_pivots x m ps hb first in
      (more x m y ps q p r.0 (lawful m q p r.1 at) based, basis_kept n w p q m y r.1 at.enters.improves.within based)

-- pivots after pivots are pivots
pub compose : (l : LinearProgram) (a b c : ℕ → ℕ) (before after : List Pivot) → Pivots l a before b → Pivots l b after c → Pivots l a (before ++ after) c
compose l a b c before after first (still z) = subst (λ ps. Pivots l a ps b) (sym (append-nil before)) first
compose l a b c before after first (more z m d ps q p rest at based) =
    subst (λ k. Pivots l a k c) (append_assoc before ps (record { enter = q; leave = p } ∷ []))
    (more a m c (before ++ ps) q p (compose l a b m before ps first rest) at based)
