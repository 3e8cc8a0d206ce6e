-- What the code has looked at so far, and what one round does.
use Rattle.std.specs.Prelude.{◌≡◌, ◌≢◌, ℕ, suc, ◌<◌, ◌≤◌, true, false, List, [], ◌∷◌, ◌++◌}
use Rattle.std.specs.Prelude.{Option, Some, None, IfNone, Result, Ok, Err, IfOk}
use Rattle.ps_meaning.specs.Rational.{Rational, zero_q}
use Rattle.ps_simplex.specs.Rule.{Improves, Enters, IsRising, IsArtificialRow, HasNoArtificialRow, IsLeastArtificialRow}
use Rattle.ps_simplex.specs.Rule.{ratio, GoesBefore, Precedes, HasLeastRatio, Leaves}
use Rattle.ps_table.specs.declared.col.Col.{Col}
use Rattle.ps_table.specs.declared.costs.Costs.{Costs}
use Rattle.ps_table.specs.declared.place.WideAt.{WideAt}
use Rattle.ps_table.specs.declared.error.TableError.{TableError}
use Rattle.ps_table.specs.Tableau.{Tableau, number_of, entry_at, entry_of, basic_at, HasColumn, IsPivot, KeepsSystem, rows_of}
use Rattle.ps_table.specs.Pricing.{cost_at}
use Rattle.ps_table.specs.Places.{HomePlaces, PricePlaces, IsColumnWide, IsNarrow}
use Rattle.ps_table.specs.declared.event.Event.{Event}
use Rattle.ps_table.specs.declared.event.Event.TheVariants.{Pivot}
use Rattle.ps_simplex.specs.declared.phase.Phase.{Phase}
use Rattle.ps_simplex.specs.declared.phase.Phase.TheVariants.{One, Lower, Upper}
use Rattle.ps_bland.specs.declared.settled.Settled.{Settled}
use Rattle.ps_bland.specs.Rules.{artificial_at, IsLawful, is_artificial_column, simplex_of}
use Rattle.ps_bland.specs.Ends.{IsRatioWide, IsCarriedWide, IsLeftToRatios, AreDueNarrow}

-- a row with an entry above 0 that goes before each such row before row n
pub record IsLeastBefore (t : Tableau) (q n p : ℕ) : Type 0 where
  pub rising : IsRising (simplex_of t) q p
  pub least : (i : ℕ) → i < n → IsRising (simplex_of t) q i → Precedes (simplex_of t) q p i

-- ---- the rule's words, said of a column by its name
-- the column improves
abbrev pub ImprovesIn : Costs → Tableau → Col → Type 0
ImprovesIn costs t c = Improves (simplex_of t) (cost_at costs) (number_of t c)

-- the column's entry in row i is above 0
abbrev pub IsRisingIn : Tableau → Col → ℕ → Type 0
IsRisingIn t c i = IsRising (simplex_of t) (number_of t c) i

-- row i is an artificial row of the column
abbrev pub IsArtificialRowIn : Tableau → Col → ℕ → Type 0
IsArtificialRowIn t c i = IsArtificialRow (simplex_of t) (number_of t c) i

-- row p leaves for the column, by the rule
abbrev pub LeavesIn : Phase → Tableau → Col → ℕ → Type 0
LeavesIn phase t c p = Leaves phase (simplex_of t) (number_of t c) p

-- the ratio of row i in the column
abbrev pub ratio_in : Tableau → Col → ℕ → Rational
ratio_in t c i = ratio (simplex_of t) (number_of t c) i

-- row p goes before row i, where these are their ratios
abbrev pub GoesBeforeRow : Tableau → ℕ → Rational → ℕ → Rational → Type 0
GoesBeforeRow t p r i s = GoesBefore r (basic_at t p) s (basic_at t i)

-- row p has the least ratio of the column
abbrev pub HasLeastRatioIn : Tableau → Col → ℕ → Type 0
HasLeastRatioIn t c p = HasLeastRatio (simplex_of t) (number_of t c) p

-- the column's entry in this row isn't 0
abbrev pub HasEntryIn : Tableau → Col → ℕ → Type 0
HasEntryIn t c p = entry_of t p c ≢ zero_q

-- no row before this one has an entry above 0 in the column
abbrev pub NoneRisesBefore : Tableau → Col → ℕ → Type 0
NoneRisesBefore t c n = (i : ℕ) → i < n → IsRising (simplex_of t) (number_of t c) i → ⊥

-- the least ratio decides which row leaves
abbrev pub IsLeftToRatiosIn : Phase → Tableau → Col → Type 0
IsLeftToRatiosIn phase t c = IsLeftToRatios phase t (number_of t c)

-- a row whose basic column is artificial has value 0
abbrev pub IsRowFeasible : Tableau → ℕ → Type 0
IsRowFeasible t i = artificial_at t.kinds (basic_at t i) ≡ true → entry_at t i 0 ≡ zero_q

-- one lawful pivot, with its event
pub record IsStep (phase : Phase) (costs : Costs) (old new : Tableau) (trace longer : List Event) : Type 0 where
  pub enter : Col
  pub leave : ℕ
  pub lawful : IsLawful phase costs old enter leave
  pub pivot : IsPivot leave enter old new
  pub stands : KeepsSystem old new
  pub appended : longer ≡ trace ++ Pivot enter leave ∷ []

-- a fact of a round that made a pivot
abbrev pub IfPivoted : Result (Option Settled) TableError → Type 0 → Type 0
IfPivoted result P = IfOk result (λ end. IfNone end P)

-- a fact of a round that came to an end or was refused
abbrev pub IfStopped : Result (Option Settled) TableError → Type 0 → Type 0
IfStopped (Ok None) P = Unit {0}
IfStopped (Ok (Some s)) P = P
IfStopped (Err e) P = P

-- the entering column, or none
abbrev pub IsEntering : Costs → Tableau → Option Col → Type 0
IsEntering costs t (Some q) = HasColumn t q × Enters (simplex_of t) (cost_at costs) (number_of t q)
IsEntering costs t None = (j : ℕ) → Improves (simplex_of t) (cost_at costs) j → ⊥

-- the entering column, or none among the columns before number n
abbrev pub IsEnteringBefore : Costs → Tableau → ℕ → Option Col → Type 0
IsEnteringBefore costs t n (Some q) = HasColumn t q × Enters (simplex_of t) (cost_at costs) (number_of t q)
IsEnteringBefore costs t n None = (j : ℕ) → j < n → Improves (simplex_of t) (cost_at costs) j → ⊥

-- column q has an entry above 0
abbrev pub HasRising : Tableau → ℕ → Type 0
HasRising t q = ((i : ℕ) → IsRising (simplex_of t) q i → ⊥) → ⊥

-- the first artificial row, if there is one
abbrev pub IsFirstArtificialRow : Tableau → ℕ → Option ℕ → Type 0
IsFirstArtificialRow t q (Some p) = IsLeastArtificialRow (simplex_of t) q p
IsFirstArtificialRow t q None = HasNoArtificialRow (simplex_of t) q

-- column q has an entry above 0, unless in phase two an artificial row leaves
abbrev pub CanLeave : Phase → Tableau → ℕ → Type 0
CanLeave One t q = HasRising t q
CanLeave Lower t q = HasNoArtificialRow (simplex_of t) q → HasRising t q
CanLeave Upper t q = HasNoArtificialRow (simplex_of t) q → HasRising t q

-- no sum is too wide for a column that comes before each one that improves, or is the first of them
abbrev pub AreCarriedNarrow : Costs → Tableau → Type 0
AreCarriedNarrow costs t = (w : WideAt) → ¬ IsCarriedWide costs t w

-- no sum is too wide for a slack of a row before row m
abbrev pub AreSlacksNarrowTo : Costs → Tableau → ℕ → Type 0
AreSlacksNarrowTo costs t m = (k : ℕ) → k < m → artificial_at t.kinds (suc k) ≡ false → IsNarrow (HomePlaces t costs k)

-- no price is too wide for a world up to world k
abbrev pub ArePricesNarrowTo : Costs → Tableau → ℕ → Type 0
ArePricesNarrowTo costs t k = (m : ℕ) → 0 < m → m ≤ k → IsNarrow (PricePlaces t costs m)

-- where the first slack that improves enters, no due sum is too wide
abbrev pub IsFirstNarrow : Costs → Tableau → Option Col → Type 0
IsFirstNarrow costs t (Some q) = AreCarriedNarrow costs t
IsFirstNarrow costs t None = Unit {0}

-- a round that comes to an end leaves no due place too wide
abbrev pub IsNarrowEnd : Phase → Costs → Tableau → ℕ → Option Settled → Type 0
IsNarrowEnd phase costs t left (Some s) = AreDueNarrow phase costs t left
IsNarrowEnd phase costs t left None = Unit {0}

-- column c has an entry above 0, unless in phase two an artificial row leaves
abbrev pub CanLeaveIn : Phase → Tableau → Col → Type 0
CanLeaveIn phase t c = CanLeave phase t (number_of t c)

-- the column has an entry above 0
abbrev pub HasRisingIn : Tableau → Col → Type 0
HasRisingIn t c = HasRising t (number_of t c)

-- the first artificial row of the column, if there is one
abbrev pub IsFirstArtificialRowIn : Tableau → Col → Option ℕ → Type 0
IsFirstArtificialRowIn t c = IsFirstArtificialRow t (number_of t c)

-- a row with an entry above 0 in the column that goes before each such row before row n
abbrev pub IsLeastBeforeIn : Tableau → Col → ℕ → ℕ → Type 0
IsLeastBeforeIn t c n p = IsLeastBefore t (number_of t c) n p

-- the first slack that improves, or none
abbrev pub IsEnteringHome : Costs → Tableau → Option Col → Type 0
IsEnteringHome costs t = IsEnteringBefore costs t (suc (rows_of t))

-- no column up to the homes improves
abbrev pub NoHomeImproves : Costs → Tableau → Type 0
NoHomeImproves costs t = (j : ℕ) → j < suc (rows_of t) → Improves (simplex_of t) (cost_at costs) j → ⊥

-- an operation for the column, or a ratio of it, is too wide
pub data IsLeastWide (t : Tableau) (c : Col) (w : WideAt) : Type 0 where
  in_column : IsColumnWide t c w → IsLeastWide t c w
  in_ratio : IsRatioWide t (number_of t c) w → IsLeastWide t c w

-- an operation for the column is too wide, or a ratio of it where the least ratio decides which row leaves
pub data IsLeavingWide (phase : Phase) (t : Tableau) (c : Col) (w : WideAt) : Type 0 where
  of_column : IsColumnWide t c w → IsLeavingWide phase t c w
  of_ratio : IsLeftToRatios phase t (number_of t c) → IsRatioWide t (number_of t c) w → IsLeavingWide phase t c w
