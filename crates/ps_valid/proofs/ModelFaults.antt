-- The first reason against a model, and the claim that it makes.
use Rattle.std.proofs.Common.{◌≡◌, ◌≢◌, ℕ, zero, suc, ◌+◌, ◌<◌, pos, ◌≤ℤ◌, Option, Some, None, Result, Ok, Err, List, length, map, All, refl, sym, ap, subst, ◌∙◌, arith}
use Rattle.std.specs.Prelude.{Any, IfOk}
use Rattle.std.proofs.lemmas.List.{length-map}
use Rattle.std.proofs.lemmas.List.Elements.{All-map}
use Rattle.ps_problem.specs.declared.row.Row.{Row}
use Rattle.ps_problem.specs.Problems.{Parts, AreParts, bound_of, bounds_in, bounds_of}
use Rattle.ps_problem.specs.Rows.{row_of, rows_in}
use Rattle.ps_problem.proofs.BoundRows.{rows-length}
use Rattle.ps_answer.specs.declared.answer.Weighted.{Weighted}
use Rattle.ps_answer.specs.declared.answer.Model.{Model}
use Rattle.ps_claims.specs.Answers as claimed
use Rattle.ps_claims.specs.declared.reason.Reason.{Reason}
use Rattle.ps_claims.specs.declared.reason.Reason.TheVariants.{WrongShape, TooManyWorlds, WeightZero, WorldTwice, TotalWrong, BoundMissed}
use Rattle.ps_claims.specs.Claims.{Assertion, Modelled, HasShape, AreFew, AreProperEntries, HasTotal, IsFirstIn, claimed_model}
use Rattle.ps_claims.specs.Rows.{AreRowsOf, MeetsRows}
use Rattle.ps_claims.proofs.ProblemRows.{rows-of_bounds, bounds-met, missed-bound}
use Rattle.ps_claims.proofs.Decided.{sound-shows}
use Rattle.ps_claims.specs.Certificates.{entry_of, entries, model_of}
use Rattle.ps_valid.specs.Judged.{FindsReason, FindsReasonOver, HasRows}
use Rattle.ps_valid.specs.Limits.{IsSmallModel}
use Rattle.ps_valid.specs.Tests.{HaveShape, HasAtoms, MissesRowFirst, IsFirstAmong, IsFirstAgainst, FindsAgainst, FindsAgainstOver}
use Rattle.ps_valid.proofs.ProperEntries.{any_entry, each_entry}

pub low_weights : (m : Model) → IsSmallModel m → All (λ e. pos 0 ≤ℤ e.weight) (entries m.worlds)
low_weights m small = All-map (λ e. pos 0 ≤ℤ e.weight) entry_of m.worlds (λ k w lt. (small.worlds.weights k w lt).low)

model_shape : (p : Parts) (m : claimed.Model) → HaveShape (length p.names) m.worlds → HasShape p (Modelled m)
model_shape p m shape = record { worlds = shape; rows = tt }

-- the first reason against the model of a claim of the right shape is the first against the claim
pub first_in_model : (p : Parts) (c : Assertion) (m : claimed.Model) (r : Reason) → claimed_model c ≡ Some m → HasShape p c → IsFirstAgainst p m r → IsFirstIn p c r
first_in_model p c m TooManyWorlds is shape f = (shape, rw is f)
first_in_model p c m (WeightZero n) is shape f = (shape, rw is f)
first_in_model p c m (WorldTwice n) is shape f = (shape, rw is f)
first_in_model p c m TotalWrong is shape f = (shape, rw is f)
first_in_model p c m (BoundMissed n) is shape f = (shape, rw is f)
first_in_model p c m other is shape f = absurd f

-- what is found against a model whose worlds have the problem's atoms is found against its claim
pub judged_model : (p : Parts) (m : Model) (found : Option Reason) → IsSmallModel m → HaveShape (length p.names) (entries m.worlds) → FindsAgainst p (model_of m) found
    → FindsReason p (Modelled (model_of m)) found
judged_model p m None small shape sound = sound-shows p (model_of m) shape (low_weights m small) sound
judged_model p m (Some r) small shape f = first_in_model p (Modelled (model_of m)) (model_of m) r refl (model_shape p (model_of m) shape) f

stable : (m n : ℕ) → ¬ (m ≢ n) → m ≡ n
stable zero zero s = refl
stable zero (suc n) s = absurd (s (λ e. omega (arith, e)))
stable (suc m) zero s = absurd (s (λ e. omega (arith, e)))
stable (suc m) (suc n) s = ap suc (stable m n (λ other. s (λ e. other (omega (arith, e)))))

-- a world of another length stands among entries of no shape
pub wrong_shape : (n : ℕ) (ws : List Weighted) → Any (λ w. length w.world ≢ n) ws → ¬ HaveShape n (entries ws)
wrong_shape n ws any shape = by (any_entry (λ e. length e.world ≢ n) ws any)
  where
    by : Any (λ e. length e.world ≢ n) (entries ws) → ⊥
    by (k, x, lt, is, other) = other (rw is at (shape k x lt))

pub right_shape : (n : ℕ) (ws : List Weighted) → ¬ Any (λ w. length w.world ≢ n) ws → HaveShape n (entries ws)
right_shape n ws none = each_entry (λ e. length e.world ≡ n) (λ e. length e.world ≢ n) ws (λ e not. stable (length e.world) n not) none

pub wrong_shape_first : (p : Parts) (m : claimed.Model) → ¬ HaveShape (length p.names) m.worlds → FindsReason p (Modelled m) (Some WrongShape)
wrong_shape_first p m not = λ shape. not shape.worlds

pub first_entry : (p : Parts) (m : claimed.Model) (r : Reason) → AreFew p m → IsFirstAmong m.worlds r → IsFirstAgainst p m r
first_entry p m (WeightZero n) few first = (few, first)
first_entry p m (WorldTwice n) few first = (few, first)
first_entry p m other few first = absurd first

-- ---- rows over a problem's nodes
-- what is found against a model over rows
module _ (p : Parts) (rows : List Row) (m : Model) where
  -- a problem with these rows has as many bounds
  as_many : (q : Parts) → HasRows p rows q → length (bounds_of q) ≡ length rows
  as_many q over = length-map (bounds_in q.sentences) (bound_of q.nodes) ∙ sym (rows-length q.sentences) ∙ ap length over.rows_are

  few_over : (q : Parts) → HasRows p rows q → ¬ (length rows + 1 < length m.worlds) → AreFew q (model_of m)
  few_over q over few =
      let e = length-map m.worlds entry_of in
      let f = as_many q over in
      omega (arith, few, e, f)

  pub too_many_over : length rows + 1 < length m.worlds → FindsAgainstOver p rows (model_of m) (Some TooManyWorlds)
  too_many_over many q over = λ few. (let e = length-map m.worlds entry_of in let f = as_many q over in omega (arith, many, few, e, f))

  pub entry_over : (r : Reason) → ¬ (length rows + 1 < length m.worlds) → IsFirstAmong (entries m.worlds) r → FindsAgainstOver p rows (model_of m) (Some r)
  entry_over r few first q over = first_entry q (model_of m) r (few_over q over few) first

  pub total_over : ¬ (length rows + 1 < length m.worlds) → AreProperEntries (entries m.worlds) → ¬ HasTotal (model_of m) → FindsAgainstOver p rows (model_of m) (Some TotalWrong)
  total_over few proper wrong q over = (few_over q over few, proper, wrong)

  -- its bounds are met exactly where the rows are
  same_rows : (q : Parts) → HasRows p rows q → AreRowsOf (bounds_of q) (map (row_of p.nodes) rows)
  same_rows q over = rw (over.nodes, ← over.rows_are) (rows-of_bounds p.nodes (bounds_in q.sentences) over.bounds)

  pub sound_over : ¬ (length rows + 1 < length m.worlds) → AreProperEntries (entries m.worlds) → HasTotal (model_of m) → MeetsRows (map (row_of p.nodes) rows) (entries m.worlds)
      → FindsAgainstOver p rows (model_of m) None
  sound_over few proper total met q over =
      record { few = few_over q over few; proper = proper; total = total; met = bounds-met (bounds_of q) (map (row_of p.nodes) rows) (entries m.worlds) (same_rows q over) met }

  pub missed_over : (n : ℕ) → ¬ (length rows + 1 < length m.worlds) → AreProperEntries (entries m.worlds) → HasTotal (model_of m) → MissesRowFirst (map (row_of p.nodes) rows) (entries m.worlds) n
      → FindsAgainstOver p rows (model_of m) (Some (BoundMissed n))
  missed_over n few proper total missed q over =
      (few_over q over few, proper, total, missed-bound (bounds_of q) (map (row_of p.nodes) rows) (entries m.worlds) n (same_rows q over) missed)

  pub shape_over : ¬ HasAtoms p (model_of m) → FindsReasonOver p rows m (Some WrongShape)
  shape_over not q over = wrong_shape_first q (model_of m) (λ shape. not (subst (λ ns. HaveShape (length ns) (entries m.worlds)) over.names shape))

  pub judged_over : (found : Option Reason) → IsSmallModel m → HasAtoms p (model_of m) → FindsAgainstOver p rows (model_of m) found → FindsReasonOver p rows m found
  judged_over found small shape h q over = judged_model q m found small (subst (λ ns. HaveShape (length ns) (entries m.worlds)) (sym over.names) shape) (h q over)

  its_own : AreParts p → rows ≡ rows_in p.sentences → HasRows p rows p
  its_own are e = record { names = refl; nodes = refl; bounds = are.bounds; rows_are = sym e }

  pub against_all : (found : Option Reason) → AreParts p → rows ≡ rows_in p.sentences → FindsAgainstOver p rows (model_of m) found → FindsAgainst p (model_of m) found
  against_all found are e h = h p (its_own are e)

  pub judged_all : {E : Type 0} (result : Result (Option Reason) E) → AreParts p → rows ≡ rows_in p.sentences → IfOk result (FindsReasonOver p rows m)
      → IfOk result (FindsReason p (Modelled (model_of m)))
  judged_all (Ok found) are e h = h p (its_own are e)
  judged_all (Err x) are e h = tt
