-- Behind each line fewer lines are due at most.
use Rattle.std.proofs.Common.{◌≡◌, ℕ, zero, suc, ◌+◌, ◌<◌, ◌≤◌, ◌^◌, Bool, true, false, Some, None, List, ◌∷◌, refl, sym, ap, arith}
use Rattle.std.specs.Prelude.{◌==◌, if◌then◌else◌}
use Rattle.std.proofs.lemmas.Bool.{eqb-true}
use Rattle.std.proofs.lemmas.Option.{none-some, same_Some}
use Rattle.ps_log.specs.declared.limits.TheConstants.{MOST_CONFLICTS}
use Rattle.ps_answer.specs.declared.item.LineItem.{LineItem}
use Rattle.ps_answer.specs.declared.item.LineItem.TheVariants as line
use Rattle.ps_answer.specs.declared.part.Part.{Part}
use Rattle.ps_answer.specs.declared.part.Part.TheVariants.{AReport, AVerdict, AModel, AnEntry, ADual, SomeRows, AStep, AGoal, ACause, ATrace, AnEvent, AnAnswer, ASide, AQuery}
use Rattle.ps_answer.specs.Items.{IsWithin}
use Rattle.ps_answer.specs.ExpectedParts.{at_start, many, behind, behind_cause, behind_verdict, behind_answer, behind_side, behind_event, behind_query}
use Rattle.ps_check.specs.DueLines.{IsLineTaken}
use Rattle.ps_check.specs.Counts.{most_of, most_in}

-- so many parts of one line each
many_ones : (n : ℕ) (p : Part) (due : List Part) → most_of p ≡ 1 → most_in (many n p due) ≡ n + most_in due
many_ones zero p due one = omega arith
many_ones (suc n) p due one = (let later = many_ones n p due one in omega (arith, later, one))

-- what is due behind a line, by an equation
due_is : (due next : List Part) → Some due ≡ Some next → most_in next ≡ most_in due
due_is due next e = ap most_in (sym (same_Some due next e))

-- a cause
cause_lighter : (i : LineItem) (due next : List Part) → IsWithin i → behind_cause i due ≡ Some next → most_in next ≤ 1 + MOST_CONFLICTS + most_in due
cause_lighter (line.OpenPivots limit) due next w e = (let d = due_is due next e in omega (arith, d))
cause_lighter (line.OpenConflicts limit) due next w e =
    let d = due_is (AGoal ∷ many limit AStep due) next e in
    let m = many_ones limit AStep due refl in
    omega (arith, d, m, w)
cause_lighter (line.OpenWide at op left right) due next w e = (let d = due_is due next e in omega (arith, d))
cause_lighter i due next w e = absurd (none-some next e)

verdict_lighter : (i : LineItem) (due next : List Part) → IsWithin i → behind_verdict i due ≡ Some next → most_in next + 1 ≤ most_in (AVerdict ∷ due)
verdict_lighter line.Consistent due next w e = (let d = due_is (AModel ∷ due) next e in omega (arith, d))
verdict_lighter line.Inconsistent due next w e = (let d = due_is (ADual ∷ due) next e in omega (arith, d))
verdict_lighter i due next w e = (let c = cause_lighter i due next w e in omega (arith, c))

answer_lighter : (i : LineItem) (due next : List Part) → IsWithin i → behind_answer i due ≡ Some next → most_in next + 1 ≤ most_in (AnAnswer ∷ due)
answer_lighter line.Bounds due next w e = (let d = due_is (ATrace ∷ ASide false ∷ ASide true ∷ due) next e in omega (arith, d))
answer_lighter line.Impossible due next w e = (let d = due_is (ADual ∷ ATrace ∷ due) next e in omega (arith, d))
answer_lighter i due next w e = (let c = cause_lighter i (ATrace ∷ due) next w e in omega (arith, c))

side_lighter : (upper : Bool) (i : LineItem) (due next : List Part) → IsWithin i → behind_side upper i due ≡ Some next → most_in next + 1 ≤ most_in (ASide upper ∷ due)
side_lighter false (line.Bound false value) due next w e = (let d = due_is (AModel ∷ ADual ∷ ATrace ∷ due) next e in omega (arith, d))
side_lighter true (line.Bound true value) due next w e = (let d = due_is (AModel ∷ ADual ∷ ATrace ∷ due) next e in omega (arith, d))
side_lighter false (line.OpenSide false) due next w e = (let d = due_is (ACause ∷ ATrace ∷ due) next e in omega (arith, d))
side_lighter true (line.OpenSide true) due next w e = (let d = due_is (ACause ∷ ATrace ∷ due) next e in omega (arith, d))
side_lighter upper i due next w e = absurd (none-some next e)

event_lighter : (i : LineItem) (due next : List Part) → behind_event i due ≡ Some next → most_in next + 1 ≤ most_in (AnEvent ∷ due)
event_lighter (line.PivotLine enter leave) due next e = (let d = due_is due next e in omega (arith, d))
event_lighter (line.PricedLine world) due next e = (let d = due_is due next e in omega (arith, d))
event_lighter i due next e = absurd (none-some next e)

query_lighter : (j : ℕ) (i : LineItem) (due next : List Part) → IsWithin i → behind_query j i due ≡ Some next → most_in next + 1 ≤ most_in (AQuery j ∷ due)
query_lighter j (line.Query number) due next w e = by (number == j) refl e
  where
    by : (b : Bool) → number == j ≡ b → (if b then Some (AnAnswer ∷ AQuery (suc j) ∷ due) else None) ≡ Some next → most_in next + 1 ≤ most_in (AQuery j ∷ due)
    by true same e =
        let d = due_is (AnAnswer ∷ AQuery (suc j) ∷ due) next e in
        let n = eqb-true number j same in
        omega (arith, d, n, w)
    by false other e = absurd (none-some next e)
query_lighter j line.End due next w e = (let d = due_is due next e in omega (arith, d))
query_lighter j i due next w e = absurd (none-some next e)

-- behind a line within the limits fewer lines are due at most
pub lighter : (p : Part) (i : LineItem) (due next : List Part) → IsWithin i → behind p i due ≡ Some next → most_in next + 1 ≤ most_in (p ∷ due)
unfolding behind
lighter AReport line.Report due next w e = (let d = due_is due next e in omega (arith, d))
lighter AVerdict i due next w e = verdict_lighter i due next w e
lighter AModel (line.ModelHead total n) due next w e =
    let d = due_is (many n AnEntry due) next e in
    let m = many_ones n AnEntry due refl in
    omega (arith, d, m, w.1)
lighter AnEntry (line.Entry weight world) due next w e = (let d = due_is due next e in omega (arith, d))
lighter ADual (line.DualHead top head n) due next w e =
    let d = due_is (SomeRows ∷ many n AStep due) next e in
    let m = many_ones n AStep due refl in
    omega (arith, d, m, w.2)
lighter SomeRows (line.Rows rows) due next w e = (let d = due_is due next e in omega (arith, d))
lighter AStep (line.StepLine s) due next w e = (let d = due_is due next e in omega (arith, d))
lighter AGoal (line.GoalLine g) due next w e = (let d = due_is due next e in omega (arith, d))
lighter ACause i due next w e = (let c = cause_lighter i due next w e in omega (arith, c))
lighter ATrace (line.TraceHead n) due next w e =
    let d = due_is (many n AnEvent due) next e in
    let m = many_ones n AnEvent due refl in
    omega (arith, d, m, w)
lighter AnEvent i due next w e = event_lighter i due next e
lighter AnAnswer i due next w e = answer_lighter i due next w e
lighter (ASide upper) i due next w e = side_lighter upper i due next w e
lighter (AQuery j) i due next w e = query_lighter j i due next w e
lighter p i due next w e = absurd (none-some next e)

-- so it is where a line is taken
pub taken_lighter : (line : List ℕ) (old new : List Part) (i : LineItem) → IsLineTaken line old i new → most_in new + 1 ≤ most_in old
taken_lighter line old new i t =
    let l = lighter t.part i t.due new t.within t.behind_is in
    let e = ap most_in t.old_is in
    omega (arith, l, e)

-- what is due at the start has far fewer lines than can be counted
pub start_light : most_in at_start + 1 < 2 ^ 63
start_light = omega arith
