-- What is due behind a line, by what it says, whatever part it is of.
use Rattle.std.proofs.Common.{◌≡◌, ℕ, ℤ, suc, ◌+◌, Bool, true, false, List, ◌∷◌, Some, None, refl, sym, ap, subst, ◌∙◌, arith}
use Rattle.std.proofs.lemmas.Option.{none-some, same_Some}
use Rattle.std.specs.Prelude.{◌==◌, if◌then◌else◌, ⊤}
use Rattle.std.proofs.lemmas.Bool.{eqb-true}
use Rattle.ps_answer.specs.declared.item.LineItem.{LineItem}
use Rattle.ps_answer.specs.declared.item.LineItem.TheVariants as line
use Rattle.ps_answer.specs.declared.item.Ratio.{Ratio}
use Rattle.ps_table.specs.declared.place.Place.{Place}
use Rattle.ps_frac.specs.declared.wide.Op.{Op}
use Rattle.ps_answer.specs.declared.part.Part.{Part}
use Rattle.ps_answer.specs.declared.part.Part.TheVariants.{AReport, AVerdict, AModel, AnEntry, ADual, SomeRows, AStep, AGoal, ACause, ATrace, AnEvent, AnAnswer, ASide, AQuery}
use Rattle.ps_answer.specs.ExpectedParts.{behind, many}
use Rattle.ps_check.specs.Runs.{IsBehind, traced}

pub behind_consistent : (p : Part) (due next : List Part) → behind p line.Consistent due ≡ Some next → next ≡ AModel ∷ due
unfolding behind
behind_consistent AReport due next e = absurd (none-some next e)
behind_consistent AVerdict due next e = sym (same_Some _ _ e)
behind_consistent AModel due next e = absurd (none-some next e)
behind_consistent AnEntry due next e = absurd (none-some next e)
behind_consistent ADual due next e = absurd (none-some next e)
behind_consistent SomeRows due next e = absurd (none-some next e)
behind_consistent AStep due next e = absurd (none-some next e)
behind_consistent AGoal due next e = absurd (none-some next e)
behind_consistent ACause due next e = absurd (none-some next e)
behind_consistent ATrace due next e = absurd (none-some next e)
behind_consistent AnEvent due next e = absurd (none-some next e)
behind_consistent AnAnswer due next e = absurd (none-some next e)
behind_consistent (ASide false) due next e = absurd (none-some next e)
behind_consistent (ASide true) due next e = absurd (none-some next e)
behind_consistent (AQuery j) due next e = absurd (none-some next e)

pub behind_inconsistent : (p : Part) (due next : List Part) → behind p line.Inconsistent due ≡ Some next → next ≡ ADual ∷ due
unfolding behind
behind_inconsistent AReport due next e = absurd (none-some next e)
behind_inconsistent AVerdict due next e = sym (same_Some _ _ e)
behind_inconsistent AModel due next e = absurd (none-some next e)
behind_inconsistent AnEntry due next e = absurd (none-some next e)
behind_inconsistent ADual due next e = absurd (none-some next e)
behind_inconsistent SomeRows due next e = absurd (none-some next e)
behind_inconsistent AStep due next e = absurd (none-some next e)
behind_inconsistent AGoal due next e = absurd (none-some next e)
behind_inconsistent ACause due next e = absurd (none-some next e)
behind_inconsistent ATrace due next e = absurd (none-some next e)
behind_inconsistent AnEvent due next e = absurd (none-some next e)
behind_inconsistent AnAnswer due next e = absurd (none-some next e)
behind_inconsistent (ASide false) due next e = absurd (none-some next e)
behind_inconsistent (ASide true) due next e = absurd (none-some next e)
behind_inconsistent (AQuery j) due next e = absurd (none-some next e)

pub behind_model_head : (total : ℤ) (n : ℕ) (p : Part) (due next : List Part) → behind p (line.ModelHead total n) due ≡ Some next → next ≡ many n AnEntry due
unfolding behind
behind_model_head total n AReport due next e = absurd (none-some next e)
behind_model_head total n AVerdict due next e = absurd (none-some next e)
behind_model_head total n AModel due next e = sym (same_Some _ _ e)
behind_model_head total n AnEntry due next e = absurd (none-some next e)
behind_model_head total n ADual due next e = absurd (none-some next e)
behind_model_head total n SomeRows due next e = absurd (none-some next e)
behind_model_head total n AStep due next e = absurd (none-some next e)
behind_model_head total n AGoal due next e = absurd (none-some next e)
behind_model_head total n ACause due next e = absurd (none-some next e)
behind_model_head total n ATrace due next e = absurd (none-some next e)
behind_model_head total n AnEvent due next e = absurd (none-some next e)
behind_model_head total n AnAnswer due next e = absurd (none-some next e)
behind_model_head total n (ASide false) due next e = absurd (none-some next e)
behind_model_head total n (ASide true) due next e = absurd (none-some next e)
behind_model_head total n (AQuery j) due next e = absurd (none-some next e)

pub behind_dual_head : (top head : ℤ) (n : ℕ) (p : Part) (due next : List Part) → behind p (line.DualHead top head n) due ≡ Some next → next ≡ SomeRows ∷ many n AStep due
unfolding behind
behind_dual_head top head n AReport due next e = absurd (none-some next e)
behind_dual_head top head n AVerdict due next e = absurd (none-some next e)
behind_dual_head top head n AModel due next e = absurd (none-some next e)
behind_dual_head top head n AnEntry due next e = absurd (none-some next e)
behind_dual_head top head n ADual due next e = sym (same_Some _ _ e)
behind_dual_head top head n SomeRows due next e = absurd (none-some next e)
behind_dual_head top head n AStep due next e = absurd (none-some next e)
behind_dual_head top head n AGoal due next e = absurd (none-some next e)
behind_dual_head top head n ACause due next e = absurd (none-some next e)
behind_dual_head top head n ATrace due next e = absurd (none-some next e)
behind_dual_head top head n AnEvent due next e = absurd (none-some next e)
behind_dual_head top head n AnAnswer due next e = absurd (none-some next e)
behind_dual_head top head n (ASide false) due next e = absurd (none-some next e)
behind_dual_head top head n (ASide true) due next e = absurd (none-some next e)
behind_dual_head top head n (AQuery j) due next e = absurd (none-some next e)

pub behind_trace_head : (n : ℕ) (p : Part) (due next : List Part) → behind p (line.TraceHead n) due ≡ Some next → next ≡ many n AnEvent due
unfolding behind
behind_trace_head n AReport due next e = absurd (none-some next e)
behind_trace_head n AVerdict due next e = absurd (none-some next e)
behind_trace_head n AModel due next e = absurd (none-some next e)
behind_trace_head n AnEntry due next e = absurd (none-some next e)
behind_trace_head n ADual due next e = absurd (none-some next e)
behind_trace_head n SomeRows due next e = absurd (none-some next e)
behind_trace_head n AStep due next e = absurd (none-some next e)
behind_trace_head n AGoal due next e = absurd (none-some next e)
behind_trace_head n ACause due next e = absurd (none-some next e)
behind_trace_head n ATrace due next e = sym (same_Some _ _ e)
behind_trace_head n AnEvent due next e = absurd (none-some next e)
behind_trace_head n AnAnswer due next e = absurd (none-some next e)
behind_trace_head n (ASide false) due next e = absurd (none-some next e)
behind_trace_head n (ASide true) due next e = absurd (none-some next e)
behind_trace_head n (AQuery j) due next e = absurd (none-some next e)

pub behind_bounds : (p : Part) (due next : List Part) → behind p line.Bounds due ≡ Some next → next ≡ ATrace ∷ ASide false ∷ ASide true ∷ due
unfolding behind
behind_bounds AReport due next e = absurd (none-some next e)
behind_bounds AVerdict due next e = absurd (none-some next e)
behind_bounds AModel due next e = absurd (none-some next e)
behind_bounds AnEntry due next e = absurd (none-some next e)
behind_bounds ADual due next e = absurd (none-some next e)
behind_bounds SomeRows due next e = absurd (none-some next e)
behind_bounds AStep due next e = absurd (none-some next e)
behind_bounds AGoal due next e = absurd (none-some next e)
behind_bounds ACause due next e = absurd (none-some next e)
behind_bounds ATrace due next e = absurd (none-some next e)
behind_bounds AnEvent due next e = absurd (none-some next e)
behind_bounds AnAnswer due next e = sym (same_Some _ _ e)
behind_bounds (ASide false) due next e = absurd (none-some next e)
behind_bounds (ASide true) due next e = absurd (none-some next e)
behind_bounds (AQuery j) due next e = absurd (none-some next e)

pub behind_impossible : (p : Part) (due next : List Part) → behind p line.Impossible due ≡ Some next → next ≡ ADual ∷ ATrace ∷ due
unfolding behind
behind_impossible AReport due next e = absurd (none-some next e)
behind_impossible AVerdict due next e = absurd (none-some next e)
behind_impossible AModel due next e = absurd (none-some next e)
behind_impossible AnEntry due next e = absurd (none-some next e)
behind_impossible ADual due next e = absurd (none-some next e)
behind_impossible SomeRows due next e = absurd (none-some next e)
behind_impossible AStep due next e = absurd (none-some next e)
behind_impossible AGoal due next e = absurd (none-some next e)
behind_impossible ACause due next e = absurd (none-some next e)
behind_impossible ATrace due next e = absurd (none-some next e)
behind_impossible AnEvent due next e = absurd (none-some next e)
behind_impossible AnAnswer due next e = sym (same_Some _ _ e)
behind_impossible (ASide false) due next e = absurd (none-some next e)
behind_impossible (ASide true) due next e = absurd (none-some next e)
behind_impossible (AQuery j) due next e = absurd (none-some next e)

pub behind_bound : (upper : Bool) (value : Ratio) (p : Part) (due next : List Part) → behind p (line.Bound upper value) due ≡ Some next → next ≡ AModel ∷ ADual ∷ ATrace ∷ due
unfolding behind
behind_bound upper value AReport due next e = absurd (none-some next e)
behind_bound upper value AVerdict due next e = absurd (none-some next e)
behind_bound upper value AModel due next e = absurd (none-some next e)
behind_bound upper value AnEntry due next e = absurd (none-some next e)
behind_bound upper value ADual due next e = absurd (none-some next e)
behind_bound upper value SomeRows due next e = absurd (none-some next e)
behind_bound upper value AStep due next e = absurd (none-some next e)
behind_bound upper value AGoal due next e = absurd (none-some next e)
behind_bound upper value ACause due next e = absurd (none-some next e)
behind_bound upper value ATrace due next e = absurd (none-some next e)
behind_bound upper value AnEvent due next e = absurd (none-some next e)
behind_bound upper value AnAnswer due next e = absurd (none-some next e)
behind_bound false value (ASide false) due next e = sym (same_Some _ _ e)
behind_bound true value (ASide false) due next e = absurd (none-some next e)
behind_bound false value (ASide true) due next e = absurd (none-some next e)
behind_bound true value (ASide true) due next e = sym (same_Some _ _ e)
behind_bound upper value (AQuery j) due next e = absurd (none-some next e)

pub behind_open_side : (upper : Bool) (p : Part) (due next : List Part) → behind p (line.OpenSide upper) due ≡ Some next → next ≡ ACause ∷ ATrace ∷ due
unfolding behind
behind_open_side upper AReport due next e = absurd (none-some next e)
behind_open_side upper AVerdict due next e = absurd (none-some next e)
behind_open_side upper AModel due next e = absurd (none-some next e)
behind_open_side upper AnEntry due next e = absurd (none-some next e)
behind_open_side upper ADual due next e = absurd (none-some next e)
behind_open_side upper SomeRows due next e = absurd (none-some next e)
behind_open_side upper AStep due next e = absurd (none-some next e)
behind_open_side upper AGoal due next e = absurd (none-some next e)
behind_open_side upper ACause due next e = absurd (none-some next e)
behind_open_side upper ATrace due next e = absurd (none-some next e)
behind_open_side upper AnEvent due next e = absurd (none-some next e)
behind_open_side upper AnAnswer due next e = absurd (none-some next e)
behind_open_side false (ASide false) due next e = sym (same_Some _ _ e)
behind_open_side true (ASide false) due next e = absurd (none-some next e)
behind_open_side false (ASide true) due next e = absurd (none-some next e)
behind_open_side true (ASide true) due next e = sym (same_Some _ _ e)
behind_open_side upper (AQuery j) due next e = absurd (none-some next e)

pub behind_pivots : (limit : ℕ) (p : Part) (due next : List Part) → behind p (line.OpenPivots limit) due ≡ Some next → next ≡ traced p due
unfolding behind
behind_pivots limit AReport due next e = absurd (none-some next e)
behind_pivots limit AVerdict due next e = sym (same_Some _ _ e)
behind_pivots limit AModel due next e = absurd (none-some next e)
behind_pivots limit AnEntry due next e = absurd (none-some next e)
behind_pivots limit ADual due next e = absurd (none-some next e)
behind_pivots limit SomeRows due next e = absurd (none-some next e)
behind_pivots limit AStep due next e = absurd (none-some next e)
behind_pivots limit AGoal due next e = absurd (none-some next e)
behind_pivots limit ACause due next e = sym (same_Some _ _ e)
behind_pivots limit ATrace due next e = absurd (none-some next e)
behind_pivots limit AnEvent due next e = absurd (none-some next e)
behind_pivots limit AnAnswer due next e = sym (same_Some _ _ e)
behind_pivots limit (ASide false) due next e = absurd (none-some next e)
behind_pivots limit (ASide true) due next e = absurd (none-some next e)
behind_pivots limit (AQuery j) due next e = absurd (none-some next e)

pub behind_conflicts : (limit : ℕ) (p : Part) (due next : List Part) → behind p (line.OpenConflicts limit) due ≡ Some next → next ≡ AGoal ∷ many limit AStep (traced p due)
unfolding behind
behind_conflicts limit AReport due next e = absurd (none-some next e)
behind_conflicts limit AVerdict due next e = sym (same_Some _ _ e)
behind_conflicts limit AModel due next e = absurd (none-some next e)
behind_conflicts limit AnEntry due next e = absurd (none-some next e)
behind_conflicts limit ADual due next e = absurd (none-some next e)
behind_conflicts limit SomeRows due next e = absurd (none-some next e)
behind_conflicts limit AStep due next e = absurd (none-some next e)
behind_conflicts limit AGoal due next e = absurd (none-some next e)
behind_conflicts limit ACause due next e = sym (same_Some _ _ e)
behind_conflicts limit ATrace due next e = absurd (none-some next e)
behind_conflicts limit AnEvent due next e = absurd (none-some next e)
behind_conflicts limit AnAnswer due next e = sym (same_Some _ _ e)
behind_conflicts limit (ASide false) due next e = absurd (none-some next e)
behind_conflicts limit (ASide true) due next e = absurd (none-some next e)
behind_conflicts limit (AQuery j) due next e = absurd (none-some next e)

pub behind_wide : (at : Place) (op : Op) (left right : Ratio) (p : Part) (due next : List Part) → behind p (line.OpenWide at op left right) due ≡ Some next → next ≡ traced p due
unfolding behind
behind_wide at op left right AReport due next e = absurd (none-some next e)
behind_wide at op left right AVerdict due next e = sym (same_Some _ _ e)
behind_wide at op left right AModel due next e = absurd (none-some next e)
behind_wide at op left right AnEntry due next e = absurd (none-some next e)
behind_wide at op left right ADual due next e = absurd (none-some next e)
behind_wide at op left right SomeRows due next e = absurd (none-some next e)
behind_wide at op left right AStep due next e = absurd (none-some next e)
behind_wide at op left right AGoal due next e = absurd (none-some next e)
behind_wide at op left right ACause due next e = sym (same_Some _ _ e)
behind_wide at op left right ATrace due next e = absurd (none-some next e)
behind_wide at op left right AnEvent due next e = absurd (none-some next e)
behind_wide at op left right AnAnswer due next e = sym (same_Some _ _ e)
behind_wide at op left right (ASide false) due next e = absurd (none-some next e)
behind_wide at op left right (ASide true) due next e = absurd (none-some next e)
behind_wide at op left right (AQuery j) due next e = absurd (none-some next e)

pub behind_query : (number : ℕ) (p : Part) (due next : List Part) → behind p (line.Query number) due ≡ Some next → next ≡ AnAnswer ∷ AQuery (number + 1) ∷ due
unfolding behind
behind_query number AReport due next e = absurd (none-some next e)
behind_query number AVerdict due next e = absurd (none-some next e)
behind_query number AModel due next e = absurd (none-some next e)
behind_query number AnEntry due next e = absurd (none-some next e)
behind_query number ADual due next e = absurd (none-some next e)
behind_query number SomeRows due next e = absurd (none-some next e)
behind_query number AStep due next e = absurd (none-some next e)
behind_query number AGoal due next e = absurd (none-some next e)
behind_query number ACause due next e = absurd (none-some next e)
behind_query number ATrace due next e = absurd (none-some next e)
behind_query number AnEvent due next e = absurd (none-some next e)
behind_query number AnAnswer due next e = absurd (none-some next e)
behind_query number (ASide false) due next e = absurd (none-some next e)
behind_query number (ASide true) due next e = absurd (none-some next e)
behind_query number (AQuery j) due next e = by (number == j) refl e
  where
    same : (number == j) ≡ true → suc j ≡ number + 1
    same h = let n = eqb-true number j h in omega (arith, n)

    by : (t : Bool) → (number == j) ≡ t → (if t then Some (AnAnswer ∷ AQuery (suc j) ∷ due) else None) ≡ Some next → next ≡ AnAnswer ∷ AQuery (number + 1) ∷ due
    by true h e = sym (same_Some _ _ e) ∙ ap (λ n. AnAnswer ∷ AQuery n ∷ due) (same h)
    by false h e = absurd (none-some next e)

-- lines behind which nothing comes before what was due
abbrev pub IsQuiet : LineItem → Type 0
IsQuiet line.Report = ⊤
IsQuiet line.Consistent = ⊥
IsQuiet line.Inconsistent = ⊥
IsQuiet (line.OpenPivots a) = ⊥
IsQuiet (line.OpenConflicts a) = ⊥
IsQuiet (line.OpenWide a b c d) = ⊥
IsQuiet (line.ModelHead a b) = ⊥
IsQuiet (line.Entry a b) = ⊤
IsQuiet (line.DualHead a b c) = ⊥
IsQuiet (line.Rows a) = ⊤
IsQuiet (line.StepLine a) = ⊤
IsQuiet (line.GoalLine a) = ⊤
IsQuiet (line.TraceHead a) = ⊥
IsQuiet (line.PivotLine a b) = ⊤
IsQuiet (line.PricedLine a) = ⊤
IsQuiet (line.Query a) = ⊥
IsQuiet line.Bounds = ⊥
IsQuiet line.Impossible = ⊥
IsQuiet (line.Bound a b) = ⊥
IsQuiet (line.OpenSide a) = ⊥
IsQuiet line.End = ⊤

pub behind_quiet : (i : LineItem) (p : Part) (due next : List Part) → IsQuiet i → behind p i due ≡ Some next → next ≡ due
unfolding behind
behind_quiet line.Report AReport due next q e = sym (same_Some _ _ e)
behind_quiet line.Report AVerdict due next q e = absurd (none-some next e)
behind_quiet line.Report AModel due next q e = absurd (none-some next e)
behind_quiet line.Report AnEntry due next q e = absurd (none-some next e)
behind_quiet line.Report ADual due next q e = absurd (none-some next e)
behind_quiet line.Report SomeRows due next q e = absurd (none-some next e)
behind_quiet line.Report AStep due next q e = absurd (none-some next e)
behind_quiet line.Report AGoal due next q e = absurd (none-some next e)
behind_quiet line.Report ACause due next q e = absurd (none-some next e)
behind_quiet line.Report ATrace due next q e = absurd (none-some next e)
behind_quiet line.Report AnEvent due next q e = absurd (none-some next e)
behind_quiet line.Report AnAnswer due next q e = absurd (none-some next e)
behind_quiet line.Report (ASide false) due next q e = absurd (none-some next e)
behind_quiet line.Report (ASide true) due next q e = absurd (none-some next e)
behind_quiet line.Report (AQuery j) due next q e = absurd (none-some next e)
behind_quiet line.Consistent p due next q e = absurd q
behind_quiet line.Inconsistent p due next q e = absurd q
behind_quiet (line.OpenPivots a) p due next q e = absurd q
behind_quiet (line.OpenConflicts a) p due next q e = absurd q
behind_quiet (line.OpenWide a b c d) p due next q e = absurd q
behind_quiet (line.ModelHead a b) p due next q e = absurd q
behind_quiet (line.Entry a b) AReport due next q e = absurd (none-some next e)
behind_quiet (line.Entry a b) AVerdict due next q e = absurd (none-some next e)
behind_quiet (line.Entry a b) AModel due next q e = absurd (none-some next e)
behind_quiet (line.Entry a b) AnEntry due next q e = sym (same_Some _ _ e)
behind_quiet (line.Entry a b) ADual due next q e = absurd (none-some next e)
behind_quiet (line.Entry a b) SomeRows due next q e = absurd (none-some next e)
behind_quiet (line.Entry a b) AStep due next q e = absurd (none-some next e)
behind_quiet (line.Entry a b) AGoal due next q e = absurd (none-some next e)
behind_quiet (line.Entry a b) ACause due next q e = absurd (none-some next e)
behind_quiet (line.Entry a b) ATrace due next q e = absurd (none-some next e)
behind_quiet (line.Entry a b) AnEvent due next q e = absurd (none-some next e)
behind_quiet (line.Entry a b) AnAnswer due next q e = absurd (none-some next e)
behind_quiet (line.Entry a b) (ASide false) due next q e = absurd (none-some next e)
behind_quiet (line.Entry a b) (ASide true) due next q e = absurd (none-some next e)
behind_quiet (line.Entry a b) (AQuery j) due next q e = absurd (none-some next e)
behind_quiet (line.DualHead a b c) p due next q e = absurd q
behind_quiet (line.Rows a) AReport due next q e = absurd (none-some next e)
behind_quiet (line.Rows a) AVerdict due next q e = absurd (none-some next e)
behind_quiet (line.Rows a) AModel due next q e = absurd (none-some next e)
behind_quiet (line.Rows a) AnEntry due next q e = absurd (none-some next e)
behind_quiet (line.Rows a) ADual due next q e = absurd (none-some next e)
behind_quiet (line.Rows a) SomeRows due next q e = sym (same_Some _ _ e)
behind_quiet (line.Rows a) AStep due next q e = absurd (none-some next e)
behind_quiet (line.Rows a) AGoal due next q e = absurd (none-some next e)
behind_quiet (line.Rows a) ACause due next q e = absurd (none-some next e)
behind_quiet (line.Rows a) ATrace due next q e = absurd (none-some next e)
behind_quiet (line.Rows a) AnEvent due next q e = absurd (none-some next e)
behind_quiet (line.Rows a) AnAnswer due next q e = absurd (none-some next e)
behind_quiet (line.Rows a) (ASide false) due next q e = absurd (none-some next e)
behind_quiet (line.Rows a) (ASide true) due next q e = absurd (none-some next e)
behind_quiet (line.Rows a) (AQuery j) due next q e = absurd (none-some next e)
behind_quiet (line.StepLine a) AReport due next q e = absurd (none-some next e)
behind_quiet (line.StepLine a) AVerdict due next q e = absurd (none-some next e)
behind_quiet (line.StepLine a) AModel due next q e = absurd (none-some next e)
behind_quiet (line.StepLine a) AnEntry due next q e = absurd (none-some next e)
behind_quiet (line.StepLine a) ADual due next q e = absurd (none-some next e)
behind_quiet (line.StepLine a) SomeRows due next q e = absurd (none-some next e)
behind_quiet (line.StepLine a) AStep due next q e = sym (same_Some _ _ e)
behind_quiet (line.StepLine a) AGoal due next q e = absurd (none-some next e)
behind_quiet (line.StepLine a) ACause due next q e = absurd (none-some next e)
behind_quiet (line.StepLine a) ATrace due next q e = absurd (none-some next e)
behind_quiet (line.StepLine a) AnEvent due next q e = absurd (none-some next e)
behind_quiet (line.StepLine a) AnAnswer due next q e = absurd (none-some next e)
behind_quiet (line.StepLine a) (ASide false) due next q e = absurd (none-some next e)
behind_quiet (line.StepLine a) (ASide true) due next q e = absurd (none-some next e)
behind_quiet (line.StepLine a) (AQuery j) due next q e = absurd (none-some next e)
behind_quiet (line.GoalLine a) AReport due next q e = absurd (none-some next e)
behind_quiet (line.GoalLine a) AVerdict due next q e = absurd (none-some next e)
behind_quiet (line.GoalLine a) AModel due next q e = absurd (none-some next e)
behind_quiet (line.GoalLine a) AnEntry due next q e = absurd (none-some next e)
behind_quiet (line.GoalLine a) ADual due next q e = absurd (none-some next e)
behind_quiet (line.GoalLine a) SomeRows due next q e = absurd (none-some next e)
behind_quiet (line.GoalLine a) AStep due next q e = absurd (none-some next e)
behind_quiet (line.GoalLine a) AGoal due next q e = sym (same_Some _ _ e)
behind_quiet (line.GoalLine a) ACause due next q e = absurd (none-some next e)
behind_quiet (line.GoalLine a) ATrace due next q e = absurd (none-some next e)
behind_quiet (line.GoalLine a) AnEvent due next q e = absurd (none-some next e)
behind_quiet (line.GoalLine a) AnAnswer due next q e = absurd (none-some next e)
behind_quiet (line.GoalLine a) (ASide false) due next q e = absurd (none-some next e)
behind_quiet (line.GoalLine a) (ASide true) due next q e = absurd (none-some next e)
behind_quiet (line.GoalLine a) (AQuery j) due next q e = absurd (none-some next e)
behind_quiet (line.TraceHead a) p due next q e = absurd q
behind_quiet (line.PivotLine a b) AReport due next q e = absurd (none-some next e)
behind_quiet (line.PivotLine a b) AVerdict due next q e = absurd (none-some next e)
behind_quiet (line.PivotLine a b) AModel due next q e = absurd (none-some next e)
behind_quiet (line.PivotLine a b) AnEntry due next q e = absurd (none-some next e)
behind_quiet (line.PivotLine a b) ADual due next q e = absurd (none-some next e)
behind_quiet (line.PivotLine a b) SomeRows due next q e = absurd (none-some next e)
behind_quiet (line.PivotLine a b) AStep due next q e = absurd (none-some next e)
behind_quiet (line.PivotLine a b) AGoal due next q e = absurd (none-some next e)
behind_quiet (line.PivotLine a b) ACause due next q e = absurd (none-some next e)
behind_quiet (line.PivotLine a b) ATrace due next q e = absurd (none-some next e)
behind_quiet (line.PivotLine a b) AnEvent due next q e = sym (same_Some _ _ e)
behind_quiet (line.PivotLine a b) AnAnswer due next q e = absurd (none-some next e)
behind_quiet (line.PivotLine a b) (ASide false) due next q e = absurd (none-some next e)
behind_quiet (line.PivotLine a b) (ASide true) due next q e = absurd (none-some next e)
behind_quiet (line.PivotLine a b) (AQuery j) due next q e = absurd (none-some next e)
behind_quiet (line.PricedLine a) AReport due next q e = absurd (none-some next e)
behind_quiet (line.PricedLine a) AVerdict due next q e = absurd (none-some next e)
behind_quiet (line.PricedLine a) AModel due next q e = absurd (none-some next e)
behind_quiet (line.PricedLine a) AnEntry due next q e = absurd (none-some next e)
behind_quiet (line.PricedLine a) ADual due next q e = absurd (none-some next e)
behind_quiet (line.PricedLine a) SomeRows due next q e = absurd (none-some next e)
behind_quiet (line.PricedLine a) AStep due next q e = absurd (none-some next e)
behind_quiet (line.PricedLine a) AGoal due next q e = absurd (none-some next e)
behind_quiet (line.PricedLine a) ACause due next q e = absurd (none-some next e)
behind_quiet (line.PricedLine a) ATrace due next q e = absurd (none-some next e)
behind_quiet (line.PricedLine a) AnEvent due next q e = sym (same_Some _ _ e)
behind_quiet (line.PricedLine a) AnAnswer due next q e = absurd (none-some next e)
behind_quiet (line.PricedLine a) (ASide false) due next q e = absurd (none-some next e)
behind_quiet (line.PricedLine a) (ASide true) due next q e = absurd (none-some next e)
behind_quiet (line.PricedLine a) (AQuery j) due next q e = absurd (none-some next e)
behind_quiet (line.Query a) p due next q e = absurd q
behind_quiet line.Bounds p due next q e = absurd q
behind_quiet line.Impossible p due next q e = absurd q
behind_quiet (line.Bound a b) p due next q e = absurd q
behind_quiet (line.OpenSide a) p due next q e = absurd q
behind_quiet line.End AReport due next q e = absurd (none-some next e)
behind_quiet line.End AVerdict due next q e = absurd (none-some next e)
behind_quiet line.End AModel due next q e = absurd (none-some next e)
behind_quiet line.End AnEntry due next q e = absurd (none-some next e)
behind_quiet line.End ADual due next q e = absurd (none-some next e)
behind_quiet line.End SomeRows due next q e = absurd (none-some next e)
behind_quiet line.End AStep due next q e = absurd (none-some next e)
behind_quiet line.End AGoal due next q e = absurd (none-some next e)
behind_quiet line.End ACause due next q e = absurd (none-some next e)
behind_quiet line.End ATrace due next q e = absurd (none-some next e)
behind_quiet line.End AnEvent due next q e = absurd (none-some next e)
behind_quiet line.End AnAnswer due next q e = absurd (none-some next e)
behind_quiet line.End (ASide false) due next q e = absurd (none-some next e)
behind_quiet line.End (ASide true) due next q e = absurd (none-some next e)
behind_quiet line.End (AQuery j) due next q e = sym (same_Some _ _ e)

-- a line was passed
pub passed_line : (item said : LineItem) (old mid new : List Part) (part : Part) (f : Part → List Part → List Part) → item ≡ said → old ≡ part ∷ mid → new ≡ f part mid
    → ((p : Part) (due next : List Part) → behind p said due ≡ Some next → next ≡ f p due) → IsBehind item old new
passed_line item said old mid new part f h eo en w = record {
  behind = λ p due next e b.
      let same : part ∷ mid ≡ p ∷ due = sym eo ∙ e in
      en ∙ alike same ∙ sym (w p due next (subst (λ i. behind p i due ≡ Some next) h b));
}
  where
    alike : {p : Part} {due : List Part} → part ∷ mid ≡ p ∷ due → f part mid ≡ f p due
    alike same = cc

-- a line that is none of the others
pub quiet_item : (i : LineItem) → (i ≡ line.Consistent → ⊥) → (i ≡ line.Inconsistent → ⊥) → ((l : ℕ) → i ≡ line.OpenPivots l → ⊥) → ((l : ℕ) → i ≡ line.OpenConflicts l → ⊥) → ((p : Place) (o : Op) (l r : Ratio) → i ≡ line.OpenWide p o l r → ⊥) → ((t : ℤ) (n : ℕ) → i ≡ line.ModelHead t n → ⊥) → ((t h : ℤ) (n : ℕ) → i ≡ line.DualHead t h n → ⊥) → ((n : ℕ) → i ≡ line.TraceHead n → ⊥) → ((n : ℕ) → i ≡ line.Query n → ⊥) → (i ≡ line.Bounds → ⊥) → (i ≡ line.Impossible → ⊥) → ((u : Bool) (v : Ratio) → i ≡ line.Bound u v → ⊥) → ((u : Bool) → i ≡ line.OpenSide u → ⊥) → IsQuiet i
quiet_item line.Report n0 n1 n2 n3 n4 n5 n6 n7 n8 n9 n10 n11 n12 = tt
quiet_item line.Consistent n0 n1 n2 n3 n4 n5 n6 n7 n8 n9 n10 n11 n12 = n0 refl
quiet_item line.Inconsistent n0 n1 n2 n3 n4 n5 n6 n7 n8 n9 n10 n11 n12 = n1 refl
quiet_item (line.OpenPivots a) n0 n1 n2 n3 n4 n5 n6 n7 n8 n9 n10 n11 n12 = n2 a refl
quiet_item (line.OpenConflicts a) n0 n1 n2 n3 n4 n5 n6 n7 n8 n9 n10 n11 n12 = n3 a refl
quiet_item (line.OpenWide a b c d) n0 n1 n2 n3 n4 n5 n6 n7 n8 n9 n10 n11 n12 = n4 a b c d refl
quiet_item (line.ModelHead a b) n0 n1 n2 n3 n4 n5 n6 n7 n8 n9 n10 n11 n12 = n5 a b refl
quiet_item (line.Entry a b) n0 n1 n2 n3 n4 n5 n6 n7 n8 n9 n10 n11 n12 = tt
quiet_item (line.DualHead a b c) n0 n1 n2 n3 n4 n5 n6 n7 n8 n9 n10 n11 n12 = n6 a b c refl
quiet_item (line.Rows a) n0 n1 n2 n3 n4 n5 n6 n7 n8 n9 n10 n11 n12 = tt
quiet_item (line.StepLine a) n0 n1 n2 n3 n4 n5 n6 n7 n8 n9 n10 n11 n12 = tt
quiet_item (line.GoalLine a) n0 n1 n2 n3 n4 n5 n6 n7 n8 n9 n10 n11 n12 = tt
quiet_item (line.TraceHead a) n0 n1 n2 n3 n4 n5 n6 n7 n8 n9 n10 n11 n12 = n7 a refl
quiet_item (line.PivotLine a b) n0 n1 n2 n3 n4 n5 n6 n7 n8 n9 n10 n11 n12 = tt
quiet_item (line.PricedLine a) n0 n1 n2 n3 n4 n5 n6 n7 n8 n9 n10 n11 n12 = tt
quiet_item (line.Query a) n0 n1 n2 n3 n4 n5 n6 n7 n8 n9 n10 n11 n12 = n8 a refl
quiet_item line.Bounds n0 n1 n2 n3 n4 n5 n6 n7 n8 n9 n10 n11 n12 = n9 refl
quiet_item line.Impossible n0 n1 n2 n3 n4 n5 n6 n7 n8 n9 n10 n11 n12 = n10 refl
quiet_item (line.Bound a b) n0 n1 n2 n3 n4 n5 n6 n7 n8 n9 n10 n11 n12 = n11 a b refl
quiet_item (line.OpenSide a) n0 n1 n2 n3 n4 n5 n6 n7 n8 n9 n10 n11 n12 = n12 a refl
quiet_item line.End n0 n1 n2 n3 n4 n5 n6 n7 n8 n9 n10 n11 n12 = tt
