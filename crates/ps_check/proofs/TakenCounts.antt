-- How many parts are asked, and how many there are, behind lines that were taken.
use Rattle.std.proofs.Common.{◌≡◌, ℕ, suc, ◌+◌, Bool, true, false, Option, Some, None, List, [], ◌∷◌, ◌++◌, length, map, ap, ◌∙◌, arith}
use Rattle.std.specs.Prelude.{nat_le, if◌then◌else◌}
use Rattle.std.specs.List.{AllByRecursion}
use Rattle.ps_problem.specs.Problems.{Parts}
use Rattle.ps_table.specs.declared.event.Event.{Event}
use Rattle.ps_answer.specs.declared.item.LineItem.{LineItem}
use Rattle.ps_answer.specs.declared.item.LineItem.TheVariants as line
use Rattle.ps_answer.specs.declared.answer.Cause.{Cause}
use Rattle.ps_answer.specs.declared.answer.Cause.TheVariants.{Pivots, Conflicts, Wide}
use Rattle.ps_answer.specs.declared.answer.SideAnswer.{SideAnswer}
use Rattle.ps_answer.specs.declared.answer.SideAnswer.TheVariants as side
use Rattle.ps_answer.specs.declared.answer.QueryAnswer.{QueryAnswer}
use Rattle.ps_answer.specs.declared.answer.QueryAnswer.TheVariants as query
use Rattle.ps_answer.specs.declared.answer.QueryPart.{QueryPart}
use Rattle.ps_answer.specs.Answers.{model_items, dual_items, trace_items, cause_items, side_items, query_items, part_items}
use Rattle.ps_claims.specs.declared.claim.Claim.{Claim}
use Rattle.ps_claims.specs.declared.reason.Reason.{Reason}
use Rattle.ps_valid.specs.declared.refusal.Refusal.{Refusal}
use Rattle.ps_check.specs.declared.subject.Subject.{Subject}
use Rattle.ps_check.specs.declared.stage.Stage.{Stage}
use Rattle.ps_check.specs.declared.stage.Stage.TheVariants.{Idle, Begun, Modelling, Headed, Refuting, Failed}
use Rattle.ps_check.specs.declared.progress.Progress.{Progress}
use Rattle.ps_check.specs.Progress.{with_stage, begun, HasEnded, HasConcluded, HasTakenLine, HaveTaken}
use Rattle.ps_check.proofs.TakenLines.{IsInner, taken_apart, inner_steps, inner_model, inner_dual, inner_trace}

-- as many parts are asked, and there are as many
pub record HasCounts (old new : Progress) : Type 0 where
  pub asked : new.asked ≡ old.asked
  pub parts : new.parts ≡ old.parts

pub counts_same : (g h : Progress) → h ≡ g → HasCounts g h
counts_same g h e = record { asked = ap (λ (x : Progress). x.asked) e; parts = ap (λ (x : Progress). x.parts) e }

counts_stage : (s : Stage) (g h : Progress) → h ≡ with_stage s g → HasCounts g h
counts_stage s g h e = record { asked = ap (λ (x : Progress). x.asked) e; parts = ap (λ (x : Progress). x.parts) e }

pub counts_then : (g k h : Progress) → HasCounts g k → HasCounts k h → HasCounts g h
counts_then g k h a b = record { asked = b.asked ∙ a.asked; parts = b.parts ∙ a.parts }

counts_if : (b : Bool) (s : Stage) (g h : Progress) → h ≡ (if b then with_stage s g else g) → HasCounts g h
counts_if true s g h e = counts_stage s g h e
counts_if false s g h e = counts_same g h e

pub counts_begun : (subject : Subject) (first : Option Refusal) (g h : Progress) → h ≡ begun subject first g → HasCounts g h
counts_begun subject None g h e = counts_if (nat_le g.parts g.asked) (Begun subject) g h e
counts_begun subject (Some r) g h e = counts_same g h e

counts_ended : (claim : Claim) (found : Option Reason) (g h : Progress) → HasEnded claim found g h → HasCounts g h
counts_ended claim None g h t = record { asked = t.asked; parts = t.parts }
counts_ended claim (Some r) g h t = record { asked = ap (λ (x : Progress). x.asked) t; parts = ap (λ (x : Progress). x.parts) t }

counts_concluded : (p : Parts) (s : Stage) (g h : Progress) → HasConcluded p s g h → HasCounts g h
counts_concluded p Idle g h t = counts_stage Idle g h t
counts_concluded p (Begun subject) g h t = counts_stage Idle g h t
counts_concluded p (Modelling subject m) g h t = counts_ended _ t.0 g h t.2
counts_concluded p (Headed subject m top head) g h t = counts_stage Idle g h t
counts_concluded p (Refuting subject c) g h t = counts_ended _ _ g h t
counts_concluded p (Failed claim r) g h t = counts_ended claim (Some r) g h t

-- a line that is neither of a query nor of a consistent verdict
abbrev pub IsUncounted : LineItem → Type 0
IsUncounted (line.Query number) = ⊥
IsUncounted line.Consistent = ⊥
IsUncounted other = Unit {0}

counts_line : (p : Parts) (i : LineItem) (g h : Progress) → IsUncounted i → HasTakenLine p i g h → HasCounts g h
counts_line p line.Consistent g h un t = absurd un
counts_line p line.Inconsistent g h un t = counts_begun _ g.first g h t
counts_line p (line.OpenPivots limit) g h un t = record { asked = t.asked; parts = t.parts }
counts_line p (line.OpenConflicts limit) g h un t = record { asked = t.asked; parts = t.parts }
counts_line p (line.OpenWide at op left right) g h un t = record { asked = t.asked; parts = t.parts }
counts_line p (line.ModelHead total n) g h un t = counts_stage _ g h t
counts_line p (line.Entry weight world) g h un t = counts_stage _ g h t
counts_line p (line.DualHead top head n) g h un t = counts_stage _ g h t
counts_line p (line.Rows rows) g h un t = counts_stage h.stage g h t.others
counts_line p (line.StepLine s) g h un t = counts_stage _ g h t
counts_line p (line.TraceHead n) g h un t = counts_concluded p g.stage g h t
counts_line p (line.Query number) g h un t = absurd un
counts_line p line.Impossible g h un t = counts_begun _ g.first g h t
counts_line p (line.Bound upper value) g h un t = counts_begun _ g.first g h t
counts_line p i g h un t = counts_same g h t

-- such lines change no count of parts
pub counts_lines : (p : Parts) (is : List LineItem) (g h : Progress) → AllByRecursion IsUncounted is → HaveTaken p is g h → HasCounts g h
counts_lines p [] g h un t = counts_same g h t
counts_lines p (i ∷ is) g h un t = counts_then g t.0 h (counts_line p i g t.0 un.0 t.1) (counts_lines p is t.0 h un.1 t.2)

-- ---- the lines of an answer
uncounted_inner : (i : LineItem) → IsInner i → IsUncounted i
uncounted_inner (line.ModelHead total n) inner = tt
uncounted_inner (line.Entry weight world) inner = tt
uncounted_inner (line.DualHead top head n) inner = tt
uncounted_inner (line.Rows rows) inner = tt
uncounted_inner (line.StepLine s) inner = tt
uncounted_inner (line.GoalLine goal) inner = tt
uncounted_inner (line.TraceHead n) inner = tt
uncounted_inner (line.PivotLine enter leave) inner = tt
uncounted_inner (line.PricedLine world) inner = tt
uncounted_inner i inner = absurd inner

pub uncounted_inners : (is : List LineItem) → AllByRecursion IsInner is → AllByRecursion IsUncounted is
uncounted_inners [] inner = tt
uncounted_inners (i ∷ is) inner = (uncounted_inner i inner.0, uncounted_inners is inner.1)

uncounted_append : (xs ys : List LineItem) → AllByRecursion IsUncounted xs → AllByRecursion IsUncounted ys → AllByRecursion IsUncounted (xs ++ ys)
uncounted_append [] ys a b = b
uncounted_append (x ∷ xs) ys a b = (a.0, uncounted_append xs ys a.1 b)

pub uncounted_trace : (events : List Event) → AllByRecursion IsUncounted (trace_items events)
uncounted_trace events = uncounted_inners (trace_items events) (inner_trace events)

pub uncounted_cause : (c : Cause) → AllByRecursion IsUncounted (cause_items c)
uncounted_cause (Pivots limit) = (tt, tt)
uncounted_cause (Conflicts limit goal steps) = (tt, (tt, uncounted_inners (map line.StepLine steps) (inner_steps steps)))
uncounted_cause (Wide at) = (tt, tt)

pub uncounted_side : (upper : Bool) (s : SideAnswer) (trace : List Event) → AllByRecursion IsUncounted (side_items upper s trace)
uncounted_side upper (side.Bound value m d) trace = (
  tt,
  uncounted_append (model_items m) (dual_items d ++ trace_items trace) (uncounted_inners (model_items m) (inner_model m))
      (uncounted_append (dual_items d) (trace_items trace) (uncounted_inners (dual_items d) (inner_dual d)) (uncounted_trace trace)),
)
uncounted_side upper (side.Open c) trace = (tt, uncounted_append (cause_items c) (trace_items trace) (uncounted_cause c) (uncounted_trace trace))

pub uncounted_query : (a : QueryAnswer) (first : List Event) → AllByRecursion IsUncounted (query_items a first)
uncounted_query (query.Bounds lower lower_trace upper upper_trace) first = (
  tt,
  uncounted_append (trace_items first) (side_items false lower lower_trace ++ side_items true upper upper_trace) (uncounted_trace first)
      (uncounted_append (side_items false lower lower_trace) (side_items true upper upper_trace) (uncounted_side false lower lower_trace) (uncounted_side true upper upper_trace)),
)
uncounted_query (query.Impossible d) first = (tt, uncounted_append (dual_items d) (trace_items first) (uncounted_inners (dual_items d) (inner_dual d)) (uncounted_trace first))
uncounted_query (query.Open c) first = uncounted_append (cause_items c) (trace_items first) (uncounted_cause c) (uncounted_trace first)

-- behind the parts from a number on there are so many more
pub parts_counted : (p : Parts) (xs : List QueryPart) (before : ℕ) (g h : Progress) → g.parts ≡ before → HaveTaken p (part_items (suc before) xs) g h → (h.asked ≡ g.asked) × (h.parts ≡ before + length xs)
parts_counted p [] before g h e t = (ap (λ (x : Progress). x.asked) t, (let f : h.parts ≡ g.parts = ap (λ (x : Progress). x.parts) t in omega (arith, e, f)))
parts_counted p (x ∷ xs) before g h e t =
    let split = taken_apart p (query_items x.answer x.first) (part_items (suc (suc before)) xs) t.0 h t.2 in
    let asked : t.0.asked ≡ g.asked = ap (λ (y : Progress). y.asked) t.1 in
    let parts : t.0.parts ≡ suc before = ap (λ (y : Progress). y.parts) t.1 in
    let here = counts_lines p (query_items x.answer x.first) t.0 split.0 (uncounted_query x.answer x.first) split.1 in
    let later = parts_counted p xs (suc before) split.0 h (here.parts ∙ parts) split.2 in
    (later.0 ∙ here.asked ∙ asked, (let n = later.1 in omega (arith, n)))
