-- Models, duals and traces, of a head and what follows it.
use Rattle.std.specs.Prelude.{IfOk}
use Rattle.std.proofs.Common.{◌≡◌, ℕ, ◌+◌, ◌==◌, ℤ, List, [], ◌∷◌, ◌++◌, length, map, Some, Result, Ok, Err, true≢false, false, refl, sym, ap, subst, ◌∙◌, arith, length-append, to_z, of_z}
use mir.Syntax.{w128}
use Rattle.ps_pb.specs.declared.step.Step.{Step}
use Rattle.ps_table.specs.declared.event.Event.{Event}
use Rattle.ps_table.specs.declared.event.Event.TheVariants.{Pivot, Priced}
use Rattle.ps_answer.specs.declared.answer.Weighted.{Weighted}
use Rattle.ps_answer.specs.declared.error.ReportError.{ReportError}
use Rattle.ps_answer.specs.declared.item.LineItem.{LineItem}
use Rattle.ps_answer.specs.declared.item.LineItem.TheVariants as line
use Rattle.ps_answer.specs.declared.part.Part.{Part}
use Rattle.ps_answer.specs.declared.part.Part.TheVariants.{AModel, AnEntry, ADual, SomeRows, AStep, ATrace, AnEvent}
use Rattle.ps_answer.specs.Answers.{entry_item, event_item, trace_items}
use Rattle.ps_answer.specs.ExpectedParts.{behind, due_behind}
use Rattle.ps_reader.proofs.RowWords.{small_kept}
use Rattle.ps_reader.specs.declared.lines.Lines.{Lines}
use Rattle.ps_reader.specs.Errors.{IsKept}
use Rattle.ps_reader.specs.Taken.{Takes, IsStopped, IsValueRead, repeated}
use Rattle.ps_reader.proofs.Taking.{EachPasses, many_more, takes_both, stopped_more, stopped_later, stopped_behind}

-- nothing is read where lines are at fault
pub value_stopped : {X : Type 0} (f : X → List LineItem) (parts : List Part) (a b : Lines) (e : ReportError) (r : Result X ReportError) → IsStopped a parts e → r ≡ Err e → IsValueRead f parts a b r
value_stopped f parts a b e r s h = subst (λ q. IsValueRead f parts a b q) (sym h) s

pub some_left : (l : List ℕ) → false ≡ (length l == 0) → l ≡ [] → ⊥
some_left l h e = true≢false (sym (ap (λ x. length x == 0) e) ∙ sym h)

pub one_longer : {X : Type 0} (xs ys : List X) (x : X) (n : ℕ) → ys ≡ xs ++ x ∷ [] → length xs ≡ n → length ys ≡ n + 1
one_longer xs ys x n e h = omega (arith, ap length e, length-append xs (x ∷ []), h)

pub entry_passes : EachPasses entry_item AnEntry
unfolding behind
entry_passes x due = refl

pub step_passes : EachPasses (λ s. line.StepLine s) AStep
unfolding behind
step_passes x due = refl

pub event_passes : EachPasses event_item AnEvent
unfolding behind
event_passes (Pivot enter leave) due = refl
event_passes (Priced world) due = refl

pub kept_event : (e : Event) → IsKept (event_item e)
kept_event (Pivot enter leave) = tt
kept_event (Priced world) = tt

-- a model
model_next : (t : ℤ) (n : ℕ) (due : List Part) → behind AModel (line.ModelHead t n) due ≡ Some (repeated n AnEntry ++ due)
unfolding behind
model_next t n due = ap Some (sym (many_more n AnEntry due))

pub takes_model : (a b c : Lines) (t : ℤ) (n : ℕ) (ws : List Weighted) → Takes a b (line.ModelHead t n ∷ []) → Takes b c (map entry_item ws) → length ws ≡ n
    → Takes a c (line.ModelHead (to_z w128 (of_z w128 t)) (length ws) ∷ map entry_item ws)
takes_model a b c t n ws p q e =
    subst (λ i. Takes a c (i ∷ map entry_item ws)) (ap (λ m. line.ModelHead t m) (sym e) ∙ ap (λ z. line.ModelHead z (length ws)) (sym (small_kept t p.within.0.0)))
    (takes_both a b c (line.ModelHead t n ∷ []) (map entry_item ws) p q)

pub model_stopped : (a b : Lines) (t : ℤ) (n : ℕ) (e : ReportError) → Takes a b (line.ModelHead t n ∷ []) → IsStopped b (repeated n AnEntry) e → IsStopped a (AModel ∷ []) e
model_stopped a b t n e p s = stopped_behind a b (line.ModelHead t n) AModel (repeated n AnEntry) e p (model_next t n) s

-- a dual
dual_next : (t h : ℤ) (n : ℕ) (due : List Part) → behind ADual (line.DualHead t h n) due ≡ Some ((SomeRows ∷ repeated n AStep) ++ due)
unfolding behind
dual_next t h n due = ap (λ d. Some (SomeRows ∷ d)) (sym (many_more n AStep due))

rows_next : (rs : List ℤ) (more : List Part) → (due : List Part) → due_behind ((SomeRows ∷ more) ++ due) (line.Rows rs ∷ []) ≡ Some (more ++ due)
unfolding behind
rows_next rs more due = refl

pub takes_dual : (a b c d : Lines) (t h : ℤ) (n : ℕ) (rs : List ℤ) (ss : List Step) → Takes a b (line.DualHead t h n ∷ []) → Takes b c (line.Rows rs ∷ []) → Takes c d (map (λ s. line.StepLine s) ss) → length ss ≡ n
    → Takes a d (line.DualHead (to_z w128 (of_z w128 t)) (to_z w128 (of_z w128 h)) (length ss) ∷ line.Rows rs ∷ map (λ s. line.StepLine s) ss)
takes_dual a b c d t h n rs ss p q r e =
    subst (λ i. Takes a d (i ∷ line.Rows rs ∷ map (λ s. line.StepLine s) ss))
    (ap (λ m. line.DualHead t h m) (sym e) ∙ ap (λ z. line.DualHead z h (length ss)) (sym (small_kept t p.within.0.0))
    ∙ ap (λ z. line.DualHead (to_z w128 (of_z w128 t)) z (length ss)) (sym (small_kept h p.within.0.1)))
    (takes_both a b d (line.DualHead t h n ∷ []) (line.Rows rs ∷ map (λ s. line.StepLine s) ss) p
    (takes_both b c d (line.Rows rs ∷ []) (map (λ s. line.StepLine s) ss) q r))

pub rows_stopped : (a b : Lines) (t h : ℤ) (n : ℕ) (e : ReportError) → Takes a b (line.DualHead t h n ∷ []) → IsStopped b (SomeRows ∷ []) e → IsStopped a (ADual ∷ []) e
rows_stopped a b t h n e p s =
    stopped_behind a b (line.DualHead t h n) ADual (SomeRows ∷ repeated n AStep) e p (dual_next t h n) (stopped_more b (SomeRows ∷ []) (repeated n AStep) e s)

pub steps_stopped : (a b c : Lines) (t h : ℤ) (n : ℕ) (rs : List ℤ) (e : ReportError) → Takes a b (line.DualHead t h n ∷ []) → Takes b c (line.Rows rs ∷ []) → IsStopped c (repeated n AStep) e → IsStopped a (ADual ∷ []) e
steps_stopped a b c t h n rs e p q s =
    stopped_behind a b (line.DualHead t h n) ADual (SomeRows ∷ repeated n AStep) e p (dual_next t h n)
    (stopped_later b c (line.Rows rs ∷ []) (SomeRows ∷ repeated n AStep) (repeated n AStep) e q (rows_next rs (repeated n AStep)) s)

-- a trace
trace_next : (n : ℕ) (due : List Part) → behind ATrace (line.TraceHead n) due ≡ Some (repeated n AnEvent ++ due)
unfolding behind
trace_next n due = ap Some (sym (many_more n AnEvent due))

pub trace_read : (a b c : Lines) (n : ℕ) (r : Result (List Event) ReportError) → Takes a b (line.TraceHead n ∷ []) → IsValueRead (map event_item) (repeated n AnEvent) b c r → IfOk r (λ es. length es ≡ n)
    → IsValueRead trace_items (ATrace ∷ []) a c r
trace_read a b c n (Ok es) p q e = subst (λ m. Takes a c (line.TraceHead m ∷ map event_item es)) (sym e) (takes_both a b c (line.TraceHead n ∷ []) (map event_item es) p q)
trace_read a b c n (Err w) p q e = stopped_behind a b (line.TraceHead n) ATrace (repeated n AnEvent) w p (trace_next n) q
