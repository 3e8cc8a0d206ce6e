-- An answer whose lines are within the limits of a report has small models and duals.
use Rattle.std.proofs.Common.{ℕ, suc, ◌≤◌, ◌^◌, ℤ, pos, ◌≤ℤ◌, unsigned_abs, Bool, true, false, List, [], ◌∷◌, ◌++◌, map, All, arith}
use Rattle.std.specs.List.{AllByRecursion}
use Rattle.std.proofs.lemmas.Int.{ints}
use Rattle.std.proofs.lemmas.List.Elements.{All-cons, All-nil}
use Rattle.ps_table.specs.declared.event.Event.{Event}
use Rattle.ps_answer.proofs.Single.{all_good}
use Rattle.ps_answer.specs.declared.item.LineItem.TheVariants as line
use Rattle.ps_answer.specs.declared.answer.Weighted.{Weighted}
use Rattle.ps_answer.specs.declared.answer.Model.{Model}
use Rattle.ps_answer.specs.declared.answer.Dual.{Dual}
use Rattle.ps_answer.specs.declared.answer.Verdict.{Verdict}
use Rattle.ps_answer.specs.declared.answer.Verdict.TheVariants.{Consistent, Inconsistent, Open}
use Rattle.ps_answer.specs.declared.answer.SideAnswer.{SideAnswer}
use Rattle.ps_answer.specs.declared.answer.SideAnswer.TheVariants as side
use Rattle.ps_answer.specs.declared.answer.QueryAnswer.{QueryAnswer}
use Rattle.ps_answer.specs.declared.answer.QueryAnswer.TheVariants as query
use Rattle.ps_answer.specs.declared.answer.QueryPart.{QueryPart}
use Rattle.ps_answer.specs.declared.answer.Answer.{Answer}
use Rattle.ps_answer.specs.Items.{IsProper, IsWithin}
use Rattle.ps_answer.specs.Answers.{entry_item, model_items, dual_items, trace_items, verdict_items, side_items, query_items, part_items, answer_items}
use Rattle.ps_answer.specs.Faults.{IsReport}
use Rattle.ps_claims.specs.Certificates.{IsSmallDual}
use Rattle.ps_valid.specs.Limits.{IsAmount, IsSmallModel, IsSmallVerdict, IsSmallSide, IsSmallPart, IsSmallAnswer}

front : {X : Type 0} (P : X → Type 0) (xs ys : List X) → AllByRecursion P (xs ++ ys) → AllByRecursion P xs
front P [] ys h = tt
front P (x ∷ xs) ys h = (h.0, front P xs ys h.1)

back : {X : Type 0} (P : X → Type 0) (xs ys : List X) → AllByRecursion P (xs ++ ys) → AllByRecursion P ys
back P [] ys h = h
back P (x ∷ xs) ys h = back P xs ys h.1

small : (z : ℤ) → pos 0 ≤ℤ z → unsigned_abs z ≤ 2 ^ 90 → IsAmount z
small z low size = record { low = low; high = omega (arith, ints, low, size) }

small_entries : (ws : List Weighted) → AllByRecursion (λ i. IsProper i × IsWithin i) (map entry_item ws) → All (λ w. IsAmount w.weight) ws
small_entries [] h = All-nil (λ w. IsAmount w.weight)
small_entries (w ∷ ws) h = All-cons (λ w. IsAmount w.weight) w ws (small w.weight h.0.0 h.0.1.0) (small_entries ws h.1)

small_model : (m : Model) → AllByRecursion (λ i. IsProper i × IsWithin i) (model_items m) → IsSmallModel m
small_model m h = record {
  total = small m.total h.0.0 h.0.1.0;
  worlds = record { few = h.0.1.1; weights = small_entries m.worlds h.1 };
}

small_dual : (d : Dual) → AllByRecursion (λ i. IsProper i × IsWithin i) (dual_items d) → IsSmallDual d
small_dual d h = record { top = h.0.1.0; head = h.0.1.1; rows = h.1.0.1.0 }

small_verdict : (v : Verdict) → AllByRecursion (λ i. IsProper i × IsWithin i) (verdict_items v) → IsSmallVerdict v
small_verdict (Consistent m) h = small_model m h.1
small_verdict (Inconsistent d) h = small_dual d h.1
small_verdict (Open cause) h = tt

small_side : (upper : Bool) (s : SideAnswer) (trace : List Event) → AllByRecursion (λ i. IsProper i × IsWithin i) (side_items upper s trace) → IsSmallSide s
small_side upper (side.Bound value m d) trace h =
    let later = back (λ i. IsProper i × IsWithin i) (model_items m) (dual_items d ++ trace_items trace) h.1 in
    (small_model m (front (λ i. IsProper i × IsWithin i) (model_items m) (dual_items d ++ trace_items trace) h.1), small_dual d (front (λ i. IsProper i × IsWithin i) (dual_items d) (trace_items trace) later))
small_side upper (side.Open cause) trace h = tt

small_part : (q : QueryAnswer) (first : List Event) → AllByRecursion (λ i. IsProper i × IsWithin i) (query_items q first) → IsSmallPart q
small_part (query.Bounds lower lower_trace upper upper_trace) first h =
    let sides = back (λ i. IsProper i × IsWithin i) (trace_items first) (side_items false lower lower_trace ++ side_items true upper upper_trace) h.1 in (
      small_side false lower lower_trace (front (λ i. IsProper i × IsWithin i) (side_items false lower lower_trace) (side_items true upper upper_trace) sides),
      small_side true upper upper_trace (back (λ i. IsProper i × IsWithin i) (side_items false lower lower_trace) (side_items true upper upper_trace) sides),
    )
small_part (query.Impossible d) first h = small_dual d (front (λ i. IsProper i × IsWithin i) (dual_items d) (trace_items first) h.1)
small_part (query.Open cause) first h = tt

small_parts : (j : ℕ) (parts : List QueryPart) → AllByRecursion (λ i. IsProper i × IsWithin i) (part_items j parts) → All (λ part. IsSmallPart part.answer) parts
small_parts j [] h = All-nil (λ part. IsSmallPart part.answer)
small_parts j (x ∷ parts) h = All-cons (λ part. IsSmallPart part.answer) x parts
    (small_part x.answer x.first (front (λ i. IsProper i × IsWithin i) (query_items x.answer x.first) (part_items (suc j) parts) h.1))
    (small_parts (suc j) parts (back (λ i. IsProper i × IsWithin i) (query_items x.answer x.first) (part_items (suc j) parts) h.1))

pub within_small : (a : Answer) → AllByRecursion (λ i. IsProper i × IsWithin i) (answer_items a) → IsSmallAnswer a
unfolding answer_items
within_small a h =
    let behind = part_items 1 a.parts ++ line.End ∷ [] in
    let later = back (λ i. IsProper i × IsWithin i) (verdict_items a.verdict) (trace_items a.first ++ behind) h.1 in
    let parts = back (λ i. IsProper i × IsWithin i) (trace_items a.first) behind later in
    record {
      verdict = small_verdict a.verdict (front (λ i. IsProper i × IsWithin i) (verdict_items a.verdict) (trace_items a.first ++ behind) h.1);
      parts = small_parts 1 a.parts (front (λ i. IsProper i × IsWithin i) (part_items 1 a.parts) (line.End ∷ []) parts);
    }

pub report_small : (bytes : List ℕ) (a : Answer) → IsReport bytes a → IsSmallAnswer a
report_small bytes a report = within_small a (all_good report.lines.lines (answer_items a) report.lines.say report.within)
