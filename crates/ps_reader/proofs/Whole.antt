-- Queries in their order, and whole reports.
use Rattle.std.proofs.Common.{◌≡◌, ℕ, suc, ◌+◌, List, [], ◌∷◌, ◌++◌, length, Some, refl, sym, ap, subst, ◌∙◌, arith}
use Rattle.std.proofs.lemmas.Option.{none-some}
use Rattle.ps_table.specs.declared.event.Event.{Event}
use Rattle.ps_answer.specs.declared.item.LineItem.{LineItem}
use Rattle.ps_answer.specs.declared.item.LineItem.TheVariants as line
use Rattle.ps_answer.specs.declared.part.Part.TheVariants.{AReport, AVerdict, ATrace, AnAnswer, AQuery}
use Rattle.ps_answer.specs.declared.error.ReportError.{ReportError}
use Rattle.ps_answer.specs.declared.error.ReportError.TheVariants.{At, NoMemory}
use Rattle.ps_answer.specs.declared.error.LineKind.{LineKind}
use Rattle.ps_answer.specs.declared.answer.Verdict.{Verdict}
use Rattle.ps_answer.specs.declared.answer.QueryPart.{QueryPart}
use Rattle.ps_answer.specs.declared.answer.Answer.{Answer}
use Rattle.ps_answer.specs.Answers.{verdict_items, trace_items, part_items, answer_items, IsVerdictCounted, ArePartsCounted, IsAnswerCounted}
use Rattle.ps_answer.specs.ExpectedParts.{behind, at_start}
use Rattle.ps_answer.specs.Faults.{BeginWith, IsFirstFault}
use Rattle.ps_answer.proofs.Dues.{answer_due}
use Rattle.ps_reader.specs.Read.{Fits}
use Rattle.ps_reader.specs.declared.lines.Lines.{Lines}
use Rattle.ps_reader.specs.Taken.{left_in, Takes, FaultAt, IsStopped, IsMore}
use Rattle.ps_reader.specs.Errors.{LacksAt, TellsFault}
use Rattle.ps_reader.specs.Reports.{query_part_items, IsPartTold, parts_and_end_items}
use Rattle.ps_reader.proofs.Taking.{takes_both, fault_later, stopped_later, stopped_more, stopped_behind}
use Rattle.ps_reader.proofs.Passing.{Passes, both_pass, trace_passes, verdict_passes, query_due, parts_due, parts_push, counted_push}
use Rattle.ps_reader.proofs.Rests.{stopped_after}

-- queries that were read, and the number of the next
pub record PartsSoFar (a b : Lines) (ps : List QueryPart) (number : ℕ) : Type 0 where
  pub taken : Takes a b (part_items 1 ps)
  pub counted : ArePartsCounted ps
  pub next : number ≡ 1 + length ps

pub query_stopped : (a b : Lines) (ps : List QueryPart) (number : ℕ) (e : ReportError) → PartsSoFar a b ps number → IsStopped b (AQuery number ∷ []) e → IsStopped a (AQuery 1 ∷ []) e
query_stopped a b ps number e p s = stopped_later a b (part_items 1 ps) (AQuery 1 ∷ []) (AQuery number ∷ []) e p.taken (λ due. parts_due 1 ps p.counted due ∙ ap (λ n. Some (AQuery n ∷ due)) (sym p.next)) s

pub part_stopped : (a b c : Lines) (ps : List QueryPart) (number : ℕ) (e : ReportError) → PartsSoFar a b ps number → Takes b c (line.Query number ∷ []) → IsStopped c (AnAnswer ∷ []) e → IsStopped a (AQuery 1 ∷ []) e
part_stopped a b c ps number e p t s =
    query_stopped a b ps number e p (stopped_behind b c (line.Query number) (AQuery number) (AnAnswer ∷ AQuery (suc number) ∷ []) e t (query_due number) (stopped_more c (AnAnswer ∷ []) (AQuery (suc number) ∷ []) e s))

pub part_more : (a b c d : Lines) (ps qs : List QueryPart) (x : QueryPart) (number next : ℕ) → PartsSoFar a b ps number → Takes b c (line.Query number ∷ []) → Takes c d (query_part_items x) → IsPartTold x → qs ≡ ps ++ x ∷ [] → next ≡ number + 1
    → PartsSoFar a d qs next
part_more a b c d ps qs x number next p t u h e f = subst (λ l. PartsSoFar a d l next) (sym e) (record {
  taken = subst (λ l. Takes a d l) (sym (parts_push 1 ps x ∙ ap (λ n. part_items 1 ps ++ (line.Query n ∷ query_part_items x)) (sym p.next)))
      (takes_both a b d (part_items 1 ps) (line.Query number ∷ query_part_items x) p.taken (takes_both b c d (line.Query number ∷ []) (query_part_items x) t u));
  counted = counted_push ps x p.counted h;
  next = omega (arith, f, p.next, length_push ps);
})
  where
    length_push : (ys : List QueryPart) → length (ys ++ x ∷ []) ≡ suc (length ys)
    length_push [] = refl
    length_push (y ∷ ys) = ap suc (length_push ys)

pub parts_end : (a b c : Lines) (ps : List QueryPart) (number : ℕ) → PartsSoFar a b ps number → Takes b c (line.End ∷ []) → Takes a c (parts_and_end_items ps)
parts_end a b c ps number p t = takes_both a b c (part_items 1 ps) (line.End ∷ []) p.taken t

-- the pieces of an answer
pub report_line : (i : LineItem) → Fits AReport i → i ≡ line.Report
unfolding behind
report_line line.Report f = refl
report_line i f = absurd (none-some _ (f []).1)

report_passes : Passes (AReport ∷ []) (line.Report ∷ [])
unfolding behind
report_passes due = refl

pub no_verdict : (a b : Lines) (e : ReportError) → Takes a b (line.Report ∷ []) → IsStopped b (AVerdict ∷ []) e → IsStopped a at_start e
no_verdict a b e t s =
    stopped_after a b (AReport ∷ []) (AVerdict ∷ ATrace ∷ AQuery 1 ∷ []) (line.Report ∷ []) e t report_passes (stopped_more b (AVerdict ∷ []) (ATrace ∷ AQuery 1 ∷ []) e s)

pub no_trace : (a b c : Lines) (v : Verdict) (e : ReportError) → Takes a b (line.Report ∷ []) → Takes b c (verdict_items v) → IsVerdictCounted v → IsStopped c (ATrace ∷ []) e → IsStopped a at_start e
no_trace a b c v e t u h s =
    stopped_after a c (AReport ∷ AVerdict ∷ []) (ATrace ∷ AQuery 1 ∷ []) (line.Report ∷ verdict_items v) e (takes_both a b c (line.Report ∷ []) (verdict_items v) t u)
    (both_pass (AReport ∷ []) (AVerdict ∷ []) (line.Report ∷ []) (verdict_items v) report_passes (verdict_passes v h)) (stopped_more c (ATrace ∷ []) (AQuery 1 ∷ []) e s)

pub no_parts : (a b c d : Lines) (v : Verdict) (es : List Event) (e : ReportError) → Takes a b (line.Report ∷ []) → Takes b c (verdict_items v) → IsVerdictCounted v → Takes c d (trace_items es) → IsStopped d (AQuery 1 ∷ []) e
    → IsStopped a at_start e
no_parts a b c d v es e t u h w s =
    stopped_after a d (AReport ∷ AVerdict ∷ ATrace ∷ []) (AQuery 1 ∷ []) (line.Report ∷ verdict_items v ++ trace_items es) e
    (takes_both a b d (line.Report ∷ []) (verdict_items v ++ trace_items es) t (takes_both b c d (verdict_items v) (trace_items es) u w))
    (both_pass (AReport ∷ []) (AVerdict ∷ ATrace ∷ []) (line.Report ∷ []) (verdict_items v ++ trace_items es) report_passes
    (both_pass (AVerdict ∷ []) (ATrace ∷ []) (verdict_items v) (trace_items es) (verdict_passes v h) (trace_passes es))) s

pub all_taken : (a b c d z : Lines) (x : Answer) → Takes a b (line.Report ∷ []) → Takes b c (verdict_items x.verdict) → Takes c d (trace_items x.first) → Takes d z (parts_and_end_items x.parts) → Takes a z (answer_items x)
unfolding answer_items
all_taken a b c d z x t u w p =
    takes_both a b z (line.Report ∷ []) (verdict_items x.verdict ++ (trace_items x.first ++ parts_and_end_items x.parts)) t
    (takes_both b c z (verdict_items x.verdict) (trace_items x.first ++ parts_and_end_items x.parts) u (takes_both c d z (trace_items x.first) (parts_and_end_items x.parts) w p))

first_fault : (bytes : List ℕ) (a : Lines) (kind : LineKind) (line : ℕ) → left_in a ≡ bytes → a.taken ≡ 0 → FaultAt a at_start kind line → IsFirstFault bytes kind line
first_fault bytes a kind line l z f = record {
  items = f.items;
  rest = f.rest;
  due = f.next;
  before = subst (λ b. BeginWith b f.items f.rest) l f.before;
  within = f.within;
  due_is = f.due_is;
  number = omega (arith, f.number, z);
  fault = f.fault;
}

pub fault_told : (bytes : List ℕ) (a : Lines) (e : ReportError) → left_in a ≡ bytes → a.taken ≡ 0 → IsStopped a at_start e → TellsFault bytes e
fault_told bytes a (At kind line) l z s = first_fault bytes a kind line l z (s [])
fault_told bytes a NoMemory l z s = subst (λ b. LacksAt at_start b) l (s [])

pub more_told : (bytes : List ℕ) (a b : Lines) (x : Answer) (e : ReportError) → left_in a ≡ bytes → a.taken ≡ 0 → Takes a b (answer_items x) → IsAnswerCounted x → IsMore b e → TellsFault bytes e
more_told bytes a b x (At kind line) l z t h s = first_fault bytes a kind line l z (fault_later a b (answer_items x) at_start [] kind line t (answer_due x h) s)
more_told bytes a b x NoMemory l z t h s = absurd s
