-- The lines of the traces of a run.
use Rattle.std.proofs.Common.{◌≡◌, ℕ, ◌+◌, ◌≤◌, Option, List, length, ap, arith}
use Rattle.std.specs.List.{AllByRecursion}
use Rattle.ps_problem.specs.declared.query.Query as stored
use Rattle.ps_problem.specs.Problems.{Parts}
use Rattle.ps_table.specs.declared.event.Event.{Event}
use Rattle.ps_table.specs.declared.event.Event.TheVariants.{Pivot, Priced}
use Rattle.ps_answer.specs.declared.item.LineItem.{LineItem}
use Rattle.ps_answer.specs.declared.limits.TheConstants.{MOST_WORLD}
use Rattle.ps_answer.specs.declared.item.LineItem.TheVariants as line
use Rattle.ps_answer.specs.declared.answer.Verdict.{Verdict}
use Rattle.ps_answer.specs.Answers.{event_item, trace_items}
use Rattle.ps_claims.specs.declared.claim_kind.ClaimKind.TheVariants.{Nothing}
use Rattle.ps_runs.specs.declared.limits.Limits.{Limits}
use Rattle.ps_runs.specs.Rows.{rows_of}
use Rattle.ps_runs.specs.Subjects.{Subject, setting_of, atoms_of}
use Rattle.ps_runs.specs.Subjects.{program_of}
use Rattle.ps_runs.specs.Runs.{pivots_in}
use Rattle.ps_runs.specs.Verdicts.{IsLawfulPhaseOne}
use Rattle.ps_query.proofs.All.{mapped}
use Rattle.ps_query.proofs.Models.{IsFit}
use Rattle.ps_query.proofs.Stages.{start_table}
use Rattle.ps_query.proofs.Counting.{worlds_in, all_counted, IsEventUnder, HasCome, has_come, few_priced, few_more}
use Rattle.ps_query.proofs.Places.{col_within}
use Rattle.ps_query.proofs.Causes.{AreLimits, AreLines, few_rows}

module _ (p : Parts) (q : Option stored.Query) (limits : Limits) (within : AreLimits p limits) (Q : LineItem → Type 0) (Open : Type 0) (lines : AreLines limits.pivots Q Open) where
  abbrev s : Subject
  s = record { parts = p; query = q }

  event_fit : (most : ℕ) → most ≤ MOST_WORLD → (e : Event) → IsEventUnder (rows_of (setting_of s)) most (atoms_of s) e → IsFit (event_item e)
  event_fit most few (Pivot enter leave) h =
      let rows = few_rows p q within.parts in
      (tt, (col_within (rows_of (setting_of s)) most enter rows few h.0, omega (arith, rows, h.1)))
  event_fit most few (Priced world) h =
      let atoms = within.parts.few_atoms in
      (tt, omega (arith, h, atoms))

  -- a trace with at most one more world than pivots, whose pivots name few worlds
  pub trace_fit : (events : List Event) (most : ℕ) → pivots_in events ≤ limits.pivots → worlds_in events ≤ pivots_in events + 1 → most ≤ limits.pivots + 1
      → AllByRecursion (IsEventUnder (rows_of (setting_of s)) most (atoms_of s)) events → AllByRecursion Q (trace_items events)
  trace_fit events most few worlds under h =
      let limit = within.few_pivots in (
        lines.fit (line.TraceHead (length events)) (tt, omega (arith, few, worlds, limit, all_counted events)),
        mapped (IsEventUnder (rows_of (setting_of s)) most (atoms_of s)) Q event_item events (λ e k. lines.fit (event_item e) (event_fit most (omega (arith, under, limit)) e k)) h,
      )

  -- ---- phase one
  module _ (answer : Verdict) (events : List Event) (h : IsLawfulPhaseOne (program_of Nothing s) limits answer events) where
    came : HasCome Nothing s limits.conflicts h.start events h.end
    came = has_come Nothing s limits.conflicts h.start h.end events (start_table s h.start h.starts) h.leads

    empty : length h.start.pool ≡ 0
    empty = ap length h.starts.pool

    pub first_pool : length h.end.pool ≤ limits.pivots + 2
    first_pool =
        let none = empty in
        let pool = few_more Nothing s limits.conflicts h.start h.end events came in
        let count = h.counted in
        omega (arith, none, pool, count)

    pub first_trace : AllByRecursion Q (trace_items events)
    first_trace =
        let none = empty in
        let count = h.counted in
        trace_fit events (length h.start.pool + pivots_in events) (omega (arith, count)) (few_priced Nothing s limits.conflicts h.end (worlds_in events) (pivots_in events) came.balanced) (omega (arith, none, count)) came.under
