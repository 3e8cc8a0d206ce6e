-- The lines of what is answered to the sentences, and to a query.
use Rattle.std.proofs.Common.{◌≡◌, ◌⊎◌, ℕ, ◌+◌, ◌<◌, ◌≤◌, ◌^◌, pos, ◌≤ℤ◌, Bool, true, false, Option, Some, None, List, [], ◌++◌, length, inl, inr, refl, sym, ap, subst, arith}
use Rattle.std.specs.List.{AllByRecursion}
use Rattle.std.proofs.lemmas.Int.{ints}
use Rattle.std.proofs.lemmas.List.{length-map}
use Rattle.ps_meaning.specs.Distribution.{IsDistribution}
use Rattle.ps_problem.specs.declared.query.Query as stored
use Rattle.ps_problem.specs.Problems.{Parts, HasNodes, bounds_in, bounds_of, bound_of}
use Rattle.ps_table.specs.declared.event.Event.{Event}
use Rattle.ps_answer.specs.declared.item.LineItem.{LineItem}
use Rattle.ps_answer.specs.declared.item.LineItem.TheVariants as line
use Rattle.ps_answer.specs.declared.answer.Model.{Model}
use Rattle.ps_answer.specs.declared.answer.Dual.{Dual}
use Rattle.ps_answer.specs.declared.answer.Cause.{Cause}
use Rattle.ps_answer.specs.declared.answer.Verdict.{Verdict}
use Rattle.ps_answer.specs.declared.answer.Verdict.TheVariants.{Consistent, Inconsistent, Open}
use Rattle.ps_answer.specs.declared.answer.SideAnswer.{SideAnswer}
use Rattle.ps_answer.specs.declared.answer.SideAnswer.TheVariants as side
use Rattle.ps_answer.specs.declared.answer.QueryAnswer.{QueryAnswer}
use Rattle.ps_answer.specs.declared.answer.QueryAnswer.TheVariants as query
use Rattle.ps_answer.specs.Answers.{ratio_of, model_items, dual_items, trace_items, cause_items, verdict_items, side_items, query_items}
use Rattle.ps_claims.specs.Answers as claimed
use Rattle.ps_claims.specs.declared.claim_kind.ClaimKind.{ClaimKind}
use Rattle.ps_claims.specs.declared.claim_kind.ClaimKind.TheVariants.{Nothing, Lower, Upper}
use Rattle.ps_claims.specs.Claims.{open_in_verdict, open_in_side, open_in_part}
use Rattle.ps_claims.specs.Validity.{query_of, IsRefuted, IsValidVerdict, IsValidSide, IsValidPart}
use Rattle.ps_claims.specs.Certificates.{entries, model_of, dual_of}
use Rattle.ps_runs.specs.declared.limits.Limits.{Limits}
use Rattle.ps_runs.specs.Subjects.{Subject, IsAsked, given_in, both_in, program_of}
use Rattle.ps_runs.specs.Subjects.{program_of}
use Rattle.ps_runs.specs.Runs.{Stage, pivots_in}
use Rattle.ps_runs.specs.Verdicts.{IsSideAt, AreLawfulBounds, IsLawfulPhaseOne, IsLawfulAnswerTo}
use Rattle.ps_claims.specs.Printed.{IsPrintedModel, IsPrintedDual, IsPrintedCause, IsPrintedVerdict, IsPrintedSide, IsPrintedPart}
use Rattle.ps_valid.specs.Answers.{verdict_of, side_of, part_of}
use Rattle.ps_query.specs.Settled.{IsClosed, IsCertifiedVerdict, IsCertifiedAnswer, IsLeftBy, IsBesideRun, IsOfRun, IsSettledVerdict}
use Rattle.ps_query.proofs.All.{both, each}
use Rattle.ps_runs.proofs.Asked.{given_there, both_there}
use Rattle.ps_query.proofs.Values.{value_small, value_low}
use Rattle.ps_query.proofs.Models.{IsFit, fit_model}
use Rattle.ps_query.proofs.Duals.{fit_dual}
use Rattle.ps_query.proofs.Stages.{start_table}
use Rattle.ps_query.proofs.Counting.{worlds_in, HasCome, has_come, few_priced, few_more, ended_few}
use Rattle.ps_query.proofs.Causes.{AreLimits, AreLines, operand_proper, cause_fit}
use Rattle.ps_query.proofs.Traces.{trace_fit, first_pool, first_trace}

module _ (p : Parts) (limits : Limits) (within : AreLimits p limits) (Q : LineItem → Type 0) (AnyOpen : Type 0) (lines : AreLines limits.pivots Q AnyOpen) where
  model_fit : (m : Model) → IsDistribution (length p.names) (entries m.worlds) → claimed.IsBasicModel (bounds_of p) (model_of m) → IsPrintedModel m → AllByRecursion Q (model_items m)
  model_fit m distribution small printed =
      let bounds = within.parts.few_bounds in
      let same = length-map (bounds_in p.sentences) (bound_of p.nodes) in
      each IsFit Q (model_items m) lines.fit
      (fit_model (length p.names) (bounds_of p) m within.parts.few_atoms (omega (arith, bounds, same)) distribution small printed)

  dual_fit : (q : Option stored.Query) (kind : ClaimKind) (d : Dual) → IsAsked kind p q → pos 0 ≤ℤ d.top → IsRefuted p kind (given_in q) (both_in q) (dual_of d) → IsPrintedDual d
      → AllByRecursion Q (dual_items d)
  dual_fit q kind d asked top refuted printed =
      each IsFit Q (dual_items d) lines.fit
      (fit_dual p within.parts kind (given_in q) (both_in q) (given_there kind p q asked) (both_there kind p q asked) d top refuted printed)

  nothing_fit : (q : Option stored.Query) (d : Dual) → (IsAsked Nothing p q) → IsRefuted p Nothing (given_in q) 0 (dual_of d) → d.top ≡ pos 0 → IsPrintedDual d → AllByRecursion Q (dual_items d)
  nothing_fit q d asked refuted top printed =
      each IsFit Q (dual_items d) lines.fit
      (fit_dual p within.parts Nothing (given_in q) 0 (given_there Nothing p q asked) (λ query. absurd (query refl)) d (omega (arith, ints, top)) refuted printed)

  no_events : (events : List Event) → events ≡ [] → AllByRecursion Q (trace_items events)
  no_events events e = subst (λ es. AllByRecursion Q (trace_items es)) (sym e) (lines.fit (line.TraceHead 0) (tt, omega arith), tt)

  -- ---- the verdict
  certified_verdict : (v : Verdict) (events : List Event) → IsCertifiedVerdict v events → IsValidVerdict p (verdict_of v) → IsPrintedVerdict v
      → AllByRecursion Q (verdict_items v) × AllByRecursion Q (trace_items events)
  certified_verdict (Consistent m) events h valid printed = ((lines.fit line.Consistent (tt, tt), model_fit m valid.model.distribution valid.basic printed), no_events events h)
  certified_verdict (Inconsistent d) events h valid printed = ((lines.fit line.Inconsistent (tt, tt), nothing_fit None d refl valid.refuted valid.head.top printed), no_events events h)
  certified_verdict (Open cause) events h valid printed = absurd h

  run_verdict : (v : Verdict) (events : List Event) (h : IsLawfulPhaseOne (program_of Nothing (record { parts = p; query = None })) limits v events) → IsValidVerdict p (verdict_of v) → IsPrintedVerdict v
      → (0 < open_in_verdict (verdict_of v) → AnyOpen) → AllByRecursion Q (verdict_items v)
  run_verdict (Consistent m) events h valid printed if_open = (lines.fit line.Consistent (tt, tt), model_fit m valid.model.distribution valid.basic printed)
  run_verdict (Inconsistent d) events h valid printed if_open = (lines.fit line.Inconsistent (tt, tt), nothing_fit None d refl valid.refuted valid.head.top printed)
  run_verdict (Open cause) events h valid printed if_open =
      cause_fit p None limits within Q AnyOpen lines Nothing refl h.end h.left cause h.answered printed
      (first_pool p None limits within Q AnyOpen lines (Open cause) events h) (if_open (omega arith))

  -- the lines of a verdict, and those of its events
  pub verdict_fit : (v : Verdict) (events : List Event) → IsSettledVerdict p limits v events → IsValidVerdict p (verdict_of v) → IsPrintedVerdict v
      → (0 < open_in_verdict (verdict_of v) → AnyOpen) → AllByRecursion Q (verdict_items v) × AllByRecursion Q (trace_items events)
  verdict_fit v events h valid printed if_open = elim h [
    | inl alone ↦ certified_verdict v events alone valid printed
    | inr run ↦ (run_verdict v events run valid printed if_open, first_trace p None limits within Q AnyOpen lines v events run)
  ]

  -- ---- a query
  module _ (q : stored.Query) (nodes : HasNodes p.nodes q.formula q.given q.both) where
    abbrev s : Subject
    s = record { parts = p; query = Some q }

    -- a side with its certificate
    closed_fit : (upper : Bool) (kind : ClaimKind) (a : SideAnswer) (trace : List Event) → IsClosed a → IsValidSide p kind q (side_of a) → IsPrintedSide a
        → AllByRecursion Q (trace_items trace) → AllByRecursion Q (side_items upper a trace)
    closed_fit upper kind (side.Bound value m d) trace closed valid printed events =
        let small = value_small value (dual_of d) valid.head in
        let over = small.over in
        let under = small.under in
        let head = printed.1.numbers.head in
        let top = printed.1.numbers.top in
        let least = valid.head.top in (
          lines.fit (line.Bound upper (ratio_of value))
              ((value_low (length p.names) (bounds_of p) (query_of p.nodes q) value (entries m.worlds) valid.reached, operand_proper value (2 ^ 90)), (omega (arith, over, head), omega (arith, under, top))),
          both Q (model_items m) (dual_items d ++ trace_items trace) (model_fit m valid.reached.allowed.model.distribution valid.basic printed.0)
              (both Q (dual_items d) (trace_items trace) (dual_fit (Some q) kind d nodes (omega (arith, ints, least)) valid.refuted printed.1) events),
        )
    closed_fit upper kind (side.Open cause) trace closed valid printed events = absurd closed

    -- a side of a run
    side_fit : (upper : Bool) (kind : ClaimKind) (g : Stage) (left : ℕ) (a : SideAnswer) (trace : List Event) → IsSideAt (program_of kind s) limits g left a
        → IsValidSide p kind q (side_of a) → IsPrintedSide a → length g.pool ≤ limits.pivots + 2 → (0 < open_in_side (side_of a) → AnyOpen) → AllByRecursion Q (trace_items trace)
        → AllByRecursion Q (side_items upper a trace)
    side_fit upper kind g left (side.Bound value m d) trace h valid printed few if_open events = closed_fit upper kind (side.Bound value m d) trace tt valid printed events
    side_fit upper kind g left (side.Open cause) trace h valid printed few if_open events = (
      lines.fit (line.OpenSide upper) (tt, tt),
      both Q (cause_items cause) (trace_items trace)
          (cause_fit p (Some q) limits within Q AnyOpen lines kind nodes g left cause h printed few (if_open (omega arith))) events,
    )

    -- both sides
    module _ (first : List Event) (lower : SideAnswer) (lower_trace : List Event) (upper : SideAnswer) (upper_trace : List Event) (h : AreLawfulBounds s limits first (lower, lower_trace) (upper, upper_trace)) where
      first_come : HasCome Nothing s limits.conflicts h.start first h.after_first
      first_come = has_come Nothing s limits.conflicts h.start h.after_first first (start_table s h.start h.starts) h.leads

      lower_come : HasCome Lower s limits.conflicts h.after_first lower_trace h.after_lower
      lower_come = has_come Lower s limits.conflicts h.after_first h.after_lower lower_trace first_come.table h.least.leads

      upper_come : HasCome Upper s limits.conflicts h.after_lower upper_trace h.end
      upper_come = has_come Upper s limits.conflicts h.after_lower h.end upper_trace lower_come.table h.greatest.leads

      empty : length h.start.pool ≡ 0
      empty = ap length h.starts.pool

      -- worlds and pivots up to the ends of phase one, and of the lower side
      first_few : length h.after_first.pool ≤ pivots_in first
      first_few =
          let none = empty in
          let pool = first_come.pool in
          let few = ended_few s limits.conflicts h.start h.after_first first h.table first_come h.feasible in
          omega (arith, none, pool, few)

      lower_few : length h.after_lower.pool ≤ pivots_in first + pivots_in lower_trace + 1
      lower_few =
          let pool = few_more Lower s limits.conflicts h.after_first h.after_lower lower_trace lower_come in
          let few = first_few in
          omega (arith, pool, few)

      upper_few : length h.end.pool ≤ limits.pivots + 2
      upper_few =
          let pool = few_more Upper s limits.conflicts h.after_lower h.end upper_trace upper_come in
          let few = lower_few in
          let a = h.counted in
          let b : h.left_lower + pivots_in lower_trace ≡ h.left_first = h.least.counted in
          let c : h.left + pivots_in upper_trace ≡ h.left_lower = h.greatest.counted in
          omega (arith, pool, few, a, b, c)

      first_fit : AllByRecursion Q (trace_items first)
      first_fit =
          let none = empty in
          let few = ended_few s limits.conflicts h.start h.after_first first h.table first_come h.feasible in
          let a = h.counted in
          trace_fit p (Some q) limits within Q AnyOpen lines first (length h.start.pool + pivots_in first) (omega (arith, a)) (omega (arith, few)) (omega (arith, none, a)) first_come.under

      lower_fit : AllByRecursion Q (trace_items lower_trace)
      lower_fit =
          let few = first_few in
          let a = h.counted in
          let b : h.left_lower + pivots_in lower_trace ≡ h.left_first = h.least.counted in
          trace_fit p (Some q) limits within Q AnyOpen lines lower_trace (length h.after_first.pool + pivots_in lower_trace) (omega (arith, a, b)) (few_priced Lower s limits.conflicts h.after_lower (worlds_in lower_trace) (pivots_in lower_trace) lower_come.balanced) (omega (arith, few, a, b)) lower_come.under

      upper_fit : AllByRecursion Q (trace_items upper_trace)
      upper_fit =
          let few = lower_few in
          let a = h.counted in
          let b : h.left_lower + pivots_in lower_trace ≡ h.left_first = h.least.counted in
          let c : h.left + pivots_in upper_trace ≡ h.left_lower = h.greatest.counted in
          trace_fit p (Some q) limits within Q AnyOpen lines upper_trace (length h.after_lower.pool + pivots_in upper_trace) (omega (arith, a, b, c)) (few_priced Upper s limits.conflicts h.end (worlds_in upper_trace) (pivots_in upper_trace) upper_come.balanced) (omega (arith, few, a, b, c)) upper_come.under

      -- the run's sides, where they are to be shown
      lower_side : (upper : Bool) → IsValidSide p Lower q (side_of lower) → IsPrintedSide lower → (0 < open_in_side (side_of lower) → AnyOpen) → AllByRecursion Q (side_items upper lower lower_trace)
      lower_side upper valid printed if_open =
          let few = lower_few in
          let a = h.counted in
          let b : h.left_lower + pivots_in lower_trace ≡ h.left_first = h.least.counted in
          side_fit upper Lower h.after_lower h.left_lower lower lower_trace h.least.answered valid printed (omega (arith, few, a, b)) if_open lower_fit

      upper_side : (is_upper : Bool) → IsValidSide p Upper q (side_of upper) → IsPrintedSide upper → (0 < open_in_side (side_of upper) → AnyOpen) → AllByRecursion Q (side_items is_upper upper upper_trace)
      upper_side is_upper valid printed if_open = side_fit is_upper Upper h.end h.left upper upper_trace h.greatest.answered valid printed upper_few if_open upper_fit

    -- the lines of the events of a run's phase one
    run_trace : (run : QueryAnswer) (first : List Event) → IsLawfulAnswerTo s limits first run → AllByRecursion Q (trace_items first)
    run_trace (query.Bounds lower lower_trace upper upper_trace) first h = first_fit first lower lower_trace upper upper_trace h
    run_trace (query.Impossible d) first h = first_trace p (Some q) limits within Q AnyOpen lines (Inconsistent d) first h
    run_trace (query.Open cause) first h = first_trace p (Some q) limits within Q AnyOpen lines (Open cause) first h

    -- the cause for which phase one is open
    cause_left : (cause : Cause) (first : List Event) → IsLawfulPhaseOne (program_of Nothing s) limits (Open cause) first → IsPrintedCause cause → AnyOpen → AllByRecursion Q (cause_items cause)
    cause_left cause first h printed any =
        cause_fit p (Some q) limits within Q AnyOpen lines Nothing nodes h.end h.left cause h.answered printed
        (first_pool p (Some q) limits within Q AnyOpen lines (Open cause) first h) any

    -- the lines of a side follow where it is valid, can be printed, and may be open
    FitsWhereValid : Bool → ClaimKind → SideAnswer → List Event → Type 0
    FitsWhereValid upper kind a events = IsValidSide p kind q (side_of a) → IsPrintedSide a → (0 < open_in_side (side_of a) → AnyOpen) → AllByRecursion Q (side_items upper a events)

    left_fit : (run : QueryAnswer) (first : List Event) → IsLawfulAnswerTo s limits first run → (upper : Bool) (kind : ClaimKind) (a : SideAnswer) (events : List Event)
        → IsLeftBy run kind a events → FitsWhereValid upper kind a events
    unfolding FitsWhereValid
    left_fit (query.Bounds lower lower_trace upper upper_trace) first h is_upper Nothing a events left = absurd left
    left_fit (query.Bounds lower lower_trace upper upper_trace) first h is_upper Lower a events left =
        subst (λ x. FitsWhereValid is_upper Lower x events) (sym left.0) (subst (λ es. FitsWhereValid is_upper Lower lower es) (sym left.1) (lower_side first lower lower_trace upper upper_trace h is_upper))
    left_fit (query.Bounds lower lower_trace upper upper_trace) first h is_upper Upper a events left =
        subst (λ x. FitsWhereValid is_upper Upper x events) (sym left.0) (subst (λ es. FitsWhereValid is_upper Upper upper es) (sym left.1) (upper_side first lower lower_trace upper upper_trace h is_upper))
    left_fit (query.Impossible d) first h is_upper kind a events left = absurd left
    left_fit (query.Open cause) first h is_upper kind a events left =
        let as_open : FitsWhereValid is_upper kind (side.Open cause) events = λ valid printed if_open. (
          lines.fit (line.OpenSide is_upper) (tt, tt),
          both Q (cause_items cause) (trace_items events) (cause_left cause first h printed (if_open (omega arith))) (no_events events left.1),
        ) in
        subst (λ x. FitsWhereValid is_upper kind x events) (sym left.0) as_open

    beside_fit : (run : QueryAnswer) (first : List Event) → IsLawfulAnswerTo s limits first run → (upper : Bool) (kind : ClaimKind) (a : SideAnswer) (events : List Event)
        → IsBesideRun run kind a events → IsValidSide p kind q (side_of a) → IsPrintedSide a → (0 < open_in_side (side_of a) → AnyOpen) → AllByRecursion Q (side_items upper a events)
    unfolding FitsWhereValid
    beside_fit run first h upper kind a events beside valid printed if_open = elim beside [
      | inl alone ↦ closed_fit upper kind a events alone.closed valid printed (no_events events alone.none)
      | inr left ↦ left_fit run first h upper kind a events left valid printed if_open
    ]

    certified_fit : (first : List Event) (a : QueryAnswer) → IsCertifiedAnswer first a → IsValidPart p q (part_of a) → IsPrintedPart a → AllByRecursion Q (query_items a first)
    certified_fit first (query.Bounds lower lower_trace upper upper_trace) h valid printed = (
      lines.fit line.Bounds (tt, tt),
      both Q (trace_items first) (side_items false lower lower_trace ++ side_items true upper upper_trace) (no_events first h.0)
          (both Q (side_items false lower lower_trace) (side_items true upper upper_trace)
          (closed_fit false Lower lower lower_trace h.1.closed valid.0 printed.0 (no_events lower_trace h.1.none))
          (closed_fit true Upper upper upper_trace h.2.closed valid.1 printed.1 (no_events upper_trace h.2.none))),
    )
    certified_fit first (query.Impossible d) h valid printed = (
      lines.fit line.Impossible (tt, tt),
      both Q (dual_items d) (trace_items first) (nothing_fit (Some q) d nodes valid.refuted valid.head.top printed) (no_events first h),
    )
    certified_fit first (query.Open cause) h valid printed = absurd h

    run_fit : (first : List Event) (a : QueryAnswer) → IsOfRun s limits first a → IsValidPart p q (part_of a) → IsPrintedPart a → (0 < open_in_part (part_of a) → AnyOpen)
        → AllByRecursion Q (query_items a first)
    run_fit first (query.Bounds lower lower_trace upper upper_trace) h valid printed if_open = (
      lines.fit line.Bounds (tt, tt),
      both Q (trace_items first) (side_items false lower lower_trace ++ side_items true upper upper_trace) (run_trace h.run first h.lawful)
          (both Q (side_items false lower lower_trace) (side_items true upper upper_trace)
          (beside_fit h.run first h.lawful false Lower lower lower_trace h.below valid.0 printed.0 (λ k. if_open (omega (arith, k))))
          (beside_fit h.run first h.lawful true Upper upper upper_trace h.above valid.1 printed.1 (λ k. if_open (omega (arith, k))))),
    )
    run_fit first (query.Impossible d) h valid printed if_open = (
      lines.fit line.Impossible (tt, tt),
      both Q (dual_items d) (trace_items first) (nothing_fit (Some q) d nodes valid.refuted valid.head.top printed)
          (first_trace p (Some q) limits within Q AnyOpen lines (Inconsistent d) first h),
    )
    run_fit first (query.Open cause) h valid printed if_open =
        both Q (cause_items cause) (trace_items first) (cause_left cause first h printed (if_open (omega arith)))
        (first_trace p (Some q) limits within Q AnyOpen lines (Open cause) first h)

    pub query_fit : (first : List Event) (a : QueryAnswer) → IsCertifiedAnswer first a ⊎ IsOfRun s limits first a → IsValidPart p q (part_of a) → IsPrintedPart a
        → (0 < open_in_part (part_of a) → AnyOpen) → AllByRecursion Q (query_items a first)
    query_fit first a h valid printed if_open = elim h [
      | inl alone ↦ certified_fit first a alone valid printed
      | inr run ↦ run_fit first a run valid printed if_open
    ]
