use Rattle.std.proofs.Common.{◌≡◌, ◌+◌, ◌<◌, ℕ, List, length, Err, sym, ap, subst, arith, rules}
use Rattle.ps_simplex.specs.Rule.{Improves, Enters}
use Rattle.ps_table.specs.declared.event.Event.{Event}
use Rattle.ps_table.specs.declared.event.Event.TheVariants.{Pivot}
use Rattle.ps_table.specs.Tableau.{Tableau, number_in, number_of, HasColumn}
use Rattle.ps_table.specs.Pricing.{cost_at}
use Rattle.ps_bland.specs.Rules.{simplex_of, IsLawful, IsDueToEndIn}
use Rattle.ps_bland.specs.Ends.{IsDueRefusal}
use Rattle.ps_bland.proofs.Steps.{due_refusal, leaving_due}
use Rattle.ps_bland.proofs.Counts.{event_counted}
use Rattle.ps_bland.proofs.Due.{rest_narrow, out_narrow}
use Rattle.ps_bland.proofs.Ready.{can_leave, ready_kept}
use Rattle.ps_table.specs.declared.error.TableError.TheVariants as refused
use Rattle.ps_bland.proofs.settling.step.Goals as goal

pub leaving-requires-clause-can_leave : goal.leaving-requires-clause-can_leave
leaving-requires-clause-can_leave c =
    let q = number_in (length c.args.table.now.kinds) c.in-Some.enter in
    let enters : Enters (simplex_of c.args.table.now) (cost_at c.args.costs.now) q = search rules in
    can_leave c.args.phase c.args.costs.now c.args.table.now q c.is_due_to_end.ensures.tableau c.requires.fits enters.improves

pub returns-in_err-leave-clause-refused : goal.returns-in_err-leave-clause-refused
returns-in_err-leave-clause-refused c =
    let t = c.args.table.now in
    let w = c.in_err-leave.field-0.0 in
    let inside : HasColumn t c.in-Some.enter = search rules in
    let enters : Enters (simplex_of t) (cost_at c.args.costs.now) (number_of t c.in-Some.enter) = search rules in
    let unfinished : IsDueToEndIn c.args.phase t → ⊥ = search rules in
    let some : 0 < c.args.left.now = search rules in
    let e : c.from_residual-in_err-leave.result ≡ Err (refused.Wide w) = search rules in
    rw e (leaving_due c.args.phase c.args.costs.now t c.args.left.now c.in-Some.enter w unfinished some inside enters c.in_err-leave.ensures.refused)

pub returns-in_err-pivot_with_event-clause-refused : goal.returns-in_err-pivot_with_event-clause-refused
returns-in_err-pivot_with_event-clause-refused c =
    let t = c.args.table.now in
    let r = c.in_err-pivot_with_event.field-0.0 in
    let lawful : IsLawful c.args.phase c.args.costs.now t c.in-Some.enter c.in_ok-leave.leave = search rules in
    let some : 0 < c.args.left.now = search rules in
    let e : c.from_residual-in_err-pivot_with_event.result ≡ Err r = search rules in
    let due = due_refusal c.args.phase c.args.costs.now t c.args.left.now c.in-Some.enter c.in_ok-leave.leave some lawful r c.in_err-pivot_with_event.ensures.refused in
    rw e (subst (λ (u : Tableau). IsDueRefusal c.args.phase c.args.costs.now u c.args.left.now r) (sym c.in_err-pivot_with_event.ensures.table_same) due)

pub returns-in_err-pivot_with_event-clause-counted : goal.returns-in_err-pivot_with_event-clause-counted
returns-in_err-pivot_with_event-clause-counted c = ap (λ (events : List Event). c.args.left.now + length events) c.in_err-pivot_with_event.ensures.trace_same

pub returns-clause-counted : goal.returns-clause-counted
returns-clause-counted c =
    let some : 0 < c.args.left.now = search rules in
    event_counted c.args.trace.now c.pivot_with_event.new.trace (Pivot c.in-Some.enter c.in_ok-leave.leave) c.args.left.now _ c.in_ok-pivot_with_event.ensures.event (omega (arith, some))

pub returns-clause-ready : goal.returns-clause-ready
returns-clause-ready c =
    let t = c.args.table.now in
    let lawful : IsLawful c.args.phase c.args.costs.now t c.in-Some.enter c.in_ok-leave.leave = search rules in
    ready_kept t c.pivot_with_event.new.table c.in-Some.enter c.in_ok-leave.leave c.in_ok-pivot_with_event.ensures.pivot c.args.phase c.args.costs.now c.requires lawful

pub returns-in-None-clause-narrow : goal.returns-in-None-clause-narrow
returns-in-None-clause-narrow c =
    let t = c.args.table.now in
    let none : (j : ℕ) → Improves (simplex_of t) (cost_at c.args.costs.now) j → ⊥ = rw c.in-None.is at c.in_ok-enter.ensures.found in
    rest_narrow c.args.phase c.args.costs.now t c.args.left.now none c.in_ok-enter.ensures.narrow

pub returns-then-left-eq0-clause-narrow : goal.returns-then-left-eq0-clause-narrow
returns-then-left-eq0-clause-narrow c =
    let none_left : c.args.left.now ≡ 0 = search rules in
    out_narrow c.args.phase c.args.costs.now c.args.table.now c.args.left.now none_left c.in_ok-enter.ensures.narrow
