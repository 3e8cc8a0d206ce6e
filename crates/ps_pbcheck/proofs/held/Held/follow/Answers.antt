use Rattle.std.proofs.Common.{◌-◌, Some, None, ap, sym, subst, ◌∙◌, refl}
use Rattle.std.specs.Prelude.{slice_get}
use Rattle.ps_pb.specs.Effects.{Propagates}
use Rattle.ps_pbcheck.proofs.Placed.{known-goal, known-clause, zero-none, at-different}
use Rattle.ps_pbcheck.proofs.held.Held.follow.Goals as goal

pub returns-then-id-eq0 : goal.returns-then-id-eq0
returns-then-id-eq0 c = rw (zero-none c.args.self.now c.args.id c.if-id-eq0.true) refl

pub returns-then-place-self : goal.returns-then-place-self
returns-then-place-self c =
    let here = c.self.inside in
    rw (← c.self.view_is, known-goal here.clauses here.before here.goal.value c.args.id c.self.invariant.0 c.if-id-eq0.false c.if-place-self.true)
    (subst (λ k. Propagates k c.args.a.now c.propagate.new.a c.propagate.result) c.deref.ensures c.propagate.ensures)

pub returns-in_err-lits : goal.returns-in_err-lits
returns-in_err-lits c =
    let here = c.self.inside in
    let none = c.in_err-lits.ensures ∙ ap (λ k. slice_get here.clauses (c.args.id - 1 - k)) c.from.ensures in
    rw (c.from_residual.ensures, ← c.self.view_is, known-clause here.clauses here.before here.goal.value c.args.id None c.self.invariant.0 c.if-id-eq0.false c.if-place-self.false none) refl

pub propagate_clause-requires : goal.propagate_clause-requires
propagate_clause-requires c =
    at-different c.self.inside.clauses (c.args.id - 1 - c.from.result) c.in_ok-lits.lits.now c.self.invariant.1 (sym c.in_ok-lits.ensures)

pub returns : goal.returns
returns c =
    let here = c.self.inside in
    let some = c.in_ok-lits.ensures ∙ ap (λ k. slice_get here.clauses (c.args.id - 1 - k)) c.from.ensures in
    rw (← c.self.view_is, known-clause here.clauses here.before here.goal.value c.args.id (Some c.in_ok-lits.lits.now) c.self.invariant.0 c.if-id-eq0.false c.if-place-self.false some)
    c.propagate_clause.ensures
