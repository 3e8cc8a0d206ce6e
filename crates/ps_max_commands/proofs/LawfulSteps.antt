-- Lawful steps of literals are within the limits.
use Rattle.std.proofs.Common.{◌≡◌, ℕ, zero, suc, ◌+◌, ◌<◌, ◌≤◌, Bool, true, false, cond, Option, Some, None, List, [], ◌∷◌, length, All, refl, sym, ap, ◌∙◌, arith}
use Rattle.std.specs.Prelude.{◌==◌, slice_index_or}
use Rattle.std.specs.List.{AllByRecursion}
use Rattle.std.proofs.lemmas.Bool.{eqb-true}
use Rattle.std.proofs.lemmas.List.{length-append}
use Rattle.std.proofs.lemmas.List.Elements.{All-nil, All-cons, All-head, All-tail}
use Rattle.ps_pb.specs.declared.refused.StepRefused.{StepRefused}
use Rattle.ps_pb.specs.declared.refused.StepRefused.TheVariants.{IdNotNext}
use Rattle.ps_pb.specs.Assignments.{Assignment}
use Rattle.ps_pb.specs.Constraints.{Constraint}
use Rattle.ps_pb.specs.Steps.{Known, constraint_at, next_id, AreWithin, Step, Propagation, Open, Conflict, Refused, after_hint, after_hints, added, with_step, IsLawful, AreLawful, from_start, all_false}
use Rattle.ps_pb.proofs.Places.{after_hints-refused}
use Rattle.ps_pb.proofs.Short.{lawful-start, lawful-short, within-more}
use Rattle.ps_pb.specs.declared.limits.TheConstants.{MOST_VARIABLES}
use Rattle.ps_pb.specs.Limits.{IsLiteral}
use Rattle.ps_log.specs.Limits.{IsStepWithin}
use Rattle.ps_pb.specs.declared.limits.TheConstants.{MOST_IDS}
use Rattle.ps_claims.specs.Printed.{AreOfLiterals}

-- ---- hints
-- the id of a known constraint
abbrev IsKnownId : Known → ℕ → Type 0
IsKnownId known id = (1 ≤ id) × (id ≤ length known)

at_place : (known : Known) (i : ℕ) (c : Constraint) → slice_index_or known i None ≡ Some c → i < length known
at_place [] i c h = absurd (cc)
at_place (k ∷ ks) zero c h = omega arith
at_place (k ∷ ks) (suc i) c h = omega (arith, at_place ks i c h)

known_id : (known : Known) (id : ℕ) (c : Constraint) → constraint_at known id ≡ Some c → IsKnownId known id
unfolding constraint_at
known_id known zero c h = absurd (cc)
known_id known (suc i) c h = (omega arith, omega (arith, at_place known i c h))

-- a hint without a constraint is refused
no_constraint : (known : Known) (hint : ℕ) (x : Propagation) → constraint_at known hint ≡ None → (r : StepRefused) × (after_hint known x hint ≡ Refused r)
unfolding after_hint
no_constraint known hint (Open a) e = rw e (_, refl)
no_constraint known hint Conflict e = rw e (_, refl)
no_constraint known hint (Refused why) e = (why, refl)

known_hint : (known : Known) (hint : ℕ) (hints : List ℕ) (x : Propagation) (o : Option Constraint) → constraint_at known hint ≡ o
    → after_hints known (after_hint known x hint) hints ≡ Conflict → IsKnownId known hint
known_hint known hint hints x (Some c) e h = known_id known hint c e
known_hint known hint hints x None e h =
    let r = no_constraint known hint x e in
    let same : after_hints known (Refused r.0) hints ≡ Conflict = sym (ap (λ y. after_hints known y hints) r.1) ∙ h in
    absurd (cc (same, after_hints-refused known r.0 hints))

known_hints : (known : Known) (hints : List ℕ) (x : Propagation) → after_hints known x hints ≡ Conflict → All (IsKnownId known) hints
known_hints known [] x h = All-nil (IsKnownId known)
known_hints known (hint ∷ hints) x h =
    All-cons (IsKnownId known) hint hints
    (known_hint known hint hints x (constraint_at known hint) refl h)
    (known_hints known hints (after_hint known x hint) h)

some_hint : (known : Known) (a : Assignment) (hints : List ℕ) → after_hints known (Open a) hints ≡ Conflict → 1 ≤ length hints
some_hint known a [] h = absurd (cc)
some_hint known a (hint ∷ hints) h = omega arith

-- ---- a step
next_only : (b : Bool) (r : Option StepRefused) → cond b r (Some IdNotNext) ≡ None → b ≡ true
next_only true r e = refl
next_only false r e = absurd (cc)

id_is_next : (v : ℕ) (known : Known) (s : Step) → IsLawful v known s → s.id ≡ length known + 1
id_is_next v known s h = eqb-true s.id (length known + 1) (next_only (s.id == next_id known) (from_start known s.hints (all_false v s.lits)) h)

step_within : (v : ℕ) (known : Known) (s : Step) → AreWithin v known → v ≤ MOST_VARIABLES → length known + 1 ≤ MOST_IDS → All IsLiteral s.lits → IsLawful v known s → IsStepWithin s
step_within v known s within few room lits h =
    let id = id_is_next v known s h in
    let run = lawful-start v known s h in
    let short = lawful-short v known s within h in
    let some = some_hint known run.0 s.hints run.2 in
    let hints = known_hints known s.hints (Open run.0) run.2 in
    record {
      id = (omega (arith, id), omega (arith, id, room));
      lits = lits;
      hints = λ i d l. (let k = hints i d l in (k.0, omega (arith, k.1, room)));
      few_lits = omega (arith, short, some, few);
      few_hints = omega (arith, short, few);
    }

-- ---- lawful steps
pub steps_within : (v : ℕ) (known : Known) (steps : List Step) → AreWithin v known → v ≤ MOST_VARIABLES → length known + length steps ≤ MOST_IDS → AreOfLiterals steps → AreLawful v known steps
    → AllByRecursion IsStepWithin steps
steps_within v known [] within few room lits h = tt
steps_within v known (s ∷ steps) within few room lits h = (
  step_within v known s within few (omega (arith, room)) (All-head (λ t. All IsLiteral t.lits) s steps lits) h.0,
  steps_within v (with_step known s) steps (within-more v known s within h.0) few
      (omega (arith, room, length-append known (Some (added s) ∷ []))) (All-tail (λ t. All IsLiteral t.lits) s steps lits) h.1,
)
