-- No lawful run reaches a limit that is enough.
use Rattle.std.proofs.Common.{◌+◌, ◌≡◌, ℕ, ◌-◌, ◌<◌, List, [], ◌∷◌, ◌++◌, length, sym, refl, subst, arith, All}
use Rattle.std.proofs.lemmas.List.Elements.{All-nil, All-cons}
use Rattle.ps_meaning.specs.Rational.{Rational}
use Rattle.ps_meaning.specs.Formula.{World}
use Rattle.ps_simplex.specs.Table.{unit_at}
use Rattle.ps_simplex.specs.declared.phase.Phase.TheVariants.{One}
use Rattle.ps_table.specs.declared.event.Event.{Event}
use Rattle.std.specs.List.{AllZip}
use Rattle.ps_problem.specs.declared.query.Query.{Query}
use Rattle.ps_problem.specs.Problems.{Parts}
use Rattle.ps_answer.specs.declared.answer.Cause.{Cause}
use Rattle.ps_answer.specs.declared.answer.Cause.TheVariants.{Pivots, Conflicts, Wide}
use Rattle.ps_answer.specs.declared.answer.Verdict.{Verdict}
use Rattle.ps_answer.specs.declared.answer.Verdict.TheVariants.{Consistent, Inconsistent, Open}
use Rattle.ps_answer.specs.declared.answer.QueryAnswer.{QueryAnswer}
use Rattle.ps_answer.specs.declared.answer.QueryAnswer.TheVariants as query
use Rattle.ps_answer.specs.declared.answer.QueryPart.{QueryPart}
use Rattle.ps_answer.specs.declared.answer.Answer.{Answer}
use Rattle.ps_answer.specs.declared.answer.SideAnswer.{SideAnswer}
use Rattle.ps_answer.specs.declared.answer.SideAnswer.TheVariants as side
use Rattle.ps_claims.specs.declared.claim_kind.ClaimKind.{ClaimKind}
use Rattle.ps_claims.specs.declared.claim_kind.ClaimKind.TheVariants.{Nothing, Lower, Upper}
use Rattle.ps_runs.specs.declared.limits.Limits.{Limits}
use Rattle.ps_runs.specs.Subjects.{Subject, subject_of, sentences_of, setting_of, atoms_of, frame_of, program_of}
use Rattle.ps_runs.specs.Subjects.{frame_of, program_of}
use Rattle.ps_runs.specs.Runs.{Stage, IsStart, IsPool, pivots_in}
use Rattle.ps_runs.proofs.Starts.{first_table}
use Rattle.ps_runs.specs.Licences.{IsLicensed}
use Rattle.ps_runs.specs.Verdicts.{IsSideAt, IsLawfulPhaseOne, AreLawfulBounds, IsLawfulAnswerTo, IsLawfulPart, IsLawfulAnswer, asked_after}
use Rattle.ps_runs.specs.Enough.{ways_in, IsEnough, IsOtherThanPivots, IsVerdictNotForPivots, IsSideNotForPivots, IsQueryNotForPivots, HasNoPivotsCause}
use Rattle.ps_runs.proofs.PhaseReached.{the_table, Reached, begins, stands_at, few_made, leads}

no_worlds : (a : ℕ) → IsPool a []
no_worlds a = record { different = λ i j d l h. absurd (omega (arith, h)); sized = All-nil (λ (w : World). length w ≡ a) }

-- phase one begins with the table of the homes
first_reached : (s : Subject) (g : Stage) → IsStart (frame_of s) g → Reached Nothing s g 0
first_reached s g start =
    let X : ℕ → ℕ → Rational = λ i j. unit_at i (j - 1) in
    subst (λ (pool : List World). Reached Nothing s (record { pool = pool; basis = g.basis }) 0) (sym start.pool)
    (begins Nothing s (record { pool = []; basis = g.basis }) X (no_worlds (atoms_of s)) (record {
      there = first_table (setting_of s) g.basis X (record { entries = λ i j l k. refl; basics = start.homes });
      zeros = tt;
    }))

-- where a pivot is left, the cause is another
other_cause : (kind : ClaimKind) (s : Subject) (limits : Limits) (left : ℕ) (g : Stage) (cause : Cause) → (left ≡ 0 → ⊥) → IsLicensed (program_of kind s) limits g left cause → IsOtherThanPivots cause
other_cause kind s limits left g (Pivots limit) some h = some h.none_left
other_cause kind s limits left g (Conflicts limit goal steps) some h = tt
other_cause kind s limits left g (Wide at) some h = tt

verdict_enough : (s : Subject) (limits : Limits) (events : List Event) (v : Verdict) → IsEnough s limits.pivots → IsLawfulPhaseOne (program_of Nothing s) limits v events → IsVerdictNotForPivots v
verdict_enough s limits events (Consistent m) enough h = tt
verdict_enough s limits events (Inconsistent d) enough h = tt
verdict_enough s limits events (Open cause) enough h =
    let reached = leads Nothing s limits.conflicts h.start h.end events (first_reached s h.start h.starts) h.leads in
    let few = few_made Nothing s h.end (pivots_in events) reached in
    let counted = h.counted in
    other_cause Nothing s limits h.left h.end cause (λ left. absurd (omega (arith, enough, few, left, counted))) h.answered

side_otherwise : (kind : ClaimKind) (s : Subject) (limits : Limits) (left : ℕ) (g : Stage) (a : SideAnswer) → (left ≡ 0 → ⊥) → IsSideAt (program_of kind s) limits g left a → IsSideNotForPivots a
side_otherwise kind s limits left g (side.Bound value m d) some h = tt
side_otherwise kind s limits left g (side.Open cause) some h = other_cause kind s limits left g cause some h

module _ (s : Subject) (limits : Limits) (first lower_events upper_events : List Event) (lower upper : SideAnswer) (enough : IsEnough s limits.pivots) (h : AreLawfulBounds s limits first (lower, lower_events) (upper, upper_events)) where
  after_one : Reached Nothing s h.after_first (pivots_in first)
  after_one = leads Nothing s limits.conflicts h.start h.after_first first (first_reached s h.start h.starts) h.leads

  lower_begins : Reached Lower s h.after_first 0
  lower_begins =
      let here = stands_at Nothing s h.after_first (pivots_in first) after_one in
      let is = the_table One (setting_of s) h.after_first.pool h.after_first.basis here.table h.table here.is h.feasible.belongs in
      begins Lower s h.after_first h.table after_one.pool_kept (record { there = is.there; zeros = h.feasible.feasible })

  after_least : Reached Lower s h.after_lower (pivots_in lower_events)
  after_least = leads Lower s limits.conflicts h.after_first h.after_lower lower_events lower_begins h.least.leads

  upper_begins : Reached Upper s h.after_lower 0
  upper_begins =
      let here = stands_at Lower s h.after_lower (pivots_in lower_events) after_least in
      begins Upper s h.after_lower here.table after_least.pool_kept (record { there = here.is.there; zeros = here.is.zeros })

  after_greatest : Reached Upper s h.end (pivots_in upper_events)
  after_greatest = leads Upper s limits.conflicts h.after_lower h.end upper_events upper_begins h.greatest.leads

  few_first : pivots_in first < ways_in s
  few_first = few_made Nothing s h.after_first (pivots_in first) after_one

  few_lower : pivots_in lower_events < ways_in s
  few_lower = few_made Lower s h.after_lower (pivots_in lower_events) after_least

  few_upper : pivots_in upper_events < ways_in s
  few_upper = few_made Upper s h.end (pivots_in upper_events) after_greatest

  lower_enough : IsSideNotForPivots lower
  lower_enough =
      let a = h.counted in
      let b : h.left_lower + pivots_in lower_events ≡ h.left_first = h.least.counted in
      let c = few_first in
      let d = few_lower in
      side_otherwise Lower s limits h.left_lower h.after_lower lower (λ left. absurd (omega (arith, enough, left, a, b, c, d))) h.least.answered

  upper_enough : IsSideNotForPivots upper
  upper_enough =
      let a = h.counted in
      let b : h.left_lower + pivots_in lower_events ≡ h.left_first = h.least.counted in
      let c : h.left + pivots_in upper_events ≡ h.left_lower = h.greatest.counted in
      let d = few_first in
      let f = few_lower in
      let g = few_upper in
      side_otherwise Upper s limits h.left h.end upper (λ left. absurd (omega (arith, enough, left, a, b, c, d, f, g))) h.greatest.answered

query_enough : (s : Subject) (limits : Limits) (first : List Event) (a : QueryAnswer) → IsEnough s limits.pivots → IsLawfulAnswerTo s limits first a → IsQueryNotForPivots a
query_enough s limits first (query.Bounds lower lower_events upper upper_events) enough h = (
  lower_enough s limits first lower_events upper_events lower upper enough h,
  upper_enough s limits first lower_events upper_events lower upper enough h,
)
query_enough s limits first (query.Impossible d) enough h = tt
query_enough s limits first (query.Open cause) enough h = verdict_enough s limits first (Open cause) enough h

parts_enough : (p : Parts) (limits : Limits) (qs : List Query) (parts : List QueryPart) → IsEnough (sentences_of p) limits.pivots → AllZip (IsLawfulPart p limits) qs parts
    → All (λ (x : QueryPart). IsQueryNotForPivots x.answer) parts
parts_enough p limits [] [] enough h = All-nil (λ (x : QueryPart). IsQueryNotForPivots x.answer)
parts_enough p limits [] (x ∷ xs) enough h = absurd h
parts_enough p limits (q ∷ qs) [] enough h = All-nil (λ (x : QueryPart). IsQueryNotForPivots x.answer)
parts_enough p limits (q ∷ qs) (x ∷ xs) enough h =
    All-cons (λ (x : QueryPart). IsQueryNotForPivots x.answer) x xs (query_enough (subject_of p q) limits x.first x.answer enough h.0)
    (parts_enough p limits qs xs enough h.1)

pub answer_enough : (p : Parts) (limits : Limits) (a : Answer) → IsEnough (sentences_of p) limits.pivots → IsLawfulAnswer p limits a → HasNoPivotsCause a
answer_enough p limits a enough h = record {
  verdict = verdict_enough (sentences_of p) limits a.first a.verdict enough h.verdict;
  parts = parts_enough p limits (asked_after a.verdict p.queries) a.parts enough h.parts;
}
