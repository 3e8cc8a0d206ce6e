-- The parts of a query's answer make a lawful and valid one.
use Rattle.std.proofs.Common.{◌≡◌, ℤ, Some, List, [], ◌++◌, refl, sym, subst, ap, ◌∙◌}
use Rattle.ps_problem.specs.declared.query.Query.{Query}
use Rattle.ps_problem.specs.Problems.{Parts}
use Rattle.ps_table.specs.declared.event.Event.{Event}
use Rattle.ps_answer.specs.declared.answer.Cause.{Cause}
use Rattle.ps_answer.specs.declared.answer.Dual.{Dual}
use Rattle.ps_answer.specs.declared.answer.Model.{Model}
use Rattle.ps_answer.specs.declared.answer.QueryAnswer.{QueryAnswer}
use Rattle.ps_answer.specs.declared.answer.QueryAnswer.TheVariants as query
use Rattle.ps_answer.specs.declared.answer.SideAnswer.{SideAnswer}
use Rattle.ps_answer.specs.declared.answer.SideAnswer.TheVariants as side
use Rattle.ps_claims.specs.declared.claim_kind.ClaimKind.{ClaimKind}
use Rattle.ps_claims.specs.declared.claim_kind.ClaimKind.TheVariants.{Lower, Upper, Nothing}
use Rattle.ps_claims.specs.Validity as claims
use Rattle.ps_valid.specs.Answers.{side_of}
use Rattle.ps_runs.specs.Kept.{AreAllKept}
use Rattle.ps_runs.specs.Subjects.{subject_of, given_in, program_of}
use Rattle.ps_runs.proofs.Kept.{rows-all}
use Rattle.ps_claims.specs.Certificates.{dual_of}
use Rattle.ps_runs.specs.Verdicts.{IsLawfulPhaseOne, IsLawfulSide, IsLawfulAnswerTo, AreLawfulBounds}
use Rattle.ps_claims.specs.Printed.{IsPrintedPart}
use Rattle.ps_runs.specs.declared.limits.Limits.{Limits}
use Rattle.ps_generation.specs.Phases.{LimitedSubject}
use Rattle.ps_generation.specs.declared.first.First.{First}
use Rattle.ps_generation.specs.declared.first.First.TheVariants as first
use Rattle.ps_generation.specs.Runs.{RunState, stage_of, IsPhaseOneAnswer, IsSideAnswerOf, IsValidFirst, IsValidSide, IsWholeFirst, IsWholeSide, kept_first, kept_side, verdict_of}
use Rattle.ps_query.specs.Parts.{IsNewOverAll, AreSidesOf, IsBehind, MayGoOn, IsPartOf}
use Rattle.ps_query.proofs.Taken.{taken_from, reached_taken, trace_taken}
use Rattle.ps_runs.specs.Subjects.{program_of}

-- what stands in a trace that was empty are the events
pub traced_alone : (trace events longer : List Event) → trace ≡ [] → longer ≡ trace ++ events → longer ≡ events
traced_alone trace events longer none is = is ∙ ap (λ es. es ++ events) none

-- ---- answers of runs over all sentences
side_whole : (kind : ClaimKind) (over : LimitedSubject) (answer : SideAnswer) → AreAllKept over.flags → IsWholeSide kind over answer → kept_side over.flags answer ≡ answer
side_whole kind over (side.Bound value m d) all whole = ap (λ (ys : List ℤ). side.Bound value m (record { top = d.top; head = d.head; rows = ys; steps = d.steps })) (rows-all over.flags d.rows all whole.others)
side_whole kind over (side.Open cause) all whole = refl

first_whole : (over : LimitedSubject) (answer : First) → AreAllKept over.flags → IsWholeFirst over answer → kept_first over.flags answer ≡ answer
first_whole over (first.Reached m) all whole = refl
first_whole over (first.Nothing d) all whole = ap (λ (ys : List ℤ). first.Nothing (record { top = d.top; head = d.head; rows = ys; steps = d.steps })) (rows-all over.flags d.rows all whole.others)
first_whole over (first.Open cause) all whole = refl

module _ (new done : RunState) (answer : First) (all : AreAllKept new.over.flags) (of : IsPhaseOneAnswer new done answer) where
  pub lawful_whole : IsLawfulPhaseOne (program_of Nothing new.over.subject) new.over.limits (verdict_of answer) of.events
  lawful_whole =
      subst (λ (a : First). IsLawfulPhaseOne (program_of Nothing new.over.subject) new.over.limits (verdict_of a) of.events) (first_whole new.over answer all of.whole) of.lawful

  pub valid_whole : IsValidFirst new.over.subject answer
  valid_whole = subst (λ (a : First). IsValidFirst new.over.subject a) (first_whole new.over answer all of.whole) of.valid

-- ---- sides
module _ (r low mid up : RunState) (lower upper : SideAnswer) (none : r.trace ≡ []) (below : IsSideAnswerOf Lower r low lower) (same : mid ≡ taken_from low) (above : IsSideAnswerOf Upper mid up upper) where
  lower_events : low.trace ≡ below.events
  lower_events = traced_alone r.trace below.events low.trace none below.traced.appended

  upper_events : up.trace ≡ above.events
  upper_events = traced_alone mid.trace above.events up.trace (trace_taken low mid same) above.traced.appended

  over_mid : mid.over ≡ r.over
  over_mid = ap (λ (x : RunState). x.over) same ∙ below.traced.over

  -- an upper side from a run in which so much is left, over this
  abbrev Greatest : RunState → LimitedSubject → List Event → Type 0
  Greatest from over events = IsLawfulSide (program_of Upper over.subject) over.limits (stage_of from, from.left) (stage_of up, up.left) (kept_side over.flags upper, events)

  greatest : Greatest low r.over up.trace
  greatest =
      subst (λ es. Greatest low r.over es) (sym upper_events)
      (subst (λ o. Greatest low o above.events) over_mid (subst (λ x. Greatest x mid.over above.events) same above.lawful))

  pub are_sides : AreSidesOf r lower low.trace upper up.trace
  are_sides = record {
    after_lower = stage_of low;
    left_lower = low.left;
    least =
        subst (λ es. IsLawfulSide (program_of Lower r.over.subject) r.over.limits (stage_of r, r.left) (stage_of low, low.left) (kept_side r.over.flags lower, es)) (sym lower_events) below.lawful;
    end = stage_of up;
    left = up.left;
    greatest = greatest;
    valid_lower = below.valid;
    valid_upper = λ q is.
        subst (λ (o : LimitedSubject). IsValidSide Upper o.subject.parts q (kept_side o.flags upper)) over_mid (above.valid q (ap (λ (o : LimitedSubject). o.subject.query) over_mid ∙ is));
    whole_lower = below.whole;
    whole_upper = subst (λ (o : LimitedSubject). IsWholeSide Upper o upper) over_mid above.whole;
  }

-- with the events as they were taken
pub as_taken : (r : RunState) (lower upper : SideAnswer) (below below_taken above above_taken : List Event) → below_taken ≡ below → above_taken ≡ above → AreSidesOf r lower below upper above
    → AreSidesOf r lower below_taken upper above_taken
as_taken r lower upper below below_taken above above_taken same_below same_above h =
    subst (λ es. AreSidesOf r lower es upper above_taken) (sym same_below) (subst (λ es. AreSidesOf r lower below upper es) (sym same_above) h)

-- ---- what a claim speaks of
valid_side : (kind : ClaimKind) (p : Parts) (q : Query) (answer : SideAnswer) → IsValidSide kind p q answer → claims.IsValidSide p kind q (side_of answer)
valid_side kind p q (side.Bound value m d) h = h
valid_side kind p q (side.Open cause) h = tt

-- ---- queries
module _ (limits : Limits) (p : Parts) (q : Query) (new done : RunState) (is_new : IsNewOverAll p (Some q) limits new) where
  abbrev Over : LimitedSubject
  Over = record { whole = p; flags = is_new.flags; subject = subject_of p q; limits = limits }

  over_is : new.over ≡ Over
  over_is = is_new.over

  all_kept : AreAllKept new.over.flags
  all_kept = subst (λ (o : LimitedSubject). AreAllKept o.flags) (sym over_is) is_new.all

  abbrev Lawful : LimitedSubject → QueryAnswer → List Event → Type 0
  Lawful o answer events = IsLawfulAnswerTo o.subject o.limits events answer

  pub part_impossible : (d : Dual) → IsPhaseOneAnswer new done (first.Nothing d) → IsPrintedPart (query.Impossible d)
      → IsPartOf limits p q (record { answer = query.Impossible d; first = done.trace })
  part_impossible d of printed =
      let events : done.trace ≡ of.events = traced_alone new.trace of.events done.trace is_new.trace of.traced.appended in
      record {
        lawful = subst (λ es. IsLawfulAnswerTo (subject_of p q) limits es (query.Impossible d)) (sym events) (subst (λ o. Lawful o (query.Impossible d) of.events) over_is (lawful_whole new done (first.Nothing d) all_kept of));
        valid = subst (λ (o : LimitedSubject). claims.ShowsNothing o.subject.parts (given_in o.subject.query) (dual_of d)) over_is (valid_whole new done (first.Nothing d) all_kept of);
        printed = printed;
      }

  pub part_open : (cause : Cause) → IsPhaseOneAnswer new done (first.Open cause) → IsPrintedPart (query.Open cause)
      → IsPartOf limits p q (record { answer = query.Open cause; first = done.trace })
  part_open cause of printed =
      let events : done.trace ≡ of.events = traced_alone new.trace of.events done.trace is_new.trace of.traced.appended in
      record {
        lawful = subst (λ es. IsLawfulAnswerTo (subject_of p q) limits es (query.Open cause)) (sym events) (subst (λ o. Lawful o (query.Open cause) of.events) over_is of.lawful);
        valid = tt;
        printed = printed;
      }

  -- the sides of a run that goes on behind phase one
  module _ (m : Model) (of : IsPhaseOneAnswer new done (first.Reached m)) (on : RunState) (same : on ≡ taken_from done)
      (lower upper : SideAnswer) (lower_events upper_events : List Event) where
    sides : AreSidesOf on lower lower_events upper upper_events → AreSidesOf (taken_from done) lower lower_events upper upper_events
    sides h = subst (λ r. AreSidesOf r lower lower_events upper upper_events) same h

    over_done : done.over ≡ Over
    over_done = of.traced.over ∙ over_is

    all_done : AreAllKept done.over.flags
    all_done = subst (λ (o : LimitedSubject). AreAllKept o.flags) (sym over_done) is_new.all

    lower_is : AreSidesOf (taken_from done) lower lower_events upper upper_events → kept_side done.over.flags lower ≡ lower
    lower_is h = side_whole Lower done.over lower all_done h.whole_lower

    upper_is : AreSidesOf (taken_from done) lower lower_events upper upper_events → kept_side done.over.flags upper ≡ upper
    upper_is h = side_whole Upper done.over upper all_done h.whole_upper

    lawful_bounds : AreSidesOf (taken_from done) lower lower_events upper upper_events
        → AreLawfulBounds new.over.subject new.over.limits of.events (lower, lower_events) (upper, upper_events)
    lawful_bounds h = record {
      start = stage_of new;
      starts = is_new.start.start;
      after_first = stage_of done;
      left_first = done.left;
      leads = of.goes_on.leads;
      counted = of.goes_on.counted ∙ is_new.start.left;
      table = _;
      feasible = of.goes_on.feasible;
      after_lower = h.after_lower;
      left_lower = h.left_lower;
      least = subst (λ (o : LimitedSubject). IsLawfulSide (program_of Lower o.subject) o.limits (stage_of done, done.left) (h.after_lower, h.left_lower) (lower, lower_events)) of.traced.over
          (subst (λ (a : SideAnswer). IsLawfulSide (program_of Lower done.over.subject) done.over.limits (stage_of done, done.left) (h.after_lower, h.left_lower) (a, lower_events)) (lower_is h) h.least);
      end = h.end;
      left = h.left;
      greatest = subst (λ (o : LimitedSubject). IsLawfulSide (program_of Upper o.subject) o.limits (h.after_lower, h.left_lower) (h.end, h.left) (upper, upper_events)) of.traced.over
          (subst (λ (a : SideAnswer). IsLawfulSide (program_of Upper done.over.subject) done.over.limits (h.after_lower, h.left_lower) (h.end, h.left) (a, upper_events)) (upper_is h) h.greatest);
    }

    pub part_bounds : AreSidesOf on lower lower_events upper upper_events → IsPrintedPart (query.Bounds lower lower_events upper upper_events)
        → IsPartOf limits p q (record { answer = query.Bounds lower lower_events upper upper_events; first = done.trace })
    part_bounds found printed =
        let h = sides found in
        let events : done.trace ≡ of.events = traced_alone new.trace of.events done.trace is_new.trace of.traced.appended in
        let asked : done.over.subject.query ≡ Some q = ap (λ (o : LimitedSubject). o.subject.query) over_done in
        record {
          lawful =
              subst (λ es. AreLawfulBounds (subject_of p q) limits es (lower, lower_events) (upper, upper_events)) (sym events)
              (subst (λ (o : LimitedSubject). AreLawfulBounds o.subject o.limits of.events (lower, lower_events) (upper, upper_events)) over_is (lawful_bounds h));
          valid = (
            valid_side Lower p q lower (subst (λ (o : LimitedSubject). IsValidSide Lower o.subject.parts q lower) over_done
                (subst (λ (a : SideAnswer). IsValidSide Lower done.over.subject.parts q a) (lower_is h) (h.valid_lower q asked))),
            valid_side Upper p q upper (subst (λ (o : LimitedSubject). IsValidSide Upper o.subject.parts q upper) over_done
                (subst (λ (a : SideAnswer). IsValidSide Upper done.over.subject.parts q a) (upper_is h) (h.valid_upper q asked))),
          );
          printed = printed;
        }

  -- a run that may go on does so without its events
  pub may_go_on : (f : First) (of : IsPhaseOneAnswer new done f) (on : RunState) → on ≡ taken_from done → MayGoOn f on
  may_go_on (first.Reached m) of on same = reached_taken done on same of.goes_on.reached
  may_go_on (first.Nothing d) of on same = tt
  may_go_on (first.Open cause) of on same = tt

  pub part_behind : (f : First) (of : IsPhaseOneAnswer new done f) (on : RunState) → on ≡ taken_from done → (answer : QueryAnswer) → IsBehind on f answer → IsPrintedPart answer
      → IsPartOf limits p q (record { answer = answer; first = done.trace })
  part_behind (first.Reached m) of on same (query.Bounds lower lower_events upper upper_events) behind printed = part_bounds m of on same lower upper lower_events upper_events behind printed
  part_behind (first.Reached m) of on same (query.Impossible d) behind printed = absurd behind
  part_behind (first.Reached m) of on same (query.Open cause) behind printed = absurd behind
  part_behind (first.Nothing d) of on same answer behind printed =
      subst (λ x. IsPartOf limits p q (record { answer = x; first = done.trace })) (sym behind) (part_impossible d of (subst IsPrintedPart behind printed))
  part_behind (first.Open cause) of on same answer behind printed =
      subst (λ x. IsPartOf limits p q (record { answer = x; first = done.trace })) (sym behind) (part_open cause of (subst IsPrintedPart behind printed))
