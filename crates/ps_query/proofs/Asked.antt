-- A run without a query that has reached a distribution goes on as that of a query without evidence.
use Rattle.std.proofs.Common.{◌≡◌, ◌≢◌, ℕ, Bool, false, refl, true≢false, Option, Some, None, List, [], sym, ap, ◌∙◌, subst}
use Rattle.std.specs.Option.{is_some}
use Rattle.std.proofs.lemmas.Option.{none-some}
use Rattle.ps_problem.specs.declared.query.Query.{Query}
use Rattle.ps_problem.specs.Problems.{Parts, HasNodes, bounds_of}
use Rattle.ps_table.specs.declared.event.Event.{Event}
use Rattle.ps_table.specs.Tableau.{entry_at}
use Rattle.ps_answer.specs.declared.answer.Model.{Model}
use Rattle.ps_answer.specs.declared.answer.QueryAnswer.{QueryAnswer}
use Rattle.ps_claims.specs.Queries.{IsAllowed}
use Rattle.ps_claims.specs.declared.claim_kind.ClaimKind.TheVariants.{Nothing}
use Rattle.ps_claims.specs.Certificates.{model_of}
use Rattle.ps_claims.specs.Printed.{IsPrintedPart}
use Rattle.ps_runs.specs.Programs.{Program}
use Rattle.ps_runs.specs.Subjects.{subject_of, atoms_of, program_of}
use Rattle.ps_runs.specs.Runs.{LeadsTo, IsFeasibleAt}
use Rattle.ps_generation.proofs.Sure.{program_asked, evidence_asked}
use Rattle.ps_runs.specs.declared.limits.Limits.{Limits}
use Rattle.ps_runs.specs.Verdicts.{IsLawfulPhaseOne}
use Rattle.ps_generation.specs.Phases.{LimitedSubject, asking}
use Rattle.ps_generation.specs.declared.first.First.TheVariants as first
use Rattle.ps_generation.specs.Runs.{RunState, run_asking, stage_of, verdict_of, IsReached, IsPhaseOneAnswer}
use Rattle.ps_query.specs.Parts.{IsNewOverAll, HasReachedAlone, AreBoundsOf, IsPartOf}
use Rattle.ps_query.proofs.Queries.{may_go_on, part_behind}

pub none_given : (g : Option ℕ) (b : Bool) → b ≡ is_some g → b ≡ false → g ≡ None
none_given None b e f = refl
none_given (Some n) b e f = absurd (true≢false (sym e ∙ f))

-- a run with this query, and its events
abbrev with_query : Query → RunState → RunState
with_query q r = record r { over = asking q r.over }

module _ (q : Query) (sure : q.given ≡ None) where
  new_asked : (limits : Limits) (p : Parts) (new : RunState) → IsNewOverAll p None limits new → IsNewOverAll p (Some q) limits (with_query q new)
  new_asked limits p new h = record {
    flags = h.flags;
    all = h.all;
    over = ap (asking q) h.over;
    start = record { start = record { pool = h.start.start.pool; homes = h.start.start.homes }; left = h.start.left };
    trace = h.trace;
  }

  answer_asked : (new done : RunState) (m : Model) → new.over.subject.query ≡ None → IsPhaseOneAnswer new done (first.Reached m)
      → IsPhaseOneAnswer (with_query q new) (with_query q done) (first.Reached m)
  answer_asked new done m none of =
      let same : program_of Nothing (subject_of new.over.subject.parts q) ≡ program_of Nothing new.over.subject = program_asked new.over.subject q none sure in
      record {
        events = of.events;
        traced = record { over = ap (asking q) of.traced.over; appended = of.traced.appended };
        lawful = subst (λ (x : Program). IsLawfulPhaseOne x new.over.limits (verdict_of (first.Reached m)) of.events) (sym same) of.lawful;
        valid = (
          of.valid.0,
          subst (λ e. IsAllowed (atoms_of new.over.subject) (bounds_of new.over.subject.parts) e (model_of m).worlds)
              (sym (evidence_asked new.over.subject q none sure)) of.valid.1,
        );
        whole = tt;
        goes_on = record {
          leads = subst (λ (x : Program). LeadsTo x new.over.limits.conflicts (stage_of new) of.events (stage_of done)) (sym same) of.goes_on.leads;
          counted = of.goes_on.counted;
          feasible = subst (λ (x : Program). IsFeasibleAt x.frame (stage_of done) (entry_at done.table)) (sym same) of.goes_on.feasible;
          reached = record { feasible = record { feasible = of.goes_on.reached.feasible.feasible; room = of.goes_on.reached.feasible.room } };
        };
      }

  module _ (limits : Limits) (p : Parts) (events : List Event) (r : RunState) (h : HasReachedAlone limits p events r) where
    new_none : h.new.over.subject.query ≡ None
    new_none = ap (λ (o : LimitedSubject). o.subject.query) h.is_new.over

    over_new : r.over ≡ h.new.over
    over_new = ap (λ (x : RunState). x.over) h.taken ∙ h.answered.traced.over

    -- what a run has to show to be asked
    pub asks_none : r.over.subject.query ≡ None
    asks_none = ap (λ (o : LimitedSubject). o.subject.query) over_new ∙ new_none

    has_parts : r.over.subject.parts ≡ p
    has_parts = ap (λ (o : LimitedSubject). o.subject.parts) (over_new ∙ h.is_new.over)

    pub has_nodes : HasNodes p.nodes q.formula q.given q.both → HasNodes r.over.subject.parts.nodes q.formula q.given q.both
    has_nodes nodes = subst (λ (x : Parts). HasNodes x.nodes q.formula q.given q.both) (sym has_parts) nodes

    pub is_asked : (on : RunState) → on ≡ run_asking q r → on.over.subject.query ≢ None
    is_asked on same none = none-some q (sym none ∙ ap (λ (x : RunState). x.over.subject.query) same)

    pub none_traced : (on : RunState) → on ≡ run_asking q r → on.trace ≡ []
    none_traced on same = ap (λ (x : RunState). x.trace) same

    pub may_ask : (on : RunState) → on ≡ run_asking q r → IsReached on
    may_ask on same =
        may_go_on limits p q (with_query q h.new) (with_query q h.done) (new_asked limits p h.new h.is_new) (first.Reached h.model) (answer_asked h.new h.done h.model new_none h.answered)
        on (same ∙ ap (run_asking q) h.taken)

    -- the answer that it gives is one to the query
    pub part_asked : (on : RunState) → on ≡ run_asking q r → (answer : QueryAnswer) → AreBoundsOf on answer → IsPrintedPart answer
        → IsPartOf limits p q (record { answer = answer; first = events })
    part_asked on same answer bounds printed =
        subst (λ es. IsPartOf limits p q (record { answer = answer; first = es })) (sym h.trace)
        (part_behind limits p q (with_query q h.new) (with_query q h.done) (new_asked limits p h.new h.is_new) (first.Reached h.model)
        (answer_asked h.new h.done h.model new_none h.answered) on (same ∙ ap (run_asking q) h.taken) answer bounds printed)
