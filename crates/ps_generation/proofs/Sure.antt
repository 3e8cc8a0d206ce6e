-- Without evidence phase one of a query is that of the sentences alone.
use Rattle.std.proofs.Common.{◌≡◌, ℕ, Bool, Option, Some, None, refl, sym, ap, ◌∙◌, subst}
use Rattle.ps_meaning.specs.Formula.{Truth}
use Rattle.ps_problem.specs.declared.query.Query as stored
use Rattle.ps_problem.specs.Problems.{Parts, HasNodes}
use Rattle.ps_claims.specs.declared.claim_kind.ClaimKind.TheVariants.{Nothing}
use Rattle.ps_runs.specs.Programs.{Program}
use Rattle.ps_runs.specs.Subjects.{Subject, subject_of, sentences_of, asked_in, atoms_of, frame_of, program_of}
use Rattle.ps_runs.specs.Runs.{IsPool}
use Rattle.ps_runs.specs.Tables.{IsRunTable}
use Rattle.ps_runs.specs.declared.state.State.{State}
use Rattle.ps_generation.specs.Phases.{LimitedSubject, asking}
use Rattle.ps_generation.specs.States.{IsRun, HasRunTable}

abbrev with_given : stored.Query → Option ℕ → stored.Query
with_given q g = record { formula = q.formula; given = g; both = q.both }

pub same_program : (p : Parts) (q : stored.Query) → q.given ≡ None → program_of Nothing (subject_of p q) ≡ program_of Nothing (sentences_of p)
same_program p q e = subst (λ g. program_of Nothing (subject_of p (with_given q g)) ≡ program_of Nothing (sentences_of p)) (sym e) refl

pub same_evidence : (p : Parts) (q : stored.Query) → q.given ≡ None → (asked_in p (Some q)).evidence ≡ Truth
same_evidence p q e = subst (λ g. (asked_in p (Some (with_given q g))).evidence ≡ Truth) (sym e) refl

-- also where a subject without a query is told by its parts
pub program_asked : (s : Subject) (q : stored.Query) → s.query ≡ None → q.given ≡ None → program_of Nothing (subject_of s.parts q) ≡ program_of Nothing s
program_asked s q none e = same_program s.parts q e ∙ ap (λ o. program_of Nothing (record { parts = s.parts; query = o })) (sym none)

pub evidence_asked : (s : Subject) (q : stored.Query) → s.query ≡ None → q.given ≡ None → (asked_in s.parts (Some q)).evidence ≡ (asked_in s.parts s.query).evidence
evidence_asked s q none e = same_evidence s.parts q e ∙ ap (λ o. (asked_in s.parts o).evidence) (sym none)

-- so a run without a query is one with this query
pub asked_run : (over : LimitedSubject) (state on : State) (broken : Bool) (q : stored.Query) → over.subject.query ≡ None → q.given ≡ None
    → HasNodes over.subject.parts.nodes q.formula q.given q.both → on.table ≡ state.table → on.pool ≡ state.pool
    → IsRun over state broken → IsRun (asking q over) on broken
asked_run over state on broken q none sure nodes table pool run = record {
  asked = nodes;
  limits = run.limits;
  there = λ whole.
      let there : HasRunTable over.subject state = run.there whole in
      let same : frame_of (subject_of over.subject.parts q) ≡ frame_of over.subject = ap (λ (x : Program). x.frame) (program_asked over.subject q none sure) in
      let kept : IsRunTable (frame_of (subject_of over.subject.parts q)) state.pool state.table =
      subst (λ f. IsRunTable f state.pool state.table) (sym same) there.table in
      record {
        table = subst (λ t. IsRunTable (frame_of (subject_of over.subject.parts q)) on.pool t) (sym table)
            (subst (λ ws. IsRunTable (frame_of (subject_of over.subject.parts q)) ws state.table) (sym pool) kept);
        pool_kept = subst (λ ws. IsPool (atoms_of over.subject) ws) (sym pool) there.pool_kept;
      };
}
