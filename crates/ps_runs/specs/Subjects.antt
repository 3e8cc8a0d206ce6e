-- What a run is about: a problem with a query, or none, and the linear program of each of its phases.
use Rattle.std.specs.Prelude.{Option, Some, None, ◌≡◌, ℕ, length}
use Rattle.ps_meaning.specs.Formula.{Truth}
use Rattle.ps_clause.specs.Forms.{form_of}
use Rattle.ps_problem.specs.declared.query.Query as stored
use Rattle.ps_problem.specs.Problems.{Parts, HasNodes}
use Rattle.ps_problem.specs.Rows.{rows_in}
use Rattle.ps_claims.specs.Queries.{Query}
use Rattle.ps_claims.specs.declared.claim_kind.ClaimKind.{ClaimKind}
use Rattle.ps_claims.specs.declared.claim_kind.ClaimKind.TheVariants.{Nothing}
use Rattle.ps_claims.specs.Duals.{Dual, combination}
use Rattle.ps_claims.specs.declared.weighted_sum.Combination.{Combination}
use Rattle.ps_claims.specs.Goals.{combination_of}
use Rattle.ps_claims.specs.Rows.{problem_rows}
use Rattle.ps_claims.specs.Validity.{query_of}
use Rattle.ps_runs.specs.Rows.{Setting, phase_of, rows_of, homes_of, entries_of, system_of, cost_of}
use Rattle.ps_runs.specs.Certificates.{table_dual}
use Rattle.ps_runs.specs.Programs.{Frame, Program}

-- a problem, and one of its queries, or none
pub record Subject : Type 0 where
  pub parts : Parts
  pub query : Option stored.Query

-- a query of the problem
abbrev pub subject_of : Parts → stored.Query → Subject
subject_of p q = record { parts = p; query = Some q }

-- the problem's sentences alone
abbrev pub sentences_of : Parts → Subject
sentences_of p = record { parts = p; query = None }

-- what is asked: the query, or the sure one where there is none
abbrev pub asked_in : Parts → Option stored.Query → Query
asked_in p None = record { formula = Truth; evidence = Truth }
asked_in p (Some q) = query_of p.nodes q

-- the rows of its bounds and its query
abbrev pub setting_of : Subject → Setting
setting_of s = record { rows = problem_rows s.parts; query = asked_in s.parts s.query }

-- the node of a query's evidence; none where there is no query, or no evidence
abbrev pub given_in : Option stored.Query → Option ℕ
given_in None = None
given_in (Some q) = q.given

-- the node of a query's formula and evidence together; 0 where there is no query
abbrev pub both_in : Option stored.Query → ℕ
both_in None = 0
both_in (Some q) = q.both

-- how many atoms the problem has
abbrev pub atoms_of : Subject → ℕ
atoms_of s = length s.parts.names

-- the nodes of the query are there; without a query there is only phase one
abbrev pub IsAsked : ClaimKind → Parts → Option stored.Query → Type 0
IsAsked kind p None = kind ≡ Nothing
IsAsked kind p (Some q) = HasNodes p.nodes q.formula q.given q.both

-- the combination of a dual over the problem's nodes
abbrev pub combination_over : ClaimKind → Subject → Dual → Combination
combination_over kind s d = combination_of kind (given_in s.query) (both_in s.query) (rows_in s.parts.sentences) d

-- ---- programs
-- the rows and columns of a setting
abbrev pub frame_over : Setting → Frame
frame_over x = record { rows = rows_of x; homes = homes_of x; entries = entries_of x; system = system_of x }

-- those of a problem with a query, or none
abbrev pub frame_of : Subject → Frame
frame_of s = frame_over (setting_of s)

-- the program of the phase that is to show a claim of this kind
abbrev pub program_of : ClaimKind → Subject → Program
program_of kind s = record {
  frame = frame_of s;
  atoms = atoms_of s;
  phase = phase_of kind;
  cost = cost_of kind (setting_of s);
  dual = table_dual kind (setting_of s);
  gain = combination kind (setting_of s).rows (setting_of s).query;
  form = form_of s.parts.nodes;
  combined = combination_over kind s;
}
