-- What the certificates of a report are to show, and the claims that they make.
use Rattle.std.specs.Prelude.{ℕ, zero, suc, ℤ, Bool, true, false, List, [], length, ◌≤◌, Option, Some, None, IfSome, slice_get}
use Rattle.ps_meaning.specs.Rational.{Rational}
use Rattle.ps_problem.specs.declared.query.Query.{Query}
use Rattle.ps_problem.specs.Problems.{Parts}
use Rattle.ps_problem.specs.Rows.{rows_in}
use Rattle.ps_clause.specs.Forms.{form_of}
use Rattle.ps_pbcheck.specs.Checked.{Checked, first_checked}
use Rattle.ps_answer.specs.declared.answer.Model.{Model}
use Rattle.ps_claims.specs.Certificates.{model_of}
use Rattle.ps_claims.specs.declared.claim.Claim.{Claim}
use Rattle.ps_claims.specs.declared.claim.Claim.TheVariants as claim
use Rattle.ps_claims.specs.declared.claim_kind.ClaimKind.{ClaimKind}
use Rattle.ps_claims.specs.declared.claim_kind.ClaimKind.TheVariants.{Nothing, Lower, Upper}
use Rattle.ps_claims.specs.declared.weighted_sum.Combination.{Combination}
use Rattle.ps_claims.specs.Duals.{Dual}
use Rattle.ps_claims.specs.Goals.{nothing, combination_of, goal_of}
use Rattle.ps_claims.specs.Claims.{Assertion, Modelled, Excluded, Bounded, claimed_model}
use Rattle.ps_answer.specs.declared.limits.TheConstants.{MOST_ENTRIES}
use Rattle.ps_check.specs.declared.subject.Subject.{Subject}
use Rattle.ps_check.specs.declared.subject.Subject.TheVariants.{OfVerdict, OfQuery, OfSide}

-- the claim that a side of the query of a number makes
abbrev pub side_claim : ℕ → Bool → Claim
side_claim number false = claim.Lower number
side_claim number true = claim.Upper number

-- the claim of what is to be shown
abbrev pub claim_on : Subject → Claim
claim_on OfVerdict = claim.Verdict
claim_on (OfQuery number) = claim.Query number
claim_on (OfSide number upper value) = side_claim number upper

-- the kind of a side's claim
abbrev pub kind_of : Bool → ClaimKind
kind_of false = Lower
kind_of true = Upper

-- the query of a number, from 1
abbrev pub query_at : List Query → ℕ → Option Query
query_at queries zero = None
query_at queries (suc i) = slice_get queries i

-- that a query's evidence is impossible, by a dual
abbrev pub excluded_by : Dual → Option Query → Option Assertion
excluded_by d None = None
excluded_by d (Some q) = Some (Excluded q.given d)

-- that a value is a query's bound on a side, by a model and a dual
abbrev pub bounded_by : Bool → Rational → Dual → Option Model → Option Query → Option Assertion
bounded_by upper value d (Some m) (Some q) = Some (Bounded (kind_of upper) q value (model_of m) d)
bounded_by upper value d m q = None

-- what is asserted where this is to be shown by a dual and the model before it; nothing without such a query, or without a model
-- where one is due
abbrev pub asserted : Parts → Subject → Option Model → Dual → Option Assertion
asserted p OfVerdict m d = Some (Excluded None d)
asserted p (OfQuery number) m d = excluded_by d (query_at p.queries number)
asserted p (OfSide number upper value) m d = bounded_by upper value d m (query_at p.queries number)

-- a dual without steps
abbrev pub without_steps : ℤ → ℤ → List ℤ → Dual
without_steps top head rows = record { top = top; head = head; rows = rows; steps = [] }

-- the combination that the dual of an assertion weighs; where it has none, nothing
abbrev pub combination_for : Parts → Assertion → Combination
combination_for p (Modelled m) = nothing
combination_for p (Excluded given d) = combination_of Nothing given 0 (rows_in p.sentences) d
combination_for p (Bounded kind q value m d) = combination_of kind q.given q.both (rows_in p.sentences) d

-- what is known before the first step of an assertion's dual
abbrev pub checker_for : Parts → Assertion → Checked
checker_for p c = first_checked (form_of p.nodes) (goal_of (combination_for p c))

-- the model of a claim, if it has one, has no more worlds than a report may have
abbrev pub HasFewWorlds : Assertion → Type 0
HasFewWorlds c = IfSome (claimed_model c) (λ m. length m.worlds ≤ MOST_ENTRIES)
