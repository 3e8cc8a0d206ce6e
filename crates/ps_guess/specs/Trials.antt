-- What the trial of a guess shows.
use Rattle.std.specs.Prelude.{Bool, List, Option, pos, ◌≤ℤ◌, length, ◌≡◌}
use Rattle.ps_meaning.specs.Formula.{World}
use Rattle.ps_pb.specs.Assignments.{Assignment, full}
use Rattle.ps_clause.specs.Extensions.{extension, IsWorldOf}
use Rattle.ps_problem.specs.declared.query.Query.{Query}
use Rattle.ps_problem.specs.Problems.{Parts, bounds_of}
use Rattle.ps_answer.specs.declared.answer.Model.{Model}
use Rattle.ps_answer.specs.declared.answer.Dual.{Dual}
use Rattle.ps_answer.specs.declared.answer.SideAnswer.{SideAnswer}
use Rattle.ps_answer.specs.declared.answer.SideAnswer.TheVariants as side
use Rattle.ps_claims.specs.Certificates.{combination_on, model_of, dual_of}
use Rattle.ps_claims.specs.declared.claim_kind.ClaimKind.{ClaimKind}
use Rattle.ps_claims.specs.declared.weighted_sum.Combination.{Combination}
use Rattle.ps_claims.specs.Goals.{value_under}
use Rattle.ps_claims.specs.Validity.{ShowsNothing, ShowsTight}
use Rattle.ps_claims.specs.Answers.{ShowsConsistent}
use Rattle.ps_claims.specs.Printed.{IsPrintedModel, IsPrintedDual}
use Rattle.ps_runs.specs.Subjects.{given_in, both_in}
use Rattle.ps_guess.specs.declared.trial.Trial.{Trial}
use Rattle.ps_guess.specs.declared.trial.Trial.TheVariants.{Shown, Found, Wrong, Spent}

-- a side that was found: a tight value, with a model and a dual that show it and can be printed
abbrev pub IsFoundSide : Parts → ClaimKind → Query → SideAnswer → Type 0
IsFoundSide p kind q (side.Bound value m d) =
    ShowsTight p kind q value (model_of m) (dual_of d) × IsPrintedModel m × IsPrintedDual d
IsFoundSide p kind q (side.Open cause) = ⊥

-- a dual that was found: it shows that no distribution gives the evidence positive probability, and can be printed
pub record IsFoundDual (p : Parts) (query : Option Query) (d : Dual) : Type 0 where
  pub valid : ShowsNothing p (given_in query) (dual_of d)
  pub printed : IsPrintedDual d

-- a model that was found: it shows that the bounds are consistent, and can be printed
pub record IsFoundModel (p : Parts) (m : Model) : Type 0 where
  pub valid : ShowsConsistent (length p.names) (bounds_of p) (model_of m)
  pub printed : IsPrintedModel m

-- what a trial shows is so; any other end says nothing
abbrev pub IsTrialOf : {T : Type 0} → (T → Type 0) → Trial T → Type 0
IsTrialOf P (Shown x) = P x
IsTrialOf P (Found w) = Unit {0}
IsTrialOf P (Wrong r) = Unit {0}
IsTrialOf P Spent = Unit {0}

-- ---- worlds against a guessed dual
-- the combination of a claim by a dual on a problem, and on a query, or none
abbrev pub combined : Parts → ClaimKind → Option Query → Dual → Combination
combined p kind query d = combination_on p kind (given_in query) (both_in query) d

-- the world that an assignment gives, where it is full
abbrev pub IsAssigned : Parts → Assignment → World → Type 0
IsAssigned p a world = (values : List Bool) → a ≡ full values → IsWorldOf (length p.names) p.nodes values world

-- a world of the problem's atoms in which the combination of a guessed dual is at least 1
pub record IsAgainst (p : Parts) (kind : ClaimKind) (query : Option Query) (d : Dual) (w : World) : Type 0 where
  pub sized : length w ≡ length p.names
  pub above : pos 1 ≤ℤ value_under (extension p.nodes w) (combined p kind query d)

-- a world that a trial finds is against the dual
abbrev pub FindsAgainst : {T : Type 0} → Parts → ClaimKind → Option Query → Dual → Trial T → Type 0
FindsAgainst p kind query d (Shown x) = Unit {0}
FindsAgainst p kind query d (Found w) = IsAgainst p kind query d w
FindsAgainst p kind query d (Wrong r) = Unit {0}
FindsAgainst p kind query d Spent = Unit {0}
