-- The steps that a log holds are few, and of literals.
use Rattle.std.proofs.Common.{◌≡◌, ℕ, ◌+◌, ◌≤◌, pos, true, Some, List, [], ◌∷◌, ◌++◌, length, All, subst, inl, inr, arith, ap}
use Rattle.std.specs.Prelude.{IsTrue}
use Rattle.std.proofs.lemmas.List.{length-append}
use Rattle.std.proofs.lemmas.List.Elements.{All-weaker}
use Rattle.ps_pb.specs.Constraints.{Constraint}
use Rattle.ps_pb.specs.Steps.{Step}
use Rattle.ps_pb.specs.Limits.{IsLiteral}
use Rattle.ps_pb.specs.declared.limits.TheConstants.{MOST_VARIABLES}
use Rattle.ps_clause.specs.Forms.{Form}
use Rattle.ps_log.specs.Logs.{Telling}
use Rattle.ps_learn.specs.Trails.{IsLit}
use Rattle.ps_sat.specs.Searches.{Handed, IsShown, AreStepsOf}
use Rattle.ps_sat.specs.declared.searching.Outcome.{Outcome}
use Rattle.ps_sat.specs.declared.searching.Outcome.TheVariants.{Found, Refuted, Spent}
use Rattle.ps_maxsat.specs.declared.problem.Wcnf.{Wcnf}
use Rattle.ps_maxsat.specs.declared.pricing.Priced.{Priced}
use Rattle.ps_maxsat.specs.declared.pricing.Priced.TheVariants as priced
use Rattle.ps_maxsat.specs.Values.{IsPricedLog, goal_of}
use Rattle.ps_claims.specs.Printed.{AreOfLiterals}
use Rattle.ps_optimum.specs.Printed.{ArePrinted}
use Rattle.ps_optimum.proofs.Logged.{told-steps}

-- literals of few variables are literals
of-few : (variables : ℕ) (steps : List Step) → variables ≤ MOST_VARIABLES → AreStepsOf variables steps → AreOfLiterals steps
of-few variables steps few =
    All-weaker (λ s. All (IsLit variables) s.lits) (λ s. All IsLiteral s.lits)
    (λ s. All-weaker (IsLit variables) IsLiteral (λ l is. (is.0, omega (arith, is.1, few))) s.lits) steps

-- a refutation has one step more than were learned
refuted-few : (conflicts : ℕ) (steps front : List Step) (s : Step) → steps ≡ front ++ s ∷ [] → length front ≤ conflicts → length steps ≤ conflicts + 1
refuted-few conflicts steps front s e most = omega (arith, ap length e, length-append front (s ∷ []), most)

shown-few : (f : Form) (goal : Constraint) (conflicts : ℕ) (steps : List Step) (o : Outcome) → IsShown f goal conflicts steps o → length steps ≤ conflicts + 1
shown-few f goal conflicts steps (Found a) h = omega (arith, h.count)
shown-few f goal conflicts steps (Refuted last) h = refuted-few conflicts steps h.0 h.1 h.2 h.3.count
shown-few f goal conflicts steps (Spent learned) h = omega (arith, h.count)

-- ---- the steps of a log
printed-steps : (f : Form) (goal : Constraint) (conflicts : ℕ) (new : Telling) (steps : List Step) → IsTrue true → new.steps ≡ Some steps → f.variables ≤ MOST_VARIABLES
    → (h : Handed f goal true new) → length h.steps ≤ conflicts + 1 → ArePrinted conflicts steps
printed-steps f goal conflicts new steps tells is variables h few =
    subst (ArePrinted conflicts) (told-steps new goal f steps h tells is) (record { few = few; literals = of-few f.variables h.steps variables h.literals })

pub outcome-printed : (f : Form) (goal : Constraint) (conflicts : ℕ) (new : Telling) (o : Outcome) (steps : List Step) → IsTrue true → new.steps ≡ Some steps
    → f.variables ≤ MOST_VARIABLES → (h : Handed f goal true new) × IsShown f goal conflicts h.steps o → ArePrinted conflicts steps
outcome-printed f goal conflicts new o steps tells is variables h =
    printed-steps f goal conflicts new steps tells is variables h.0 (shown-few f goal conflicts h.0.steps o h.1)

pub priced-printed : (p : Wcnf) (conflicts : ℕ) (new : Telling) (o : Priced) (steps : List Step) → IsTrue true → new.steps ≡ Some steps
    → p.hard.variables ≤ MOST_VARIABLES → IsPricedLog p conflicts true new o → ArePrinted conflicts steps
priced-printed p conflicts new (priced.NoneAbove last) steps tells is variables h = outcome-printed p.hard (goal_of p (pos 1)) conflicts new (Refuted last) steps tells is variables h
priced-printed p conflicts new (priced.Best a v searches) steps tells is variables (inl h) =
    printed-steps p.hard (goal_of p h.least) conflicts new steps tells is variables h.handed (omega (arith, h.learned.count))
priced-printed p conflicts new (priced.Best a v searches) steps tells is variables (inr h) =
    outcome-printed p.hard (goal_of p h.least) conflicts new (Refuted h.last) steps tells is variables h.held
priced-printed p conflicts new (priced.Cut a v least searches) steps tells is variables h = outcome-printed p.hard (goal_of p least) conflicts new (Spent conflicts) steps tells is variables h
priced-printed p conflicts new (priced.Spent learned) steps tells is variables h = outcome-printed p.hard (goal_of p (pos 1)) conflicts new (Spent learned) steps tells is variables h
