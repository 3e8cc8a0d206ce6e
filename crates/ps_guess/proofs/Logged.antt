-- The steps that a log holds after a search.
use Rattle.std.proofs.Common.{◌≡◌, ℕ, ◌+◌, ◌≤◌, Bool, Some, List, length, All, sym, ◌∙◌, subst, arith}
use Rattle.std.specs.Prelude.{IsTrue}
use Rattle.std.proofs.lemmas.List.{length-append}
use Rattle.std.proofs.lemmas.List.Elements.{All-weaker}
use Rattle.ps_pb.specs.Constraints.{Constraint}
use Rattle.ps_pb.specs.Steps.{Step}
use Rattle.ps_clause.specs.Forms.{Form}
use Rattle.ps_pb.specs.Limits.{IsLiteral}
use Rattle.ps_pb.specs.declared.limits.TheConstants.{MOST_VARIABLES}
use Rattle.ps_log.specs.Logs.{Telling}
use Rattle.ps_learn.specs.Trails.{IsLit}
use Rattle.ps_sat.specs.Searches.{IsHeld}
use Rattle.ps_sat.specs.declared.searching.Outcome.{Outcome}
use Rattle.ps_sat.specs.declared.searching.Outcome.TheVariants.{Found, Refuted, Spent}
use Rattle.ps_claims.specs.Printed.{AreOfLiterals}
use Rattle.ps_guess.specs.Steps.{HasFewSteps}

module _ (f : Form) (goal : Constraint) (conflicts : ℕ) (told : Bool) (new : Telling) (o : Outcome) (steps : List Step) (tells : IsTrue told) (is : new.steps ≡ Some steps)
    (h : IsHeld f goal conflicts told new o) where
  same_steps : h.0.steps ≡ steps
  same_steps = let same : Some h.0.steps ≡ Some steps = sym (h.0.held tells).2 ∙ is in cc

  -- they are of literals, where the form's variables are few
  pub held_literals : f.variables ≤ MOST_VARIABLES → AreOfLiterals steps
  held_literals few =
      subst AreOfLiterals same_steps
      (All-weaker (λ s. All (IsLit f.variables) s.lits) (λ s. All IsLiteral s.lits)
      (λ s. All-weaker (IsLit f.variables) IsLiteral (λ l is. (is.0, omega (arith, is.1, few))) s.lits) h.0.steps h.0.literals)

pub held_few : (f : Form) (goal : Constraint) (conflicts : ℕ) (told : Bool) (new : Telling) (o : Outcome) (steps : List Step) → IsTrue told → new.steps ≡ Some steps
    → IsHeld f goal conflicts told new o → HasFewSteps conflicts o steps
held_few f goal conflicts told new (Refuted last) steps tells is h =
    let same : h.0.steps ≡ steps = same_steps f goal conflicts told new (Refuted last) steps tells is h in
    let sized : length h.0.steps ≡ length h.1.0 + 1 = rw (h.1.2) (simp length-append (omega arith)) in
    rw (← same) (omega (arith, sized, h.1.3.count))
held_few f goal conflicts told new (Found a) steps tells is h = tt
held_few f goal conflicts told new (Spent learned) steps tells is h = tt
