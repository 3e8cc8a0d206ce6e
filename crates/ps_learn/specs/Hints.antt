-- What hints alone refute.
use Rattle.std.specs.Prelude.{◌≡◌, true}
use Rattle.ps_pb.specs.Constraints.{Constraint}
use Rattle.ps_pb.specs.Steps.{Step, is_contradiction, IsLawful}
use Rattle.ps_clause.specs.Forms.{Form, first_known}

-- hints alone refute a form and a goal: some contradiction is lawful before all other steps
pub record AreRefutedByHints (form : Form) (goal : Constraint) : Type 0 where
  pub step : Step
  pub contradiction : is_contradiction step ≡ true
  pub lawful : IsLawful form.variables (first_known form goal) step
