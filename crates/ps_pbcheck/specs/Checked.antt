-- What a checker knows, and what it answers to a step.
use Rattle.std.specs.Prelude.{ℕ, ◌≡◌, Bool, false, Option, Some, None, Result, Ok, Err, List}
use Rattle.ps_pb.specs.declared.refused.StepRefused.{StepRefused}
use Rattle.ps_pb.specs.declared.refused.StepRefused.TheVariants.{NoMemory}
use Rattle.ps_pb.specs.Constraints.{Constraint}
use Rattle.ps_pb.specs.Steps.{Known, known_of, Step, with_step, is_contradiction}
use Rattle.ps_clause.specs.Forms.{Form, first_known}

-- the number of variables, the known constraints, and whether the last step taken has no literals
pub record Checked : Type 0 where
  pub variables : ℕ
  pub known : Known
  pub refuted : Bool

-- the clauses of a form and then the goal are known
abbrev pub first_checked : Form → Constraint → Checked
first_checked f goal = record { variables = f.variables; known = first_known f goal; refuted = false }

-- what a step adds is known too
abbrev pub after_step : Checked → Step → Checked
after_step c s = record { variables = c.variables; known = with_step c.known s; refuted = is_contradiction s }

-- constraints in the order of their ids
abbrev pub checked_of : ℕ → List Constraint → Bool → Checked
checked_of variables cs refuted = record { variables = variables; known = known_of cs; refuted = refuted }

-- the answer to a step: taken where nothing refuses it, else the first refusal, or want of memory
abbrev pub AnswersStep : Option StepRefused → Result (Unit {0}) StepRefused → Type 0
AnswersStep o (Ok done) = o ≡ None
AnswersStep o (Err NoMemory) = Unit {0}
AnswersStep o (Err e) = o ≡ Some e
