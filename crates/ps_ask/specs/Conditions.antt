-- Conditions that no distribution gives weight.
use Rattle.std.specs.Prelude.{◌≡◌, ℕ, Option, None, All, IfSome, length, slice_get}
use Rattle.ps_problem.specs.declared.sentence.Sentence.{Sentence}
use Rattle.ps_problem.specs.declared.sentence.Sentence.TheVariants as sentence
use Rattle.ps_problem.specs.Problems.{Parts, bounds_of, given_at}
use Rattle.ps_claims.specs.Queries.{IsImpossible}
use Rattle.ps_ask.specs.declared.conditions.IdleWarnings.{IdleWarnings}

-- the condition of a sentence, if it has one: a linear one has none
abbrev pub condition_of : Sentence → Option ℕ
condition_of (sentence.Plain first second) = first.given
condition_of (sentence.Linear l) = None

-- the condition, or truth where there is none, has weight 0 in each distribution that meets a problem's sentences
abbrev pub IsIdle : Parts → Option ℕ → Type 0
IsIdle p given = IsImpossible (length p.names) (bounds_of p) (given_at p.nodes given)

-- so has that of the sentence at a place
abbrev pub IsIdlePlace : Parts → ℕ → Type 0
IsIdlePlace p place = IfSome (slice_get p.sentences place) (λ s. IsIdle p (condition_of s))

-- there is one warning about each of some sentences whose condition has no weight
pub record AreIdleWarnings (p : Parts) (told : IdleWarnings) : Type 0 where
  pub idle : All (IsIdlePlace p) told.sentences
  pub one_each : length told.warnings.items ≡ length told.sentences
