-- Texts of goals, with numbers of any size, and what is answered of the first line of some bytes.
use Rattle.std.specs.Prelude.{ℕ, ◌≡◌, ◌≤◌, Bool, true, List, [], ◌∷◌, All, Result}
use Rattle.ps_pb.specs.Constraints.{Constraint}
use Rattle.ps_pb.specs.Weights.{weighted, are_rising}
use Rattle.ps_log.specs.Texts.{goal_numbers, goal_line}
use Rattle.ps_log.specs.Limits.{IsGoalWithin}
use Rattle.ps_log.specs.Spellings.{words_of, SpellAll}
use Rattle.ps_log.specs.FirstLines.{is_text_byte, IsFirstLineOf, IsRefused, IsAnswer}
use Rattle.ps_log.specs.declared.line_error.LineError.{LineError}

-- a line is `g` and a spelling of each number of a goal, whose coefficients are at least 1 and whose variables rise
pub record IsGoalText (line : List ℕ) (g : Constraint) : Type 0 where
  pub spellings : List (List ℕ)
  pub words : words_of line ≡ (103 ∷ []) ∷ spellings
  pub spelled : SpellAll spellings (goal_numbers g.degree (weighted g.terms))
  pub positive : All (λ t. 1 ≤ t.1) g.terms
  pub rising : are_rising 0 (weighted g.terms) ≡ true

-- a byte that a goal's text may have: `g`, a digit, `-`, or a space
abbrev pub is_goal_byte : ℕ → Bool
is_goal_byte = is_text_byte 103

-- the first line is that of this goal, which is within the limits, and has with its line feed this many bytes
abbrev pub HasGoal : List ℕ → Constraint → ℕ → Type 0
HasGoal bytes g count = IsFirstLineOf goal_line IsGoalWithin bytes g count

-- why bytes are no goal
abbrev pub IsGoalRefused : List ℕ → LineError → Type 0
IsGoalRefused bytes why = IsRefused is_goal_byte IsGoalText IsGoalWithin bytes why

-- what is answered of bytes that should begin with a goal
abbrev pub IsGoalAnswer : List ℕ → Result (Constraint × ℕ) LineError → Type 0
IsGoalAnswer bytes result = IsAnswer (HasGoal bytes) (IsGoalRefused bytes) result
