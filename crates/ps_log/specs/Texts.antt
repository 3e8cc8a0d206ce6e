-- The texts of goals and steps.
use Rattle.std.specs.Prelude.{ℕ, ℤ, pos, List, [], ◌∷◌, ◌++◌, fold, flat_map}
use Rattle.std.specs.Fmt.{signed_decimal}
use Rattle.ps_io.specs.LineText.{with_word}
use Rattle.ps_pb.specs.Constraints.{Constraint}
use Rattle.ps_pb.specs.Steps.{Step}
use Rattle.ps_pb.specs.Weights.{Weighted, weighted}

-- a line with one more number
abbrev pub with_number : List ℕ → ℤ → List ℕ
with_number text n = with_word text (signed_decimal n)

-- a line with more numbers
abbrev pub with_numbers : List ℕ → List ℤ → List ℕ
with_numbers text numbers = fold with_number text numbers

-- hints as numbers
abbrev pub hint_numbers : List ℕ → List ℤ
hint_numbers hints = flat_map (λ hint. pos hint ∷ []) hints

-- for each term its coefficient and its literal
abbrev pub term_numbers : Weighted → List ℤ
term_numbers terms = flat_map (λ t. t.1 ∷ t.0 ∷ []) terms

-- the numbers of a step: its id, its literals, 0, its hints, 0
abbrev pub step_numbers : ℕ → List ℤ → List ℕ → List ℤ
step_numbers id lits hints = pos id ∷ (lits ++ (pos 0 ∷ (hint_numbers hints ++ pos 0 ∷ [])))

-- a step's line: `s` and its numbers
unfoldable pub step_line : Step → List ℕ
step_line s = with_numbers (115 ∷ []) (step_numbers s.id s.lits s.hints)

-- the numbers of a goal: its degree, coefficient and literal for each term, 0
abbrev pub goal_numbers : ℤ → Weighted → List ℤ
goal_numbers degree terms = degree ∷ term_numbers terms ++ pos 0 ∷ []

-- a goal's line: `g` and its numbers
unfoldable pub goal_line : Constraint → List ℕ
goal_line goal = with_numbers (103 ∷ []) (goal_numbers goal.degree (weighted goal.terms))
