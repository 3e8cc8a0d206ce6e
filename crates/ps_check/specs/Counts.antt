-- How many lines the parts that are due take at most.
use Rattle.std.specs.Prelude.{ℕ, ◌+◌, ◌-◌, ◌*◌, List, [], ◌∷◌}
use Rattle.ps_log.specs.declared.limits.TheConstants.{MOST_CONFLICTS}
use Rattle.ps_answer.specs.declared.limits.TheConstants.{MOST_ENTRIES, MOST_DUAL_STEPS, MOST_EVENTS, MOST_QUERIES}
use Rattle.ps_answer.specs.declared.part.Part.{Part}
use Rattle.ps_answer.specs.declared.part.Part.TheVariants.{AReport, AVerdict, AModel, AnEntry, ADual, SomeRows, AStep}
use Rattle.ps_answer.specs.declared.part.Part.TheVariants.{AGoal, ACause, ATrace, AnEvent, AnAnswer, ASide, AQuery}

-- the most lines of a model: its head and its worlds
abbrev pub most_model : ℕ
most_model = 1 + MOST_ENTRIES

-- the most lines of a dual: its head, its multipliers and its steps
abbrev pub most_dual : ℕ
most_dual = 2 + MOST_DUAL_STEPS

-- the most lines of a cause: what was used up, a goal and steps
abbrev pub most_cause : ℕ
most_cause = 2 + MOST_CONFLICTS

-- the most lines of a trace: its head and its events
abbrev pub most_trace : ℕ
most_trace = 1 + MOST_EVENTS

-- no more lines than this has a side of a query
abbrev pub most_side : ℕ
most_side = 1 + most_model + most_dual + most_cause + most_trace

-- no more lines than this has the answer to a query
abbrev pub most_answer : ℕ
most_answer = 1 + most_trace + most_side + most_side + most_dual + most_cause

-- no more lines than this has a part, with all that comes due behind its first line
abbrev pub most_of : Part → ℕ
most_of AReport = 1
most_of AVerdict = 1 + most_model + most_dual + most_cause
most_of AModel = most_model
most_of AnEntry = 1
most_of ADual = most_dual
most_of SomeRows = 1
most_of AStep = 1
most_of AGoal = 1
most_of ACause = most_cause
most_of ATrace = most_trace
most_of AnEvent = 1
most_of AnAnswer = most_answer
most_of (ASide upper) = most_side
most_of (AQuery j) = (MOST_QUERIES + 1 - j) * (1 + most_answer) + 1

-- no more lines than this have parts that are due
abbrev pub most_in : List Part → ℕ
most_in [] = 0
most_in (p ∷ due) = most_of p + most_in due
