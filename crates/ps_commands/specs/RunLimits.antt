-- The limits of the runs on a problem, by what words set.
use Rattle.std.specs.Prelude.{ℕ, ◌*◌, min, Bool, true, false}
use Rattle.ps_problem.specs.Problems.{Parts}
use Rattle.ps_answer.specs.declared.limits.TheConstants.{MOST_PIVOTS}
use Rattle.ps_runs.specs.Subjects.{sentences_of}
use Rattle.ps_runs.specs.declared.limits.Limits.{Limits}
use Rattle.ps_runs.specs.Enough.{ways_in}

-- a number of pivots that is enough for each run on a problem: three times the ways to choose one thing more than
-- there are rows, of one thing more than there are rows and worlds
abbrev pub enough_for : Parts → ℕ
enough_for p = 3 * ways_in (sentences_of p)

-- the limits of the runs on a problem: those of the words, and where pivots are to be enough, that number, or the
-- most if it is less
abbrev pub limits_for : Limits → Bool → Parts → Limits
limits_for limits false p = limits
limits_for limits true p = record { pivots = min (enough_for p) MOST_PIVOTS; conflicts = limits.conflicts }
