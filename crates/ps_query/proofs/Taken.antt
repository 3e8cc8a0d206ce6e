-- A run whose events were taken stands where it stood.
use Rattle.std.proofs.Common.{◌≡◌, [], sym, subst, ap}
use Rattle.ps_generation.specs.Runs.{RunState, IsReached}

-- the run without the events that were taken
abbrev pub taken_from : RunState → RunState
taken_from r = record r { trace = [] }

pub reached_taken : (old new : RunState) → new ≡ taken_from old → IsReached old → IsReached new
reached_taken old new same h = subst IsReached (sym same) (record { feasible = record { feasible = h.feasible.feasible; room = h.feasible.room } })

pub trace_taken : (old new : RunState) → new ≡ taken_from old → new.trace ≡ []
trace_taken old new same = ap (λ (r : RunState). r.trace) same
