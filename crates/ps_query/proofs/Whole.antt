-- A new run whose sentences are all kept is over all.
use Rattle.std.proofs.Common.{Bool, List, Option, Result, Ok, Err, IfOk, ◌∙◌}
use Rattle.ps_problem.specs.declared.query.Query.{Query}
use Rattle.ps_problem.specs.Problems.{Parts}
use Rattle.ps_runs.specs.Kept.{flags_of, IsChoice, AreAllKept}
use Rattle.ps_runs.proofs.Kept.{parts-all, flags-all}
use Rattle.ps_runs.specs.declared.limits.Limits.{Limits}
use Rattle.ps_generation.specs.Runs.{RunState, IsNew}
use Rattle.ps_query.specs.Parts.{IsNewOverAll}

pub new_over_all : (p : Parts) (kept : List Bool) (query : Option Query) (limits : Limits) (r : RunState) → IsChoice kept p → AreAllKept kept → IsNew p kept query limits r
    → IsNewOverAll p query limits r
new_over_all p kept query limits r each all h = record {
  flags = flags_of kept p.sentences;
  all = flags-all kept p.sentences all;
  over =
      h.over
      ∙ (λ i. record { whole = p; flags = flags_of kept p.sentences; subject = record { parts = parts-all kept p each all i; query = query }; limits = limits });
  start = h.start;
  trace = h.trace;
}

pub found_over_all : {E : Type 0} (p : Parts) (kept : List Bool) (query : Option Query) (limits : Limits) (found : Result RunState E) → IsChoice kept p → AreAllKept kept
    → IfOk found (IsNew p kept query limits) → IfOk found (IsNewOverAll p query limits)
found_over_all p kept query limits (Ok r) each all h = new_over_all p kept query limits r each all h
found_over_all p kept query limits (Err e) each all h = tt
