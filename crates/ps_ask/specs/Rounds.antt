-- What is known of the queries of a problem between turns.
use Rattle.std.specs.Prelude.{ℕ, ◌≤◌, List, [], ◌∷◌, Option, IfSome, get_or}
use Rattle.ps_problem.specs.declared.query.Query.{Query}
use Rattle.ps_problem.specs.Problems.{Parts}
use Rattle.ps_guess.specs.Known.{IsKnown}
use Rattle.ps_guess.specs.declared.by_turns.Pending.{Pending}
use Rattle.ps_guess.specs.declared.turns.TheConstants.{MOST_TURNS}
use Rattle.ps_ask.specs.declared.rounds.Rounds.{Rounds}
use Rattle.ps_ask.specs.declared.settings.Settings.{Settings}

-- this is known of a query within the limits of the settings
abbrev pub IsPending : Settings → Parts → Query → Pending → Type 0
IsPending s p q pending = IsKnown s.limits p q pending.known

-- so it is of each of these queries of which something is known, place by place
abbrev pub ArePending : Settings → Parts → List Query → List (Option Pending) → Type 0
ArePending s p [] all = Unit {0}
ArePending s p (q ∷ qs) [] = Unit {0}
ArePending s p (q ∷ qs) (pending ∷ all) = IfSome pending (IsPending s p q) × ArePending s p qs all

-- so it is of the query at a place of the problem
abbrev pub IsPendingAt : Settings → Parts → ℕ → Pending → Type 0
IsPendingAt s p place pending = (d : Query) → IsPending s p (get_or p.queries place d) pending

-- of whatever problem and query the first is known, the second is too, where the first is there
abbrev pub IsKnownAs : Option Pending → Pending → Type 0
IsKnownAs o pending = (s : Settings) (p : Parts) (q : Query) → IfSome o (IsPending s p q) → IsPending s p q pending

-- what is known of each query of a problem, and a turn that is next
pub record AreRounds (s : Settings) (p : Parts) (r : Rounds) : Type 0 where
  pub pendings : ArePending s p p.queries r.pendings.items
  pub few : r.turn ≤ MOST_TURNS

-- so they are at first, for all settings and each problem
abbrev pub AreFirstRounds : Rounds → Type 0
AreFirstRounds r = (s : Settings) (p : Parts) → AreRounds s p r
