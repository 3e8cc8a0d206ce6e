-- A phase makes few pivots, since between two pricings it meets no basis twice.
use Rattle.std.proofs.Common.{◌≡◌, ℕ, suc, ◌+◌, ◌^◌, ◌<◌, List, ◌++◌, length, sym, ap, ◌∙◌, subst, arith}
use Rattle.std.proofs.lemmas.List.{append_cancel_left}
use Rattle.ps_meaning.specs.Formula.{World}
use Rattle.ps_simplex.specs.Count.{choose}
use Rattle.ps_simplex.proofs.Ways.{choose_next, more_things}
use Rattle.ps_simplex.proofs.Worlds.{few_worlds}
use Rattle.ps_table.specs.declared.event.Event.{Event}
use Rattle.ps_table.specs.declared.costs.Costs.{Costs}
use Rattle.ps_table.specs.declared.home.Home.{Home}
use Rattle.ps_bland.specs.Runs.{MadeFewerThanBases}
use Rattle.ps_claims.specs.declared.claim_kind.ClaimKind.{ClaimKind}
use Rattle.ps_runs.specs.Rows.{rows_of, columns_of}
use Rattle.ps_runs.specs.Subjects.{Subject, setting_of, atoms_of}
use Rattle.ps_runs.specs.Runs.{IsPool, pivots_in}
use Rattle.ps_runs.proofs.Shapes.{homes_count}
use Rattle.ps_runs.specs.declared.state.State.{State}
use Rattle.ps_generation.specs.declared.end.End.{End}
use Rattle.ps_generation.specs.declared.end.End.TheVariants.{Feasible, NoneAbove, Open}
use Rattle.ps_generation.specs.Phases.{LimitedSubject, IsInPhase, HasCome, IsEnd}
use Rattle.ps_generation.specs.Counts.{SettlesInFewerThanBases, pivot_bound, IsBelowBound, StaysBelowBound, MakesFewPivots}

-- the pivots of one settling
pub few_between : (kind : ClaimKind) (s : Subject) (costs : Costs) (old new : State) → IsInPhase kind s costs old → MadeFewerThanBases old.table old.left new.left → SettlesInFewerThanBases s old new
few_between kind s costs old new phase made = record {
  fewer =
      subst (λ (r : ℕ). old.left < new.left + choose (r + length old.pool) r) (homes_count (setting_of s))
      (subst (λ (kinds : List Home). old.left < new.left + choose (length kinds + length old.pool) (length kinds)) phase.table.kinds
      (subst (λ (worlds : ℕ). old.left < new.left + choose (length old.table.kinds + worlds) (length old.table.kinds)) phase.table.worlds
      (made.fewer (columns_of (setting_of s) old.pool) phase.table.stands)));
}

-- the first settling of a phase
pub first_few : (s : Subject) (old new : State) → new.pool ≡ old.pool → SettlesInFewerThanBases s old new → IsBelowBound s old.left new
first_few s old new same between = record {
  below =
      let r = rows_of (setting_of s) in
      let k = length old.pool in
      let next = choose_next (r + k) r in
      let few = between.fewer in
      let pool = ap (λ (ws : List World). pivot_bound r (length ws)) same in
      omega (arith, next, few, pool);
}

-- a world enters and the table is settled
pub round_few : (s : Subject) (old mid new : State) → length mid.pool ≡ suc (length old.pool) → mid.left ≡ old.left → new.pool ≡ mid.pool → SettlesInFewerThanBases s mid new → StaysBelowBound s old new
round_few s old mid new more left same between = record {
  stays = λ had before. record {
    below =
        let r = rows_of (setting_of s) in
        let k = length old.pool in
        let up : r + length mid.pool ≡ suc (r + k) = omega (arith, more) in
        let next = choose_next (r + length mid.pool) r in
        let was = ap (λ (z : ℕ). choose z (suc r)) up in
        let pool = ap (λ (ws : List World). pivot_bound r (length ws)) same in
        let first = before.below in
        let then = between.fewer in
        omega (arith, next, was, pool, first, then, left);
  };
}

-- no world has entered
pub still_few : (s : Subject) (old new : State) → new.pool ≡ old.pool → new.left ≡ old.left → StaysBelowBound s old new
still_few s old new same left = record {
  stays = λ had before. record {
    below =
        let r = rows_of (setting_of s) in
        let pool = ap (λ (ws : List World). pivot_bound r (length ws)) same in
        let first = before.below in
        omega (arith, pool, first, left);
  };
}

-- ---- the pivots that aren't left are those of the events behind the trace
module _ (kind : ClaimKind) (r : LimitedSubject) (old new : State) (events : List Event) (behind : new.trace ≡ old.trace ++ events) where
  counted_on : HasCome kind r old new → new.left + pivots_in events ≡ old.left
  counted_on come =
      let way = come.way in
      subst (λ (es : List Event). new.left + pivots_in es ≡ old.left) (append_cancel_left old.trace way.events events (sym way.appended ∙ behind)) way.counted

  counted_at : (end : End) → IsEnd kind r old new end → new.left + pivots_in events ≡ old.left
  counted_at Feasible h = counted_on h.0
  counted_at (NoneAbove d) h = counted_on h.0
  counted_at (Open cause) h = counted_on h.come

-- no world stands twice in the pool, so there are at most all worlds
pub few_at : (kind : ClaimKind) (r : LimitedSubject) (old new : State) (end : End) → IsEnd kind r old new end → IsPool (atoms_of r.subject) new.pool → IsBelowBound r.subject old.left new → MakesFewPivots r.subject old new
few_at kind r old new end h pool below = record {
  in_pool = λ events behind.
      let few = below.below in
      let counted = counted_at kind r old new events behind end h in
      omega (arith, few, counted);
  in_all = λ events behind.
      let n = rows_of (setting_of r.subject) in
      let worlds = few_worlds (atoms_of r.subject) new.pool pool.different pool.sized in
      let more = more_things (suc (n + length new.pool)) (suc (n + 2 ^ atoms_of r.subject)) (suc n) (omega (arith, worlds)) in
      let few = below.below in
      let counted = counted_at kind r old new events behind end h in
      omega (arith, more, few, counted);
}
