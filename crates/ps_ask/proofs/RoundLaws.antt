-- What is known of the queries between turns.
use Rattle.std.proofs.Common.{◌≡◌, ℕ, zero, suc, ◌<◌, ◌≤◌, List, [], ◌∷◌, Option, Some, None, IfSome, length, get_or, replicate, sym, subst, arith}
use Rattle.std.specs.Prelude.{set, Result, Ok, Err, IfOk}
use Rattle.ps_problem.specs.declared.query.Query.{Query}
use Rattle.ps_problem.specs.Problems.{Parts}
use Rattle.ps_guess.specs.declared.by_turns.Pending.{Pending}
use Rattle.ps_ask.specs.declared.rounds.Rounds.{Rounds}
use Rattle.ps_ask.specs.declared.settings.Settings.{Settings}
use Rattle.ps_guess.specs.declared.turns.TheConstants.{MOST_TURNS}
use Rattle.ps_ask.specs.Rounds.{ArePending, AreRounds, IsKnownAs, IsPending, IsPendingAt}

module _ (s : Settings) (p : Parts) where
  pub none_pending : (qs : List Query) (n : ℕ) → ArePending s p qs (replicate n None)
  none_pending [] n = tt
  none_pending (q ∷ qs) zero = tt
  none_pending (q ∷ qs) (suc n) = (tt, none_pending qs n)

  -- what is noted at a place is what is known there
  pub pending_set : (qs : List Query) (all : List (Option Pending)) (i : ℕ) (o : Option Pending) → ((d : Query) → IfSome o (IsPending s p (get_or qs i d)))
      → ArePending s p qs all → ArePending s p qs (set all i o)
  pending_set [] all i o is h = tt
  pending_set (q ∷ qs) [] i o is h = tt
  pending_set (q ∷ qs) (x ∷ xs) zero o is h = (is q, h.1)
  pending_set (q ∷ qs) (x ∷ xs) (suc i) o is h = (h.0, pending_set qs xs i o is h.1)

  pub pending_get : (qs : List Query) (all : List (Option Pending)) (i : ℕ) (d : Query) → i < length qs → ArePending s p qs all
      → IfSome (get_or all i None) (IsPending s p (get_or qs i d))
  pending_get [] all i d lt h = absurd (omega (arith, lt))
  pending_get (q ∷ qs) [] zero d lt h = tt
  pending_get (q ∷ qs) [] (suc i) d lt h = tt
  pending_get (q ∷ qs) (x ∷ xs) zero d lt h = h.0
  pending_get (q ∷ qs) (x ∷ xs) (suc i) d lt h = pending_get qs xs i d (omega (arith, lt)) h.1

  -- the query at a place doesn't depend on what would stand behind the last one
  at_place : (qs : List Query) (i : ℕ) (q d e : Query) → i < length qs → q ≡ get_or qs i d → q ≡ get_or qs i e
  at_place [] i q d e lt is = absurd (omega (arith, lt))
  at_place (x ∷ qs) zero q d e lt is = is
  at_place (x ∷ qs) (suc i) q d e lt is = at_place qs i q d e (omega (arith, lt)) is

  -- what is known of a query is known of the place where it stands
  pub pending_there : (place : ℕ) (q d : Query) (pending : Pending) → place < length p.queries → q ≡ get_or p.queries place d → IsPending s p q pending
      → IsPendingAt s p place pending
  pending_there place q d pending lt is h = λ e. subst (λ x. IsPending s p x pending) (at_place p.queries place q d e lt is) h

  pub pending_of : (place : ℕ) (q d : Query) (pending : Pending) → q ≡ get_or p.queries place d → IsPendingAt s p place pending → IsPending s p q pending
  pending_of place q d pending is h = subst (λ x. IsPending s p x pending) (sym is) (h d)

  pub there_ok : {E : Type 0} (place : ℕ) (q d : Query) (r : Result Pending E) → place < length p.queries → q ≡ get_or p.queries place d → IfOk r (IsPending s p q)
      → IfOk r (IsPendingAt s p place)
  there_ok place q d (Ok pending) lt is h = pending_there place q d pending lt is h
  there_ok place q d (Err e) lt is h = tt

  -- what is taken from a place is known there, and all else still is
  pub pending_taken : (r : Rounds) (place : ℕ) (o : Option Pending) (pending : Pending) → AreRounds s p r → place < length p.queries
      → o ≡ get_or r.pendings.items place None → IsKnownAs o pending → IsPendingAt s p place pending
  pending_taken r place o pending are lt is whole = λ d.
      whole s p (get_or p.queries place d)
      (subst (λ (x : Option Pending). IfSome x (IsPending s p (get_or p.queries place d))) (sym is) (pending_get p.queries r.pendings.items place d lt are.pendings))

  pub rounds_taken : (r new : Rounds) (place : ℕ) → AreRounds s p r → new.pendings.items ≡ set r.pendings.items place None → new.turn ≡ r.turn → AreRounds s p new
  rounds_taken r new place are is same = record {
    pendings = subst (λ (xs : List (Option Pending)). ArePending s p p.queries xs) (sym is) (pending_set p.queries r.pendings.items place None (λ d. tt) are.pendings);
    few = subst (λ t. t ≤ MOST_TURNS) (sym same) are.few;
  }

  pub rounds_put : (r new : Rounds) (place : ℕ) (pending : Pending) → AreRounds s p r → IsPendingAt s p place pending
      → new.pendings.items ≡ set r.pendings.items place (Some pending) → new.turn ≡ r.turn → AreRounds s p new
  rounds_put r new place pending are known is same = record {
    pendings = subst (λ (xs : List (Option Pending)). ArePending s p p.queries xs) (sym is) (pending_set p.queries r.pendings.items place (Some pending) known are.pendings);
    few = subst (λ t. t ≤ MOST_TURNS) (sym same) are.few;
  }

  -- the next turn is another
  pub rounds_at : (r new : Rounds) → AreRounds s p r → new.pendings.items ≡ r.pendings.items → new.turn ≤ MOST_TURNS → AreRounds s p new
  rounds_at r new are same few = record {
    pendings = subst (λ (xs : List (Option Pending)). ArePending s p p.queries xs) (sym same) are.pendings;
    few = few;
  }

  pub first_rounds : (r : Rounds) (n : ℕ) → r.pendings.items ≡ replicate n None → r.turn ≤ MOST_TURNS → AreRounds s p r
  first_rounds r n is few = record {
    pendings = subst (λ (xs : List (Option Pending)). ArePending s p p.queries xs) (sym is) (none_pending p.queries n);
    few = few;
  }
