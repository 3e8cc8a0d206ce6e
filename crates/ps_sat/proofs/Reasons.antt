-- Reasons of the literals that were added to a trail.
use Rattle.std.proofs.Common.{◌≡◌, ℕ, zero, suc, ◌<◌, Some, List, [], ◌∷◌, ◌++◌, length, take, arith, refl, ap, inl, inr}
use Rattle.std.specs.Prelude.{slice_get}
use Rattle.std.proofs.lemmas.Bool.{cases_lt}
use Rattle.std.proofs.lemmas.Option.{slice_get_within}
use Rattle.ps_pb.specs.Steps.{Known}
use Rattle.ps_learn.specs.Trails.{Trail, TrailEntry, values_of, IsReason, AreReasons}
use Rattle.ps_learn.specs.Rest.{IsLonger}
use Rattle.ps_learn.proofs.Entries.{get-last, take-all}
use Rattle.ps_sat.specs.Watches.{AreReasonsFrom, Extends}

-- an entry stays when others come behind it, as do those before it
front : (es more : List TrailEntry) (i : ℕ) (e : TrailEntry) → i < length es → slice_get (es ++ more) i ≡ Some e → (slice_get es i ≡ Some e) × (take i (es ++ more) ≡ take i es)
front [] more i e h g = absurd (omega (arith, h))
front (x ∷ es) more zero e h g = (g, refl)
front (x ∷ es) more (suc i) e h g = let r = front es more i e (omega (arith, h)) g in (r.0, ap (λ ys. x ∷ ys) r.1)

pub from_none : (v : ℕ) (known : Known) (es : List TrailEntry) → AreReasonsFrom (length es) v known es
from_none v known es = record { at = λ i e le g. absurd (omega (arith, le, slice_get_within es i e g)) }

pub from-one : (v : ℕ) (known : Known) (es : List TrailEntry) (x : TrailEntry) → IsReason known (values_of v es) x.lit x.reason → AreReasonsFrom (length es) v known (es ++ x ∷ [])
from-one v known es x h = record {
  at = λ i e le g. elim (get-last es x e i g) [
    | inl p ↦ absurd (omega (arith, le, slice_get_within es i e p))
    | inr q ↦ rw (q.0, ← q.1, take-all es x) h
  ];
}

pub from-then : (v : ℕ) (known : Known) (es fs gs : List TrailEntry) → IsLonger fs gs → AreReasonsFrom (length es) v known fs → AreReasonsFrom (length fs) v known gs → AreReasonsFrom (length es) v known gs
from-then v known es fs gs longer a b = record {
  at = λ i e le g. elim (cases_lt i (length fs)) [
    | inl lt ↦ (let r = front fs longer.more i e lt (rw longer.is at g) in
        rw (longer.is, r.1) (a.at i e le r.0))
    | inr ge ↦ b.at i e ge g
  ];
}

-- with reasons before, all have reasons
pub from-all : (v : ℕ) (known : Known) (es fs : List TrailEntry) → IsLonger es fs → AreReasons v known es → AreReasonsFrom (length es) v known fs → AreReasons v known fs
from-all v known es fs longer a b = record {
  at = λ i e g. elim (cases_lt i (length es)) [
    | inl lt ↦ (let r = front es longer.more i e lt (rw longer.is at g) in
        rw (longer.is, r.1) (a.at i e r.0))
    | inr ge ↦ b.at i e ge g
  ];
}

pub extends-reasons : (known : Known) (t u : Trail) → Extends known t u → AreReasons t.variables known t.entries → AreReasons u.variables known u.entries
extends-reasons known t u x r = from-all u.variables known t.entries u.entries x.longer (rw x.variables r) x.reasons
