-- Propagation and decisions keep what a search keeps of the levels of its trail.
use Rattle.std.proofs.Common.{◌≡◌, ℕ, zero, suc, ◌+◌, ℤ, true, Some, None, List, [], ◌∷◌, ◌++◌, take, arith, refl, ap, ◌∙◌, subst, ◌⊎◌, inl, inr}
use Rattle.std.specs.Prelude.{slice_get, unsigned_abs, is_none}
use Rattle.ps_pb.specs.Steps.{Known}
use Rattle.ps_clause.specs.Forms.{Form, is_atom_variable}
use Rattle.ps_learn.specs.Trails.{TrailEntry, Trail, values, values_of, decisions, decided}
use Rattle.ps_learn.proofs.Entries.{get-last, get-taken, take-front, take-all}
use Rattle.ps_learn.specs.Rest.{IsAtRest, IsLonger}
use Rattle.ps_learn.specs.Resting.{AreRested, AreOfAtoms}

pub rested-none : (v : ℕ) (known : Known) → AreRested v known []
rested-none v known = record { at = λ i e q n. absurd (cc) }

pub atoms-none : (f : Form) → AreOfAtoms f []
atoms-none f = record { at = λ i e q n. absurd (cc) }

decisions_both : (es more : List TrailEntry) → decisions (es ++ more) ≡ decisions es + decisions more
decisions_both [] more = omega arith
decisions_both (e ∷ es) more = omega (arith, decisions_both es more)

all_implied : (es : List TrailEntry) (i : ℕ) (e : TrailEntry) → decisions es ≡ 0 → slice_get es i ≡ Some e → e.reason ≡ None → ⊥
all_implied [] i e d q n = absurd (cc)
all_implied (x ∷ es) zero e d q n = (let z : x ≡ e = cc q in
    let one : is_none x.reason ≡ true = ap (λ (y : TrailEntry). is_none y.reason) z ∙ ap is_none n in
    let d' : 1 + decisions es ≡ 0 = rw one at d in
    omega (arith, d'))
all_implied (x ∷ es) (suc i) e d q n = all_implied es i e (omega (arith, d)) q n

-- an entry of a longer trail is one of the shorter one, with the same entries before it, or stands behind
split_get : (es more : List TrailEntry) (i : ℕ) (e : TrailEntry) → slice_get (es ++ more) i ≡ Some e → ((slice_get es i ≡ Some e) × (take i (es ++ more) ≡ take i es)) ⊎ ((k : ℕ) × (slice_get more k ≡ Some e))
split_get [] more i e q = inr (i, q)
split_get (x ∷ es) more zero e q = inl (q, refl)
split_get (x ∷ es) more (suc i) e q = elim (split_get es more i e q) [
  | inl r ↦ inl (r.0, ap (λ ys. x ∷ ys) r.1)
  | inr r ↦ inr r
]

-- implied literals more
pub rested-implied : (v : ℕ) (known : Known) (es us : List TrailEntry) → IsLonger es us → decisions us ≡ decisions es → AreRested v known es → AreRested v known us
rested-implied v known es us l d h = rw l.is (record {
  at = λ i e q n. elim (split_get es l.more i e q) [
    | inl r ↦ rw r.1 (h.at i e r.0 n)
    | inr r ↦ absurd (all_implied l.more r.0 e (omega (arith, d, ap decisions l.is, decisions_both es l.more)) r.1 n)
  ];
})

pub atoms-implied : (f : Form) (es us : List TrailEntry) → IsLonger es us → decisions us ≡ decisions es → AreOfAtoms f es → AreOfAtoms f us
atoms-implied f es us l d h = rw l.is (record {
  at = λ i e q n. elim (split_get es l.more i e q) [
    | inl r ↦ h.at i e r.0 n
    | inr r ↦ absurd (all_implied l.more r.0 e (omega (arith, d, ap decisions l.is, decisions_both es l.more)) r.1 n)
  ];
})

rested_push : (v : ℕ) (known : Known) (es : List TrailEntry) (e : TrailEntry) → AreRested v known es → IsAtRest known (values_of v es) → AreRested v known (es ++ e ∷ [])
rested_push v known es e h rest = record {
  at = λ i d q n. elim (get-last es e d i q) [
    | inl p ↦ rw (take-front es e d i p) (h.at i d p n)
    | inr p ↦ rw (p.0, take-all es e) rest
  ];
}

atoms_push : (f : Form) (es : List TrailEntry) (e : TrailEntry) → AreOfAtoms f es → is_atom_variable f (unsigned_abs e.lit) ≡ true → AreOfAtoms f (es ++ e ∷ [])
atoms_push f es e h own = record {
  at = λ i d q n. elim (get-last es e d i q) [
    | inl p ↦ h.at i d p n
    | inr p ↦ subst (λ (x : TrailEntry). is_atom_variable f (unsigned_abs x.lit) ≡ true) p.1 own
  ];
}

-- a decided literal more
pub rested-decided : (v : ℕ) (known : Known) (t u : Trail) (l : ℤ) → u ≡ decided l t → t.variables ≡ v → AreRested v known t.entries → IsAtRest known (values t) → AreRested v known u.entries
rested-decided v known t u l e q h rest = rw e (rested_push v known t.entries _ h (subst (λ n. IsAtRest known (values_of n t.entries)) q rest))

pub atoms-decided : (f : Form) (t u : Trail) (l : ℤ) → u ≡ decided l t → AreOfAtoms f t.entries → is_atom_variable f (unsigned_abs l) ≡ true → AreOfAtoms f u.entries
atoms-decided f t u l e h own = rw e (atoms_push f t.entries _ h own)

-- the first entries
pub atoms-take : (f : Form) (es : List TrailEntry) (n : ℕ) → AreOfAtoms f es → AreOfAtoms f (take n es)
atoms-take f es n h = record { at = λ i e q r. h.at i e (get-taken es n i e q).0 r }
