-- The two literals that may be watched.
use Rattle.std.proofs.Common.{◌≡◌, ℕ, zero, suc, ◌<◌, ◌≤◌, ℤ, pos, Bool, true, false, Some, List, [], ◌∷◌, length, map, take, get_or, inl, inr, arith, sym, ap, subst, ◌∙◌, unsigned_abs}
use Rattle.std.specs.Prelude.{slice_get, nat_le}
use Rattle.std.specs.List.{All, filter}
use Rattle.std.proofs.lemmas.Bool.{cases_Bool}
use Rattle.ps_pb.specs.Assignments.{Assignment, place, value_of}
use Rattle.ps_pb.specs.Constraints.{Constraint, HasTerm, is_open}
use Rattle.ps_pb.specs.Weights.{Weighted, IsPlain, IsNormal, weighted, terms_of}
use Rattle.std.proofs.lemmas.List.{get_or-map, length-map}
use Rattle.ps_pb.proofs.Searched.{has_term-at}
use Rattle.ps_learn.specs.Trails.{Trail, TrailEntry, values, values_of, level, entry_of, AreFresh, AreLevels}
use Rattle.ps_learn.proofs.Entries.{get-taken}
use Rattle.ps_learn.proofs.Levels.{below, up_to-take}
use Rattle.ps_learn.proofs.TrailDistinct.{entry-found}
use Rattle.ps_learn.specs.Lookups.{level_in, level_of}
use Rattle.ps_learn.proofs.Opening.{set-at}
use Rattle.ps_sat.specs.Looks.{some_new, IsNewIn}
use Rattle.ps_sat.specs.WatchChoices.{IsOpenIn, IsFalseAtTop, IsFalseIn, AreOpen, AreLast}
use Rattle.ps_sat.proofs.Clauses.{coefficient-one, false-closed}
use Rattle.ps_sat.proofs.Seen.{new-open, forced}
use Rattle.ps_sat.proofs.Levelled.{IsNotFalseBelow}

one-term : (c : Constraint) (l : ℤ) (k : ℕ) → IsPlain c → HasTerm l k c.terms → HasTerm l 1 c.terms
one-term c l k p h = subst (λ x. HasTerm l x c.terms) (coefficient-one c l k p h) h

-- ---- what the tests show
below-one : (ts : List (ℤ × ℕ)) → All (λ t. t.1 ≡ pos 1) (weighted ts) → All (λ t. t.1 ≡ 1) ts
below-one ts h = λ k d lt.
    let f : (ℤ × ℕ) → ℤ × ℤ = λ t. (t.0, pos t.1) in
    let e : ℤ × ℤ = (d.0, pos d.1) in
    let within : k < length (map f ts) = rw (length-map ts f) lt in
    let one : (get_or (map f ts) k e).1 ≡ pos 1 = h k e within in
    let z : pos (get_or ts k d).1 ≡ pos 1 = sym (ap (λ (x : ℤ × ℤ). x.1) (get_or-map f ts k d e lt)) ∙ one in
    cc z

pub plain-of : (c : Constraint) (ts : Weighted) → ts ≡ weighted c.terms → c.degree ≡ pos 1 → All (λ t. t.1 ≡ pos 1) ts → IsPlain c
plain-of c ts e d h = record { degree = d; coefficients = below-one c.terms (subst (All (λ t. t.1 ≡ pos 1)) e h) }

pub open-at : (c : Constraint) (a : Assignment) (ts : Weighted) (i : ℕ) (t : ℤ × ℤ) (b : Bool) → terms_of ts ≡ c.terms → i < length ts → t ≡ get_or ts i t → b ≡ is_open a t.0 → b ≡ true → IsOpenIn c a t.0
open-at c a ts i t b e h at f y = record {
  coefficient = unsigned_abs t.1;
  term = subst (HasTerm t.0 (unsigned_abs t.1)) e (has_term-at ts i t h at);
  open_is = sym f ∙ y;
}

pub false-at : (c : Constraint) (u : Trail) (ts : Weighted) (i : ℕ) (t : ℤ × ℤ) → terms_of ts ≡ c.terms → i < length ts → t ≡ get_or ts i t → IsFalseAtTop u t.0 → IsFalseIn c u t.0
false-at c u ts i t e h at f = record {
  coefficient = unsigned_abs t.1;
  term = subst (HasTerm t.0 (unsigned_abs t.1)) e (has_term-at ts i t h at);
  at_top = f;
}

pub open-pair : (c : Constraint) (t : Trail) (a : Assignment) (f s : ℤ) → a ≡ values t → IsPlain c → IsOpenIn c (values t) f → IsNewIn c a f s → AreOpen c t f s
open-pair c t a f s e p h n =
    let n' : IsNewIn c (values t) f s = subst (λ b. IsNewIn c b f s) e n in
    let o = new-open (values t) f s n'.new_is in
    record {
      two = record {
        plain = p;
        first_term = one-term c f h.coefficient p h.term;
        second_term = one-term c s n'.coefficient p n'.term;
        differ = λ q. o.1 (sym q);
      };
      first_open = h.open_is;
      second_open = o.0;
    }

pub last-pair : (c : Constraint) (t : Trail) (a : Assignment) (ts : Weighted) (f s : ℤ) → a ≡ values t → IsPlain c → IsOpenIn c (values t) f → some_new a f c.terms ≡ false → IsFalseIn c t s → ts ≡ weighted c.terms → IsNormal ts c.degree → AreLast c t f s
last-pair c t a ts f s e p h none l w n =
    let one = one-term c f h.coefficient p h.term in
    record {
      two = record {
        plain = p;
        first_term = one;
        second_term = one-term c s l.coefficient p l.term;
        differ = λ q. false-closed (values t) f (ap (value_of (values t)) q ∙ l.at_top.false_is) h.open_is;
      };
      first_open = h.open_is;
      forces = λ u. forced c (values t) f ts p one w n (subst (λ b. some_new b f c.terms ≡ false) e none) u;
      second_false = l.at_top;
    }

-- ---- a literal of the last level is false at no lower one
first_kept : (m : ℕ) (x : TrailEntry) (es : List TrailEntry) (i : ℕ) (e : TrailEntry) → below m x ≡ true → ((j : ℕ) → slice_get es j ≡ Some e → below m e ≡ true) → slice_get (x ∷ es) i ≡ Some e → below m e ≡ true
first_kept m x es zero e y rest q = let same : x ≡ e = cc q in subst (λ z. below m z ≡ true) same y
first_kept m x es (suc i) e y rest q = rest i q

filtered : (m : ℕ) (es : List TrailEntry) (i : ℕ) (e : TrailEntry) → slice_get (filter (below m) es) i ≡ Some e → below m e ≡ true
filtered m [] i e h = absurd (cc)
filtered m (x ∷ es) i e h = elim (cases_Bool (below m x)) [
  | inl y ↦ first_kept m x (filter (below m) es) i e y (λ j q. filtered m es j e q) (rw y at h)
  | inr n ↦ filtered m es i e (rw n at h)
]

same_size : (l m : ℤ) → place l ≡ place m → 1 ≤ unsigned_abs l → 1 ≤ unsigned_abs m → unsigned_abs l ≡ unsigned_abs m
same_size l m e h k = omega (arith, e, h, k)

not-above : (n m : ℕ) → nat_le n m ≡ true → n ≤ m
not-above n m h = grind (arith, h)

pub top-above : (t : Trail) (l : ℤ) → AreFresh t.variables t.entries → AreLevels t.entries → 1 ≤ unsigned_abs l → IsFalseAtTop t l → IsNotFalseBelow t l (level t)
top-above t l f v one top = record {
  at = λ m less q.
      let p = up_to-take m t.entries v in
      let s = set-at t.variables (take p.0 t.entries) l false (subst (λ (es : List TrailEntry). value_of (values_of t.variables es) l ≡ Some false) p.1 q) in
      let there = (get-taken t.entries p.0 s.at s.entry s.there).0 in
      let low : s.entry.level ≤ m = not-above s.entry.level m (filtered m t.entries s.at s.entry (subst (λ (es : List TrailEntry). slice_get es s.at ≡ Some s.entry) (sym p.1) s.there)) in
      let size : unsigned_abs l ≡ unsigned_abs s.entry.lit = same_size l s.entry.lit s.same one (f.at s.at s.entry there).some in
      let found : level_of (unsigned_abs l) t ≡ Some s.entry.level = ap (λ n. level_in (entry_of n t.entries)) size ∙ ap level_in (entry-found t.variables t.entries s.at s.entry f there) in
      let both : Some s.entry.level ≡ Some (level t) = sym found ∙ top.level_is in
      let own : s.entry.level ≡ level t = cc both in
      omega (arith, own, low, less);
}
