-- One literal more.
use Rattle.std.proofs.Common.{◌≡◌, ℕ, suc, ℤ, Some, None, List, [], ◌∷◌, ◌++◌, length, ◌∙◌, arith, refl, sym, ap, subst}
use Rattle.std.proofs.lemmas.List.{append_assoc, append-nil}
use Rattle.ps_pb.specs.Assignments.{Assignment}
use Rattle.ps_pb.specs.Steps.{Known}
use Rattle.ps_learn.specs.Rest.{IsLonger}
use Rattle.ps_learn.specs.Trails.{Trail, TrailEntry, values, values_of, level, decisions, implied, decided, IsReason, IsFresh, AreReasons}
use Rattle.ps_learn.proofs.Entries.{values-append, reasons-append, length-values}
use Rattle.ps_learn.specs.Trails.{unset_count}
use Rattle.ps_learn.proofs.Counting.{fewer-unset}
use Rattle.ps_learn.proofs.Pushing.{decisions-append}

pub fresh-now : (t : Trail) (a : Assignment) (l : ℤ) → a ≡ values t → length a ≡ t.variables → IsFresh (length a) a l → IsFresh t.variables (values t) l
fresh-now t a l e n f = subst (λ m. IsFresh m (values t) l) n (subst (λ b. IsFresh (length a) b l) e f)

pub implied-reasons : (known : Known) (t u : Trail) (a : Assignment) (l : ℤ) (id : ℕ) → u ≡ implied l id t → a ≡ values t → IsReason known a l (Some id) → AreReasons t.variables known t.entries → AreReasons u.variables known u.entries
implied-reasons known t u a l id e q h r = rw e (reasons-append t.variables known t.entries (record { lit = l; reason = Some id; level = decisions t.entries }) r (subst (λ b. IsReason known b l (Some id)) q h))

pub implied-level : (t u : Trail) (l : ℤ) (id : ℕ) → u ≡ implied l id t → level u ≡ level t
implied-level t u l id e = rw e (let d = decisions-append t.entries (record { lit = l; reason = Some id; level = decisions t.entries }) in omega (arith, d))

more-fewer : (t : Trail) (e : TrailEntry) (es : List TrailEntry) → es ≡ t.entries ++ e ∷ [] → IsFresh t.variables (values t) e.lit → suc (unset_count (values_of t.variables es)) ≡ unset_count (values t)
more-fewer t e es q f = rw (q, values-append t.variables t.entries e) (fewer-unset (values t) e.lit (rw (length-values t.variables t.entries) f))

pub decided-reasons : (known : Known) (t u : Trail) (l : ℤ) → u ≡ decided l t → AreReasons t.variables known t.entries → AreReasons u.variables known u.entries
decided-reasons known t u l e r = rw e (reasons-append t.variables known t.entries (record { lit = l; reason = None; level = suc (decisions t.entries) }) r tt)

pub decided-fewer : (t u : Trail) (l : ℤ) → u ≡ decided l t → IsFresh t.variables (values t) l → suc (unset_count (values u)) ≡ unset_count (values t)
decided-fewer t u l e f = rw e (more-fewer t (record { lit = l; reason = None; level = suc (decisions t.entries) }) _ refl f)

pub variables-same : (t u : Trail) (l : ℤ) (id : ℕ) → u ≡ implied l id t → u.variables ≡ t.variables
variables-same t u l id e = ap (λ (x : Trail). x.variables) e

pub longer_none : (es : List TrailEntry) → IsLonger es es
longer_none es = record { more = []; is = sym (append-nil es) }

pub longer-more : (old es new more : List TrailEntry) → new ≡ es ++ more → IsLonger old es → IsLonger old new
longer-more old es new more e h = record { more = h.more ++ more; is = e ∙ ap (λ x. x ++ more) h.is ∙ append_assoc old h.more more }

pub implied-longer : (old : List TrailEntry) (t u : Trail) (l : ℤ) (id : ℕ) → u ≡ implied l id t → IsLonger old t.entries → IsLonger old u.entries
implied-longer old t u l id e h = longer-more old t.entries u.entries _ (ap (λ (x : Trail). x.entries) e) h

pub decided-longer : (old : List TrailEntry) (t u : Trail) (l : ℤ) → u ≡ decided l t → IsLonger old t.entries → IsLonger old u.entries
decided-longer old t u l e h = longer-more old t.entries u.entries _ (ap (λ (x : Trail). x.entries) e) h

pub longer_then : (a b c : List TrailEntry) → IsLonger a b → IsLonger b c → IsLonger a c
longer_then a b c h k = longer-more a b c k.more k.is h
