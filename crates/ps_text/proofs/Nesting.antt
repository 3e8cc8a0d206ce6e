-- How deep the canonical form nests.
use Rattle.std.proofs.Common.{◌≡◌, ℕ, ◌+◌, ◌<◌, ◌≤◌, max, Bool, true, false, refl, sym, subst, arith}
use Rattle.std.specs.Prelude.{nat_le, if◌then◌else◌}
use Rattle.ps_meaning.specs.Formula as formula
use Rattle.ps_meaning.specs.Statements as meaning
use Rattle.ps_text.specs.declared.limits.TheConstants.{MOST_OPEN}
use Rattle.ps_text.specs.Grammar.{FormulaSyntax, Name, Truth, Falsity, Not, Group, And, Or, Implies, Iff, level, IsWellFormed, Nests}
use Rattle.ps_text.specs.Meanings.{formula_of}
use Rattle.ps_text.specs.Canonical.{fitted, canonical_formula, parenthesis, nesting_at, canonical_nesting}
use Rattle.ps_text.proofs.Levels.{test_true, test_past}

-- what binds tightly enough stands without parentheses
pub fits : (k : ℕ) (f : FormulaSyntax) → k ≤ level f → fitted k f ≡ f
fits k f h = rw (test_true k (level f) h) refl

parenthesis_one : (k l : ℕ) → nat_le k l ≡ false → parenthesis k l ≡ 1
parenthesis_one k l e = rw (test_past k l e) refl

-- in parentheses, or as it is
fitted_nests : (k n m : ℕ) (f : FormulaSyntax) → n + (parenthesis k (level f) + m) ≤ MOST_OPEN → ((i : ℕ) → i + m ≤ MOST_OPEN → Nests i f) → Nests n (fitted k f)
fitted_nests k n m f h p = by (nat_le k (level f)) refl
  where
    by : (b : Bool) → nat_le k (level f) ≡ b → Nests n (if b then f else Group f)
    by true e = p n (omega (arith, h))
    by false e = (omega (arith, h, parenthesis_one k (level f) e), p (n + 1) (omega (arith, h, parenthesis_one k (level f) e)))

nests_at : (f : formula.Formula meaning.Name) (k n : ℕ) → k ≤ 5 → n + nesting_at k f ≤ MOST_OPEN → Nests n (fitted k (canonical_formula f))
nests_at formula.Truth k n l h = subst (Nests n) (sym (fits k Truth l)) tt
nests_at formula.Falsity k n l h = subst (Nests n) (sym (fits k Falsity l)) tt
nests_at (formula.Atom a) k n l h = subst (Nests n) (sym (fits k (Name a) l)) tt
nests_at (formula.Not f) k n l h =
    subst (Nests n) (sym (fits k (Not (fitted 5 (canonical_formula f))) l)) (omega (arith, h), nests_at f 5 (n + 1) (omega arith) (omega (arith, h)))
nests_at (formula.And f g) k n l h = fitted_nests k n (max (nesting_at 4 f) (nesting_at 5 g)) (And (fitted 4 (canonical_formula f)) (fitted 5 (canonical_formula g))) h
    (λ i q. (nests_at f 4 i (omega arith) (omega (arith, q)), nests_at g 5 i (omega arith) (omega (arith, q))))
nests_at (formula.Or f g) k n l h = fitted_nests k n (max (nesting_at 3 f) (nesting_at 4 g)) (Or (fitted 3 (canonical_formula f)) (fitted 4 (canonical_formula g))) h
    (λ i q. (nests_at f 3 i (omega arith) (omega (arith, q)), nests_at g 4 i (omega arith) (omega (arith, q))))
nests_at (formula.Implies f g) k n l h = fitted_nests k n (max (nesting_at 3 f) (1 + nesting_at 2 g)) (Implies (fitted 3 (canonical_formula f)) (fitted 2 (canonical_formula g))) h
    (λ i q. (nests_at f 3 i (omega arith) (omega (arith, q)), omega (arith, q), nests_at g 2 (i + 1) (omega arith) (omega (arith, q))))
nests_at (formula.Iff f g) k n l h = fitted_nests k n (max (nesting_at 1 f) (nesting_at 2 g)) (Iff (fitted 1 (canonical_formula f)) (fitted 2 (canonical_formula g))) h
    (λ i q. (nests_at f 1 i (omega arith) (omega (arith, q)), nests_at g 2 i (omega arith) (omega (arith, q))))

-- each level is 1 at least
pub least_level : (f : FormulaSyntax) → 1 ≤ level f
least_level (Iff f g) = omega arith
least_level f = omega arith

-- a formula whose canonical nesting is within the limit is written so
pub nests_canonical : (f : formula.Formula meaning.Name) → canonical_nesting f ≤ MOST_OPEN → Nests 0 (canonical_formula f)
nests_canonical f h = subst (Nests 0) (fits 1 (canonical_formula f) (least_level (canonical_formula f))) (nests_at f 1 0 (omega arith) (omega (arith, h)))

-- where fewer are open before, fewer are ever open
nests_less : (f : FormulaSyntax) (n : ℕ) → Nests (n + 1) f → Nests n f
nests_less (Name w) n h = tt
nests_less Truth n h = tt
nests_less Falsity n h = tt
nests_less (Not f) n h = (omega (arith, h.0), nests_less f (n + 1) h.1)
nests_less (Group f) n h = (omega (arith, h.0), nests_less f (n + 1) h.1)
nests_less (And f g) n h = (nests_less f n h.0, nests_less g n h.1)
nests_less (Or f g) n h = (nests_less f n h.0, nests_less g n h.1)
nests_less (Implies f g) n h = (nests_less f n h.0, omega (arith, h.1), nests_less g (n + 1) h.2)
nests_less (Iff f g) n h = (nests_less f n h.0, nests_less g n h.1)

group_nests : (k n : ℕ) (f : FormulaSyntax) → n < MOST_OPEN → Nests (n + 1) f → Nests n (fitted k f)
group_nests k n f l h = by (nat_le k (level f))
  where
    by : (b : Bool) → Nests n (if b then f else Group f)
    by true = nests_less f n h
    by false = (l, h)

-- the canonical form nests no deeper than any other that means the same
written_nests : (g : FormulaSyntax) (k n : ℕ) → k ≤ level g → IsWellFormed g → Nests n g → Nests n (fitted k (canonical_formula (formula_of g)))
written_nests (Name w) k n l i h = subst (Nests n) (sym (fits k (Name w) l)) tt
written_nests Truth k n l i h = subst (Nests n) (sym (fits k Truth l)) tt
written_nests Falsity k n l i h = subst (Nests n) (sym (fits k Falsity l)) tt
written_nests (Not f) k n l i h = subst (Nests n) (sym (fits k (Not (fitted 5 (canonical_formula (formula_of f)))) l)) (h.0, written_nests f 5 (n + 1) i.0 i.1 h.1)
written_nests (Group f) k n l i h = group_nests k n (canonical_formula (formula_of f)) h.0
    (subst (Nests (n + 1)) (fits 1 (canonical_formula (formula_of f)) (least_level (canonical_formula (formula_of f)))) (written_nests f 1 (n + 1) (least_level f) i h.1))
written_nests (And f g) k n l i h = subst (Nests n) (sym (fits k (And (fitted 4 (canonical_formula (formula_of f))) (fitted 5 (canonical_formula (formula_of g)))) l)) (written_nests f 4 n i.0 i.2 h.0, written_nests g 5 n i.1 i.3 h.1)
written_nests (Or f g) k n l i h = subst (Nests n) (sym (fits k (Or (fitted 3 (canonical_formula (formula_of f))) (fitted 4 (canonical_formula (formula_of g)))) l)) (written_nests f 3 n i.0 i.2 h.0, written_nests g 4 n i.1 i.3 h.1)
written_nests (Implies f g) k n l i h = subst (Nests n) (sym (fits k (Implies (fitted 3 (canonical_formula (formula_of f))) (fitted 2 (canonical_formula (formula_of g)))) l)) (written_nests f 3 n i.0 i.2 h.0, h.1, written_nests g 2 (n + 1) i.1 i.3 h.2)
written_nests (Iff f g) k n l i h = subst (Nests n) (sym (fits k (Iff (fitted 1 (canonical_formula (formula_of f))) (fitted 2 (canonical_formula (formula_of g)))) l)) (written_nests f 1 n i.0 i.2 h.0, written_nests g 2 n i.1 i.3 h.1)

-- what is read nests in its canonical form too
pub read_nests : (g : FormulaSyntax) → IsWellFormed g → Nests 0 g → Nests 0 (canonical_formula (formula_of g))
read_nests g i h = subst (Nests 0) (fits 1 (canonical_formula (formula_of g)) (least_level (canonical_formula (formula_of g)))) (written_nests g 1 0 (least_level g) i h)
