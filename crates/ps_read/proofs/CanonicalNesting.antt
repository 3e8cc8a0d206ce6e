-- What is read nests no deeper in its canonical form.
use Rattle.std.proofs.Common.{◌≡◌, ℕ, ◌+◌, ◌≤◌, Bool, true, false, arith}
use Rattle.std.specs.Prelude.{nat_lt, if◌then◌else◌}
use Rattle.std.proofs.lemmas.Bool.Decides.{nat_tests}
use Rattle.ps_meaning.specs.Formula as formula
use Rattle.ps_meaning.specs.Formula.{Formula}
use Rattle.ps_meaning.specs.Statements.{Name}
use Rattle.ps_text.specs.Grammar as grammar
use Rattle.ps_text.specs.Grammar.{FormulaSyntax, level, IsWellFormed, Nests}
use Rattle.ps_text.specs.Meanings.{formula_of}
use Rattle.ps_text.specs.Canonical.{parenthesis, nesting_at, canonical_nesting}
use Rattle.ps_text.proofs.Nesting.{least_level}
use Rattle.ps_text.specs.declared.limits.TheConstants.{MOST_OPEN}
use Rattle.ps_problem.specs.declared.limits.TheConstants.{MOST_NESTING}

-- no parentheses where the level is high enough, and one pair at most
no_parenthesis : (k l : ℕ) → k ≤ l → parenthesis k l ≡ 0
no_parenthesis k l h = grind (arith, nat_tests)

one_parenthesis : (k l : ℕ) → parenthesis k l ≤ 1
one_parenthesis k l = by (nat_lt l k)
  where
    by : (b : Bool) → (if b then 1 else 0) ≤ 1
    by true = omega arith
    by false = omega arith

-- an operand of another required level is nested one deeper at most
pub one_deeper : (f : Formula Name) (k : ℕ) → nesting_at k f ≤ 1 + nesting_at 1 f
one_deeper formula.Truth k = omega arith
one_deeper formula.Falsity k = omega arith
one_deeper (formula.Atom a) k = omega arith
one_deeper (formula.Not f) k = omega arith
one_deeper (formula.And f g) k = let p = one_parenthesis k 4 in omega (arith, p)
one_deeper (formula.Or f g) k = let p = one_parenthesis k 3 in omega (arith, p)
one_deeper (formula.Implies f g) k = let p = one_parenthesis k 2 in omega (arith, p)
one_deeper (formula.Iff f g) k = let p = one_parenthesis k 1 in omega (arith, p)

-- what binds tightly enough nests so deep as its canonical form or deeper, where n are open before
nested : (f : FormulaSyntax) (k n : ℕ) → k ≤ level f → n ≤ MOST_OPEN → IsWellFormed f → Nests n f → n + nesting_at k (formula_of f) ≤ MOST_OPEN
nested (grammar.Name w) k n l m i h = omega (arith, m)
nested grammar.Truth k n l m i h = omega (arith, m)
nested grammar.Falsity k n l m i h = omega (arith, m)
nested (grammar.Not f) k n l m i h = omega (arith, nested f 5 (n + 1) i.0 (omega (arith, h.0)) i.1 h.1)
nested (grammar.Group f) k n l m i h =
    omega (arith, nested f 1 (n + 1) (least_level f) (omega (arith, h.0)) i h.1, one_deeper (formula_of f) k)
nested (grammar.And f g) k n l m i h =
    omega (arith, no_parenthesis k 4 l, nested f 4 n i.0 m i.2 h.0, nested g 5 n i.1 m i.3 h.1)
nested (grammar.Or f g) k n l m i h =
    omega (arith, no_parenthesis k 3 l, nested f 3 n i.0 m i.2 h.0, nested g 4 n i.1 m i.3 h.1)
nested (grammar.Implies f g) k n l m i h =
    omega (arith, no_parenthesis k 2 l, nested f 3 n i.0 m i.2 h.0, nested g 2 (n + 1) i.1 (omega (arith, h.1)) i.3 h.2)
nested (grammar.Iff f g) k n l m i h =
    omega (arith, no_parenthesis k 1 l, nested f 1 n i.0 m i.2 h.0, nested g 2 n i.1 m i.3 h.1)

-- a formula within the limit nests within it in its canonical form
pub canonical_nests : (f : FormulaSyntax) → IsWellFormed f → Nests 0 f → canonical_nesting (formula_of f) ≤ MOST_NESTING
canonical_nests f i h = omega (arith, nested f 1 0 (least_level f) (omega arith) i h)
