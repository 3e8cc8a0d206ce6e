-- The clauses of a node are met exactly where its variable has the value that its operands' variables give it.
use Rattle.std.proofs.Common.{◌≡◌, ℕ, Bool, true, false, not, ◌&&◌, ◌||◌, List, length, get_or, refl, ap, ◌∙◌}
use Rattle.std.specs.List.{list_all}
use Rattle.std.proofs.lemmas.List.{get_or_default}
use Rattle.ps_meaning.specs.Formula.{World, agree}
use Rattle.ps_formula.specs.declared.node.Node.{Node}
use Rattle.ps_formula.specs.declared.node.Node.TheVariants as node
use Rattle.ps_formula.specs.Nodes.{Fits, value_over}
use Rattle.ps_clause.specs.Clauses.{meets, meaning_of, clauses_at}
use Rattle.ps_clause.specs.Extensions.{AgreesAt}
use Rattle.ps_clause.proofs.Tidy.{holds-positive, holds-negative, AreClauses, met-tidy}

agree-same : (x y : Bool) → x ≡ y → true ≡ agree x y
agree-same true y e = e
agree-same false y e = ap not e

true-met : (x : Bool) → ((x || false) && true) ≡ agree x true
true-met true = refl
true-met false = refl

false-met : (x : Bool) → ((not x || false) && true) ≡ agree x false
false-met true = refl
false-met false = refl

not-met : (x a : Bool) → ((x || (a || false)) && ((not x || (not a || false)) && true)) ≡ agree x (not a)
not-met true true = refl
not-met true false = refl
not-met false true = refl
not-met false false = refl

and-met : (x a b : Bool) → ((not x || (a || false)) && ((not x || (b || false)) && ((x || (not a || (not b || false))) && true))) ≡ agree x (a && b)
and-met true true true = refl
and-met true true false = refl
and-met true false b = refl
and-met false true true = refl
and-met false true false = refl
and-met false false b = refl

or-met : (x a b : Bool) → ((x || (not a || false)) && ((x || (not b || false)) && ((not x || (a || (b || false))) && true))) ≡ agree x (a || b)
or-met true true b = refl
or-met true false true = refl
or-met true false false = refl
or-met false true b = refl
or-met false false true = refl
or-met false false false = refl

implies-met : (x a b : Bool) → ((x || (a || false)) && ((x || (not b || false)) && ((not x || (not a || (b || false))) && true))) ≡ agree x (not a || b)
implies-met true true true = refl
implies-met true true false = refl
implies-met true false b = refl
implies-met false true true = refl
implies-met false true false = refl
implies-met false false b = refl

iff-met : (x a b : Bool) → ((not x || (not a || (b || false))) && ((not x || (a || (not b || false))) && ((x || (a || (b || false))) && ((x || (not a || (not b || false))) && true)))) ≡ agree x (agree a b)
iff-met true true true = refl
iff-met true true false = refl
iff-met true false true = refl
iff-met true false false = refl
iff-met false true true = refl
iff-met false true false = refl
iff-met false false true = refl
iff-met false false false = refl

met-meaning : (w : List Bool) (world : World) (i : ℕ) (n : Node) → Fits (length w) n → AgreesAt i w world n
    → list_all (meets w) (meaning_of i n) ≡ agree (get_or w i false) (value_over w world n)
met-meaning w world i node.True fits at = rw (holds-positive w i) (true-met (get_or w i false))
met-meaning w world i node.False fits at = rw (holds-negative w i) (false-met (get_or w i false))
met-meaning w world i (node.Atom n) fits at = agree-same (get_or w i false) (get_or world n false) at
met-meaning w world i (node.Not a) fits at =
    rw (holds-positive w i, holds-negative w i, holds-positive w a, holds-negative w a, get_or_default w a true false fits) (not-met (get_or w i false) (get_or w a false))
met-meaning w world i (node.And a b) fits at =
    rw (holds-positive w i, holds-negative w i, holds-positive w a, holds-negative w a, holds-positive w b, holds-negative w b, get_or_default w a true false fits.0, get_or_default w b true false fits.1)
    (and-met (get_or w i false) (get_or w a false) (get_or w b false))
met-meaning w world i (node.Or a b) fits at =
    rw (holds-positive w i, holds-negative w i, holds-positive w a, holds-negative w a, holds-positive w b, holds-negative w b, get_or_default w a true false fits.0, get_or_default w b true false fits.1)
    (or-met (get_or w i false) (get_or w a false) (get_or w b false))
met-meaning w world i (node.Implies a b) fits at =
    rw (holds-positive w i, holds-negative w i, holds-positive w a, holds-negative w a, holds-positive w b, holds-negative w b, get_or_default w a true false fits.0, get_or_default w b true false fits.1)
    (implies-met (get_or w i false) (get_or w a false) (get_or w b false))
met-meaning w world i (node.Iff a b) fits at =
    rw (holds-positive w i, holds-negative w i, holds-positive w a, holds-negative w a, holds-positive w b, holds-negative w b, get_or_default w a true false fits.0, get_or_default w b true false fits.1)
    (iff-met (get_or w i false) (get_or w a false) (get_or w b false))

pub are_clauses : (i : ℕ) (n : Node) → AreClauses (meaning_of i n)
are_clauses i node.True = ((tt, tt), tt)
are_clauses i node.False = ((tt, tt), tt)
are_clauses i (node.Atom n) = tt
are_clauses i (node.Not a) = ((tt, (tt, tt)), ((tt, (tt, tt)), tt))
are_clauses i (node.And a b) = ((tt, (tt, tt)), ((tt, (tt, tt)), ((tt, (tt, (tt, tt))), tt)))
are_clauses i (node.Or a b) = ((tt, (tt, tt)), ((tt, (tt, tt)), ((tt, (tt, (tt, tt))), tt)))
are_clauses i (node.Implies a b) = ((tt, (tt, tt)), ((tt, (tt, tt)), ((tt, (tt, (tt, tt))), tt)))
are_clauses i (node.Iff a b) = ((tt, (tt, (tt, tt))), ((tt, (tt, (tt, tt))), ((tt, (tt, (tt, tt))), ((tt, (tt, (tt, tt))), tt))))

pub met-node : (w : List Bool) (world : World) (i : ℕ) (n : Node) → Fits (length w) n → AgreesAt i w world n
    → list_all (meets w) (clauses_at i n) ≡ agree (get_or w i false) (value_over w world n)
met-node w world i n fits at = met-tidy w (meaning_of i n) (are_clauses i n) ∙ met-meaning w world i n fits at
