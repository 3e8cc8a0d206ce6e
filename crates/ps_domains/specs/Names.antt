-- Names of what is declared and bound.
use Rattle.std.specs.Prelude.{ℕ, Bool, false, ◌&&◌, nat_lt}
use Rattle.ps_meaning.specs.Statements.{Name}
use Rattle.ps_problem.specs.Numbering.{same_name}
use Rattle.ps_domains.specs.declared.declared.Predicate.{Predicate}
use Rattle.ps_domains.specs.declared.declared.Scope.{Scope}
use Rattle.ps_domains.specs.declared.declared.Scope.TheVariants as scope

-- whether a predicate has this name
abbrev pub has_name : Name → Predicate → Bool
has_name w p = same_name w p.name

-- whether a predicate has this name and takes more terms than so many
abbrev pub takes_more : Name → ℕ → Predicate → Bool
takes_more w n p = same_name w p.name && nat_lt n p.arity

-- whether a `(` is one behind a quantifier that binds this variable
abbrev pub binds : Name → Scope → Bool
binds w scope.Group = false
binds w (scope.Quantified x) = same_name w x
