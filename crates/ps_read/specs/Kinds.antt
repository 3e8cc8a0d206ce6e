-- The kinds of refusal of counts.
use Rattle.ps_text.specs.declared.kind.ReadKind.{ReadKind}
use Rattle.ps_text.specs.declared.kind.ReadKind.TheVariants as kind
use Rattle.ps_problem.specs.declared.excess.Excess.{Excess}
use Rattle.ps_problem.specs.declared.excess.Excess.TheVariants as excess

-- the kind of an excess
abbrev pub count_kind : Excess → ReadKind
count_kind excess.Atoms = kind.TooManyAtoms
count_kind excess.Nodes = kind.TooManyNodes
count_kind excess.Bounds = kind.TooManyBounds
count_kind excess.Queries = kind.TooManyQueries
count_kind excess.Numbers = kind.LinearTooLarge
