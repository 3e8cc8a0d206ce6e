-- Names that are copied by number.
use Rattle.std.proofs.Common.{◌<◌, ℕ, List, [], length, map, All}
use Rattle.std.proofs.lemmas.List.Elements.{All-map, All-weaker}
use Rattle.ps_meaning.specs.Names.{IsName}
use Rattle.ps_meaning.specs.Statements.{Name}
use Rattle.ps_problem.specs.Problems.{name_at}

pub named-copies : (names : List Name) (ns : List ℕ) → All IsName names → All (λ n. n < length names) ns → All IsName (map (name_at names) ns)
named-copies names ns h below = All-map IsName (name_at names) ns (All-weaker (λ n. n < length names) (λ n. IsName (name_at names n)) (λ n lt. h n [] lt) ns below)
