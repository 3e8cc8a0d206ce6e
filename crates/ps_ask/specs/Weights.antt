-- The weights that worlds give formulas.
use Rattle.std.specs.Prelude.{ℕ, ℤ, pos, if◌then◌else◌, Bool, List, Option}
use Rattle.ps_meaning.specs.Distribution.{weight}
use Rattle.ps_meaning.specs.Formula.{World, is_true}
use Rattle.ps_formula.specs.Nodes.{truths}
use Rattle.ps_problem.specs.Problems.{Parts, given_at, tree_at}
use Rattle.ps_claims.specs.Certificates.{entries}
use Rattle.ps_answer.specs.declared.answer.Weighted.{Weighted}

-- the truth of each of the problem's formulas in a world
abbrev pub truth_of : Parts → World → List Bool
truth_of p w = truths p.nodes w

-- the weight of the worlds in which the formula of a node is true
abbrev pub weight_at : Parts → List Weighted → ℕ → ℤ
weight_at p ws n = weight (entries ws) (tree_at p.nodes n)

-- the weight of the worlds in which evidence is true, and of all where nothing is given
abbrev pub weight_under : Parts → List Weighted → Option ℕ → ℤ
weight_under p ws given = weight (entries ws) (given_at p.nodes given)

-- the weight of a world where the formula of a node is true in it, and else 0
abbrev pub weight_in : Parts → ℕ → Weighted → ℤ
weight_in p n w = if is_true (tree_at p.nodes n) w.world then w.weight else pos 0
