-- How the ground formula of a quantifier is joined.
use Rattle.std.specs.Prelude.{ℕ, zero, suc, List, [], ◌∷◌}
use Rattle.ps_first_order.specs.declared.part.Connective.{Connective}
use Rattle.ps_first_order.specs.declared.part.Connective.TheVariants as connective
use Rattle.ps_first_order.specs.declared.part.Quantifier.{Quantifier}
use Rattle.ps_first_order.specs.declared.part.Quantifier.TheVariants as quantifier
use Rattle.ps_ground.specs.declared.mark.GroundMark.{GroundMark}
use Rattle.ps_ground.specs.declared.mark.GroundMark.TheVariants as mark

-- the connective of a quantifier's ground formula
abbrev pub joining_mark : Quantifier → Connective
joining_mark quantifier.ForAll = connective.And
joining_mark quantifier.Exists = connective.Or

-- the marks that join the formula of a constant, by its number, with those before it: none at the first
abbrev pub joining_marks : Quantifier → ℕ → List GroundMark
joining_marks q zero = []
joining_marks q (suc n) = mark.Joined (joining_mark q) ∷ []
