-- The world of a structure, and the image of a distribution over structures.
use Rattle.std.specs.Prelude.{◌==◌, ℤ, pos, ◌+ℤ◌, Bool, true, false, not, ◌&&◌, if◌then◌else◌}
use Rattle.std.specs.Prelude.{List, [], ◌∷◌, map, slice_index_or}
use Rattle.std.specs.List.{filter}
use Rattle.ps_meaning.specs.Formula.{World, agree}
use Rattle.ps_meaning.specs.Distribution.{Entry}
use Rattle.ps_meaning.specs.Statements.{Name}
use Rattle.ps_problem.specs.Numbering.{same_name, place_in}
use Rattle.ps_first_order.specs.declared.limits.TheConstants.{UNDERSCORE}
use Rattle.ps_first_order.specs.FirstOrder.{Structure}
use Rattle.ps_ground.specs.Grounding.{atom_name}
use Rattle.ps_ground.specs.Structures.{WeightedStructure}

-- a name cut at each `_`: what stands before the first, and what stands behind each
abbrev pub cut : Name → Name × List Name
cut [] = ([], [])
cut (b ∷ bs) = if b == UNDERSCORE then ([], (cut bs).0 ∷ (cut bs).1) else (b ∷ (cut bs).0, (cut bs).1)

-- the truth value of the atom of a name
abbrev pub value_named : Structure → Name → Bool
value_named m name = m (cut name).0 (cut name).1

-- the world in which each atom of these names has its truth value in the structure
abbrev pub world_of : List Name → Structure → World
world_of names m = map (value_named m) names

-- whether two worlds are the same
abbrev pub same_world : World → World → Bool
same_world [] [] = true
same_world (a ∷ v) (b ∷ w) = agree a b && same_world v w
same_world v w = false

-- the weight of a world
abbrev pub weight_at : World → List Entry → ℤ
weight_at w [] = pos 0
weight_at w (e ∷ d) = (if same_world w e.world then e.weight else pos 0) +ℤ weight_at w d

-- the entries of other worlds
abbrev pub others : World → List Entry → List Entry
others w d = filter (λ e. not (same_world w e.world)) d

-- each world once, in the order in which they first come, with its weights added
abbrev pub merged : List Entry → List Entry
merged [] = []
merged (e ∷ d) = record { weight = e.weight +ℤ weight_at e.world (merged d); world = e.world } ∷ others e.world (merged d)

-- the image of a distribution over structures: the weights of structures with one world are added
abbrev pub image : List Name → List WeightedStructure → List Entry
image names d = merged (map (λ e. record { weight = e.weight; world = world_of names e.structure }) d)

-- the structure in which the atoms of these names have the truth values that they have in a world, and no other is true
abbrev pub structure_of : List Name → World → Structure
structure_of names w p cs = slice_index_or w (place_in same_name names (atom_name p cs)) false
