-- How the canonical spellings of ground formulas nest.
use Rattle.std.specs.Prelude.{◌≡◌, ◌<◌, ◌≤◌, ◌+◌, ◌==◌, ℕ, max, min, if◌then◌else◌, List, length, All, slice_index_or}
use Rattle.ps_text.specs.Canonical.{parenthesis, canonical_nesting}
use Rattle.ps_problem.specs.declared.limits.TheConstants.{MOST_NESTING}
use Rattle.ps_first_order.specs.declared.part.Connective.{Connective}
use Rattle.ps_first_order.specs.declared.part.Connective.TheVariants as connective
use Rattle.ps_first_order.specs.declared.part.Quantifier.{Quantifier}
use Rattle.ps_first_order.specs.declared.part.Quantifier.TheVariants as quantifier
use Rattle.ps_first_order.specs.declared.part.Part.{Part}
use Rattle.ps_first_order.specs.declared.part.Part.TheVariants as part
use Rattle.ps_first_order.specs.declared.part.FirstOrderParts.{FirstOrderParts}
use Rattle.ps_first_order.specs.FirstOrder.{FirstOrder, Assignment}
use Rattle.ps_first_order.specs.FirstOrder as first_order
use Rattle.ps_first_order.specs.Parts.{operand, formulas_in}
use Rattle.ps_ground.specs.declared.spelling.Spelling.{Spelling}
use Rattle.ps_ground.specs.GroundParts.{ground_part}

-- a depth, and one more than the limit where it is above
abbrev pub most_of : ℕ → ℕ
most_of n = min n (MOST_NESTING + 1)

-- a level and a depth
abbrev pub spelling : ℕ → ℕ → Spelling
spelling level depth = record { level = level; depth = most_of depth }

-- how deep it nests where an operand of this level is required
abbrev pub at_level : ℕ → Spelling → ℕ
at_level required s = parenthesis required s.level + s.depth

-- the spelling of two formulas, joined by a connective
abbrev pub joined_spelling : Connective → Spelling → Spelling → Spelling
joined_spelling connective.And a b = spelling 4 (max (at_level 4 a) (at_level 5 b))
joined_spelling connective.Or a b = spelling 3 (max (at_level 3 a) (at_level 4 b))
joined_spelling connective.Implies a b = spelling 2 (max (at_level 3 a) (at_level 2 b + 1))
joined_spelling connective.Iff a b = spelling 1 (max (at_level 1 a) (at_level 2 b))

-- the spelling of more than one formula of one spelling, joined as a quantifier's are
abbrev pub chain_spelling : Quantifier → Spelling → Spelling
chain_spelling quantifier.ForAll s = spelling 4 (at_level 5 s)
chain_spelling quantifier.Exists s = spelling 3 (at_level 4 s)

-- the spelling of a formula for each of so many constants, joined
abbrev pub bound_spelling : ℕ → Quantifier → Spelling → Spelling
bound_spelling n q s = if n == 1 then s else chain_spelling q s

-- the spelling of what stands alone
abbrev pub alone : Spelling
alone = record { level = 5; depth = 0 }

-- the spelling of an operand
abbrev pub operand_spelling : List Spelling → ℕ → Spelling
operand_spelling ss i = slice_index_or ss i alone

-- a part's spelling over those of its operands
abbrev pub spelling_over : ℕ → List Spelling → Part → Spelling
spelling_over n ss part.True = alone
spelling_over n ss part.False = alone
spelling_over n ss (part.Holds i start end) = alone
spelling_over n ss (part.Not a) = spelling 5 (at_level 5 (operand_spelling ss a) + 1)
spelling_over n ss (part.Joined c a b) = joined_spelling c (operand_spelling ss a) (operand_spelling ss b)
spelling_over n ss (part.Bound q x a) = bound_spelling n q (operand_spelling ss a)

-- a depth that counts
abbrev pub IsSmall : Spelling → Type 0
IsSmall s = s.depth ≤ MOST_NESTING + 1

-- each depth counts
abbrev pub AreSmall : List Spelling → Type 0
AreSmall ss = All IsSmall ss

-- how tightly a ground formula binds over so many constants
abbrev pub level_over : ℕ → FirstOrder → ℕ
level_over n first_order.Truth = 5
level_over n first_order.Falsity = 5
level_over n (first_order.Holds p ts) = 5
level_over n (first_order.Not f) = 5
level_over n (first_order.And f g) = 4
level_over n (first_order.Or f g) = 3
level_over n (first_order.Implies f g) = 2
level_over n (first_order.Iff f g) = 1
level_over n (first_order.ForAll x f) = if n == 1 then level_over n f else 4
level_over n (first_order.Exists x f) = if n == 1 then level_over n f else 3

-- how deep its canonical spelling nests
abbrev pub depth_over : ℕ → FirstOrder → ℕ
depth_over n first_order.Truth = 0
depth_over n first_order.Falsity = 0
depth_over n (first_order.Holds p ts) = 0
depth_over n (first_order.Not f) = parenthesis 5 (level_over n f) + depth_over n f + 1
depth_over n (first_order.And f g) =
    max (parenthesis 4 (level_over n f) + depth_over n f) (parenthesis 5 (level_over n g) + depth_over n g)
depth_over n (first_order.Or f g) =
    max (parenthesis 3 (level_over n f) + depth_over n f) (parenthesis 4 (level_over n g) + depth_over n g)
depth_over n (first_order.Implies f g) =
    max (parenthesis 3 (level_over n f) + depth_over n f) (parenthesis 2 (level_over n g) + depth_over n g + 1)
depth_over n (first_order.Iff f g) =
    max (parenthesis 1 (level_over n f) + depth_over n f) (parenthesis 2 (level_over n g) + depth_over n g)
depth_over n (first_order.ForAll x f) = if n == 1 then depth_over n f else (parenthesis 5 (level_over n f) + depth_over n f)
depth_over n (first_order.Exists x f) = if n == 1 then depth_over n f else (parenthesis 4 (level_over n f) + depth_over n f)

-- the spelling of a ground formula over so many constants
abbrev pub spelling_of : ℕ → FirstOrder → Spelling
spelling_of n f = spelling (level_over n f) (depth_over n f)

-- there are the spellings of so many parts' ground formulas
pub record AreSpelled (p : FirstOrderParts) (i : ℕ) (ss : List Spelling) : Type 0 where
  pub each : length ss ≡ i
  pub spelled : (k : ℕ) → k < i → operand_spelling ss k ≡ spelling_of (length p.constants) (operand (formulas_in p) k)

-- the depth of a ground formula is that of its canonical spelling, as far as it counts, whatever the variables stand for
abbrev pub IsDepthOf : FirstOrderParts → ℕ → ℕ → Type 0
IsDepthOf p i depth = (a : Assignment) → depth ≡ most_of (canonical_nesting (ground_part p i a))
