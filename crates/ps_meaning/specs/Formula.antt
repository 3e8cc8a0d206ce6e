-- Formulas as trees, possible worlds, and truth.
use Rattle.std.specs.Prelude.{ℕ, List, [], ◌∷◌, ◌++◌, Bool, true, false, cond, not, ◌&&◌, ◌||◌, slice_index_or}

-- a formula of propositional logic over atoms of a kind: numbers in a problem, names in a text
pub data Formula (A : Type 0) : Type 0 where
  Truth Falsity : Formula A
  Atom : (atom : A) → Formula A
  Not : (operand : Formula A) → Formula A
  And Or Implies Iff : (left right : Formula A) → Formula A

-- a truth value for each atom, by its number
abbrev pub World : Type 0
World = List Bool

-- whether two truth values are the same
abbrev pub agree : Bool → Bool → Bool
agree a b = cond a b (not b)

-- whether a formula is true in a world
abbrev pub is_true : Formula ℕ → World → Bool
is_true Truth w = true
is_true Falsity w = false
is_true (Atom n) w = slice_index_or w n false
is_true (Not f) w = not (is_true f w)
is_true (And f g) w = is_true f w && is_true g w
is_true (Or f g) w = is_true f w || is_true g w
is_true (Implies f g) w = not (is_true f w) || is_true g w
is_true (Iff f g) w = agree (is_true f w) (is_true g w)

-- the formula with each atom replaced
abbrev pub with_atoms : {A B : Type 0} → (A → B) → Formula A → Formula B
with_atoms h Truth = Truth
with_atoms h Falsity = Falsity
with_atoms h (Atom a) = Atom (h a)
with_atoms h (Not f) = Not (with_atoms h f)
with_atoms h (And f g) = And (with_atoms h f) (with_atoms h g)
with_atoms h (Or f g) = Or (with_atoms h f) (with_atoms h g)
with_atoms h (Implies f g) = Implies (with_atoms h f) (with_atoms h g)
with_atoms h (Iff f g) = Iff (with_atoms h f) (with_atoms h g)

-- the subformulas in postfix order: those of the operands from left to right, then the formula itself
abbrev pub subformulas : {A : Type 0} → Formula A → List (Formula A)
subformulas Truth = Truth ∷ []
subformulas Falsity = Falsity ∷ []
subformulas (Atom a) = Atom a ∷ []
subformulas (Not f) = subformulas f ++ Not f ∷ []
subformulas (And f g) = subformulas f ++ subformulas g ++ And f g ∷ []
subformulas (Or f g) = subformulas f ++ subformulas g ++ Or f g ∷ []
subformulas (Implies f g) = subformulas f ++ subformulas g ++ Implies f g ∷ []
subformulas (Iff f g) = subformulas f ++ subformulas g ++ Iff f g ∷ []
