-- Names that may be meant.
use Rattle.std.proofs.Common.{◌≡◌, ℕ, List, Some}
use Rattle.std.specs.Prelude.{slice_get}
use Rattle.ps_hints.specs.Names.{AreClose, IsMeantBy, IsMistyped}

-- the name of another atom that is close may be meant
pub meant : (names : List (List ℕ)) (atom other : ℕ) (name close : List ℕ) → slice_get names atom ≡ Some name
    → slice_get names other ≡ Some close → AreClose name close → IsMeantBy names atom close
unfolding IsMeantBy
meant names atom other name close here there near = (other, name, there, here, near)

-- some name may be meant
pub mistyped : (names : List (List ℕ)) (atom : ℕ) (close : List ℕ) → IsMeantBy names atom close → IsMistyped names atom
mistyped names atom close meant = (close, meant)
