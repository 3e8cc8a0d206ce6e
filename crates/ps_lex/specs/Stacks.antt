-- Stacks, the last item first.
use Rattle.std.specs.Prelude.{◌≡◌, List, [], ◌∷◌, Option, Some, None}

-- the last item
abbrev pub top : {A : Type 0} → List A → Option A
top [] = None
top (x ∷ xs) = Some x

-- the first item was taken off, or there was none
abbrev pub IsPopped : {A : Type 0} → List A → List A → Option A → Type 0
IsPopped old new None = (old ≡ []) × (new ≡ [])
IsPopped old new (Some x) = old ≡ x ∷ new
