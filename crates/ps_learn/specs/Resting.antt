-- What a search keeps of the levels of its trail.
use Rattle.std.specs.Prelude.{ℕ, ◌≡◌, ◌≤◌, true, Some, None, List, ◌++◌, take, slice_get, unsigned_abs}
use Rattle.ps_pb.specs.Steps.{Known}
use Rattle.ps_clause.specs.Forms.{Form, is_atom_variable}
use Rattle.ps_learn.specs.Trails.{TrailEntry, values_of, rank, IsConflict}
use Rattle.ps_learn.specs.Rest.{IsAtRest}

-- before each decided literal no known constraint is violated or forces a literal: those that were known then, since propagation
-- went to its end, and those learned since, which have two literals there that aren't false
pub record AreRested (variables : ℕ) (known : Known) (es : List TrailEntry) : Type 0 where
  pub at : (i : ℕ) (e : TrailEntry) → slice_get es i ≡ Some e → e.reason ≡ None → IsAtRest known (values_of variables (take i es))

-- each decided literal is an atom's
pub record AreOfAtoms (form : Form) (es : List TrailEntry) : Type 0 where
  pub at : (i : ℕ) (e : TrailEntry) → slice_get es i ≡ Some e → e.reason ≡ None
      → is_atom_variable form (unsigned_abs e.lit) ≡ true

-- at the next conflict the trail's rank is at least so much
pub record HasRisen (variables : ℕ) (known : Known) (es : List TrailEntry) (least : ℕ) : Type 0 where
  pub at : (more : List TrailEntry) (id : ℕ) → AreRested variables known (es ++ more)
      → IsConflict known (values_of variables (es ++ more)) id → least ≤ rank variables (es ++ more)
