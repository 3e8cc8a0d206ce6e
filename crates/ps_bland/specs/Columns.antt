-- The columns of worlds with whole entries.
use Rattle.std.specs.Prelude.{◌≡◌, ℕ, suc, ◌+◌, ◌<◌, List, [], length, get_or, ℤ, pos}
use Rattle.ps_meaning.specs.Rational.{Rational, fraction}
use Rattle.ps_simplex.specs.Table.{HasHomes}

-- columns A of n rows: the right side, the homes, and one world after the other
pub record AreColumns (n : ℕ) (worlds : List (List ℤ)) (A : ℕ → ℕ → Rational) : Type 0 where
  pub homes : HasHomes n A
  pub entries : (k m : ℕ) → k < length worlds → m < n → A m (suc (n + k)) ≡ fraction (get_or (get_or worlds k []) m (pos 0)) 1
