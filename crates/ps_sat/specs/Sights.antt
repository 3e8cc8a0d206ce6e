-- What has been seen of a trail, and the goal's slack over it.
use Rattle.std.specs.Prelude.{ℕ, ◌+◌, ◌*◌, ◌≡◌, ◌≤◌, ◌<◌, ◌==◌, if◌then◌else◌, ℤ, pos, is_none}
use Rattle.std.specs.Prelude.{List, [], ◌∷◌, ◌++◌, length, map, take, slice_index_or, unsigned_abs}
use Rattle.std.specs.Prelude.{IsPermutation}
use Rattle.std.specs.List.Sorted.{IsNonDecreasingBy}
use Rattle.ps_pb.specs.Constraints.{Constraint, sum_where, slack}
use Rattle.ps_pb.specs.Weights.{Weighted, weighted, IsWithin, IsNormal}
use Rattle.ps_learn.specs.Trails.{TrailEntry, Trail, values, level}
use Rattle.ps_sat.specs.Watches.{slot_of}

-- the literals of some entries, each with its level
abbrev pub literals_of : List TrailEntry → List (ℤ × ℕ)
literals_of es = map (λ e. (e.lit, e.level)) es

-- what has been seen of a trail, beside a goal
pub record Sighting : Type 0 where
  pub goal : Constraint
  pub seen : Trail

-- nothing has been seen of a trail over so many variables
abbrev pub unseen : Constraint → ℕ → Sighting
unseen goal variables = record { goal = goal; seen = record { variables = variables; entries = [] } }

-- the trail with one entry more
abbrev pub with_entry : Trail → TrailEntry → Trail
with_entry t e = record { variables = t.variables; entries = t.entries ++ e ∷ [] }

-- an entry stands at the level of a trail that it comes next to, or opens one
abbrev pub IsNext : Trail → TrailEntry → Type 0
IsNext t e = e.level ≡ level t + (if is_none e.reason then 1 else 0)

-- the first literals of a trail have been seen, with their levels
pub record IsSeenOf (s t : Trail) : Type 0 where
  pub variables : s.variables ≡ t.variables
  pub within : length s.entries ≤ length t.entries
  pub literals : literals_of s.entries ≡ literals_of (take (length s.entries) t.entries)

-- a trail was seen up to a place, or further
pub record SeesTo (s s' t : Trail) (place : ℕ) : Type 0 where
  pub seen : IsSeenOf s' t
  pub grows : length s.entries ≤ length s'.entries
  pub to : place ≤ length s'.entries

-- the coefficient in a constraint of the literal whose list stands at a place, 0 where it has none
abbrev pub coefficient_of : Constraint → ℕ → ℕ
coefficient_of c s = sum_where (λ l. slot_of l == s) c.terms

-- the coefficients of all literals of so many variables, by the places of their lists
pub record AreCoefficients (v : ℕ) (c : Constraint) (coefficients : List ℤ) : Type 0 where
  pub length_is : length coefficients ≡ v * 2
  pub at : (s : ℕ) → s < v * 2 → slice_index_or coefficients s (pos 0) ≡ pos (coefficient_of c s)

-- the size of a weight
abbrev pub size_of : (ℤ × ℤ) → ℕ
size_of t = unsigned_abs t.1

-- the same terms, by rising coefficient
pub record AreByCoefficient (c : Constraint) (terms : Weighted) : Type 0 where
  pub same : IsPermutation (weighted c.terms) terms
  pub rising : IsNonDecreasingBy size_of terms

-- how the goal's slack is kept
pub record IsSight (t : Trail) (c : Constraint) (coefficients : List ℤ) (terms : Weighted) (kept : ℤ) : Type 0 where
  pub inside : IsWithin t.variables c
  pub normal : IsNormal (weighted c.terms) c.degree
  pub filled : AreCoefficients t.variables c coefficients
  pub sorted : AreByCoefficient c terms
  pub slack_is : kept ≡ slack c (values t)
