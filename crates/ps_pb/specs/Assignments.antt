-- Literals, as whole numbers that aren't 0, and the truth values of their variables.
use Rattle.std.specs.Prelude.{ℕ, zero, suc, ◌-◌, ◌<◌, ◌≤◌, ◌≡◌, ◌≢◌, ℤ, pos}
use Rattle.std.specs.Prelude.{negsuc, Bool, true, false, cond, not, Option, Some, None, List}
use Rattle.std.specs.Prelude.{[], ◌∷◌, length, map, unsigned_abs, slice_index_or, slice_set, replicate, AllPairs}
pub use Rattle.ps_meaning.specs.Formula.{agree}

-- the place of a literal's variable in an assignment: that of variable n is n - 1
abbrev pub place : ℤ → ℕ
place l = unsigned_abs l - 1

-- a positive literal says that its variable is true, a negative one that it is false
abbrev pub is_positive : ℤ → Bool
is_positive (pos n) = true
is_positive (negsuc n) = false

-- the literal of the variable at a place
abbrev pub literal_at : ℕ → Bool → ℤ
literal_at p positive = cond positive (pos (suc p)) (negsuc p)

-- a full assignment gives each variable a truth value; past the end it is false
unfoldable pub holds : List Bool → ℤ → Bool
holds w l = agree (is_positive l) (slice_index_or w (place l) false)

-- a partial assignment: for each variable its value, if it has one
abbrev pub Assignment : Type 0
Assignment = List (Option Bool)

-- the value of a literal of this sign, from that of its variable
abbrev pub with_sign : Bool → Option Bool → Option Bool
with_sign positive None = None
with_sign positive (Some b) = Some (agree positive b)

-- the value of a literal
unfoldable pub value_of : Assignment → ℤ → Option Bool
value_of a l = with_sign (is_positive l) (slice_index_or a (place l) None)

-- the value of a variable by its number, from 1 on
unfoldable pub value_at : Assignment → ℕ → Option Bool
value_at a zero = None
value_at a (suc p) = slice_index_or a p None

-- whether there is a value, and it is false
abbrev pub is_false : Option Bool → Bool
is_false None = false
is_false (Some b) = not b

-- whether there is no value
abbrev pub is_unset : Option Bool → Bool
is_unset None = true
is_unset (Some b) = false

-- no variable has a value
abbrev pub all_unset : ℕ → Assignment
all_unset variables = replicate variables None

-- how many variables have no value
abbrev pub unset_count : Assignment → ℕ
unset_count [] = 0
unset_count (None ∷ a) = suc (unset_count a)
unset_count (Some b ∷ a) = unset_count a

-- one literal set true
unfoldable pub with_true : Assignment → ℤ → Assignment
with_true a l = slice_set a (place l) (Some (is_positive l))

-- one literal set false
unfoldable pub with_false : Assignment → ℤ → Assignment
with_false a l = slice_set a (place l) (Some (not (is_positive l)))

-- one variable unset, by its number
unfoldable pub without : Assignment → ℕ → Assignment
without a zero = a
without a (suc p) = slice_set a p None

-- the first assignment includes the second: what is set in the second is set so in the first
pub record Includes (a b : Assignment) : Type 0 where
  pub at : (l : ℤ) (v : Bool) → value_of b l ≡ Some v → value_of a l ≡ Some v

-- each variable has the value of a full assignment
abbrev pub full : List Bool → Assignment
full w = map Some w

-- a value, and false where there is none
abbrev pub value_or_false : Option Bool → Bool
value_or_false None = false
value_or_false (Some b) = b

-- the values of the variables, false where there is none
abbrev pub values_of : Assignment → List Bool
values_of a = map value_or_false a

-- each variable has a value
pub record IsComplete (a : Assignment) : Type 0 where
  pub at : (var : ℕ) → 0 < var → var ≤ length a → is_unset (value_at a var) ≡ false

-- no two of the literals are of one variable
abbrev pub AreDifferent : List ℤ → Type 0
AreDifferent lits = AllPairs (λ l m. place l ≢ place m) lits
