-- Kinds of warnings, and which are left out.
use Rattle.std.specs.Prelude.{◌≡◌, ◌≢◌, ℕ, true, false, List, [], ◌∷◌, ◌++◌, codes, Option, MatchOption}
use Rattle.ps_hints.specs.declared.kind.Wanted.{Wanted}
use Rattle.ps_hints.specs.declared.kind.WarningKind.{WarningKind}
use Rattle.ps_hints.specs.declared.kind.WarningKind.TheVariants as kind

-- all warnings, and none
abbrev pub all_kinds : Wanted
all_kinds = record { or = true; interval = true; twice = true; name = true; unstated = true; condition = true }

abbrev pub no_kinds : Wanted
no_kinds = record { or = false; interval = false; twice = false; name = false; unstated = false; condition = false }

-- warnings but those of a kind
abbrev pub without : WarningKind → Wanted → Wanted
without kind.Or w = record w { or = false }
without kind.Interval w = record w { interval = false }
without kind.Twice w = record w { twice = false }
without kind.Name w = record w { name = false }
without kind.Unstated w = record w { unstated = false }
without kind.Condition w = record w { condition = false }

-- the word of a kind of warnings
abbrev pub word_of : WarningKind → List ℕ
word_of kind.Or = codes "or"
word_of kind.Interval = codes "interval"
word_of kind.Twice = codes "twice"
word_of kind.Name = codes "name"
word_of kind.Unstated = codes "unstated"
word_of kind.Condition = codes "condition"

-- the kind that is found is the one that the word names; there is none where it names none
abbrev pub FindsKind : List ℕ → Option WarningKind → Type 0
FindsKind word found = MatchOption found ((k : WarningKind) → word ≢ word_of k) (λ k. word ≡ word_of k)

-- kinds of warnings, one behind the other, each of which is left out
abbrev pub left_by : List WarningKind → Wanted → Wanted
left_by [] w = w
left_by (k ∷ ks) w = left_by ks (without k w)

-- the words of kinds, with commas between them
abbrev pub kinds_text : WarningKind → List WarningKind → List ℕ
kinds_text k [] = word_of k
kinds_text k (l ∷ ks) = word_of k ++ (44 ∷ kinds_text l ks)

-- the warnings that are left without those of the kinds that are named
pub record LeavesWanted (value : List ℕ) (old new : Wanted) : Type 0 where
  pub first : WarningKind
  pub others : List WarningKind
  pub named : value ≡ kinds_text first others
  pub left : new ≡ left_by (first ∷ others) old

-- the warnings that are left without those of the kind that a word names
pub record LeavesOne (word : List ℕ) (old new : Wanted) : Type 0 where
  pub one : WarningKind
  pub named : word ≡ word_of one
  pub left : new ≡ without one old

-- without those of a first kind these warnings are left; what is left without the kinds behind its comma, is what is left without
-- all that are named
pub record LeadsOn (value rest : List ℕ) (old left : Wanted) : Type 0 where
  pub leads : (new : Wanted) → LeavesWanted rest left new → LeavesWanted value old new
