-- The statuses of the answers to problems, and the greatest of them.
use Rattle.std.specs.Prelude.{◌≡◌, ◌≤◌, ◌⊎◌, ℕ, List, [], ◌∷◌, length, map, take, codes, String, string_bytes}
use Rattle.std.specs.declared.alloc.Global.{Global}
use Rattle.std.specs.List.{All, Contains}
use Rattle.ps_ask.specs.Statuses.{status_number}
use Rattle.ps_ask.specs.declared.status.Status.{Status}
use Rattle.ps_ask.specs.declared.status.Status.TheVariants.{WriteFault}

-- none of the numbers is greater, and it is one of them, or 0 where there are none above that
pub record IsGreatest (numbers : List ℕ) (n : ℕ) : Type 0 where
  pub all : All (λ m. m ≤ n) numbers
  pub one : (n ≡ 0) ⊎ Contains numbers n

-- the files that are read where these are named: standard input where none is
abbrev pub files_read : List (String Global) → List (List ℕ)
files_read [] = codes "-" ∷ []
files_read (file ∷ files) = map string_bytes (file ∷ files)

-- the problems of files were answered one after the other, each in the state that the answer before left
abbrev pub InTurn : {S : Type 0} → (S → List ℕ → Status → S → Type 0) → S → List (List ℕ × Status) → S → Type 0
InTurn answers old [] new = new ≡ old
InTurn {S} answers old (a ∷ rest) new = (next : S) × answers old a.0 a.1 next × InTurn answers next rest new

-- the problems of these files were answered in turn, all of them or up to one whose answer couldn't be written, and the greatest
-- number of all their statuses is this
pub record AnswersAll {S : Type 0} (answers : S → List ℕ → Status → S → Type 0) (files : List (List ℕ)) (old new : S) (n : ℕ)
    : Type 0 where
  pub answered : List (List ℕ × Status)
  pub in_turn : InTurn answers old answered new
  pub first : map (λ a. a.0) answered ≡ take (length answered) files
  pub whole : (length answered ≡ length files) ⊎ Contains (map (λ a. a.1) answered) WriteFault
  pub greatest : IsGreatest (map (λ a. status_number a.1) answered) n
