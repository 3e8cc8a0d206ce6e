-- Runs over some of a problem's sentences: a run over them is one of the problem that has them alone.
use Rattle.std.specs.Prelude.{◌≡◌, Bool, true, List, [], ◌∷◌, ◌++◌, length, map, All}
use Rattle.ps_problem.specs.declared.sentence.Sentence.{Sentence}
use Rattle.ps_problem.specs.Problems.{Parts, parts_of, bounds_of_sentence}
use Rattle.ps_claims.specs.Duals.{Dual}
pub use Rattle.ps_claims.specs.Duals.{kept_of}

-- whether each bound is kept, by a truth value for each sentence: an interval has two bounds
abbrev pub flags_of : List Bool → List Sentence → List Bool
flags_of [] ss = []
flags_of (k ∷ ks) [] = []
flags_of (k ∷ ks) (s ∷ ss) = map (λ b. k) (bounds_of_sentence s) ++ flags_of ks ss

-- the problem with these sentences in place of its own
abbrev pub with_sentences : Parts → List Sentence → Parts
with_sentences p ss = parts_of p.names p.nodes ss p.queries

-- the problem that has the kept sentences alone
abbrev pub kept_parts : List Bool → Parts → Parts
kept_parts kept p = with_sentences p (kept_of kept p.sentences)

-- a dual of the whole problem as one of the kept bounds: their multipliers alone
abbrev pub kept_dual : List Bool → Dual → Dual
kept_dual flags d = record { top = d.top; head = d.head; rows = kept_of flags d.rows; steps = d.steps }

-- there is a truth value for each sentence
abbrev pub IsChoice : List Bool → Parts → Type 0
IsChoice kept p = length kept ≡ length p.sentences

-- each one is kept
abbrev pub AreAllKept : List Bool → Type 0
AreAllKept kept = All (λ k. k ≡ true) kept
