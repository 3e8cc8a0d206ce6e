-- The sentences on which no bound rests.
use Rattle.std.specs.Prelude.{ℕ, suc, ◌==◌, ◌||◌, if◌then◌else◌, Bool, true, false, List, [], ◌∷◌, ◌++◌, Option, Some, None}
use Rattle.std.specs.List.{list_any}
use Rattle.ps_problem.specs.declared.sentence.Sentence.{Sentence}
use Rattle.ps_problem.specs.Problems.{Parts}
use Rattle.ps_answer.specs.declared.answer.Answer.{Answer}
use Rattle.ps_answer.specs.declared.answer.Verdict.{Verdict}
use Rattle.ps_answer.specs.declared.answer.Verdict.TheVariants.{Consistent}
use Rattle.ps_support.specs.declared.support.Support.{Support}
use Rattle.ps_support.specs.declared.support.Supporting.{Supporting}
use Rattle.ps_spoken.specs.declared.details.Details.{Details}
use Rattle.ps_ask.specs.declared.settings.Settings.{Settings}
use Rattle.ps_ask.specs.declared.settings.Style.{Style}
use Rattle.ps_ask.specs.declared.settings.Style.TheVariants.{Words, Json}

-- the sentence of a number is among these
abbrev pub is_among : ℕ → List Supporting → Bool
is_among n ss = list_any (λ s. s.sentence == n) ss

-- a bound rests on it, by what is told of the bound
abbrev pub is_named : ℕ → Option Support → Bool
is_named n (Some s) = is_among n s.sentences
is_named n None = false

-- a bound of a query does
abbrev pub is_told : ℕ → Details → Bool
is_told n t = is_named n t.lower.support || is_named n t.upper.support

-- a bound of some query does
abbrev pub is_used : ℕ → List Details → Bool
is_used n ts = list_any (is_told n) ts

-- a sentence on which none does
abbrev pub unused_one : ℕ → List Details → List ℕ
unused_one n ts = if is_used n ts then [] else n ∷ []

-- the sentences on which none does, of which the first has this number
abbrev pub unused_from : ℕ → List Sentence → List Details → List ℕ
unused_from n [] ts = []
unused_from n (s ∷ ss) ts = unused_one n ts ++ unused_from (suc n) ss ts

-- those of a problem, where they are asked for, and some distribution meets all sentences
abbrev pub unused_in : Bool → Parts → Verdict → List Details → Option (List ℕ)
unused_in true p (Consistent m) ts = Some (unused_from 1 p.sentences ts)
unused_in asked p v ts = None

-- those of an answer
abbrev pub unused_after : Settings → Parts → Answer → List Details → Option (List ℕ)
unused_after s p a ts = unused_in s.tells_support p a.verdict ts

-- they are shown in words and in an object
abbrev pub unused_for : Style → Bool → Parts → Verdict → List Details → Option (List ℕ)
unused_for Words asked p v ts = unused_in asked p v ts
unused_for Json asked p v ts = unused_in asked p v ts
unused_for other asked p v ts = None
