-- What is written of sentences that clash.
use Rattle.std.specs.Prelude.{ℕ, ◌==◌, pos, Bool, true, false, if◌then◌else◌, List, [], ◌∷◌, ◌++◌, codes, length}
use Rattle.std.specs.List.{list_all}
use Rattle.std.specs.Fmt.{signed_decimal}
use Rattle.ps_problem.specs.Problems.{Parts}
use Rattle.ps_answer.specs.declared.answer.Verdict.{Verdict}
use Rattle.ps_answer.specs.declared.answer.Verdict.TheVariants as verdict
use Rattle.ps_answer.specs.declared.answer.Verdict.TheVariants.{Consistent, Inconsistent}
use Rattle.ps_spoken.specs.declared.clash.Clash.{Clash}
use Rattle.ps_spoken.specs.declared.clash.Clash.TheVariants.{Irreducible, Open}
use Rattle.ps_spoken.specs.declared.clash.Clashing.{Clashing}
use Rattle.ps_spoken.specs.Sentences.{line_at, sentence_text}
use Rattle.ps_spoken.specs.Spoken.{cause_text}

-- a sentence with its number and its line
unfoldable pub clashing_text : Parts → List ℕ → Clashing → List ℕ
clashing_text p lines c =
    codes "  sentence " ++ (signed_decimal (pos c.number)
    ++ (codes ", line " ++ (signed_decimal (pos (line_at lines c.number))
    ++ (codes ": " ++ (sentence_text p c.number ++ codes ";\n")))))

-- sentences, each with its number and its line
abbrev pub clash_texts : Parts → List ℕ → List Clashing → List ℕ
clash_texts p lines [] = []
clash_texts p lines (c ∷ cs) = clashing_text p lines c ++ clash_texts p lines cs

-- all the others can be met together
abbrev pub is_consistent : Verdict → Bool
is_consistent (Consistent m) = true
is_consistent (Inconsistent d) = false
is_consistent (verdict.Open c) = false

-- so it is without a sentence
abbrev pub is_met : Clashing → Bool
is_met c = is_consistent c.rest

-- so it is without any one of these
abbrev pub are_met : List Clashing → Bool
are_met cs = list_all is_met cs

-- what the others come to
abbrev pub rest_words : Verdict → List ℕ
rest_words (Consistent m) = codes "all the others can be met together\n"
rest_words (Inconsistent d) = codes "another clash stands\n"
rest_words (verdict.Open c) =
    codes "it isn't known whether another clash stands: " ++ (cause_text c ++ codes "\n")

-- the sentence that is left out
unfoldable pub without_text : ℕ → List ℕ
without_text n = codes "  without sentence " ++ (signed_decimal (pos n) ++ codes " ")

-- it, and what the problem comes to
abbrev pub rest_text : Clashing → List ℕ
rest_text c = without_text c.number ++ rest_words c.rest

-- what a problem comes to without each of these
abbrev pub rest_texts : List Clashing → List ℕ
rest_texts [] = []
rest_texts (c ∷ cs) = rest_text c ++ rest_texts cs

-- this is one sentence
abbrev pub is_alone : List Clashing → Bool
is_alone cs = length cs == 1

-- without any one of these, or without the one, all the others can be met together
abbrev pub all_met_text : Bool → List ℕ
all_met_text true = codes "leave it out, and all the others can be met together\n"
all_met_text false = codes "leave any one of them out, and all the others can be met together\n"

-- without any one of these, the others of them can; of one nothing is told
abbrev pub others_met_text : Bool → List ℕ
others_met_text true = []
others_met_text false = codes "leave any one of them out, and the others of these no longer clash\n"

-- what is left where one of these is left out: all the others, or it is told one by one
abbrev pub left_text : List Clashing → List ℕ
left_text cs = if are_met cs then all_met_text (is_alone cs) else others_met_text (is_alone cs) ++ rest_texts cs

-- what is wrong with sentences that clash, or with the one that no distribution meets
abbrev pub heading_text : Bool → List ℕ
heading_text true = codes "no distribution meets this sentence:\n"
heading_text false = codes "these sentences clash:\n"

-- sentences that clash
abbrev pub core_text : Parts → List ℕ → List Clashing → List ℕ
core_text p lines cs = heading_text (is_alone cs) ++ (clash_texts p lines cs ++ left_text cs)

-- which sentences clash, or what stopped the search for them
abbrev pub clash_text : Parts → List ℕ → Clash → List ℕ
clash_text p lines (Irreducible cs) = core_text p lines cs
clash_text p lines (Open c) = codes "which of them clash isn't known: " ++ (cause_text c ++ codes "\n")
