-- Sentences that clash, as an object.
use Rattle.std.specs.Prelude.{ℕ, pos, List, ◌++◌, codes, Option, Some, None}
use Rattle.std.specs.Fmt.{signed_decimal}
use Rattle.ps_problem.specs.Problems.{Parts}
use Rattle.ps_answer.specs.declared.answer.Verdict.{Verdict}
use Rattle.ps_answer.specs.declared.answer.Verdict.TheVariants as verdict
use Rattle.ps_answer.specs.declared.answer.Verdict.TheVariants.{Consistent, Inconsistent}
use Rattle.ps_spoken.specs.declared.clash.Clash.{Clash}
use Rattle.ps_spoken.specs.declared.clash.Clashing.{Clashing}
use Rattle.ps_spoken.specs.declared.clash.Clash.TheVariants.{Irreducible, Open}
use Rattle.ps_spoken.specs.Spoken.{cause_text}
use Rattle.ps_spoken.specs.Sentences.{line_at, sentence_text}
use Rattle.ps_spoken.specs.Listings.{comma_before, texts_of}

-- the number of a sentence, and its line
unfoldable pub where_text : List ℕ → ℕ → List ℕ
where_text lines n = codes "{\"number\":"
    ++ (signed_decimal (pos n) ++ (codes ",\"line\":" ++ signed_decimal (pos (line_at lines n))))

-- the end of the object of a sentence, with what the others come to without it
abbrev pub rest_end : Verdict → List ℕ
rest_end (Consistent m) = codes ";\",\"without\":\"met\"}"
rest_end (Inconsistent d) = codes ";\",\"without\":\"clash\"}"
rest_end (verdict.Open c) = codes ";\",\"without\":\"unknown\"}"

-- a sentence with its number, its line and what the others come to, at a place of a list
unfoldable pub clashing : Parts → List ℕ → ℕ → Clashing → List ℕ
clashing p lines place c = comma_before place
    ++ (where_text lines c.number ++ (codes ",\"text\":\"" ++ (sentence_text p c.number ++ rest_end c.rest)))

-- sentences, each with its number, its line and what the others come to
abbrev pub clash_items : Parts → List ℕ → List Clashing → List ℕ
clash_items p lines cs = texts_of (clashing p lines) cs

-- sentences that clash
abbrev pub core_object : Parts → List ℕ → List Clashing → List ℕ
core_object p lines cs = codes "{\"irreducible\":true,\"why\":null,\"sentences\":[" ++ (clash_items p lines cs ++ codes "]}")

-- which sentences clash, or what stopped the search for them
abbrev pub clash_object : Parts → List ℕ → Clash → List ℕ
clash_object p lines (Irreducible cs) = core_object p lines cs
clash_object p lines (Open c) = codes "{\"irreducible\":false,\"why\":\"" ++ (cause_text c ++ codes "\",\"sentences\":[]}")

-- which sentences clash, where some do
abbrev pub clash_member : Parts → List ℕ → Option Clash → List ℕ
clash_member p lines (Some c) = clash_object p lines c
clash_member p lines None = codes "null"
