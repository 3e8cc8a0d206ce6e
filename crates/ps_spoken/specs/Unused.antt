-- The sentences on which no bound rests.
use Rattle.std.specs.Prelude.{ℕ, pos, ◌==◌, if◌then◌else◌, List, [], ◌∷◌, ◌++◌, codes, length, Option, Some, None}
use Rattle.std.specs.Fmt.{signed_decimal}
use Rattle.ps_problem.specs.Problems.{Parts}
use Rattle.ps_spoken.specs.Sentences.{line_at, sentence_text}
use Rattle.ps_spoken.specs.JsonDetails.{where_members}
use Rattle.ps_spoken.specs.Listings.{comma_before, texts_of}

-- a sentence with its line
unfoldable pub unused_line : Parts → List ℕ → ℕ → List ℕ
unused_line p lines n =
    codes "  line " ++ (signed_decimal (pos (line_at lines n)) ++ (codes ": " ++ (sentence_text p n ++ codes "\n")))

-- sentences, each with its line
abbrev pub unused_lines : Parts → List ℕ → List ℕ → List ℕ
unused_lines p lines [] = []
unused_lines p lines (n ∷ ns) = unused_line p lines n ++ unused_lines p lines ns

-- the sentences on which no bound rests
unfoldable pub unused_list : Parts → List ℕ → List ℕ → List ℕ
unused_list p lines ns = codes "no bound rests on these sentences:\n" ++ unused_lines p lines ns

abbrev pub unused_text : Parts → List ℕ → List ℕ → List ℕ
unused_text p lines ns = if length ns == 0 then codes "some bound rests on each sentence\n" else unused_list p lines ns

-- a sentence as an object, at a place of a list
unfoldable pub unused_item : Parts → List ℕ → ℕ → ℕ → List ℕ
unused_item p lines place n = comma_before place ++ (where_members p n (line_at lines n) ++ codes "}")

abbrev pub unused_items : Parts → List ℕ → List ℕ → List ℕ
unused_items p lines ns = texts_of (unused_item p lines) ns

-- the member that has them, where they are told
unfoldable pub unused_array : Parts → List ℕ → List ℕ → List ℕ
unused_array p lines ns = codes ",\"unused\":[" ++ (unused_items p lines ns ++ codes "]")

abbrev pub unused_member : Parts → List ℕ → Option (List ℕ) → List ℕ
unused_member p lines (Some ns) = unused_array p lines ns
unused_member p lines None = []
