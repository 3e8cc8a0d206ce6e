-- How much there is of a problem and of the answer to it, as an object.
use Rattle.std.specs.Prelude.{ℕ, ℤ, pos, List, ◌++◌, codes, length}
use Rattle.std.specs.Fmt.{signed_decimal}
use Rattle.ps_problem.specs.Problems.{Parts, bounds_in}

-- a count behind its name
unfoldable pub count_text : List ℕ → ℤ → List ℕ
count_text name n = name ++ signed_decimal n

-- how many atoms and sentences a problem has
unfoldable pub sentences_members : Parts → List ℕ
sentences_members p = count_text (codes "{\"atoms\":") (pos (length p.names))
    ++ count_text (codes ",\"sentences\":") (pos (length p.sentences))

-- how many bounds and queries it has
unfoldable pub bounds_members : Parts → List ℕ
bounds_members p = count_text (codes ",\"bounds\":") (pos (length (bounds_in p.sentences)))
    ++ count_text (codes ",\"queries\":") (pos (length p.queries))

-- how many atoms, sentences, bounds and queries a problem has, and how much is open
unfoldable pub counts_object : Parts → ℤ → List ℕ
counts_object p unfinished = sentences_members p
    ++ (bounds_members p ++ (count_text (codes ",\"open\":") unfinished ++ codes "}"))
