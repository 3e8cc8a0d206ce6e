-- The lines of a chain's text.
use Rattle.std.specs.Prelude.{◌≡◌, ℕ, List, ◌++◌, codes, decimal}
use Rattle.ps_meaning.specs.Statements.{Item}
use Rattle.ps_text.specs.Canonical.{canonical_item, canonical_items, item_text, items_text}

-- the text stands behind what was written before
abbrev pub Adds : (old new text : List ℕ) → Type 0
Adds old new text = new ≡ old ++ text

-- the name of an atom
abbrev pub atom_name : ℕ → List ℕ
atom_name i = codes "x" ++ decimal i

-- that an atom implies another
abbrev pub arrow_text : ℕ → ℕ → List ℕ
arrow_text i j = atom_name i ++ (codes " -> " ++ atom_name j)

-- the line of an item
abbrev pub line_of : Item → List ℕ
line_of i = item_text (canonical_item i)

-- the lines of items
abbrev pub lines_of : List Item → List ℕ
lines_of is = items_text (canonical_items is)
