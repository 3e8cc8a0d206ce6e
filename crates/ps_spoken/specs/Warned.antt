-- Warnings, as objects.
use Rattle.std.specs.Prelude.{ℕ, pos, List, ◌++◌, codes, Option, Some, None}
use Rattle.std.specs.Fmt.{signed_decimal}
use Rattle.ps_spoken.specs.declared.warned.Warned.{Warned}
use Rattle.ps_spoken.specs.Listings.{comma_before, texts_of}
use Rattle.ps_spoken.specs.Strings.{string_text}

-- a line, where it is known
abbrev pub line_text : Option ℕ → List ℕ
line_text (Some n) = signed_decimal (pos n)
line_text None = codes "null"

-- a warning's kind and its words
unfoldable pub said_members : Warned → List ℕ
said_members w = codes ",\"kind\":" ++ (string_text w.kind.now ++ (codes ",\"text\":" ++ (string_text w.text.items ++ codes "}")))

-- a warning at a place of a list
unfoldable pub warned_item : ℕ → Warned → List ℕ
warned_item place w = comma_before place ++ (codes "{\"line\":" ++ (line_text w.line ++ said_members w))

-- warnings
abbrev pub warned_items : List Warned → List ℕ
warned_items ws = texts_of warned_item ws

-- the member that has them
unfoldable pub warned_member : List Warned → List ℕ
warned_member ws = codes ",\"warnings\":[" ++ (warned_items ws ++ codes "]")
