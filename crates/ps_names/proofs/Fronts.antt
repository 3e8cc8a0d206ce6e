-- The characters of a name that are shown.
use Rattle.std.proofs.Common.{◌≡◌, ◌<◌, ◌+◌, ◌++◌, ◌∷◌, [], ℕ, List, sym, ap, ap₂, ◌∙◌, subst, length, take, get_or, append-nil, codes, arith}
use Rattle.std.specs.Char.{encode_utf8}
use Rattle.std.proofs.lemmas.List.{take_more}
use Rattle.std.proofs.lemmas.List.Concat.{flat_map-append}
use Rattle.std.proofs.lemmas.List.Sums.{sum_by-append}
use Rattle.ps_names.specs.Names.{ShowsSome, columns, glyph, shown, shown_columns, shown_text, width}

-- one character more
pub shown_more : (cs : List ℕ) (c : ℕ) → shown_text (cs ++ c ∷ []) ≡ shown_text cs ++ encode_utf8 (shown c)
unfolding glyph
shown_more cs c = flat_map-append glyph cs (c ∷ []) ∙ ap (λ t. shown_text cs ++ t) (append-nil (encode_utf8 (shown c)))

-- and its columns
pub wide_more : (cs : List ℕ) (c : ℕ) → shown_columns (cs ++ c ∷ []) ≡ shown_columns cs + columns (shown c)
unfolding width
wide_more cs c = let e : shown_columns (cs ++ c ∷ []) ≡ shown_columns cs + shown_columns (c ∷ []) = sum_by-append width cs (c ∷ []) in omega arith

-- the next one has no room
pub cut : (room : ℕ) (cs front : List ℕ) (c : ℕ) (text : List ℕ) → front ≡ take (length front) cs → length front < length cs
    → c ≡ get_or cs (length front) c → text ≡ shown_text front → room < shown_columns front + columns (shown c)
    → ShowsSome room cs (text ++ codes "...")
cut room cs front c text e few is told no_room =
    let next : take (length front + 1) cs ≡ front ++ c ∷ [] = take_more cs (length front) c few ∙ ap₂ (λ a b. a ++ b ∷ []) (sym e) (sym is) in
    record {
      count = length front;
      full = subst (λ n. room < n) (sym (ap shown_columns next ∙ wide_more front c)) no_room;
      front = ap (λ t. t ++ codes "...") (told ∙ ap shown_text e);
    }
