-- The columns that texts take.
use Rattle.std.proofs.Common.{◌≡◌, ◌≤◌, ◌+◌, ◌++◌, ◌∷◌, [], ℕ, List, refl, sym, ap, ◌∙◌, append-nil, flat_map, arith}
use Rattle.std.specs.Prelude.{codes}
use Rattle.std.specs.Char.{encode_utf8}
use Rattle.std.proofs.lemmas.List.Concat.{flat_map-append}
use Rattle.std.proofs.lemmas.List.Sums.{sum_by-append}
use Rattle.unicode_width.specs.Width.{char_width}
use Rattle.ps_names.specs.Names.{TakesAtMost, columns, columns_of}
use Rattle.ps_names.specs.declared.name.TheConstants.{MOST_COLUMNS}

-- nothing takes no column
pub nothing : TakesAtMost 0 []
unfolding TakesAtMost
nothing = ([], refl, omega arith)

-- one character more
pub pushed : (text : List ℕ) (n c : ℕ) → TakesAtMost n text → TakesAtMost (n + columns c) (text ++ encode_utf8 c)
unfolding TakesAtMost
pushed text n c h = (
  h.0 ++ c ∷ [],
  (ap (λ t. t ++ encode_utf8 c) h.1 ∙ (ap (λ t. flat_map encode_utf8 h.0 ++ t) (sym (append-nil (encode_utf8 c))) ∙ sym (flat_map-append encode_utf8 h.0 (c ∷ [])))),
  (let e : columns_of (h.0 ++ c ∷ []) ≡ columns_of h.0 + columns_of (c ∷ []) = sum_by-append columns h.0 (c ∷ []) in
      let few : columns_of h.0 ≤ n = h.2 in
      omega arith),
)

-- so many and no more
pub ended : (text : List ℕ) (n : ℕ) → TakesAtMost n text → n ≤ 197 → TakesAtMost MOST_COLUMNS text
unfolding TakesAtMost
ended text n h few = (h.0, h.1, (let most : columns_of h.0 ≤ n = h.2 in omega arith))

-- the mark takes three
dot : columns 46 ≡ 1
unfolding columns char_width
dot = refl

mark_columns : columns_of (46 ∷ 46 ∷ 46 ∷ []) ≤ 3
mark_columns = omega (arith, dot)

-- with the mark behind it
pub marked : (text : List ℕ) (n : ℕ) → TakesAtMost n text → n ≤ 197 → TakesAtMost MOST_COLUMNS (text ++ codes "...")
unfolding TakesAtMost encode_utf8
marked text n h few = (
  h.0 ++ 46 ∷ 46 ∷ 46 ∷ [],
  (ap (λ t. t ++ codes "...") h.1 ∙ sym (flat_map-append encode_utf8 h.0 (46 ∷ 46 ∷ 46 ∷ []))),
  (let e : columns_of (h.0 ++ 46 ∷ 46 ∷ 46 ∷ []) ≡ columns_of h.0 + columns_of (46 ∷ 46 ∷ 46 ∷ []) = sum_by-append columns h.0 (46 ∷ 46 ∷ 46 ∷ []) in
      let most : columns_of h.0 ≤ n = h.2 in
      let mark : columns_of (46 ∷ 46 ∷ 46 ∷ []) ≤ 3 = mark_columns in
      omega arith),
)
