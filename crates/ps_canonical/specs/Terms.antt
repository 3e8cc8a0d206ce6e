-- The terms and right sides of linear sentences as they are written.
use Rattle.std.specs.Prelude.{◌<◌, ◌≤◌, ℕ, ℤ, unsigned_abs, Bool, true, false, List, [], ◌∷◌}
use Rattle.std.specs.Prelude.{◌++◌, codes, option_map, IfSome, if◌then◌else◌}
use Rattle.ps_meaning.specs.Statements.{SignedRatio, size_of}
use Rattle.ps_text.specs.Tokens.{numeral_spelling}
use Rattle.ps_text.specs.Canonical.{canonical_numeral, is_negative, canonical_signed, signed_text, canonical_sum_relation}
use Rattle.ps_text.specs.Canonical.{relation_text_by, canonical_term, canonical_terms, term_text, terms_text}
use Rattle.ps_problem.specs.declared.limits.TheConstants.{MOST_SIZES}
use Rattle.ps_problem.specs.declared.sentence.Linear.{Linear}
use Rattle.ps_problem.specs.declared.term.Signed.{Signed}
use Rattle.ps_problem.specs.Problems.{Parts}
use Rattle.ps_problem.specs.Scales.{fraction_of, lowest}
use Rattle.ps_problem.specs.Written.{named_at, summands_from}

-- the text of a fraction: a whole number where the denominator is 1, else a quotient
abbrev pub fraction_text : ℕ → ℕ → List ℕ
fraction_text num den = numeral_spelling (canonical_numeral (record { num = num; den = den }))

-- the text of a fraction's size
abbrev pub size_text : SignedRatio → List ℕ
size_text r = numeral_spelling (canonical_numeral (size_of r))

-- the text of a fraction that may be below 0
abbrev pub signed_text_of : SignedRatio → List ℕ
signed_text_of r = signed_text (canonical_signed r)

-- the text of a range between two fractions
abbrev pub range_text : SignedRatio → SignedRatio → List ℕ
range_text least most = codes " in [" ++ (signed_text_of least ++ (codes ", " ++ (signed_text_of most ++ codes "]")))

-- the same of two fractions of a problem
abbrev pub range_between : Signed → Signed → List ℕ
range_between least most = range_text (fraction_of least) (fraction_of most)

-- the text of a sign of a relation and of a fraction behind it
abbrev pub right_text : List ℕ → Signed → List ℕ
right_text sign value = sign ++ signed_text_of (fraction_of value)

-- the sign before a term, which is the first of its sentence or not
abbrev pub sign_text : Bool → Bool → List ℕ
sign_text true minus = if minus then codes "- " else []
sign_text false minus = if minus then codes " - " else codes " + "

-- the text of a term behind its sign
abbrev pub term_text_of : Parts → ℕ → SignedRatio → List ℕ
term_text_of p i r = term_text (canonical_term (record { coefficient = r; formula = named_at p i }))

-- the text of a term with its sign
abbrev pub signed_term_text : Parts → Bool → ℕ → SignedRatio → List ℕ
signed_term_text p first i r = sign_text first (is_negative r.num) ++ term_text_of p i r

-- the same of a fraction of a problem
abbrev pub term_text_at : Parts → ℕ → Signed → List ℕ
term_text_at p i coefficient = term_text_of p i (fraction_of coefficient)

-- the same with its sign
abbrev pub signed_term : Parts → Bool → ℕ × Signed → List ℕ
signed_term p first t = signed_term_text p first t.0 (fraction_of t.1)

-- the text of terms over a scale
abbrev pub terms_text_of : Parts → ℕ → List (ℕ × ℤ) → List ℕ
terms_text_of p m ts = terms_text (canonical_terms (summands_from p m ts))

-- the text of a linear sentence's terms, which stand at its left
abbrev pub left_text : Parts → Linear → List ℕ
left_text p l = terms_text_of p l.scale l.terms

-- the text of how a linear sentence bounds its sum
abbrev pub rights_text : Linear → List ℕ
rights_text l = relation_text_by signed_text
    (canonical_sum_relation l.side (lowest l.scale l.right) (option_map (lowest l.scale) l.upper))

-- the scale is above 0, and the right sides are within their limit
pub record IsSmallLinear (l : Linear) : Type 0 where
  pub scale : 0 < l.scale
  pub right : unsigned_abs l.right ≤ MOST_SIZES
  pub upper : IfSome l.upper (λ r. unsigned_abs r ≤ MOST_SIZES)
