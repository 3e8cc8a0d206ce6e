-- What lines say.
use Rattle.std.proofs.Common.{◌≡◌, ℕ, pos, true, false, None, List, [], ◌∷◌, refl, sym, ap, ◌∙◌, subst}
use Rattle.std.specs.Str.{bytes_eq}
use Rattle.std.specs.Str.Parse.{digits_value}
use Rattle.ps_wcnf.specs.Splitting.{words_of, IsFirstWord}
use Rattle.ps_wcnf.specs.Spelling.{is_count, is_comment, literals_in, hard_of, soft_of, line_of, line_of_words}
use Rattle.ps_wcnf.specs.Counted.{IsTold, IsLine}
use Rattle.ps_wcnf.specs.declared.line.Told.{Told}

abbrev pub hard_word : List ℕ
hard_word = 104 ∷ []

line-hard : (line word after : List ℕ) → IsFirstWord line word after → is_comment word ≡ false → bytes_eq word hard_word ≡ true → line_of line ≡ hard_of (literals_in (words_of after))
line-hard line word after is other hard = ap line_of_words is.words ∙ rw (other, hard) refl

line-soft : (line word after : List ℕ) → IsFirstWord line word after → is_comment word ≡ false → bytes_eq word hard_word ≡ false → is_count word ≡ true
    → line_of line ≡ soft_of (pos (digits_value 10 word)) (literals_in (words_of after))
line-soft line word after is other soft counts = ap line_of_words is.words ∙ rw (other, soft, counts) refl

pub line-bad : (line word after : List ℕ) → IsFirstWord line word after → is_comment word ≡ false → bytes_eq word hard_word ≡ false → is_count word ≡ false
    → line_of line ≡ None
line-bad line word after is other soft none = ap line_of_words is.words ∙ rw (other, soft, none) refl

pub told-hard : (line word after : List ℕ) (t : Told) → IsFirstWord line word after → is_comment word ≡ false → bytes_eq word hard_word ≡ true
    → IsTold (hard_of (literals_in (words_of after))) t → IsLine line t
told-hard line word after t is other hard told = subst (λ o. IsTold o t) (sym (line-hard line word after is other hard)) told

pub told-soft : (line word after : List ℕ) (t : Told) → IsFirstWord line word after → is_comment word ≡ false → bytes_eq word hard_word ≡ false → is_count word ≡ true
    → IsTold (soft_of (pos (digits_value 10 word)) (literals_in (words_of after))) t → IsLine line t
told-soft line word after t is other soft counts told = subst (λ o. IsTold o t) (sym (line-soft line word after is other soft counts)) told
