-- The line at the front.
use Rattle.std.proofs.Common.{◌≡◌, ℕ, true, List, [], ◌∷◌, Result, Ok, Err, sym, ap, subst, ◌∙◌}
use Rattle.std.specs.Prelude.{bytes_eq}
use Rattle.std.specs.List.{list_any}
use Rattle.ps_log.specs.FirstLines.{IsFirstLine}
use Rattle.ps_log.specs.Spellings.{words_of}
use Rattle.ps_answer.specs.declared.error.LineKind.TheVariants as kind
use Rattle.ps_answer.specs.Faults.{first_of}
use Rattle.ps_reader.specs.declared.line_fault.LineFault.{LineFault}
use Rattle.ps_reader.specs.declared.line_fault.LineFault.TheVariants.{TooLarge}
use Rattle.ps_reader.specs.declared.error.LineError.TheVariants as error
use Rattle.ps_reader.specs.Cursor.{later}
use Rattle.ps_reader.proofs.FirstLine.{line_words}
use Rattle.ps_reader.proofs.OpeningLines.{only_word}
use Rattle.ps_max_text.specs.Parts.{first_words}
use Rattle.ps_max_text.specs.Faults.{is_begun}
use Rattle.ps_max_text.specs.Read.{IsItemRead}
use Rattle.ps_max_text.specs.Lines.{TakesLine, IsLineFault}
use Rattle.ps_max_text.specs.declared.item.MaxItem.{MaxItem}
use Rattle.ps_max_text.specs.declared.part.MaxPart.{MaxPart}

-- what is read behind the first word is read of the line
pub by_word : (p : MaxPart) (text word : List ℕ) (left : List (List ℕ)) (r : Result MaxItem LineFault) → word ≡ first_of (words_of text) → left ≡ later (words_of text) → IsItemRead p (word ∷ left) r → IsItemRead p (words_of text) r
by_word p text word left r e f h = subst (λ ws. IsItemRead p ws r) (ap (λ w. w ∷ left) e ∙ ap (λ l. first_of (words_of text) ∷ l) f ∙ sym (line_words text)) h

pub by_letters : (p : MaxPart) (a text : List ℕ) (left : List (List ℕ)) (r : Result MaxItem LineFault) → first_words p ≡ a ∷ [] → is_begun p text ≡ true → left ≡ later (words_of text) → IsItemRead p (a ∷ left) r
    → IsItemRead p (words_of text) r
by_letters p a text left r e b f h =
    by_word p text a left r (sym (only_word (first_of (words_of text)) a (subst (λ ws. list_any (λ w. bytes_eq (first_of (words_of text)) w) ws ≡ true) e b))) f h

-- the first word of a part is due
pub due_word : (p : MaxPart) (text word : List ℕ) → word ≡ first_of (words_of text) → is_begun p text ≡ true → list_any (λ w. bytes_eq word w) (first_words p) ≡ true
due_word p text word e b = subst (λ v. list_any (λ w. bytes_eq v w) (first_words p) ≡ true) (sym e) b

-- what is answered
pub taken : (p : MaxPart) (bytes line rest : List ℕ) (i : MaxItem) → IsFirstLine bytes line rest → IsItemRead p (words_of line) (Ok i) → TakesLine p bytes i rest
taken p bytes line rest i f h = record { line = line; first = f; says = record { words = h.0.spelled; proper = h.0.proper }; within = h.1; fits = h.2 }

pub too_large : (p : MaxPart) (bytes line rest : List ℕ) → IsFirstLine bytes line rest → IsItemRead p (words_of line) (Err TooLarge) → IsLineFault p bytes (error.Fault kind.TooLarge)
too_large p bytes line rest f h = λ due. record {
  line = line;
  more = rest;
  first = f;
  item = h.0;
  says = record { words = h.1.spelled; proper = h.1.proper };
  next = (h.2 due).0;
  fits = (h.2 due).1;
  past = h.3;
}

-- a part's line, by its letters or by its first word
pub arm_letters : (part p : MaxPart) (a text : List ℕ) (words left : List (List ℕ)) (r : Result MaxItem LineFault) → part ≡ p → first_words p ≡ a ∷ [] → is_begun part text ≡ true → words ≡ words_of text → left ≡ later words
    → IsItemRead p (a ∷ left) r → IsItemRead part (words_of text) r
arm_letters part p a text words left r e w b f g h =
    subst (λ q. IsItemRead q (words_of text) r) (sym e) (by_letters p a text left r w (subst (λ q. is_begun q text ≡ true) e b) (g ∙ ap later f) h)

pub arm_word : (part p : MaxPart) (text word : List ℕ) (words left : List (List ℕ)) (r : Result MaxItem LineFault) → part ≡ p → words ≡ words_of text → word ≡ first_of words → left ≡ later words → IsItemRead p (word ∷ left) r
    → IsItemRead part (words_of text) r
arm_word part p text word words left r e f g k h = subst (λ q. IsItemRead q (words_of text) r) (sym e) (by_word p text word left r (g ∙ ap first_of f) (k ∙ ap later f) h)

pub arm_due : (part p : MaxPart) (text word : List ℕ) (words : List (List ℕ)) → part ≡ p → words ≡ words_of text → word ≡ first_of words → is_begun part text ≡ true → list_any (λ w. bytes_eq word w) (first_words p) ≡ true
arm_due part p text word words e f g b = due_word p text word (g ∙ ap first_of f) (subst (λ q. is_begun q text ≡ true) e b)
