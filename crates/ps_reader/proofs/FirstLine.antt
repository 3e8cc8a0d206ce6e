-- The line at the front.
use Rattle.std.proofs.Common.{◌≡◌, ℕ, true, List, [], ◌∷◌, Result, Ok, Err, refl, sym, ap, subst, ◌∙◌}
use Rattle.std.specs.Prelude.{bytes_eq}
use Rattle.std.specs.List.{list_any}
use Rattle.ps_log.specs.FirstLines.{IsFirstLine}
use Rattle.ps_log.specs.Spellings.{words_of}
use Rattle.ps_answer.specs.declared.item.LineItem.{LineItem}
use Rattle.ps_answer.specs.declared.part.Part.{Part}
use Rattle.ps_answer.specs.declared.error.LineKind.TheVariants as kind
use Rattle.ps_answer.specs.ExpectedParts.{first_words}
use Rattle.ps_answer.specs.Faults.{first_of, is_begun}
use Rattle.ps_reader.specs.declared.line_fault.LineFault.{LineFault}
use Rattle.ps_reader.specs.declared.line_fault.LineFault.TheVariants.{TooLarge}
use Rattle.ps_reader.specs.declared.error.LineError.TheVariants as error
use Rattle.ps_reader.specs.Cursor.{later}
use Rattle.ps_reader.specs.Read.{IsItemRead}
use Rattle.ps_reader.specs.Lines.{TakesLine, IsLineFault}
use Rattle.ps_reader.proofs.Sequences.{has_words}
use Rattle.ps_reader.proofs.OpeningLines.{only_word}

-- a line's words are its first and those after it
words_cons : (ws : List (List ℕ)) → (ws ≡ [] → ⊥) → ws ≡ first_of ws ∷ later ws
words_cons [] n = absurd (n refl)
words_cons (w ∷ ws) n = refl

pub line_words : (text : List ℕ) → words_of text ≡ first_of (words_of text) ∷ later (words_of text)
line_words text = words_cons (words_of text) (has_words text)

-- what is read behind the first word is read of the line
pub by_word : (p : Part) (text word : List ℕ) (left : List (List ℕ)) (r : Result LineItem LineFault) → word ≡ first_of (words_of text) → left ≡ later (words_of text) → IsItemRead p (word ∷ left) r → IsItemRead p (words_of text) r
by_word p text word left r e f h = subst (λ ws. IsItemRead p ws r) (ap (λ w. w ∷ left) e ∙ ap (λ l. first_of (words_of text) ∷ l) f ∙ sym (line_words text)) h

pub by_letters : (p : Part) (a text : List ℕ) (left : List (List ℕ)) (r : Result LineItem LineFault) → first_words p ≡ a ∷ [] → is_begun p text ≡ true → left ≡ later (words_of text) → IsItemRead p (a ∷ left) r
    → IsItemRead p (words_of text) r
by_letters p a text left r e b f h =
    by_word p text a left r (sym (only_word (first_of (words_of text)) a (subst (λ ws. list_any (λ w. bytes_eq (first_of (words_of text)) w) ws ≡ true) e b))) f h

-- the first word of a part is due
pub due_word : (p : Part) (text word : List ℕ) → word ≡ first_of (words_of text) → is_begun p text ≡ true → list_any (λ w. bytes_eq word w) (first_words p) ≡ true
due_word p text word e b = subst (λ v. list_any (λ w. bytes_eq v w) (first_words p) ≡ true) (sym e) b

-- what is answered
pub taken : (p : Part) (bytes line rest : List ℕ) (i : LineItem) → IsFirstLine bytes line rest → IsItemRead p (words_of line) (Ok i) → TakesLine p bytes i rest
taken p bytes line rest i f h = record { line = line; first = f; says = record { words = h.0.spelled; proper = h.0.proper }; within = h.1; fits = h.2 }

pub too_large : (p : Part) (bytes line rest : List ℕ) → IsFirstLine bytes line rest → IsItemRead p (words_of line) (Err TooLarge) → IsLineFault p bytes (error.Fault kind.TooLarge)
too_large p bytes line rest f h = λ due. record {
  line = line;
  more = rest;
  first = f;
  item = h.0;
  says = record { words = h.1.spelled; proper = h.1.proper };
  next = (h.2 due).0;
  fits = (h.2 due).1;
  past = h.3;
}

-- a part's line, by its letters or by its first word
pub arm_letters : (part p : Part) (a text : List ℕ) (words left : List (List ℕ)) (r : Result LineItem LineFault) → part ≡ p → first_words p ≡ a ∷ [] → is_begun part text ≡ true → words ≡ words_of text → left ≡ later words
    → IsItemRead p (a ∷ left) r → IsItemRead part (words_of text) r
arm_letters part p a text words left r e w b f g h =
    subst (λ q. IsItemRead q (words_of text) r) (sym e) (by_letters p a text left r w (subst (λ q. is_begun q text ≡ true) e b) (g ∙ ap later f) h)

pub arm_word : (part p : Part) (text word : List ℕ) (words left : List (List ℕ)) (r : Result LineItem LineFault) → part ≡ p → words ≡ words_of text → word ≡ first_of words → left ≡ later words → IsItemRead p (word ∷ left) r
    → IsItemRead part (words_of text) r
arm_word part p text word words left r e f g k h = subst (λ q. IsItemRead q (words_of text) r) (sym e) (by_word p text word left r (g ∙ ap first_of f) (k ∙ ap later f) h)

pub arm_due : (part p : Part) (text word : List ℕ) (words : List (List ℕ)) → part ≡ p → words ≡ words_of text → word ≡ first_of words → is_begun part text ≡ true → list_any (λ w. bytes_eq word w) (first_words p) ≡ true
arm_due part p text word words e f g b = due_word p text word (g ∙ ap first_of f) (subst (λ q. is_begun q text ≡ true) e b)
