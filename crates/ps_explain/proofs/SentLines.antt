-- Lines of an explanation, written one after another.
use Rattle.std.proofs.Common.{◌≡◌, ℕ, zero, suc, ◌+◌, ◌<◌, ℤ, pos, List, [], ◌∷◌, ◌++◌, length, take, drop, get_or, All, Result, Ok, Err, refl, sym, ap, ◌∙◌, subst, arith, append_assoc}
use Rattle.std.specs.Result.{IsErr}
use Rattle.std.proofs.lemmas.List.{append-nil}
use Rattle.std.proofs.lemmas.List.Elements.{All-head, All-tail}
use Rattle.ps_io.specs.declared.lines.Lines.{Lines}
use Rattle.ps_io.specs.declared.sink.Sink.{Ghosts}
use Rattle.ps_io.specs.declared.sink.WriteFault.{WriteFault}
use Rattle.ps_io.specs.LineText.{with_word}
use Rattle.ps_io.specs.Lines.{text_of}
use Rattle.ps_io.specs.Wrote.{Wrote}
use Rattle.ps_io.proofs.Wrote.{wrote-none, wrote-then, wrote-stop}
use Rattle.ps_log.specs.Lines.{HoldsLine, AddsNumbers}
use Rattle.ps_log.specs.Texts.{with_number, with_numbers}
use Rattle.ps_log.proofs.ManyNumbers.{first_short, grows_all, holds_more}
use Rattle.ps_answer.specs.declared.answer.Model.{Model}
use Rattle.ps_answer.specs.Answers.{model_items}
use Rattle.ps_report.specs.Parts.{AreShort}
use Rattle.ps_explain.specs.Texts.{models_lines, without_lines, numbers_line, number_list, IsShortList}

module _ {O : Type 0} (sink : Ghosts O) where
  -- no line
  pub lines_none : (a : Lines O) → text_of a ≡ [] → Wrote {E = WriteFault} sink.written sink.faults a a (Ok tt) []
  lines_none a h = wrote-none {E = WriteFault} sink.written sink.faults a h

  -- some lines, and then others
  pub lines_then : (a b c : Lines O) (r : Result (Unit {0}) WriteFault) (xs ys : List (List ℕ)) → Wrote {E = WriteFault} sink.written sink.faults a b (Ok tt) xs
      → Wrote sink.written sink.faults b c r ys → Wrote sink.written sink.faults a c r (xs ++ ys)
  lines_then a b c r xs ys p q = wrote-then sink.written sink.faults a b c r xs ys p q

  -- a fault within some lines is one within them and what follows
  pub lines_stop : (a b : Lines O) (e : WriteFault) (s : Result (Unit {0}) WriteFault) (xs ys : List (List ℕ)) → Wrote sink.written sink.faults a b (Err e) xs → IsErr s
      → Wrote sink.written sink.faults a b s (xs ++ ys)
  lines_stop a b e s xs ys p h = wrote-stop sink.written sink.faults a b e s xs ys p h

-- ---- models
models_take : (ns : List ℕ) (ms : List Model) (i : ℕ) (d : ℕ) (e : Model) → length ns ≡ length ms → i < length ns
    → models_lines (take (suc i) ns) (take (suc i) ms) ≡ models_lines (take i ns) (take i ms) ++ without_lines (get_or ns i d) (get_or ms i e)
models_take [] ms i d e same lt = absurd (omega (arith, lt))
models_take (n ∷ ns) [] i d e same lt = absurd (omega (arith, same))
models_take (n ∷ ns) (m ∷ ms) zero d e same lt = append-nil (without_lines n m)
models_take (n ∷ ns) (m ∷ ms) (suc i) d e same lt =
    ap (λ xs. without_lines n m ++ xs) (models_take ns ms i d e (omega (arith, same)) (omega (arith, lt)))
    ∙ sym (append_assoc (without_lines n m) (models_lines (take i ns) (take i ms)) (without_lines (get_or ns i d) (get_or ms i e)))

models_at : (ns : List ℕ) (ms : List Model) (i : ℕ) (d : ℕ) (e : Model) → length ns ≡ length ms → i < length ns
    → models_lines ns ms
    ≡ (models_lines (take i ns) (take i ms) ++ without_lines (get_or ns i d) (get_or ms i e)) ++ models_lines (drop (suc i) ns) (drop (suc i) ms)
models_at [] ms i d e same lt = absurd (omega (arith, lt))
models_at (n ∷ ns) [] i d e same lt = absurd (omega (arith, same))
models_at (n ∷ ns) (m ∷ ms) zero d e same lt = refl
models_at (n ∷ ns) (m ∷ ms) (suc i) d e same lt =
    ap (λ xs. without_lines n m ++ xs) (models_at ns ms i d e (omega (arith, same)) (omega (arith, lt)))
    ∙ sym (append_assoc (without_lines n m) (models_lines (take i ns) (take i ms) ++ without_lines (get_or ns i d) (get_or ms i e)) (models_lines (drop (suc i) ns) (drop (suc i) ms)))
    ∙ ap (λ xs. xs ++ models_lines (drop (suc i) ns) (drop (suc i) ms))
    (sym (append_assoc (without_lines n m) (models_lines (take i ns) (take i ms)) (without_lines (get_or ns i d) (get_or ms i e))))

pub short_model : (ms : List Model) (i : ℕ) (e : Model) → i < length ms → All (λ m. AreShort (model_items m)) ms → AreShort (model_items (get_or ms i e))
short_model [] i e lt all = absurd (omega (arith, lt))
short_model (m ∷ ms) zero e lt all = All-head (λ m. AreShort (model_items m)) m ms all
short_model (m ∷ ms) (suc i) e lt all = short_model ms i e (omega (arith, lt)) (All-tail (λ m. AreShort (model_items m)) m ms all)

module _ {O : Type 0} (sink : Ghosts O) (ns : List ℕ) (ms : List Model) (i d : ℕ) (e : Model) (same : length ns ≡ length ms) (lt : i < length ns) (a b c : Lines O)
    (p : Wrote {E = WriteFault} sink.written sink.faults a b (Ok tt) (models_lines (take i ns) (take i ms))) where
  -- a turn of the loop over models
  pub models_turn : Wrote {E = WriteFault} sink.written sink.faults b c (Ok tt) (without_lines (get_or ns i d) (get_or ms i e))
      → Wrote {E = WriteFault} sink.written sink.faults a c (Ok tt) (models_lines (take (i + 1) ns) (take (i + 1) ms))
  models_turn q =
      subst (λ k. Wrote {E = WriteFault} sink.written sink.faults a c (Ok tt) (models_lines (take k ns) (take k ms))) (one_more i)
      (subst (λ xs. Wrote {E = WriteFault} sink.written sink.faults a c (Ok tt) xs) (sym (models_take ns ms i d e same lt))
      (lines_then sink a b c (Ok tt) (models_lines (take i ns) (take i ms)) (without_lines (get_or ns i d) (get_or ms i e)) p q))
    where
      one_more : (i : ℕ) → suc i ≡ i + 1
      one_more i = omega arith

  -- a turn that stops
  pub models_fault : (f : WriteFault) (s : Result (Unit {0}) WriteFault) → Wrote sink.written sink.faults b c (Err f) (without_lines (get_or ns i d) (get_or ms i e)) → IsErr s
      → Wrote sink.written sink.faults a c s (models_lines ns ms)
  models_fault f s q h =
      subst (λ xs. Wrote sink.written sink.faults a c s xs) (sym (models_at ns ms i d e same lt))
      (lines_stop sink a c f s (models_lines (take i ns) (take i ms) ++ without_lines (get_or ns i d) (get_or ms i e)) (models_lines (drop (suc i) ns) (drop (suc i) ms))
      (lines_then sink a b c (Err f) (models_lines (take i ns) (take i ms)) (without_lines (get_or ns i d) (get_or ms i e)) p q) h)

-- ---- lists of numbers
pub word_short : (word : List ℕ) (ns : List ℕ) → IsShortList word ns → length word < 65536
word_short word ns h = omega (arith, grows_all word (pos (length ns) ∷ number_list ns), h)

count_short : (word : List ℕ) (ns : List ℕ) → IsShortList word ns → length (with_numbers word (pos (length ns) ∷ [])) < 65536
count_short word ns h = first_short word (pos (length ns) ∷ []) (number_list ns) h

pub count_fits : (start text word ns : List ℕ) (n : ℤ) → text ≡ with_word start word → start ≡ [] → n ≡ pos (length ns) → IsShortList word ns → length (with_numbers text (n ∷ [])) < 65536
count_fits start text word ns n line empty is h =
    subst (λ t. length (with_numbers t (n ∷ [])) < 65536) (sym (line ∙ ap (λ s. with_word s word) empty))
    (subst (λ (z : ℤ). length (with_numbers word (z ∷ [])) < 65536) (sym is) (count_short word ns h))

pub list_made : {O : Type 0} (a b c d : Lines O) (word ns : List ℕ) → HoldsLine a b word → AddsNumbers b c (pos (length ns) ∷ []) → AddsNumbers c d (number_list ns)
    → HoldsLine a d (numbers_line word ns)
list_made a b c d word ns p q r =
    holds_more (λ t. with_numbers t (number_list ns)) a c d (with_number word (pos (length ns)))
    (holds_more (λ t. with_numbers t (pos (length ns) ∷ [])) a b c word p q) r
