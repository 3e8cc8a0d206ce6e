-- What is answered of the line of a step.
use Rattle.std.proofs.Common.{◌≡◌, ◌≢◌, ℕ, ℤ, true, List, [], ◌∷◌, map, Result, Ok, Err, None, refl, sym, ap, subst, ◌∙◌, arith, All}
use Rattle.std.specs.List.{list_all}
use Rattle.std.specs.Fmt.{signed_decimal}
use Rattle.ps_pb.specs.Steps.{Step}
use Rattle.ps_log.specs.Texts.{step_numbers, step_line}
use Rattle.ps_log.specs.Limits.{IsStepWithin}
use Rattle.ps_log.specs.Spellings.{words_of, SpellAll}
use Rattle.ps_log.specs.FirstLines.{IsLineAnswer}
use Rattle.ps_log.specs.StepTexts.{IsStepText, is_step_byte}
use Rattle.ps_log.specs.Numbers.{capped, AreNumbersOf, AreRead, AreParts, HasParts, HasNumbers, IsStepOf}
use Rattle.ps_log.specs.declared.line_error.LineError.{LineError}
use Rattle.ps_log.specs.declared.line_error.LineError.TheVariants.{Truncated, BadByte, NotCanonical, TooLarge, NoMemory}
use Rattle.ps_log.proofs.LineAnswers.{same_rest, words-text, text-starts, text-spells, text_bytes, line-fits, line-written, written-words_of, written-spelled, AreTexts}
use Rattle.ps_log.proofs.Reading.{step_small, step-one_line}
use Rattle.ps_log.proofs.Spelled.{spelled-unique}
use Rattle.ps_log.proofs.StepShapes.{Nonzero, step-by-numbers, step-parts, uncapped-step, uncapped-within, capped-parts, within-nonzero, within-fit, uncut}

s_is_letter : ◌≢◌ {A = ℕ} 115 32
s_is_letter e = omega (arith, e)

pub step-spells : (line text : List ℕ) (s : Step) → line ≡ 115 ∷ 32 ∷ text → IsStepText line s → SpellAll (words_of text) (step_numbers s.id s.lits s.hints)
step-spells line text s e t = text-spells 115 line text t.spellings (step_numbers s.id s.lits s.hints) s_is_letter e t.words t.spelled

-- a line without `s` and a space at its front
pub no-start : (line : List ℕ) → ((text : List ℕ) → line ≡ 115 ∷ 32 ∷ text → ⊥) → (s : Step) → IsStepText line s → ⊥
no-start line none s t = let r = text-starts 115 line t.spellings _ _ t.words t.spelled in none r.0 r.1

-- words that spell no numbers
pub no-numbers : (line text : List ℕ) → line ≡ 115 ∷ 32 ∷ text → AreRead text None → (s : Step) → IsStepText line s → ⊥
no-numbers line text e r s t = r (step_numbers s.id s.lits s.hints) (step-spells line text s e t)

exact-numbers : (line text : List ℕ) (numbers : List ℤ) (s : Step) → line ≡ 115 ∷ 32 ∷ text → AreNumbersOf (words_of text) numbers → IsStepText line s
    → numbers ≡ map capped (step_numbers s.id s.lits s.hints)
exact-numbers line text numbers s e r t =
    r.cut ∙ ap (map capped) (spelled-unique (words_of text) r.exact (step_numbers s.id s.lits s.hints) r.spelled (step-spells line text s e t))

-- numbers without the parts of a step
pub no-parts : (line text : List ℕ) (numbers : List ℤ) → line ≡ 115 ∷ 32 ∷ text → AreNumbersOf (words_of text) numbers → (HasParts numbers → ⊥)
    → (s : Step) → IsStepText line s → ⊥
no-parts line text numbers e r none s t =
    none (subst HasParts (sym (exact-numbers line text numbers s e r t)) (capped-parts s t.nonzero))

pub text-of : (line text : List ℕ) (s : Step) → line ≡ 115 ∷ 32 ∷ text → SpellAll (words_of text) (step_numbers s.id s.lits s.hints) → All Nonzero s.lits → IsStepText line s
text-of line text s e p h = record { spellings = words_of text; words = words-text 115 line text s_is_letter e; spelled = p; nonzero = h }

numbers-of : (s : Step) (id : ℤ) (lits hints : List ℤ) (numbers : List ℤ) → HasNumbers s id lits hints → AreParts numbers id lits hints → numbers ≡ step_numbers s.id s.lits s.hints
numbers-of s id lits hints numbers n p = p.is ∙ rw (← n.id_is, ← n.lits_are, ← n.hints_are) refl

-- the step that has the parts
pub step-answer : (line text : List ℕ) (numbers : List ℤ) (id : ℤ) (lits hints : List ℤ) (r : Result Step LineError) → line ≡ 115 ∷ 32 ∷ text
    → AreNumbersOf (words_of text) numbers → AreParts numbers id lits hints → IsStepOf id lits hints r → IsLineAnswer IsStepText IsStepWithin line r
step-answer line text numbers id lits hints (Ok s) e n p a =
    let ns : numbers ≡ step_numbers s.id s.lits s.hints = numbers-of s id lits hints numbers a.0 p in
    let same : n.exact ≡ step_numbers s.id s.lits s.hints = uncut n.exact (step_numbers s.id s.lits s.hints) (sym n.cut ∙ ns) (within-fit s a.1) in
    (text-of line text s e (subst (SpellAll (words_of text)) same n.spelled) (within-nonzero s a.1), a.1)
step-answer line text numbers id lits hints (Err Truncated) e n p a = absurd a
step-answer line text numbers id lits hints (Err BadByte) e n p a = absurd a
step-answer line text numbers id lits hints (Err NotCanonical) e n p a = absurd a
step-answer line text numbers id lits hints (Err TooLarge) e n p a =
    let whole = uncapped-step n.exact id lits hints (subst (λ ns. AreParts ns id lits hints) n.cut p) in
    let s = whole.step in
    let t : IsStepText line s = text-of line text s e (subst (SpellAll (words_of text)) whole.same n.spelled) whole.nonzero in
    (s, t, λ h. a s (step-parts numbers id lits hints s p whole.nonzero (n.cut ∙ ap (map capped) whole.same ∙ uncapped-within s h)) h)
step-answer line text numbers id lits hints (Err NoMemory) e n p a = tt

-- the bytes of a step's text
text-fits : (line : List ℕ) (s : Step) → IsStepText line s → list_all is_step_byte line ≡ true
text-fits line s t = line-fits is_step_byte (text_bytes 115) 115 line t.spellings (step_numbers s.id s.lits s.hints) refl t.words t.spelled

-- a line is the text of one step
text-unique : (line : List ℕ) (s q : Step) → IsStepText line s → IsStepText line q → s ≡ q
text-unique line s q t u =
    let same : t.spellings ≡ u.spellings = same_rest (115 ∷ []) (115 ∷ []) t.spellings u.spellings (sym t.words ∙ u.words) in
    step-by-numbers s q t.nonzero u.nonzero
    (spelled-unique u.spellings (step_numbers s.id s.lits s.hints) (step_numbers q.id q.lits q.hints) (subst (λ ws. SpellAll ws (step_numbers s.id s.lits s.hints)) same t.spelled) u.spelled)

-- the text of a step within the limits is its line
pub text-is-line : (line : List ℕ) (s : Step) → IsStepText line s → IsStepWithin s → line ≡ step_line s
unfolding step_line
text-is-line line s t h = line-written 115 line t.spellings (step_numbers s.id s.lits s.hints) t.words t.spelled (step_small s h)

-- the line of a step within the limits is its text
pub line-is-text : (s : Step) → IsStepWithin s → IsStepText (step_line s) s
unfolding step_line
line-is-text s h =
    let ns = step_numbers s.id s.lits s.hints in record {
      spellings = map signed_decimal ns;
      words = written-words_of 115 ns s_is_letter (step_small s h);
      spelled = written-spelled ns (step_small s h);
      nonzero = within-nonzero s h;
    }

pub step_texts : AreTexts is_step_byte IsStepText IsStepWithin step_line
step_texts = record { fit = text-fits; unique = text-unique; is_line = text-is-line; is_text = line-is-text; one_line = step-one_line }
