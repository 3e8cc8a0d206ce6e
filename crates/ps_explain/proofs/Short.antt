-- The lines of an explanation are short enough to be written.
use Rattle.std.proofs.Common.{◌≡◌, ◌+◌, ◌*◌, ◌≤◌, ℕ, suc, pos, ◌≤ℤ◌, Bool, true, false, None, List, [], ◌∷◌, ◌++◌, codes, length, map, All, Result, Ok, Err, IfOk, inr, refl, sym, ap, ◌∙◌, subst, arith}
use Rattle.std.specs.List.{AllByRecursion, AllZip}
use Rattle.std.specs.Fmt.{signed_decimal}
use Rattle.std.proofs.lemmas.Fmt.{length-decimal-le_wide}
use Rattle.std.proofs.lemmas.Int.{ints}
use Rattle.std.proofs.lemmas.List.{length-map}
use Rattle.std.proofs.lemmas.List.Elements.{All-nil, All-cons, All-head, All-tail}
use Rattle.std.proofs.lemmas.Slice.Zip.{AllZip-long}
use Rattle.ps_io.proofs.WordLemmas.{length-with_word}
use Rattle.ps_io.specs.declared.no_memory.NoMemory.{NoMemory}
use Rattle.ps_log.specs.Texts.{with_number, with_numbers}
use Rattle.ps_problem.specs.Problems.{Parts, AreParts, bounds_of, bounds_in, bound_of}
use Rattle.ps_table.specs.declared.event.Event.{Event}
use Rattle.ps_answer.specs.declared.item.LineItem.{LineItem}
use Rattle.ps_answer.specs.declared.item.LineItem.TheVariants as line
use Rattle.ps_answer.specs.declared.answer.Answer.{Answer}
use Rattle.ps_answer.specs.declared.answer.Cause.{Cause}
use Rattle.ps_answer.specs.declared.answer.Dual.{Dual}
use Rattle.ps_answer.specs.declared.answer.Model.{Model}
use Rattle.ps_answer.specs.declared.answer.Verdict.TheVariants as verdict
use Rattle.ps_answer.specs.Answers.{answer_items, cause_items, dual_items, model_items, trace_items}
use Rattle.ps_claims.specs.Answers.{ShowsConsistent}
use Rattle.ps_claims.specs.declared.claim_kind.ClaimKind.TheVariants.{Nothing}
use Rattle.ps_claims.specs.Certificates.{model_of}
use Rattle.ps_runs.specs.Kept.{kept_parts}
use Rattle.ps_runs.proofs.Kept.{parts-kept}
use Rattle.ps_claims.specs.Printed.{IsPrintedModel, IsPrintedDual, IsPrintedCause, IsPrintedPart}
use Rattle.ps_valid.proofs.ShortLines.{short_line}
use Rattle.ps_report.specs.Parts.{AreShort}
use Rattle.ps_query.proofs.Models.{IsFit, fit_model}
use Rattle.ps_query.proofs.Duals.{fit_dual}
use Rattle.ps_query.proofs.Reports.{all_short}
use Rattle.ps_runs.specs.declared.limits.Limits.{Limits}
use Rattle.ps_generation.specs.Phases.{AreLimits}
use Rattle.ps_explain.specs.declared.explained.Explained.{Explained}
use Rattle.ps_explain.specs.declared.explained.Explained.TheVariants as explained
use Rattle.ps_explain.specs.Explanations.{places_from, numbers_of, without, IsModelWithout, IsOpen, IsRightExplanation, IsPrintedExplanation, IsExplanation, IsShownBy}
use Rattle.ps_explain.specs.Texts.{number_list, IsShortList, HasShortLines}
use Rattle.ps_explain.proofs.Parts.{few_sentences}

-- ---- lists of numbers
number_length : (n : ℕ) → n ≤ 1000 → length (signed_decimal (pos n)) ≤ 4
number_length n h = omega (arith, length-decimal-le_wide 4 n (omega arith) (omega (arith, h)) (omega (arith, h)))

places_length : (text : List ℕ) (n : ℕ) (ks : List Bool) → n + length ks ≤ 1000
    → length (with_numbers text (number_list (map suc (places_from n ks)))) ≤ length text + 5 * length ks
places_length text n [] h = omega arith
places_length text n (false ∷ ks) h = omega (arith, places_length text (suc n) ks (omega (arith, h)))
places_length text n (true ∷ ks) h =
    omega (
      arith,
      number_length (suc n) (omega (arith, h)),
      length-with_word text (signed_decimal (pos (suc n))),
      places_length (with_number text (pos (suc n))) (suc n) ks (omega (arith, h)),
    )

few_places : (n : ℕ) (ks : List Bool) → length (map suc (places_from n ks)) ≤ length ks
few_places n [] = omega arith
few_places n (false ∷ ks) = omega (arith, few_places (suc n) ks)
few_places n (true ∷ ks) = omega (arith, few_places (suc n) ks)

short_numbers : (word : List ℕ) (kept : List Bool) → length word ≤ 100 → length kept ≤ 100 → IsShortList word (numbers_of kept)
short_numbers word kept brief few =
    let count = length (numbers_of kept) in
    let fewer : count ≤ length kept = few_places 0 kept in
    omega (
      arith,
      few,
      brief,
      number_length count (omega (arith, fewer, few)),
      length-with_word word (signed_decimal (pos count)),
      places_length (with_number word (pos count)) 0 kept (omega (arith, few)),
    )

-- ---- items
fit_short : (is : List LineItem) → AllByRecursion IsFit is → AreShort is
fit_short [] h = tt
fit_short (i ∷ is) h = (short_line i h.0.1, fit_short is h.1)

short_first : (xs ys : List LineItem) → AreShort (xs ++ ys) → AreShort xs
short_first [] ys h = tt
short_first (x ∷ xs) ys h = (h.0, short_first xs ys h.1)

short_rest : (xs ys : List LineItem) → AreShort (xs ++ ys) → AreShort ys
short_rest [] ys h = h
short_rest (x ∷ xs) ys h = short_rest xs ys h.1

module _ (p : Parts) (are : AreParts p) where
  short_model : (m : Model) → ShowsConsistent (length p.names) (bounds_of p) (model_of m) → IsPrintedModel m → AreShort (model_items m)
  short_model m shows printed =
      let long = length-map (bounds_in p.sentences) (bound_of p.nodes) in
      let few = are.few_bounds in
      fit_short (model_items m)
      (fit_model (length p.names) (bounds_of p) m are.few_atoms (omega (arith, long, few)) shows.model.distribution shows.basic printed)

  short_dual : (kept : List Bool) (d : Dual) → IsShownBy p kept d → IsPrintedDual d → AreShort (dual_items d)
  short_dual kept d by printed =
      let least : pos 0 ≤ℤ d.top = (let e = by.shown.head.top in omega (arith, ints, e)) in
      fit_short (dual_items d) (fit_dual p are Nothing None 0 tt (λ other. absurd (other refl)) d least by.shown.refuted printed)

  -- the lines of an open run
  short_open : (limits : Limits) (cause : Cause) (events : List Event) → AreLimits limits → IsOpen limits p cause events → IsPrintedCause cause
      → AreShort (cause_items cause) × AreShort (trace_items events)
  unfolding answer_items
  short_open limits cause events within lawful printed =
      let a : Answer = record { verdict = verdict.Open cause; first = events; parts = [] } in
      let all : AreShort (answer_items a) = all_short p limits a (record {
        parts = are;
        few_pivots = within.pivots;
        few_conflicts = within.conflicts;
        settled = record { verdict = inr lawful; parts = tt };
        valid = record { verdict = tt; parts = tt };
        printed = record { verdict = printed; parts = All-nil (λ part. IsPrintedPart part.answer) };
      }) in
      let rest = trace_items events ++ line.End ∷ [] in
      (short_first (cause_items cause) rest all.1, short_first (trace_items events) (line.End ∷ []) (short_rest (cause_items cause) rest all.1))

short_models : (p : Parts) (kept : List Bool) (places : List ℕ) (ms : List Model) → AreParts p → AllZip (IsModelWithout p kept) places ms → All IsPrintedModel ms
    → All (λ m. AreShort (model_items m)) ms
short_models p kept [] [] are each printed = All-nil (λ m. AreShort (model_items m))
short_models p kept [] (m ∷ ms) are each printed = absurd each
short_models p kept (i ∷ is) [] are each printed = absurd each
short_models p kept (i ∷ is) (m ∷ ms) are each printed =
    All-cons (λ m. AreShort (model_items m)) m ms
    (short_model (kept_parts (without kept i) p) (parts-kept (without kept i) p are) m each.0 (All-head IsPrintedModel m ms printed))
    (short_models p kept is ms are each.1 (All-tail IsPrintedModel m ms printed))

-- ---- explanations
few_kept : (p : Parts) (kept : List Bool) → AreParts p → length kept ≡ length p.sentences → length kept ≤ 100
few_kept p kept are e = omega (arith, e, few_sentences p are)

short_lines : (limits : Limits) (p : Parts) (e : Explained) → AreParts p → AreLimits limits → IsRightExplanation limits p e → IsPrintedExplanation e → HasShortLines e
short_lines limits p (explained.Consistent m) are within right printed = short_model p are m right printed
short_lines limits p (explained.Core ns d ms) are within right printed =
    let kept = right.kept in record {
      each = ap length right.named ∙ length-map (places_from 0 kept) suc ∙ sym (AllZip-long (IsModelWithout p kept) (places_from 0 kept) ms right.needed);
      list = subst (IsShortList (codes "core")) (sym right.named) (short_numbers (codes "core") kept (omega arith) (few_kept p kept are right.choice));
      dual = short_dual p are kept d right.shown printed.0;
      models = short_models p kept (places_from 0 kept) ms are right.needed printed.1;
    }
short_lines limits p (explained.Open ns cause events) are within right printed =
    let kept = right.kept in
    let run = short_open (kept_parts kept p) (parts-kept kept p are) limits cause events within right.lawful printed in
    record {
      cause_lines = run.0;
      list = subst (IsShortList (codes "sentences")) (sym right.named) (short_numbers (codes "sentences") kept (omega arith) (few_kept p kept are right.choice));
      events_lines = run.1;
    }

-- ---- what is found, if there is memory
module _ (limits : Limits) (p q : Parts) (r : Result Explained NoMemory) (same : q ≡ p) (h : IfOk r (IsExplanation limits q)) where
  at_p : IfOk r (IsExplanation limits p)
  at_p = subst (λ x. IfOk r (IsExplanation limits x)) same h

pub found_right : (limits : Limits) (p q : Parts) (r : Result Explained NoMemory) → q ≡ p → IfOk r (IsExplanation limits q) → IfOk r (IsRightExplanation limits p)
found_right limits p q (Ok e) same h = (at_p limits p q (Ok e) same h).right
found_right limits p q (Err f) same h = tt

pub found_printed : (limits : Limits) (p q : Parts) (r : Result Explained NoMemory) → q ≡ p → IfOk r (IsExplanation limits q) → IfOk r IsPrintedExplanation
found_printed limits p q (Ok e) same h = (at_p limits p q (Ok e) same h).printed
found_printed limits p q (Err f) same h = tt

pub found_short : (limits : Limits) (p q : Parts) (r : Result Explained NoMemory) → q ≡ p → AreParts p → AreLimits limits → IfOk r (IsExplanation limits q) → IfOk r HasShortLines
found_short limits p q (Ok e) same are within h =
    let at = at_p limits p q (Ok e) same h in
    short_lines limits p e are within at.right at.printed
found_short limits p q (Err f) same are within h = tt
