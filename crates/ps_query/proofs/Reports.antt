-- The lines of what a run answers.
use Rattle.ps_runs.specs.declared.limits.Limits.{Limits}
use Rattle.std.proofs.Common.{◌≡◌, ℕ, suc, ◌+◌, ◌<◌, ◌≤◌, false, List, [], ◌∷◌, ◌++◌, length, map, sum, All, inl, inr, refl, subst, arith}
use Rattle.std.specs.List.{AllByRecursion, AllZip}
use Rattle.std.proofs.lemmas.List.Elements.{All-head, All-tail}
use Rattle.std.proofs.lemmas.List.Sums.{sum_by-cons}
use Rattle.ps_problem.specs.declared.query.Query.{Query}
use Rattle.ps_problem.specs.Problems.{Parts, HasNodes}
use Rattle.ps_answer.specs.declared.item.LineItem.{LineItem}
use Rattle.ps_answer.specs.declared.item.LineItem.TheVariants as line
use Rattle.ps_answer.specs.declared.answer.Verdict.{Verdict}
use Rattle.ps_answer.specs.declared.answer.Verdict.TheVariants.{Consistent, Inconsistent, Open}
use Rattle.ps_answer.specs.declared.answer.QueryPart.{QueryPart}
use Rattle.ps_answer.specs.declared.answer.Answer.{Answer}
use Rattle.ps_answer.specs.Items.{IsTold, HasShortNumbers, item_line}
use Rattle.ps_answer.proofs.WrittenItems.{short_within, short_text}
use Rattle.ps_answer.specs.Faults.{IsText}
use Rattle.ps_io.specs.LineText.{lines_bytes}
use Rattle.ps_answer.specs.declared.limits.TheConstants.{MOST_OPERAND, MOST_PIVOTS, MOST_QUERIES, MOST_WORLD}
use Rattle.ps_table.specs.declared.limits.TheConstants.{MOST_ROWS}
use Rattle.ps_io.specs.declared.limits.TheConstants.{LONGEST_LINE}
use Rattle.ps_answer.specs.Answers.{ratio_of, verdict_items, trace_items, query_items, part_items, answer_items, answer_lines}
use Rattle.ps_claims.specs.Claims.{open_in_part, unfinished_of}
use Rattle.ps_claims.specs.Validity.{IsValidPart}
use Rattle.ps_claims.specs.Answers.{asked_under}
use Rattle.ps_runs.specs.Verdicts.{asked_after}
use Rattle.ps_claims.specs.Printed.{IsPrintedPart}
use Rattle.ps_valid.specs.Answers.{verdict_of, part_of, parts_of, answer_of}
use Rattle.ps_valid.proofs.ShortLines.{short_line}
use Rattle.ps_query.specs.Laws.{IsAnswered, NamesFewWorlds}
use Rattle.ps_query.specs.Settled.{IsSettledPart}
use Rattle.ps_query.proofs.All.{both, by_recursion}
use Rattle.ps_query.proofs.Models.{IsFit}
use Rattle.ps_query.proofs.Places.{place_more, place_within}
use Rattle.ps_query.proofs.ShortPlaces.{wide_short}
use Rattle.ps_query.proofs.ShortNumbers.{told_of, wide_numbers}
use Rattle.ps_query.proofs.Causes.{AreLimits, AreLines, operand_proper, operand_within}
use Rattle.ps_query.proofs.Sides.{verdict_fit, query_fit}
use Rattle.ps_query.proofs.CountedCauses.{settled_counted}

HasItsNodes : Parts → Query → Type 0
HasItsNodes p q = HasNodes p.nodes q.formula q.given q.both

pub asked_same : (v : Verdict) (qs : List Query) → asked_under (verdict_of v) qs ≡ asked_after v qs
asked_same (Consistent m) qs = refl
asked_same (Inconsistent d) qs = refl
asked_same (Open cause) qs = refl

asked_nodes : (p : Parts) (v : Verdict) (qs : List Query) → All (λ q. HasNodes p.nodes q.formula q.given q.both) qs → AllByRecursion (HasItsNodes p) (asked_after v qs)
unfolding HasItsNodes
asked_nodes p (Consistent m) qs h = by_recursion (λ q. HasNodes p.nodes q.formula q.given q.both) qs h
asked_nodes p (Inconsistent d) qs h = tt
asked_nodes p (Open cause) qs h = tt

asked_few : (v : Verdict) (qs : List Query) → length (asked_after v qs) ≤ length qs
asked_few (Consistent m) qs = omega arith
asked_few (Inconsistent d) qs = omega arith
asked_few (Open cause) qs = omega arith

module _ (p : Parts) (limits : Limits) (within : AreLimits p limits) (Q : LineItem → Type 0) (AnyOpen : Type 0) (lines : AreLines limits.pivots Q AnyOpen) where
  parts_fit : (j : ℕ) (qs : List Query) (parts : List QueryPart) → AllZip (IsSettledPart p limits) qs parts → AllZip (IsValidPart p) qs (parts_of parts)
      → All (λ part. IsPrintedPart part.answer) parts → AllByRecursion (HasItsNodes p) qs → j + length qs ≤ MOST_QUERIES + 1 → (0 < sum (map open_in_part (parts_of parts)) → AnyOpen)
      → AllByRecursion Q (part_items j parts)
  unfolding HasItsNodes
  parts_fit j [] [] h valid printed nodes few if_open = tt
  parts_fit j [] (x ∷ xs) h valid printed nodes few if_open = absurd h
  parts_fit j (q ∷ qs) [] h valid printed nodes few if_open = tt
  parts_fit j (q ∷ qs) (x ∷ xs) h valid printed nodes few if_open =
      let all : sum (map open_in_part (parts_of (x ∷ xs))) ≡ open_in_part (part_of x.answer) + sum (map open_in_part (parts_of xs)) = sum_by-cons (λ k. k) (open_in_part (part_of x.answer)) (map open_in_part (parts_of xs)) in (
        lines.fit (line.Query j) (tt, omega (arith, few)),
        both Q (query_items x.answer x.first) (part_items (suc j) xs)
            (query_fit p limits within Q AnyOpen lines q nodes.0 x.first x.answer h.0 valid.0 (All-head (λ part. IsPrintedPart part.answer) x xs printed) (λ k. if_open (omega (arith, all, k))))
            (parts_fit (suc j) qs xs h.1 valid.1 (All-tail (λ part. IsPrintedPart part.answer) x xs printed) nodes.1 (omega (arith, few)) (λ k. if_open (omega (arith, all, k)))),
      )

  pub answer_fit : (a : Answer) → IsAnswered p limits a → (0 < unfinished_of (answer_of a) → AnyOpen) → AllByRecursion Q (answer_items a)
  unfolding answer_items
  answer_fit a h if_open =
      let qs = asked_after a.verdict p.queries in
      let few = within.parts.few_queries in
      let asked = asked_few a.verdict p.queries in
      let valid = subst (λ xs. AllZip (IsValidPart p) xs (parts_of a.parts)) (asked_same a.verdict p.queries) h.valid.parts in
      let verdict = verdict_fit p limits within Q AnyOpen lines a.verdict a.first h.settled.verdict h.valid.verdict h.printed.verdict (λ k. if_open (omega (arith, k))) in (
        lines.fit line.Report (tt, tt),
        both Q (verdict_items a.verdict) (trace_items a.first ++ (part_items 1 a.parts ++ line.End ∷ []))
            verdict.0
            (both Q (trace_items a.first) (part_items 1 a.parts ++ line.End ∷ []) verdict.1
            (both Q (part_items 1 a.parts) (line.End ∷ [])
            (parts_fit 1 qs a.parts h.settled.parts valid h.printed.parts (asked_nodes p a.verdict p.queries within.parts.queries) (omega (arith, few, asked)) (λ k. if_open (omega (arith, k))))
            (lines.fit line.End (tt, tt), tt))),
      )

-- ---- the laws
module _ (p : Parts) (limits : Limits) (a : Answer) (h : IsAnswered p limits a) where
  limits_are : AreLimits p limits
  limits_are = record { parts = h.parts; few_pivots = h.few_pivots; few_conflicts = h.few_conflicts }

  few_open : limits.pivots < MOST_PIVOTS → AreLines limits.pivots IsFit (Unit {0})
  few_open few = record {
    fit = λ i k. k;
    wide = λ _ at under printed. (
      (operand_proper at.left MOST_OPERAND, operand_proper at.right MOST_OPERAND),
      (place_within MOST_ROWS (limits.pivots + 2) at.place (omega arith) (omega (arith, few)) under, operand_within at.left printed.left, operand_within at.right printed.right),
    );
  }

  none_open : AreLines limits.pivots IsFit ⊥
  none_open = record { fit = λ i k. k; wide = λ if_open at under printed. absurd if_open }

  pub all_within : NamesFewWorlds limits.pivots a → AllByRecursion IsFit (answer_items a)
  all_within names = elim names [
    | inl few ↦ answer_fit p limits limits_are IsFit (Unit {0}) (few_open few) a h (λ k. tt)
    | inr none ↦ answer_fit p limits limits_are IsFit ⊥ none_open a h (λ k. absurd (omega (arith, none, k)))
  ]

  abbrev IsShort : LineItem → Type 0
  IsShort i = length (item_line i) < LONGEST_LINE

  any_open : AreLines limits.pivots IsShort (Unit {0})
  any_open = record {
    fit = λ i k. short_line i k.1;
    wide = λ _ at under printed.
        let most = h.few_pivots in
        wide_short MOST_ROWS at.place at.op (ratio_of at.left) (ratio_of at.right) (omega arith)
        (place_more MOST_ROWS MOST_ROWS (limits.pivots + 2) (MOST_WORLD + 1) at.place (omega arith) (omega (arith, most)) under) (operand_within at.left printed.left) (operand_within at.right printed.right);
  }

  pub all_short : AllByRecursion IsShort (answer_items a)
  all_short = answer_fit p limits limits_are IsShort (Unit {0}) any_open a h (λ k. tt)

  -- also past the limits
  abbrev IsSpellable : LineItem → Type 0
  IsSpellable i = IsTold i × HasShortNumbers i

  open_spellable : AreLines limits.pivots IsSpellable (Unit {0})
  open_spellable = record {
    fit = λ i k. (told_of i k.0, short_within i k.1);
    wide = λ _ at under printed.
        let most = h.few_pivots in (
          tt,
          wide_numbers MOST_ROWS (MOST_WORLD + 1) at.place at.op (ratio_of at.left) (ratio_of at.right) (omega arith) (omega arith)
              (place_more MOST_ROWS MOST_ROWS (limits.pivots + 2) (MOST_WORLD + 1) at.place (omega arith) (omega (arith, most)) under) (operand_within at.left printed.left) (operand_within at.right printed.right),
        );
  }

  pub all_spellable : AllByRecursion (λ i. IsTold i × HasShortNumbers i) (answer_items a)
  all_spellable = answer_fit p limits limits_are IsSpellable (Unit {0}) open_spellable a h (λ k. tt)

  -- so what is written is the answer's text, and that of no other
  pub written_text : IsText (lines_bytes false (answer_lines a)) a × ((b : Answer) → IsText (lines_bytes false (answer_lines a)) b → b ≡ a)
  written_text = short_text a (settled_counted p limits a h.settled) all_spellable
