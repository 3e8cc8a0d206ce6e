-- The values of a draft's items.
use Rattle.std.proofs.Common.{◌≡◌, ℕ, ◌<◌, ◌≤◌, List, length, Option, Some, None, IfSome, map, All, sym, subst, arith}
use Rattle.std.specs.Prelude.{option_map}
use Rattle.std.proofs.lemmas.List.{length-map}
use Rattle.std.proofs.lemmas.List.Elements.{All-map, All-weaker}
use Rattle.ps_meaning.specs.Formula.{Formula}
use Rattle.ps_meaning.specs.Formula as formula
use Rattle.ps_meaning.specs.Statements.{Name}
use Rattle.ps_problem.specs.declared.draft_item.DraftItem.{DraftItem}
use Rattle.ps_problem.specs.declared.draft_item.DraftItem.TheVariants as item
use Rattle.ps_problem.specs.declared.mark.Mark.{Mark}
use Rattle.ps_problem.specs.declared.span.Span.{Span}
use Rattle.ps_text.specs.Canonical.{canonical_nesting, IsReducedWeight}
use Rattle.ps_text.specs.declared.limits.TheConstants.{MOST_TERMS}
use Rattle.ps_problem.specs.declared.limits.TheConstants.{MOST_NESTING}
use Rattle.ps_problem.specs.Drafts.{HasReducedValues, IsNested, signed_of, summand_at, IsDraftTerm, formula_at}
use Rattle.ps_problem.specs.DraftLists.{item_of, IsDraftItem, IsSpan, spelled}

reduced-item : (fs : List (Formula Name)) (n : ℕ) (e : DraftItem) → IsDraftItem n e → HasReducedValues (item_of fs e)
reduced-item fs n (item.Sentence s) h = (h.1, h.2)
reduced-item fs n (item.Linear s) h = record {
  some = subst (λ k. 1 ≤ k) (sym (length-map s.terms (summand_at fs))) h.some;
  few = subst (λ k. k ≤ MOST_TERMS) (sym (length-map s.terms (summand_at fs))) h.few;
  coefficients = All-map (λ u. IsReducedWeight u.coefficient) (summand_at fs) s.terms (All-weaker (IsDraftTerm n) (λ t. IsReducedWeight (signed_of t.coefficient)) (λ t i. i.coefficient) s.terms h.terms);
  value = h.value;
  upper = h.upper;
}
reduced-item fs n (item.Query q) h = tt

pub reduced-items : (fs : List (Formula Name)) (n : ℕ) (es : List DraftItem) → All (IsDraftItem n) es → All HasReducedValues (map (item_of fs) es)
reduced-items fs n es h = All-map HasReducedValues (item_of fs) es (All-weaker (IsDraftItem n) (λ e. HasReducedValues (item_of fs e)) (reduced-item fs n) es h)

-- the canonical spellings of an item's formulas nest within the limit where those of the formulas do
module _ (fs : List (Formula Name)) (n : ℕ) (all : All (λ f. canonical_nesting f ≤ MOST_NESTING) fs) (many : length fs ≡ n) where
  nested-at : (i : ℕ) → i < n → canonical_nesting (formula_at fs i) ≤ MOST_NESTING
  nested-at i lt = all i formula.Truth (omega (arith, lt, many))

  nested-given : (g : Option ℕ) → IfSome g (λ i. i < n) → IfSome (option_map (formula_at fs) g) (λ f. canonical_nesting f ≤ MOST_NESTING)
  nested-given None h = tt
  nested-given (Some g) h = nested-at g h

  nested-item : (e : DraftItem) → IsDraftItem n e → IsNested (item_of fs e)
  nested-item (item.Sentence s) h = (nested-at s.formula h.0.0, nested-given s.given h.0.1)
  nested-item (item.Linear s) h = All-map (λ u. canonical_nesting u.formula ≤ MOST_NESTING) (summand_at fs) s.terms
      (All-weaker (IsDraftTerm n) (λ t. canonical_nesting (formula_at fs t.formula) ≤ MOST_NESTING) (λ t i. nested-at t.formula i.formula) s.terms h.terms)
  nested-item (item.Query q) h = (nested-at q.formula h.0, nested-given q.given h.1)

pub nested-items : (names : List Name) (ms : List Mark) (ended : ℕ) (spans : List Span) (es : List DraftItem)
    → All (IsSpan names ms ended) spans → All (IsDraftItem (length spans)) es → All IsNested (map (item_of (map (spelled names ms) spans)) es)
nested-items names ms ended spans es h k =
    let fs = map (spelled names ms) spans in
    let all : All (λ f. canonical_nesting f ≤ MOST_NESTING) (map (spelled names ms) spans) =
    All-map (λ f. canonical_nesting f ≤ MOST_NESTING) (spelled names ms) spans (All-weaker (IsSpan names ms ended) (λ s. canonical_nesting (spelled names ms s) ≤ MOST_NESTING) (λ s i. i.nesting) spans h) in
    All-map IsNested (item_of fs) es (All-weaker (IsDraftItem (length spans)) (λ e. IsNested (item_of fs e)) (nested-item fs (length spans) all (length-map spans (spelled names ms))) es k)
