-- What a draft's lists hold after one more name, mark or formula.
use Rattle.std.proofs.Common.{◌≡◌, ℕ, ◌≤◌, Bool, true, false, List, [], ◌∷◌, ◌++◌, length, map, drop, get_or, All, refl, sym, ap, subst, ◌∙◌, arith, if◌then◌else◌}
use Rattle.std.specs.List.{list_any}
use Rattle.std.proofs.lemmas.List.{append-nil, length-append, length-map, map-append, drop-append-le, drop_all, take_rest, length_push}
use Rattle.std.proofs.lemmas.List.Elements.{All-append, All-push, All-weaker, All-drop, All-nil}
use Rattle.ps_meaning.specs.Formula.{Formula, Truth}
use Rattle.ps_meaning.specs.Statements.{Name}
use Rattle.ps_meaning.specs.Names.{IsName}
use Rattle.ps_problem.specs.declared.mark.Mark.{Mark}
use Rattle.ps_problem.specs.declared.span.Span.{Span}
use Rattle.ps_problem.specs.declared.draft_item.DraftItem.{DraftItem}
use Rattle.ps_problem.specs.Numbering.{same_name, with_new}
use Rattle.ps_text.specs.Canonical.{canonical_nesting}
use Rattle.ps_problem.specs.declared.limits.TheConstants.{MOST_NESTING}
use Rattle.ps_problem.specs.Drafts.{arity, NameBelow, with_name, with_mark, with_formula}
use Rattle.ps_problem.specs.DraftLists.{open_after, part, spelled, item_of, IsDraftItem, drafted, IsSpan, IsDraft}
use Rattle.ps_problem.specs.Numbering.{AreOnce}
use Rattle.ps_problem.proofs.NameLists.{same_name-true, same_name-refl}
use Rattle.ps_problem.proofs.Lists.{once-push}
use Rattle.ps_problem.proofs.Postfix.{standing-push, held-push, below-more, standing-more, held-more, part-push, map-same, item-more, draft_item-more}

same_spelled : (names : List Name) (ms ms' : List Mark) (spans : List Span) → All (λ s. part ms' s ≡ part ms s) spans → map (spelled names ms') spans ≡ map (spelled names ms) spans
same_spelled names ms ms' spans h = map-same (spelled names ms') (spelled names ms) spans
    (All-weaker (λ s. part ms' s ≡ part ms s) (λ s. spelled names ms' s ≡ spelled names ms s) (λ s e. ap (λ p. get_or (open_after names [] p) 0 Truth) e) spans h)

only : (fs : List (Formula Name)) → length fs ≡ 1 → fs ≡ get_or fs 0 Truth ∷ []
only [] e = absurd (omega arith)
only (f ∷ []) e = refl
only (f ∷ g ∷ fs) e = absurd (omega arith)

module _ (names : List Name) (ms : List Mark) (ended : ℕ) (spans : List Span) (items : List DraftItem) (h : IsDraft names ms ended spans items) where
  module _ (m : Mark) where
    parts-kept : All (λ s. part (ms ++ m ∷ []) s ≡ part ms s) spans
    parts-kept = All-weaker (IsSpan names ms ended) (λ s. part (ms ++ m ∷ []) s ≡ part ms s)
        (λ s k. part-push ms m s k.start (let e = k.end in let w = h.within in omega arith)) spans h.formulas

    rest-push : drop ended (ms ++ m ∷ []) ≡ drop ended ms ++ m ∷ []
    rest-push = drop-append-le ended ms (m ∷ []) h.within

    pub with_mark-is : drafted names (ms ++ m ∷ []) ended spans items ≡ with_mark (drafted names ms ended spans items) m
    with_mark-is = rw (rest-push, standing-push names [] (drop ended ms) m, same_spelled names ms (ms ++ m ∷ []) spans parts-kept) refl

    span-push : (s : Span) → IsSpan names ms ended s → IsSpan names (ms ++ m ∷ []) ended s
    span-push s k =
        let e : part (ms ++ m ∷ []) s ≡ part ms s = part-push ms m s k.start (let e = k.end in let w = h.within in omega arith) in
        record { start = k.start; end = k.end; marks = rw e k.marks; nesting = rw e k.nesting }

    pub IsDraft-mark : NameBelow (length names) m → arity m ≤ length (open_after names [] (drop ended ms)) → IsDraft names (ms ++ m ∷ []) ended spans items
    IsDraft-mark below le = record {
      named = h.named;
      different = h.different;
      below = All-push (NameBelow (length names)) ms m h.below below;
      within = (let w = h.within in omega (arith, length_push ms m));
      held = rw rest-push (held-push names [] (drop ended ms) m h.held le);
      formulas = All-weaker (IsSpan names ms ended) (IsSpan names (ms ++ m ∷ []) ended) span-push spans h.formulas;
      sound = h.sound;
      few_items = h.few_items;
    }

  module _ (more : List Name) where
    rest-more : open_after (names ++ more) [] (drop ended ms) ≡ open_after names [] (drop ended ms)
    rest-more = standing-more names more [] (drop ended ms) (All-drop (NameBelow (length names)) ended ms h.below)

    spelled-more : (s : Span) → IsSpan names ms ended s → spelled (names ++ more) ms s ≡ spelled names ms s
    spelled-more s k = ap (λ fs. get_or fs 0 Truth) (standing-more names more [] (part ms s) k.marks.below)

    formulas-more : map (spelled (names ++ more) ms) spans ≡ map (spelled names ms) spans
    formulas-more = map-same (spelled (names ++ more) ms) (spelled names ms) spans (All-weaker (IsSpan names ms ended) (λ s. spelled (names ++ more) ms s ≡ spelled names ms s) spelled-more spans h.formulas)

    below-grown : (m : Mark) → NameBelow (length names) m → NameBelow (length (names ++ more)) m
    below-grown m b = below-more (length names) (length (names ++ more)) m (omega (arith, length-append names more)) b

    span-more : (s : Span) → IsSpan names ms ended s → IsSpan (names ++ more) ms ended s
    span-more s k = record {
      start = k.start;
      end = k.end;
      marks = record {
        held = held-more names more [] (part ms s) k.marks.below k.marks.held;
        made = standing-more names more [] (part ms s) k.marks.below ∙ k.marks.made ∙ ap (λ f. f ∷ []) (sym (spelled-more s k));
        below = All-weaker (NameBelow (length names)) (NameBelow (length (names ++ more))) below-grown (part ms s) k.marks.below;
      };
      nesting = rw (spelled-more s k) k.nesting;
    }

    IsDraft-more : All IsName more → AreOnce same_name (names ++ more) → IsDraft (names ++ more) ms ended spans items
    IsDraft-more named different = record {
      different = different;
      named = All-append IsName names more h.named named;
      below = All-weaker (NameBelow (length names)) (NameBelow (length (names ++ more))) below-grown ms h.below;
      within = h.within;
      held = held-more names more [] (drop ended ms) (All-drop (NameBelow (length names)) ended ms h.below) h.held;
      formulas = All-weaker (IsSpan names ms ended) (IsSpan (names ++ more) ms ended) span-more spans h.formulas;
      sound = h.sound;
      few_items = h.few_items;
    }

  module _ (name : Name) where
    grown : (b : Bool) → list_any (same_name name) names ≡ b
        → (more : List Name) × (All IsName (name ∷ []) → All IsName more) × AreOnce same_name (names ++ more) × ((if b then names else (names ++ name ∷ [])) ≡ names ++ more)
    grown true e = ([], (λ k. All-nil IsName), rw (append-nil names) h.different, sym (append-nil names))
    grown false e = (name ∷ [], (λ k. k), once-push same_name same_name-true same_name-refl names name e h.different, refl)

    added : (more : List Name) × (All IsName (name ∷ []) → All IsName more) × AreOnce same_name (names ++ more) × (with_new same_name names name ≡ names ++ more)
    added = grown (list_any (same_name name) names) refl

    pub with_name-is : drafted (with_new same_name names name) ms ended spans items ≡ with_name (drafted names ms ended spans items) name
    with_name-is =
        let e = added.3 in
        ap (λ ns. drafted ns ms ended spans items) e
        ∙ rw (rest-more added.0, formulas-more added.0) (ap (λ ns. record { names = ns; «open» = open_after names [] (drop ended ms); formulas = map (spelled names ms) spans; items = map (item_of (map (spelled names ms) spans)) items }) (sym e))

    pub IsDraft-name : IsName name → IsDraft (with_new same_name names name) ms ended spans items
    IsDraft-name n = rw added.3 (IsDraft-more added.0 (added.1 (All-push IsName [] name (All-nil IsName) n)) added.2)

  module _ (one : length (open_after names [] (drop ended ms)) ≡ 1) (shallow : All (λ f. canonical_nesting f ≤ MOST_NESTING) (open_after names [] (drop ended ms))) where
    rest-is : part ms (record { start = ended; end = length ms }) ≡ drop ended ms
    rest-is = take_rest ms ended

    fresh-is : open_after names [] (drop ended ms) ≡ spelled names ms (record { start = ended; end = length ms }) ∷ []
    fresh-is = only (open_after names [] (drop ended ms)) one ∙ ap (λ p. get_or (open_after names [] p) 0 Truth ∷ []) (sym rest-is)

    formulas-end : map (spelled names ms) (spans ++ record { start = ended; end = length ms } ∷ []) ≡ map (spelled names ms) spans ++ open_after names [] (drop ended ms)
    formulas-end = map-append (spelled names ms) spans (record { start = ended; end = length ms } ∷ []) ∙ ap (λ fs. map (spelled names ms) spans ++ fs) (sym fresh-is)

    items-end : map (item_of (map (spelled names ms) spans ++ open_after names [] (drop ended ms))) items ≡ map (item_of (map (spelled names ms) spans)) items
    items-end = map-same (item_of (map (spelled names ms) spans ++ open_after names [] (drop ended ms))) (item_of (map (spelled names ms) spans)) items
        (All-weaker (IsDraftItem (length spans)) (λ e. item_of (map (spelled names ms) spans ++ open_after names [] (drop ended ms)) e ≡ item_of (map (spelled names ms) spans) e)
        (λ e k. item-more (map (spelled names ms) spans) (open_after names [] (drop ended ms)) e (subst (λ n. IsDraftItem n e) (sym (length-map spans (spelled names ms))) k)) items h.sound)

    pub with_formula-is : drafted names ms (length ms) (spans ++ record { start = ended; end = length ms } ∷ []) items ≡ with_formula (drafted names ms ended spans items)
    with_formula-is = rw (drop_all (length ms) ms (omega arith), formulas-end, items-end) refl

    span-later : (s : Span) → IsSpan names ms ended s → IsSpan names ms (length ms) s
    span-later s k = record { start = k.start; end = (let e = k.end in let w = h.within in omega arith); marks = k.marks; nesting = k.nesting }

    fresh-span : IsSpan names ms (length ms) (record { start = ended; end = length ms })
    fresh-span = record {
      start = h.within;
      end = omega arith;
      marks = record {
        held = rw rest-is h.held;
        made = ap (open_after names []) rest-is ∙ fresh-is;
        below = rw rest-is (All-drop (NameBelow (length names)) ended ms h.below);
      };
      nesting = (let k = rw fresh-is at shallow in k 0 Truth (omega arith));
    }

    pub IsDraft-end : IsDraft names ms (length ms) (spans ++ record { start = ended; end = length ms } ∷ []) items
    IsDraft-end = record {
      named = h.named;
      different = h.different;
      below = h.below;
      within = omega arith;
      held = rw (drop_all (length ms) ms (omega arith)) tt;
      formulas = All-push (IsSpan names ms (length ms)) spans (record { start = ended; end = length ms })
          (All-weaker (IsSpan names ms ended) (IsSpan names ms (length ms)) span-later spans h.formulas) fresh-span;
      sound = All-weaker (IsDraftItem (length spans)) (IsDraftItem (length (spans ++ record { start = ended; end = length ms } ∷ [])))
          (λ e k. draft_item-more (length spans) (length (spans ++ record { start = ended; end = length ms } ∷ [])) e (omega (arith, length_push {X = Span} spans (record { start = ended; end = length ms }))) k) items h.sound;
      few_items = h.few_items;
    }
