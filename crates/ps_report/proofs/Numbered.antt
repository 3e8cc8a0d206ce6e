-- Queries that are written one after another, with their numbers.
use Rattle.std.proofs.Common.{◌≡◌, ◌<◌, ◌+◌, ℕ, suc, List, [], ◌∷◌, ◌++◌, length, take, drop, get_or, refl, sym, ap, subst, ◌∙◌, arith, append_assoc, append-nil}
use Rattle.std.proofs.lemmas.List.{take_more, length-take, take-append-drop}
use Rattle.ps_answer.specs.declared.answer.QueryPart.{QueryPart}
use Rattle.ps_answer.specs.declared.item.LineItem.{LineItem}
use Rattle.ps_answer.specs.declared.item.LineItem.TheVariants as line
use Rattle.ps_answer.specs.declared.answer.Answer.{Answer}
use Rattle.ps_answer.specs.Answers.{answer_items, part_items, query_items}
use Rattle.ps_report.specs.Parts.{AreShort}
use Rattle.ps_report.specs.Reports.{numbered_items, below_head}
use Rattle.ps_report.proofs.Sequence.{short_first, short_last}

parts_both : (j : ℕ) (xs ys : List QueryPart) → part_items j (xs ++ ys) ≡ part_items j xs ++ part_items (j + length xs) ys
parts_both j [] ys = let e : j ≡ j + 0 = omega arith in ap (λ k. part_items k ys) e
parts_both j (p ∷ ps) ys =
    let e : suc j + length ps ≡ j + suc (length ps) = omega arith in
    let q : List LineItem = query_items p.answer p.first in
    ap (λ r. line.Query j ∷ (q ++ r)) (parts_both (suc j) ps ys ∙ ap (λ k. part_items (suc j) ps ++ part_items k ys) e)
    ∙ sym (ap (λ r. line.Query j ∷ r) (append_assoc q (part_items (suc j) ps) (part_items (j + suc (length ps)) ys)))

module _ (ps : List QueryPart) (i : ℕ) (p d : QueryPart) (lt : i < length ps) (is : p ≡ get_or ps i d) where
  alone : (k : ℕ) → part_items k (p ∷ []) ≡ numbered_items k p
  alone k = ap (λ r. line.Query k ∷ r) (append-nil (query_items p.answer p.first))

  -- one more query
  pub part_more : part_items 1 (take (i + 1) ps) ≡ part_items 1 (take i ps) ++ numbered_items (i + 1) p
  part_more =
      let e : 1 + length (take i ps) ≡ i + 1 = omega (arith, length-take i ps, lt) in
      ap (part_items 1) (take_more ps i d lt ∙ ap (λ x. take i ps ++ x ∷ []) (sym is)) ∙ parts_both 1 (take i ps) (p ∷ [])
      ∙ ap (λ k. part_items 1 (take i ps) ++ part_items k (p ∷ [])) e ∙ ap (λ r. part_items 1 (take i ps) ++ r) (alone (i + 1))

  -- all queries, cut behind one of them
  pub part_at : part_items 1 ps ≡ (part_items 1 (take i ps) ++ numbered_items (i + 1) p) ++ part_items (1 + length (take (i + 1) ps)) (drop (i + 1) ps)
  part_at =
      ap (part_items 1) (sym (take-append-drop (i + 1) ps)) ∙ parts_both 1 (take (i + 1) ps) (drop (i + 1) ps)
      ∙ ap (λ r. r ++ part_items (1 + length (take (i + 1) ps)) (drop (i + 1) ps)) part_more

  pub part_short : AreShort (part_items 1 ps) → AreShort (numbered_items (i + 1) p)
  part_short h =
      let all : AreShort ((part_items 1 (take i ps) ++ numbered_items (i + 1) p) ++ part_items (1 + length (take (i + 1) ps)) (drop (i + 1) ps)) = subst AreShort part_at h in
      short_last (part_items 1 (take i ps)) (numbered_items (i + 1) p) (short_first (part_items 1 (take i ps) ++ numbered_items (i + 1) p) _ all)

-- the lines of an answer
pub answer_is : (a : Answer) → answer_items a ≡ line.Report ∷ below_head a
answer_is a = unfold answer_items in refl
