-- Going through the marks of a formula.
use Rattle.std.proofs.Common.{◌≡◌, ℕ, zero, suc, ◌+◌, ◌-◌, ◌<◌, ◌≤◌, Bool, true, false, List, [], ◌∷◌, ◌++◌, length, get_or, take, drop, Option, Some, None, Result, Ok, Err, refl, sym, ap, subst, ◌∙◌, arith, if◌then◌else◌}
use Rattle.std.specs.List.{list_any}
use Rattle.std.proofs.lemmas.List.{append-nil, append_assoc, take_more, take_all, drop_more, drop_all}
use Rattle.ps_meaning.specs.Formula.{Formula, Truth, subformulas}
use Rattle.ps_meaning.specs.Statements.{Name}
use Rattle.ps_problem.specs.declared.mark.Mark.{Mark}
use Rattle.ps_problem.specs.declared.fault.Fault.{Fault}
use Rattle.ps_problem.specs.declared.fault.Fault.TheVariants as fault
use Rattle.ps_problem.specs.declared.building.Building.{Building}
use Rattle.ps_problem.specs.Numbering.{same_formula}
use Rattle.ps_problem.specs.declared.excess.Excess.{Excess}
use Rattle.ps_problem.specs.Counts.{excess_with, unless, with_formulas, after}
use Rattle.ps_problem.specs.Drafts.{arity, made_by, marked}
use Rattle.ps_problem.specs.DraftLists.{open_after, HaveOperands, AreMarks, root}
use Rattle.ps_problem.specs.Numbered.{Built, IsStack, IsNumberOf, GivesNumber, IsFaultOf, tops, MarksNumbered}
use Rattle.ps_problem.proofs.Postfix.{standing-push}
use Rattle.ps_problem.proofs.Operators.{length-stand, stand-marked, tops-are}

-- where one numbering ends in an excess so does another, and a fault of the one is a fault of the other
pub fault-onward : (r s : Result (List (Formula Name)) Excess) (x : Fault) → IsFaultOf r x → ((e : Excess) → r ≡ Err e → s ≡ Err e) → IsFaultOf s x
fault-onward r s (fault.TooMany e) t onward = onward e t
fault-onward r s fault.NoMemory t onward = tt

-- formulas numbered in two parts
pub with-append : (fs xs ys : List (Formula Name)) → with_formulas fs (xs ++ ys) ≡ after (with_formulas fs xs) (λ gs. with_formulas gs ys)
with-append fs [] ys = refl
with-append fs (x ∷ xs) ys = by (list_any (same_formula x) fs) (excess_with fs x) (with-append fs xs ys) (with-append (fs ++ x ∷ []) xs ys)
  where
    by : (b : Bool) (e : Option Excess)
        → with_formulas fs (xs ++ ys) ≡ after (with_formulas fs xs) (λ gs. with_formulas gs ys)
        → with_formulas (fs ++ x ∷ []) (xs ++ ys) ≡ after (with_formulas (fs ++ x ∷ []) xs) (λ gs. with_formulas gs ys)
        → (if b then with_formulas fs (xs ++ ys) else unless e (with_formulas (fs ++ x ∷ []) (xs ++ ys)))
        ≡ after (if b then with_formulas fs xs else unless e (with_formulas (fs ++ x ∷ []) xs)) (λ gs. with_formulas gs ys)
    by true e p q = p
    by false (Some e) p q = refl
    by false None p q = q

-- what was numbered stays in front
pub with-more : (fs xs gs : List (Formula Name)) → with_formulas fs xs ≡ Ok gs → (more : List (Formula Name)) × (gs ≡ fs ++ more)
with-more fs [] gs e = ([], (let p : fs ≡ gs = cc in sym p ∙ sym (append-nil fs)))
with-more fs (x ∷ xs) gs e = by (list_any (same_formula x) fs) (excess_with fs x) (with-more fs xs gs) (with-more (fs ++ x ∷ []) xs gs) e
  where
    by : (b : Bool) (o : Option Excess)
        → (with_formulas fs xs ≡ Ok gs → (more : List (Formula Name)) × (gs ≡ fs ++ more))
        → (with_formulas (fs ++ x ∷ []) xs ≡ Ok gs → (more : List (Formula Name)) × (gs ≡ (fs ++ x ∷ []) ++ more))
        → (if b then with_formulas fs xs else unless o (with_formulas (fs ++ x ∷ []) xs)) ≡ Ok gs → (more : List (Formula Name)) × (gs ≡ fs ++ more)
    by true o p q e = p e
    by false (Some o) p q e = absurd (cc)
    by false None p q e =
        let r = q e in
        (x ∷ r.0, r.1 ∙ append_assoc fs (x ∷ []) r.0)

pub held-at : (names : List Name) (ss : List (Formula Name)) (ms : List Mark) (i : ℕ) (d : Mark) → HaveOperands names ss ms → i < length ms → arity (get_or ms i d) ≤ length (open_after names ss (take i ms))
held-at names ss [] i d h lt = absurd (omega arith)
held-at names ss (m ∷ ms) zero d h lt = h.0
held-at names ss (m ∷ ms) (suc i) d h lt = held-at names (marked names ss m) ms i d h.1 (omega arith)

module _ (names : List Name) (start : List (Formula Name)) (all : List Mark) where
  -- the first turn
  pub reached-start : (b : Building) (h : Built names b.atoms b.formulas) → MarksNumbered names h.formulas all 0 b []
  reached-start b h = record { built = h; stack_is = record { places = refl; among = λ k d lt. absurd (omega arith) }; rest = refl }

  module _ (i : ℕ) (b : Building) (stack : List ℕ) (r : MarksNumbered names start all i b stack) (d : Mark) (lt : i < length all) where
    rest-is : with_formulas r.built.formulas (made_by names (open_after names [] (take i all)) (get_or all i d) ∷ tops names (marked names (open_after names [] (take i all)) (get_or all i d)) (drop (i + 1) all))
        ≡ with_formulas start (tops names [] all)
    rest-is = ap (λ ms. with_formulas r.built.formulas (tops names (open_after names [] (take i all)) ms)) (sym (drop_more all i d lt)) ∙ r.rest

    split : with_formulas start (tops names [] all) ≡ after (with_formulas r.built.formulas (made_by names (open_after names [] (take i all)) (get_or all i d) ∷ []))
        (λ gs. with_formulas gs (tops names (marked names (open_after names [] (take i all)) (get_or all i d)) (drop (i + 1) all)))
    split = sym rest-is ∙ with-append r.built.formulas (made_by names (open_after names [] (take i all)) (get_or all i d) ∷ []) (tops names (marked names (open_after names [] (take i all)) (get_or all i d)) (drop (i + 1) all))

    pub reached-stop : (b' : Building) (x : Fault)
        → GivesNumber names (with_formulas r.built.formulas (made_by names (open_after names [] (take i all)) (get_or all i d) ∷ [])) (made_by names (open_after names [] (take i all)) (get_or all i d)) b'.atoms b'.formulas (Err x)
        → IsFaultOf (with_formulas start (tops names [] all)) x
    reached-stop b' x f = fault-onward (with_formulas r.built.formulas (made_by names (open_after names [] (take i all)) (get_or all i d) ∷ [])) (with_formulas start (tops names [] all)) x f
        (λ e t. split ∙ ap (λ q. after q (λ gs. with_formulas gs (tops names (marked names (open_after names [] (take i all)) (get_or all i d)) (drop (i + 1) all)))) t)

    pub reached-next : (b' : Building) (n : ℕ) → arity (get_or all i d) ≤ length stack
        → GivesNumber names (with_formulas r.built.formulas (made_by names (open_after names [] (take i all)) (get_or all i d) ∷ [])) (made_by names (open_after names [] (take i all)) (get_or all i d)) b'.atoms b'.formulas (Ok n)
        → MarksNumbered names start all (i + 1) b' (take (length stack - arity (get_or all i d)) stack ++ n ∷ [])
    reached-next b' n le f =
        let more = with-more r.built.formulas (made_by names (open_after names [] (take i all)) (get_or all i d) ∷ []) f.0.formulas f.1 in
        let there = subst (λ gs. IsNumberOf gs (made_by names (open_after names [] (take i all)) (get_or all i d)) n) more.1 f.2 in
        let s = stand-marked r.built.formulas (open_after names [] (take i all)) stack r.stack_is names more.0 (get_or all i d) n le there.0 there.1 in
        let e = standing-push names [] (take i all) (get_or all i d) in
        let t = take_more all i d lt in
        record {
          built = f.0;
          stack_is = subst (λ gs. IsStack gs (open_after names [] (take (i + 1) all)) (take (length stack - arity (get_or all i d)) stack ++ n ∷ [])) (sym more.1)
              (subst (λ ss. IsStack (r.built.formulas ++ more.0) ss (take (length stack - arity (get_or all i d)) stack ++ n ∷ [])) (sym (ap (open_after names []) t ∙ e)) s);
          rest = ap (λ ss. with_formulas f.0.formulas (tops names ss (drop (i + 1) all))) (ap (open_after names []) t ∙ e)
              ∙ sym (ap (λ q. after q (λ gs. with_formulas gs (tops names (marked names (open_after names [] (take i all)) (get_or all i d)) (drop (i + 1) all)))) f.1) ∙ sym split;
        }

  module _ (i : ℕ) (b : Building) (stack : List ℕ) (r : MarksNumbered names start all i b stack) (le : length all ≤ i) (m : AreMarks names all (root names all)) where
    stand-end : IsStack r.built.formulas (root names all ∷ []) stack
    stand-end = subst (λ ss. IsStack r.built.formulas ss stack) (ap (open_after names []) (take_all i all le) ∙ m.made) r.stack_is

    pub one-left : length stack ≡ 1
    one-left = length-stand r.built.formulas (root names all ∷ []) stack stand-end

    pub reached-end : GivesNumber names (with_formulas start (subformulas (root names all))) (root names all) b.atoms b.formulas (Ok (get_or stack 0 0))
    reached-end = (
      r.built,
      ap (with_formulas start) (sym (tops-are names all (root names all) m.held m.made)) ∙ sym r.rest
          ∙ ap (λ ms. with_formulas r.built.formulas (tops names (open_after names [] (take i all)) ms)) (drop_all i all le),
      (stand-end.among 0 Truth (omega arith), ap (λ ns. get_or ns 0 0) stand-end.places),
    )
