-- Terms, numbered one after the other.
use Rattle.std.proofs.Common.{◌≡◌, ℕ, ℤ, ◌+◌, ◌<◌, ◌≤◌, List, [], ◌∷◌, ◌++◌, length, get_or, map, take, drop, All, Result, Ok, Err, refl, sym, ap, subst, ◌∙◌, arith}
use Rattle.std.proofs.Math.ListN.{get_or-map}
use Rattle.std.proofs.lemmas.List.{take_more, take_all, drop_more, drop_all, map-append, length-map}
use Rattle.std.proofs.lemmas.List.Elements.{All-nil, All-push, All-weaker}
use Rattle.ps_meaning.specs.Formula.{Formula, subformulas}
use Rattle.ps_meaning.specs.Statements.{Name, Summand}
use Rattle.ps_problem.specs.declared.fault.Fault.{Fault}
use Rattle.ps_problem.specs.declared.building.Building.{Building}
use Rattle.ps_problem.specs.declared.term.Term.{Term}
use Rattle.ps_problem.specs.Scales.{scaled, fraction_of}
use Rattle.ps_problem.specs.Drafts.{formula_at, summand_at}
use Rattle.ps_problem.specs.Numbering.{term_in, numbered_in_terms}
use Rattle.ps_problem.specs.Counts.{with_formulas, after}
use Rattle.ps_problem.specs.Numbered.{Built, IsAmong, HasSummand, GivesNumber, GivesTerms, IsFaultOf, TermsNumbered}
use Rattle.ps_problem.proofs.Nodes.{among-more}
use Rattle.ps_problem.proofs.Growth.{terms-more}
use Rattle.ps_problem.proofs.Turns.{fault-onward, with-append, with-more}

module _ (names : List Name) (start : List (Formula Name)) (m : ℕ) (all : List Summand) where
  -- the first turn
  pub terms-start : (b : Building) (h : Built names b.atoms b.formulas) → TermsNumbered names h.formulas m all 0 b []
  terms-start b h = record { built = h; among = All-nil (HasSummand h.formulas); terms_are = refl; rest = refl }

  module _ (i : ℕ) (b : Building) (made : List (ℕ × ℤ)) (r : TermsNumbered names start m all i b made) (d : Summand) (lt : i < length all) where
    terms-split : with_formulas start (numbered_in_terms all)
        ≡ after (with_formulas r.built.formulas (subformulas (get_or all i d).formula)) (λ gs. with_formulas gs (numbered_in_terms (drop (i + 1) all)))
    terms-split = sym r.rest ∙ ap (λ ts. with_formulas r.built.formulas (numbered_in_terms ts)) (drop_more all i d lt)
        ∙ with-append r.built.formulas (subformulas (get_or all i d).formula) (numbered_in_terms (drop (i + 1) all))

    -- a formula didn't fit
    pub terms-stop : (x : Fault) → IsFaultOf (with_formulas r.built.formulas (subformulas (get_or all i d).formula)) x → IsFaultOf (with_formulas start (numbered_in_terms all)) x
    terms-stop x f = fault-onward (with_formulas r.built.formulas (subformulas (get_or all i d).formula)) (with_formulas start (numbered_in_terms all)) x f
        (λ e t. terms-split ∙ ap (λ q. after q (λ gs. with_formulas gs (numbered_in_terms (drop (i + 1) all)))) t)

    pub terms-next : (b' : Building) (n : ℕ)
        → GivesNumber names (with_formulas r.built.formulas (subformulas (get_or all i d).formula)) (get_or all i d).formula b'.atoms b'.formulas (Ok n)
        → TermsNumbered names start m all (i + 1) b' (made ++ (n, scaled m (get_or all i d).coefficient) ∷ [])
    terms-next b' n f =
        let more = with-more r.built.formulas (subformulas (get_or all i d).formula) f.0.formulas f.1 in
        let t = take_more all i d lt in
        let kept : All (HasSummand f.0.formulas) (take i all) = subst (λ gs. All (HasSummand gs) (take i all)) (sym more.1)
        (All-weaker (HasSummand r.built.formulas) (HasSummand (r.built.formulas ++ more.0)) (λ u a. among-more r.built.formulas more.0 u.formula a) (take i all) r.among) in
        let same : made ≡ map (term_in f.0.formulas m) (take i all) = r.terms_are
        ∙ sym (terms-more r.built.formulas more.0 m (take i all) r.among) ∙ ap (λ gs. map (term_in gs m) (take i all)) (sym more.1) in
        record {
          built = f.0;
          among = subst (All (HasSummand f.0.formulas)) (sym t) (All-push (HasSummand f.0.formulas) (take i all) (get_or all i d) kept f.2.0);
          terms_are = (λ k. same k ++ (f.2.1 k, scaled m (get_or all i d).coefficient) ∷ [])
              ∙ sym (map-append (term_in f.0.formulas m) (take i all) (get_or all i d ∷ [])) ∙ ap (map (term_in f.0.formulas m)) (sym t);
          rest = sym (ap (λ q. after q (λ gs. with_formulas gs (numbered_in_terms (drop (i + 1) all)))) f.1) ∙ sym terms-split;
        }

  -- the last turn
  pub terms-end : (i : ℕ) (b : Building) (made : List (ℕ × ℤ)) (r : TermsNumbered names start m all i b made) → length all ≤ i
      → GivesTerms names (with_formulas start (numbered_in_terms all)) m all b (Ok made)
  terms-end i b made r le =
      let t = take_all i all le in (
        r.built,
        sym r.rest ∙ ap (λ ts. with_formulas r.built.formulas (numbered_in_terms ts)) (drop_all i all le),
        subst (All (HasSummand r.built.formulas)) t r.among,
        r.terms_are ∙ ap (map (term_in r.built.formulas m)) t,
      )

-- the same by the terms of a draft
module _ (names : List Name) (start : List (Formula Name)) (m : ℕ) (fs : List (Formula Name)) (ts : List Term) (i : ℕ) (b : Building) (made : List (ℕ × ℤ))
    (r : TermsNumbered names start m (map (summand_at fs) ts) i b made) (t : Term) (lt : i < length ts) where
  there : i < length (map (summand_at fs) ts)
  there = let l = length-map ts (summand_at fs) in omega arith

  same : get_or (map (summand_at fs) ts) i (summand_at fs t) ≡ summand_at fs (get_or ts i t)
  same = get_or-map (summand_at fs) ts i t

  pub term-stop : (x : Fault) → IsFaultOf (with_formulas r.built.formulas (subformulas (formula_at fs (get_or ts i t).formula))) x
      → IsFaultOf (with_formulas start (numbered_in_terms (map (summand_at fs) ts))) x
  term-stop x f = terms-stop names start m (map (summand_at fs) ts) i b made r (summand_at fs t) there x
      (subst (λ u. IsFaultOf (with_formulas r.built.formulas (subformulas u.formula)) x) (sym same) f)

  pub term-next : (b' : Building) (n : ℕ) (number : ℤ) → number ≡ scaled m (fraction_of (get_or ts i t).coefficient)
      → GivesNumber names (with_formulas r.built.formulas (subformulas (formula_at fs (get_or ts i t).formula))) (formula_at fs (get_or ts i t).formula) b'.atoms b'.formulas (Ok n)
      → TermsNumbered names start m (map (summand_at fs) ts) (i + 1) b' (made ++ (n, number) ∷ [])
  term-next b' n number e f = subst (λ k. TermsNumbered names start m (map (summand_at fs) ts) (i + 1) b' (made ++ (n, k) ∷ []))
      (ap (λ u. scaled m u.coefficient) same ∙ sym e)
      (terms-next names start m (map (summand_at fs) ts) i b made r (summand_at fs t) there b' n
      (subst (λ u. GivesNumber names (with_formulas r.built.formulas (subformulas u.formula)) u.formula b'.atoms b'.formulas (Ok n)) (sym same) f))
