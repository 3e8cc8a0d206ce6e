-- A chain passes no limit of a problem.
use Rattle.std.proofs.Common.{◌≡◌, ℕ, zero, suc, ◌+◌, ◌*◌, ◌<◌, ◌≤◌, Bool, true, false, ◌&&◌, nat_lt, nat_le, List, [], ◌∷◌, ◌++◌, length, Option, Some, None, Result, Ok, Err, refl, ap, subst, ◌∙◌, if◌then◌else◌, arith}
use Rattle.std.specs.List.{list_any}
use Rattle.std.proofs.lemmas.List.{length-append, length_push}
use Rattle.std.proofs.lemmas.Bool.Decides.{nat_tests}
use Rattle.ps_meaning.specs.Formula.{Formula, Implies}
use Rattle.ps_meaning.specs.Statements.{Name, Item}
use Rattle.ps_formula.specs.declared.limits.TheConstants.{MOST_ATOMS, MOST_NODES}
use Rattle.ps_problem.specs.declared.excess.Excess.{Excess}
use Rattle.ps_problem.specs.declared.excess.Excess.TheVariants.{Atoms, Nodes, Bounds}
use Rattle.ps_problem.specs.declared.limits.TheConstants.{MOST_BOUNDS}
use Rattle.ps_problem.specs.Numbering.{same_formula, numbered_for, names_among}
use Rattle.ps_problem.specs.Counts.{is_atom, excess_with, unless, with_formulas, at_item, with_statements, with_questions, after, counted}
use Rattle.ps_problem.proofs.Lists.{any-append, any-new}
use Rattle.ps_problem.proofs.Nodes.{same-refl, same-true, names-append}
use Rattle.ps_make.specs.declared.made.TheConstants.{MOST_LINKS}
use Rattle.ps_make.specs.Chain.{chain_atom, links_from, asked_of, made_items}

-- ---- one formula more
-- some formulas and one more, which is put behind them unless it is there, before others
record IsAdded (fs : List (Formula Name)) (f : Formula Name) (more : List (Formula Name)) : Type 0 where
  gs : List (Formula Name)
  is : with_formulas fs (f ∷ more) ≡ with_formulas gs more
  formulas : length gs ≤ length fs + 1
  names : length (names_among gs) ≤ length (names_among fs) + length (names_among (f ∷ []))
  there : list_any (same_formula f) gs ≡ true
  kept : (g : Formula Name) → list_any (same_formula g) fs ≡ true → list_any (same_formula g) gs ≡ true

none_over : (b c d : Bool) → c ≡ false → d ≡ false → (if b && c then Some Atoms else (if d then Some Nodes else None)) ≡ None
none_over true c d e f = rw (e, f) refl
none_over false c d e f = rw f refl

-- with few formulas and atoms before, a formula fits
fits : (fs : List (Formula Name)) (f : Formula Name) → length fs < MOST_NODES → length (names_among fs) < MOST_ATOMS → excess_with fs f ≡ None
fits fs f few names =
    let atoms : nat_le MOST_ATOMS (length (names_among fs)) ≡ false = grind (arith, nat_tests) in
    let nodes : nat_le MOST_NODES (length fs) ≡ false = grind (arith, nat_tests) in
    none_over (is_atom f) (nat_le MOST_ATOMS (length (names_among fs))) (nat_le MOST_NODES (length fs)) atoms nodes

-- what comes of formulas with one more that is there, or that is too much of something
abbrev chosen : (fs : List (Formula Name)) (f : Formula Name) (more : List (Formula Name)) → Bool → Option Excess → Result (List (Formula Name)) Excess
chosen fs f more b o = if b then with_formulas fs more else unless o (with_formulas (fs ++ f ∷ []) more)

added : (fs : List (Formula Name)) (f : Formula Name) (more : List (Formula Name)) → length fs < MOST_NODES → length (names_among fs) < MOST_ATOMS → IsAdded fs f more
added fs f more few names = by (list_any (same_formula f) fs) refl
  where
    by : (b : Bool) → list_any (same_formula f) fs ≡ b → IsAdded fs f more
    by true e = record {
      gs = fs;
      is = ap (λ b. chosen fs f more b (excess_with fs f)) e;
      formulas = omega arith;
      names = omega arith;
      there = e;
      kept = λ g h. h;
    }
    by false e = record {
      gs = fs ++ f ∷ [];
      is = ap (λ b. chosen fs f more b (excess_with fs f)) e ∙ ap (λ o. chosen fs f more false o) (fits fs f few names);
      formulas = (let l = length_push fs f in omega arith);
      names = (let n = ap length (names-append fs (f ∷ [])) in let l = length-append (names_among fs) (names_among (f ∷ [])) in omega arith);
      there = any-new same_formula same-true same-refl fs f;
      kept = λ g h. any-append same_formula fs (f ∷ []) g h;
    }

-- ---- links
-- the formulas behind so many links: the last atom is one of them
record Holds (fs : List (Formula Name)) (n : ℕ) : Type 0 where
  formulas : length fs ≤ 2 * n + 1
  names : length (names_among fs) ≤ n + 1
  there : list_any (same_formula (chain_atom n)) fs ≡ true

-- a link's formulas
abbrev link_formulas : ℕ → List (Formula Name)
link_formulas n = numbered_for (Implies (chain_atom n) (chain_atom (n + 1))) None

record IsLinked (fs : List (Formula Name)) (n : ℕ) : Type 0 where
  gs : List (Formula Name)
  is : with_formulas fs (link_formulas n) ≡ Ok gs
  holds : Holds gs (n + 1)

linked : (fs : List (Formula Name)) (n : ℕ) → n < MOST_LINKS → Holds fs n → IsLinked fs n
linked fs n few h =
    let both = Implies (chain_atom n) (chain_atom (n + 1)) in
    let next = added fs (chain_atom (n + 1)) (both ∷ []) (let k = h.formulas in omega (arith, k, few)) (let k = h.names in omega (arith, k, few)) in
    let last = added next.gs both [] (let k = h.formulas in let l = next.formulas in omega (arith, k, l, few)) (let k = h.names in let l = next.names in omega (arith, k, l, few)) in
    record {
      gs = last.gs;
      is = ap (λ b. chosen fs (chain_atom n) (chain_atom (n + 1) ∷ both ∷ []) b (excess_with fs (chain_atom n))) h.there ∙ next.is ∙ last.is;
      holds = record {
        formulas = (let k = h.formulas in let l = next.formulas in let m = last.formulas in omega (arith, k, l, m));
        names = (let k = h.names in let l = next.names in let m = last.names in omega (arith, k, l, m));
        there = last.kept (chain_atom (n + 1)) next.there;
      };
    }

-- ---- all items
record IsStated (before bounds : ℕ) (fs : List (Formula Name)) (items : List Item) (n : ℕ) : Type 0 where
  gs : List (Formula Name)
  is : with_statements before bounds fs items ≡ Ok gs
  holds : Holds gs n

links_stated : (n i before bounds m : ℕ) (fs : List (Formula Name)) → i + n ≤ MOST_LINKS → bounds ≡ i + 1 → Holds fs i → IsStated before bounds fs (links_from i n ++ asked_of m ∷ []) (i + n)
links_stated zero i before bounds m fs few e h = let same : i ≡ i + 0 = omega arith in record { gs = fs; is = refl; holds = subst (Holds fs) same h }
links_stated (suc n) i before bounds m fs few e h =
    let rest = links_from (i + 1) n ++ asked_of m ∷ [] in
    let one = linked fs i (omega (arith, few)) h in
    let all = links_stated n (i + 1) (before + 1) (bounds + 1) m one.gs (omega (arith, few)) (omega (arith, e)) one.holds in
    let some : nat_lt MOST_BOUNDS (bounds + 1) ≡ false = (let low : bounds + 1 ≤ MOST_BOUNDS = omega (arith, e, few) in grind (arith, nat_tests)) in
    let same : i + 1 + n ≡ i + suc n = omega arith in
    record {
      gs = all.gs;
      is = ap (λ b. at_item (before + 1) (unless (if b then Some Bounds else None) (with_formulas fs (link_formulas i))) (λ gs. with_statements (before + 1) (bounds + 1) gs rest)) some
          ∙ ap (λ r. at_item (before + 1) r (λ gs. with_statements (before + 1) (bounds + 1) gs rest)) one.is ∙ all.is;
      holds = subst (Holds all.gs) same all.holds;
    }

asked-last : (before n : ℕ) (fs : List (Formula Name)) → Holds fs n → with_questions before 0 fs (asked_of n ∷ []) ≡ Ok fs
asked-last before n fs h =
    ap (λ b. at_item (before + 1) (if b then Ok fs else unless (excess_with fs (chain_atom n)) (Ok (fs ++ chain_atom n ∷ []))) (λ gs. with_questions (before + 1) 1 gs [])) h.there

links-skipped : (n i before m : ℕ) (fs : List (Formula Name)) → Holds fs m → with_questions before 0 fs (links_from i n ++ asked_of m ∷ []) ≡ Ok fs
links-skipped zero i before m fs h = asked-last before m fs h
links-skipped (suc n) i before m fs h = links-skipped n (i + 1) (before + 1) m fs h

-- a chain's items pass no limit
pub record AreFew (items : List Item) : Type 0 where
  pub formulas : List (Formula Name)
  pub within : counted items ≡ Ok formulas

pub chain_few : (n : ℕ) → n ≤ MOST_LINKS → AreFew (made_items n)
chain_few n few =
    let first : List (Formula Name) = chain_atom 0 ∷ [] in
    let start : Holds first 0 = record { formulas = omega arith; names = omega arith; there = any-new same_formula same-true same-refl [] (chain_atom 0) } in
    let all = links_stated n 0 1 1 n first (omega (arith, few)) refl start in
    let same : 0 + n ≡ n = omega arith in
    record {
      formulas = all.gs;
      within = ap (λ r. after r (λ fs. with_questions 0 0 fs (made_items n))) all.is ∙ links-skipped n 0 1 n all.gs (subst (Holds all.gs) same all.holds);
    }
