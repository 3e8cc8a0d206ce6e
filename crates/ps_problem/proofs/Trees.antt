-- The trees of numbered formulas' nodes.
use Rattle.std.proofs.Common.{◌≡◌, ◌≢◌, ℕ, zero, suc, ◌<◌, ◌≤◌, List, [], ◌∷◌, ◌++◌, length, get_or, map, take, drop, All, refl, sym, ap, subst, ◌∙◌, arith}
use Rattle.std.specs.List.{AllPairs}
use Rattle.std.proofs.Math.ListN.{get_or-map}
use Rattle.std.proofs.lemmas.List.{append-nil, append_assoc, length-map, map-append, length-take-le, take-append-drop, get_or_default}
use Rattle.ps_meaning.specs.Formula.{Formula, Truth, Falsity, Atom, Not, And, Or, Implies, Iff, with_atoms}
use Rattle.ps_meaning.specs.Statements.{Name}
use Rattle.ps_formula.specs.Nodes.{tree_over, trees_from, trees, Fits, AreNodes, AtomBelow}
use Rattle.ps_formula.specs.declared.node.Node.{Node}
use Rattle.ps_formula.specs.declared.limits.TheConstants.{MOST_ATOMS}
use Rattle.ps_problem.specs.Problems.{tree_at}
use Rattle.ps_problem.specs.Numbering.{AreOnce, same_name, same_formula, place_in, names_among, node_in, numbered}
use Rattle.ps_problem.specs.Numbered.{IsAmong, AreOperandsAmong}
use Rattle.ps_problem.proofs.Lists.{place-append, place-below, place-get, any-self}
use Rattle.ps_problem.proofs.Nodes.{same-true, same-refl, atom-among, among-more, place-more, node-same}

-- a formula's operands are among some formulas
abbrev pub Leads : List (Formula Name) → Formula Name → Type 0
Leads fs Truth = Unit {0}
Leads fs Falsity = Unit {0}
Leads fs (Atom a) = Unit {0}
Leads fs (Not f) = IsAmong fs f
Leads fs (And f g) = IsAmong fs f × IsAmong fs g
Leads fs (Or f g) = IsAmong fs f × IsAmong fs g
Leads fs (Implies f g) = IsAmong fs f × IsAmong fs g
Leads fs (Iff f g) = IsAmong fs f × IsAmong fs g

-- behind some formulas, each formula's operands stand before it
abbrev pub AreLed : List (Formula Name) → List (Formula Name) → Type 0
AreLed before [] = Unit {0}
AreLed before (g ∷ gs) = Leads before g × AreLed (before ++ g ∷ []) gs

module _ (fs : List (Formula Name)) where
  -- a formula over names as one over numbers
  abbrev over_numbers : Formula Name → Formula ℕ
  over_numbers f = numbered (names_among fs) f

  module _ (ms rest : List (Formula Name)) (e : fs ≡ ms ++ rest) where
    at-place : (f : Formula Name) → IsAmong ms f → get_or (map over_numbers ms) (place_in same_formula fs f) Truth ≡ over_numbers f
    at-place f a =
        ap (λ gs. get_or (map over_numbers ms) (place_in same_formula gs f) Truth) e
        ∙ ap (λ i. get_or (map over_numbers ms) i Truth) (place-append same_formula ms rest f a)
        ∙ get_or-map over_numbers ms (place_in same_formula ms f) Truth
        ∙ ap over_numbers (place-get same_formula same-true same-refl ms f Truth a)

    tree-is : (g : Formula Name) → Leads ms g → tree_over (map over_numbers ms) (node_in fs g) ≡ over_numbers g
    tree-is Truth l = refl
    tree-is Falsity l = refl
    tree-is (Atom a) l = refl
    tree-is (Not f) l = ap Not (at-place f l)
    tree-is (And f g) l = rw (at-place f l.0, at-place g l.1) refl
    tree-is (Or f g) l = rw (at-place f l.0, at-place g l.1) refl
    tree-is (Implies f g) l = rw (at-place f l.0, at-place g l.1) refl
    tree-is (Iff f g) l = rw (at-place f l.0, at-place g l.1) refl

  trees-behind : (ms rest : List (Formula Name)) → fs ≡ ms ++ rest → AreLed ms rest → trees_from (map over_numbers ms) (map (node_in fs) rest) ≡ map over_numbers fs
  trees-behind ms [] e l = ap (map over_numbers) (sym (append-nil ms) ∙ sym e)
  trees-behind ms (g ∷ gs) e l =
      ap (λ t. trees_from (map over_numbers ms ++ t ∷ []) (map (node_in fs) gs)) (tree-is ms (g ∷ gs) e g l.0)
      ∙ ap (λ ts. trees_from ts (map (node_in fs) gs)) (sym (map-append over_numbers ms (g ∷ [])))
      ∙ trees-behind (ms ++ g ∷ []) gs (e ∙ sym (append_assoc ms (g ∷ []) gs)) l.1

  pub trees-are : AreLed [] fs → trees (map (node_in fs) fs) ≡ map (with_atoms (place_in same_name (names_among fs))) fs
  trees-are l = trees-behind [] fs refl l

  pub tree-at : AreLed [] fs → (f : Formula Name) → IsAmong fs f → tree_at (map (node_in fs) fs) (place_in same_formula fs f) ≡ with_atoms (place_in same_name (names_among fs)) f
  tree-at l f a = ap (λ ts. get_or ts (place_in same_formula fs f) Truth) (trees-are l) ∙ at-place fs [] (sym (append-nil fs)) f a

-- where operands stand before, they stand among all
module _ (ms rest : List (Formula Name)) where
  ready-led : (g : Formula Name) → Leads ms g → IsAmong (ms ++ rest) g → AreOperandsAmong (ms ++ rest) g
  ready-led Truth l a = tt
  ready-led Falsity l a = tt
  ready-led (Atom n) l a = sym (atom-among (ms ++ rest) n) ∙ a
  ready-led (Not f) l a = among-more ms rest f l
  ready-led (And f g) l a = (among-more ms rest f l.0, among-more ms rest g l.1)
  ready-led (Or f g) l a = (among-more ms rest f l.0, among-more ms rest g l.1)
  ready-led (Implies f g) l a = (among-more ms rest f l.0, among-more ms rest g l.1)
  ready-led (Iff f g) l a = (among-more ms rest f l.0, among-more ms rest g l.1)

  below-led : (f : Formula Name) → IsAmong ms f → place_in same_formula (ms ++ rest) f < length ms
  below-led f a =
      let p = place-more ms rest f a in
      let b : place_in same_formula ms f < length ms = place-below same_formula ms f a in
      omega arith

  fits-led : (g : Formula Name) → Leads ms g → IsAmong (ms ++ rest) g → length (names_among (ms ++ rest)) ≤ MOST_ATOMS → Fits (length ms) (node_in (ms ++ rest) g)
  fits-led Truth l a few = tt
  fits-led Falsity l a few = tt
  fits-led (Atom n) l a few =
      let b : place_in same_name (names_among (ms ++ rest)) n < length (names_among (ms ++ rest)) = place-below same_name (names_among (ms ++ rest)) n (sym (atom-among (ms ++ rest) n) ∙ a) in
      omega arith
  fits-led (Not f) l a few = below-led f l
  fits-led (And f g) l a few = (below-led f l.0, below-led g l.1)
  fits-led (Or f g) l a few = (below-led f l.0, below-led g l.1)
  fits-led (Implies f g) l a few = (below-led f l.0, below-led g l.1)
  fits-led (Iff f g) l a few = (below-led f l.0, below-led g l.1)

led-at : (ms rest : List (Formula Name)) → AreLed ms rest → (i : ℕ) (d : Formula Name) → i < length rest → Leads (ms ++ take i rest) (get_or rest i d)
led-at ms [] l i d lt = absurd (omega arith)
led-at ms (g ∷ gs) l zero d lt = subst (λ xs. Leads xs g) (sym (append-nil ms)) l.0
led-at ms (g ∷ gs) l (suc i) d lt = subst (λ xs. Leads xs (get_or gs i d)) (append_assoc ms (g ∷ []) (take i gs)) (led-at (ms ++ g ∷ []) gs l.1 i d (omega arith))

module _ (fs : List (Formula Name)) (led : AreLed [] fs) where
  among-at : (i : ℕ) (d : Formula Name) → i < length fs → IsAmong fs (get_or fs i d)
  among-at i d lt = any-self same_formula same-true same-refl fs i d lt

  pub are-ready : All (AreOperandsAmong fs) fs
  are-ready i d lt = subst (λ xs. AreOperandsAmong xs (get_or fs i d)) (take-append-drop i fs)
      (ready-led (take i fs) (drop i fs) (get_or fs i d) (led-at [] fs led i d lt)
      (subst (λ xs. IsAmong xs (get_or fs i d)) (sym (take-append-drop i fs)) (among-at i d lt)))

  fits-at : length (names_among fs) ≤ MOST_ATOMS → (i : ℕ) (d : Formula Name) → i < length fs → Fits i (node_in fs (get_or fs i d))
  fits-at few i d lt = subst (λ n. Fits n (node_in fs (get_or fs i d))) (length-take-le i fs (omega arith))
      (subst (λ xs. Fits (length (take i fs)) (node_in xs (get_or fs i d))) (take-append-drop i fs)
      (fits-led (take i fs) (drop i fs) (get_or fs i d) (led-at [] fs led i d lt)
      (subst (λ xs. IsAmong xs (get_or fs i d)) (sym (take-append-drop i fs)) (among-at i d lt))
      (subst (λ xs. length (names_among xs) ≤ MOST_ATOMS) (sym (take-append-drop i fs)) few)))

  node-at : (i : ℕ) (d : Node) → i < length (map (node_in fs) fs) → get_or (map (node_in fs) fs) i d ≡ node_in fs (get_or fs i Truth)
  node-at i d lt = get_or_default (map (node_in fs) fs) i d (node_in fs Truth) lt ∙ get_or-map (node_in fs) fs i Truth

  within : (i : ℕ) → i < length (map (node_in fs) fs) → i < length fs
  within i lt = let l = length-map fs (node_in fs) in omega arith

  pub are-nodes : AreOnce same_formula fs → length (names_among fs) ≤ MOST_ATOMS → AreNodes (map (node_in fs) fs)
  are-nodes once few = record {
    fit = λ i d lt. subst (Fits i) (sym (node-at i d lt)) (fits-at few i Truth (within i lt));
    once = λ i j d lt most same.
        let least : i < length (map (node_in fs) fs) = omega arith in
        let li = within i least in
        let lj = within j most in
        let e = node-same fs (get_or fs i Truth) (get_or fs j Truth) (are-ready i Truth li) (are-ready j Truth lj) (sym (node-at i d least) ∙ same ∙ node-at j d most) in
        let k : i ≡ j = sym (once i Truth li) ∙ ap (place_in same_formula fs) e ∙ once j Truth lj in
        omega arith;
  }

  below-of : (f : Formula Name) → AreOperandsAmong fs f → AtomBelow (length (names_among fs)) (node_in fs f)
  below-of Truth r = tt
  below-of Falsity r = tt
  below-of (Atom a) r = place-below same_name (names_among fs) a r
  below-of (Not f) r = tt
  below-of (And f g) r = tt
  below-of (Or f g) r = tt
  below-of (Implies f g) r = tt
  below-of (Iff f g) r = tt

  pub atoms-below : All (AtomBelow (length (names_among fs))) (map (node_in fs) fs)
  atoms-below i d lt = subst (AtomBelow (length (names_among fs))) (sym (node-at i d lt)) (below-of (get_or fs i Truth) (are-ready i Truth (within i lt)))

-- names of which none stands twice are different
pub different-names : (ns : List Name) → AreOnce same_name ns → AllPairs (λ a b. a ≢ b) ns
different-names ns once i j d lt most same =
    let k : i ≡ j = sym (once i d (omega arith)) ∙ ap (place_in same_name ns) same ∙ once j d most in
    omega arith
