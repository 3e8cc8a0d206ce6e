-- Atoms by the numbers of their names.
use Rattle.std.proofs.Common.{◌≡◌, ℕ, suc, ◌+◌, ◌<◌, ◌≤◌, Bool, true, false, nat_eq, nat_lt, nat_le, List, [], ◌∷◌, ◌++◌, length, get_or, drop, map, All, Contains, Some, Result, Ok, Err, refl, sym, ap, ◌∙◌, true≢false, if◌then◌else◌, arith, inl, inr, ◌⊎◌}
use Rattle.std.specs.List.{list_any}
use Rattle.std.proofs.Math.ListN.{get_or-map}
use Rattle.std.proofs.lemmas.List.{length-map, map-append, at_drop_more, at_drop_all, length_push, get_or_default}
use Rattle.std.proofs.lemmas.List.Elements.{All-push, All-head, All-tail}
use Rattle.std.proofs.lemmas.Bool.Decides.{nat_tests}
use Rattle.ps_meaning.specs.Formula.{Formula, Atom}
use Rattle.ps_meaning.specs.Statements.{Name}
use Rattle.ps_formula.specs.declared.node.Node.{Node}
use Rattle.ps_formula.specs.declared.node.Node.TheVariants as node
use Rattle.ps_formula.specs.declared.limits.TheConstants.{MOST_ATOMS, MOST_NODES}
use Rattle.ps_problem.specs.declared.fault.Fault.{Fault}
use Rattle.ps_problem.specs.declared.fault.Fault.TheVariants as fault
use Rattle.ps_problem.specs.declared.excess.Excess.TheVariants as excess
use Rattle.ps_problem.specs.Numbering.{same_name, same_formula, place_in, names_among, node_in}
use Rattle.ps_problem.specs.declared.excess.Excess.TheVariants.{Atoms}
use Rattle.ps_problem.specs.Counts.{with_formulas}
use Rattle.ps_problem.specs.Numbering.{AreOnce}
use Rattle.ps_problem.specs.Numbered.{AreOperandsAmong, Built, IsAdded, GivesNumber, IsFaultOf}
use Rattle.ps_problem.specs.Problems.{name_at}
use Rattle.ps_problem.proofs.NameLists.{same_name-true, same_name-refl}
use Rattle.ps_problem.proofs.Lists.{place-absent, place-below, place-new, any-new}
use Rattle.ps_problem.proofs.Nodes.{names-append, atom-among}
use Rattle.ps_problem.proofs.Steps.{expected-new, expected-full, expected-atoms, follows-new, length-nodes, step-known}

pub eq-false : (n m : ℕ) → (n ≡ m → ⊥) → nat_eq n m ≡ false
eq-false n m h = grind (arith, nat_tests)

pub eq-true : (n m : ℕ) → n ≡ m → nat_eq n m ≡ true
eq-true n m h = grind (arith, nat_tests)

pub from-eq : (n m : ℕ) → nat_eq n m ≡ true → n ≡ m
from-eq n m h = grind (arith, nat_tests)

pub place-turn : (xs : List ℕ) (n i : ℕ) → i < length xs → (n ≡ get_or xs i 0 → ⊥) → place_in nat_eq (drop i xs) n ≡ suc (place_in nat_eq (drop (i + 1) xs) n)
place-turn xs n i lt ne = at_drop_more (λ ys. place_in nat_eq ys n) xs i 0 lt ∙ ap (λ b. if b then 0 else suc (place_in nat_eq (drop (i + 1) xs) n)) (eq-false n (get_or xs i 0) ne)

pub place-here : (xs : List ℕ) (n i : ℕ) → i < length xs → n ≡ get_or xs i 0 → place_in nat_eq (drop i xs) n ≡ 0
place-here xs n i lt e = at_drop_more (λ ys. place_in nat_eq ys n) xs i 0 lt ∙ ap (λ b. if b then 0 else suc (place_in nat_eq (drop (i + 1) xs) n)) (eq-true n (get_or xs i 0) e)

pub place-end : (xs : List ℕ) (n i : ℕ) → length xs ≤ i → place_in nat_eq (drop i xs) n ≡ 0
place-end xs n i le = at_drop_all (λ ys. place_in nat_eq ys n) xs i le

defaults : {X : Type 0} (xs : List X) (i : ℕ) (d e : X) → i < length xs → get_or xs i d ≡ get_or xs i e
defaults xs i d e lt = get_or_default xs i d e lt

module _ (names : List Name) (once : AreOnce same_name names) (k : ℕ) (lt : k < length names) where
  -- two numbers of one name are one
  same-number : (m : ℕ) → m < length names → same_name (name_at names k) (name_at names m) ≡ nat_eq k m
  same-number m l = by (nat_eq k m) refl
    where
      by : (b : Bool) → nat_eq k m ≡ b → same_name (name_at names k) (name_at names m) ≡ nat_eq k m
      by true e = rw (← from-eq k m e) (same_name-refl (name_at names k) ∙ sym (eq-true k k refl))
      by false e = rw e (on (same_name (name_at names k) (name_at names m)) refl)
        where
          on : (b : Bool) → same_name (name_at names k) (name_at names m) ≡ b → same_name (name_at names k) (name_at names m) ≡ false
          on true s =
              let p : k ≡ m = sym (once k [] lt) ∙ ap (place_in same_name names) (same_name-true (name_at names k) (name_at names m) s) ∙ once m [] l in
              absurd (true≢false (sym (eq-true k m p) ∙ e))
          on false s = s

  pub place-names : (atoms : List ℕ) → All (λ a. a < length names) atoms → place_in same_name (map (name_at names) atoms) (name_at names k) ≡ place_in nat_eq atoms k
  place-names [] h = refl
  place-names (m ∷ atoms) h =
      rw (same-number m (All-head (λ a. a < length names) m atoms h), place-names atoms (All-tail (λ a. a < length names) m atoms h)) refl

  pub any-names : (atoms : List ℕ) → All (λ a. a < length names) atoms → list_any (same_name (name_at names k)) (map (name_at names) atoms) ≡ list_any (nat_eq k) atoms
  any-names [] h = refl
  any-names (m ∷ atoms) h =
      rw (same-number m (All-head (λ a. a < length names) m atoms h), any-names atoms (All-tail (λ a. a < length names) m atoms h)) refl

there-below : (xs : List ℕ) (k : ℕ) → place_in nat_eq xs k < length xs → list_any (nat_eq k) xs ≡ true
there-below xs k lt = by (list_any (nat_eq k) xs) refl
  where
    by : (b : Bool) → list_any (nat_eq k) xs ≡ b → list_any (nat_eq k) xs ≡ true
    by true e = e
    by false e = let p = place-absent nat_eq xs k e in absurd (omega arith)

absent-past : (xs : List ℕ) (k : ℕ) → length xs ≤ place_in nat_eq xs k → list_any (nat_eq k) xs ≡ false
absent-past xs k le = by (list_any (nat_eq k) xs) refl
  where
    by : (b : Bool) → list_any (nat_eq k) xs ≡ b → list_any (nat_eq k) xs ≡ false
    by false e = e
    by true e = let p = place-below nat_eq xs k e in absurd (omega arith)

module _ (names : List Name) (atoms : List ℕ) (nodes : List Node) (h : Built names atoms nodes) (k : ℕ) (lt : k < length names) where
  any-is : list_any (same_name (name_at names k)) (names_among h.formulas) ≡ list_any (nat_eq k) atoms
  any-is = ap (list_any (same_name (name_at names k))) (sym h.atoms_are) ∙ any-names names h.different k lt atoms h.within

  place-is : place_in same_name (names_among h.formulas) (name_at names k) ≡ place_in nat_eq atoms k
  place-is = ap (λ ns. place_in same_name ns (name_at names k)) (sym h.atoms_are) ∙ place-names names h.different k lt atoms h.within

  length-atoms : length (names_among h.formulas) ≡ length atoms
  length-atoms = ap length (sym h.atoms_are) ∙ length-map atoms (name_at names)

  -- an atom that is numbered
  pub atom-known : place_in nat_eq atoms k < length atoms → (new : List Node) (result : Result ℕ Fault) → IsAdded nodes (node.Atom (place_in nat_eq atoms k)) new result
      → GivesNumber names (with_formulas h.formulas (Atom (name_at names k) ∷ [])) (Atom (name_at names k)) atoms new result
  atom-known l new result added =
      step-known names atoms nodes h (Atom (name_at names k)) (any-is ∙ there-below atoms k l) (node.Atom (place_in nat_eq atoms k)) (ap node.Atom (sym place-is)) new result added

  module _ (past : length atoms ≤ place_in nat_eq atoms k) where
    absent : list_any (same_formula (Atom (name_at names k))) h.formulas ≡ false
    absent = atom-among h.formulas (name_at names k) ∙ any-is ∙ absent-past atoms k past

    pub atom-full : MOST_ATOMS ≤ place_in nat_eq atoms k → with_formulas h.formulas (Atom (name_at names k) ∷ []) ≡ Err Atoms
    atom-full many =
        let p = place-absent nat_eq atoms k (absent-past atoms k past) in
        let l = length-atoms in
        let most : MOST_ATOMS ≤ length (names_among h.formulas) = omega arith in
        expected-atoms h.formulas (Atom (name_at names k)) absent (grind (arith, nat_tests))

    few-names : place_in nat_eq atoms k < MOST_ATOMS → nat_le MOST_ATOMS (length (names_among h.formulas)) ≡ false
    few-names few =
        let l = length-atoms in
        let less : length (names_among h.formulas) < MOST_ATOMS = omega arith in
        grind (arith, nat_tests)

    names-new : names_among (h.formulas ++ Atom (name_at names k) ∷ []) ≡ names_among h.formulas ++ name_at names k ∷ []
    names-new = names-append h.formulas (Atom (name_at names k) ∷ [])

    absent-name : list_any (same_name (name_at names k)) (names_among h.formulas) ≡ false
    absent-name = any-is ∙ absent-past atoms k past

    node-is : node.Atom (place_in nat_eq atoms k) ≡ node_in (h.formulas ++ Atom (name_at names k) ∷ []) (Atom (name_at names k))
    node-is = ap node.Atom (place-absent nat_eq atoms k (absent-past atoms k past) ∙ sym length-atoms
        ∙ sym (place-new same_name same_name-true same_name-refl (names_among h.formulas) (name_at names k) absent-name)
        ∙ ap (λ ns. place_in same_name ns (name_at names k)) (sym names-new))

    ready-new : AreOperandsAmong (h.formulas ++ Atom (name_at names k) ∷ []) (Atom (name_at names k))
    ready-new = rw names-new (any-new same_name same_name-true same_name-refl (names_among h.formulas) (name_at names k))

    -- no node has the number of the next atom
    no-node : Contains nodes (node.Atom (place_in nat_eq atoms k)) → ⊥
    no-node c =
        let j = c.0 in
        let n = length-nodes names atoms nodes h (Atom (name_at names k)) in
        let l : j < length h.formulas = omega (arith, c.1) in
        let at : node_in h.formulas (get_or h.formulas j (Atom (name_at names k))) ≡ node.Atom (place_in nat_eq atoms k)
        = sym (get_or-map (node_in h.formulas) h.formulas j (Atom (name_at names k)))
        ∙ defaults (map (node_in h.formulas) h.formulas) j (node_in h.formulas (Atom (name_at names k))) (node.Atom (place_in nat_eq atoms k)) (omega (arith, length-map h.formulas (node_in h.formulas)))
        ∙ ap (λ ns. get_or ns j (node.Atom (place_in nat_eq atoms k))) (sym h.nodes_are) ∙ c.2 in
        never (get_or h.formulas j (Atom (name_at names k))) (h.operands j (Atom (name_at names k)) l) at
      where
        never : (f : Formula Name) → AreOperandsAmong h.formulas f → node_in h.formulas f ≡ node.Atom (place_in nat_eq atoms k) → ⊥
        never (Atom b) r e =
            let lt : place_in same_name (names_among h.formulas) b < length (names_among h.formulas) = place-below same_name (names_among h.formulas) b r in
            let p : place_in same_name (names_among h.formulas) b ≡ place_in nat_eq atoms k = cc in
            let q = length-atoms in
            omega arith
        never f r e = cc

    pub atom-new : place_in nat_eq atoms k < MOST_ATOMS → (new : List Node) (i : ℕ) → IsAdded nodes (node.Atom (place_in nat_eq atoms k)) new (Ok i)
        → GivesNumber names (with_formulas h.formulas (Atom (name_at names k) ∷ [])) (Atom (name_at names k)) (atoms ++ k ∷ []) new (Ok i)
    atom-new few new i added = by added.0.grown
      where
        by : ((new ≡ nodes) × Contains nodes (node.Atom (place_in nat_eq atoms k))) ⊎ ((new ≡ nodes ++ node.Atom (place_in nat_eq atoms k) ∷ []) × ¬ Contains nodes (node.Atom (place_in nat_eq atoms k)))
            → GivesNumber names (with_formulas h.formulas (Atom (name_at names k) ∷ [])) (Atom (name_at names k)) (atoms ++ k ∷ []) new (Ok i)
        by (inl s) = absurd (no-node s.1)
        by (inr s) =
            let room : length h.formulas < MOST_NODES = on (nat_lt (length h.formulas) MOST_NODES) refl in
            let p = place-absent nat_eq atoms k (absent-past atoms k past) in
            follows-new names atoms nodes h (Atom (name_at names k)) new i absent ready-new (atoms ++ k ∷ [])
            (map-append (name_at names) atoms (k ∷ []) ∙ ap (λ ns. ns ++ name_at names k ∷ []) h.atoms_are ∙ sym names-new)
            (All-push (λ a. a < length names) atoms k h.within lt) (omega (arith, length_push atoms k)) room
            (s.0 ∙ ap (λ m. nodes ++ m ∷ []) node-is) (added.0.there ∙ ap Some node-is)
            (expected-new h.formulas (Atom (name_at names k)) absent (few-names few) (grind (arith, nat_tests)))
          where
            on : (b : Bool) → nat_lt (length h.formulas) MOST_NODES ≡ b → length h.formulas < MOST_NODES
            on true t = grind (arith, nat_tests)
            on false t =
                let l = length-nodes names atoms nodes h (Atom (name_at names k)) in
                let most = h.few in
                let least : MOST_NODES ≤ length h.formulas = grind (arith, nat_tests) in
                absurd (added.1 (omega arith) s.1)

    pub atom-refused : place_in nat_eq atoms k < MOST_ATOMS → (new : List Node) (x : Fault) → IsAdded nodes (node.Atom (place_in nat_eq atoms k)) new (Err x)
        → IsFaultOf (with_formulas h.formulas (Atom (name_at names k) ∷ [])) x
    atom-refused few new fault.NoMemory added = tt
    atom-refused few new (fault.TooMany excess.Atoms) added = absurd added
    atom-refused few new (fault.TooMany excess.Bounds) added = absurd added
    atom-refused few new (fault.TooMany excess.Queries) added = absurd added
    atom-refused few new (fault.TooMany excess.Numbers) added = absurd added
    atom-refused few new (fault.TooMany excess.Nodes) added =
        let l = length-nodes names atoms nodes h (Atom (name_at names k)) in
        let full : length h.formulas ≡ MOST_NODES = sym l ∙ added.0 in
        expected-full h.formulas (Atom (name_at names k)) absent (few-names few) (rw full refl)
