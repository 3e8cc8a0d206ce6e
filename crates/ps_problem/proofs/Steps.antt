-- One more formula among numbered ones.
use Rattle.std.proofs.Common.{◌≡◌, ℕ, ◌<◌, ◌≤◌, Bool, true, false, ◌&&◌, nat_lt, nat_le, List, [], ◌∷◌, ◌++◌, length, get_or, slice_get, map, All, Contains, Some, Result, Ok, Err, refl, sym, ap, subst, ◌∙◌, true≢false, arith, inl, inr, ◌⊎◌}
use Rattle.std.specs.List.{list_any}
use Rattle.std.proofs.Math.ListN.{get_or-map}
use Rattle.std.proofs.lemmas.List.{append-nil, length-map, map-append, length_push}
use Rattle.std.proofs.lemmas.List.Elements.{All-push, All-weaker}
use Rattle.std.proofs.lemmas.Option.{slice_get_within, get_or_from_slice_get}
use Rattle.std.proofs.lemmas.Bool.Decides.{nat_tests}
use Rattle.ps_meaning.specs.Formula.{Formula, Atom}
use Rattle.ps_meaning.specs.Statements.{Name}
use Rattle.ps_formula.specs.declared.node.Node.{Node}
use Rattle.ps_formula.specs.declared.limits.TheConstants.{MOST_ATOMS, MOST_NODES}
use Rattle.ps_problem.specs.declared.fault.Fault.{Fault}
use Rattle.ps_problem.specs.declared.fault.Fault.TheVariants as fault
use Rattle.ps_problem.specs.declared.excess.Excess.TheVariants as excess
use Rattle.ps_problem.specs.Numbering.{same_formula, place_in, names_among, node_in}
use Rattle.ps_problem.specs.declared.excess.Excess.TheVariants.{Atoms, Nodes}
use Rattle.ps_problem.specs.Counts.{is_atom, with_formulas}
use Rattle.ps_problem.specs.Numbering.{AreOnce}
use Rattle.ps_problem.specs.Numbered.{IsAmong, AreOperandsAmong, Built, IsAdded, GivesNumber}
use Rattle.ps_problem.specs.Problems.{name_at}
use Rattle.ps_problem.proofs.Lists.{any-self, place-get, place-below, once-push, any-new}
use Rattle.ps_problem.proofs.Nodes.{same-true, same-refl, names-append, atom-among, ready-more, node-more, node-same}
use Rattle.ps_problem.proofs.Postfix.{map-same}

module _ (fs : List (Formula Name)) (g : Formula Name) where
  pub expected-known : IsAmong fs g → with_formulas fs (g ∷ []) ≡ Ok fs
  expected-known e = rw e refl

  pub expected-new : list_any (same_formula g) fs ≡ false → (is_atom g && nat_le MOST_ATOMS (length (names_among fs))) ≡ false → nat_le MOST_NODES (length fs) ≡ false
      → with_formulas fs (g ∷ []) ≡ Ok (fs ++ g ∷ [])
  expected-new e a n = rw (e, a, n) refl

  pub expected-full : list_any (same_formula g) fs ≡ false → (is_atom g && nat_le MOST_ATOMS (length (names_among fs))) ≡ false → nat_le MOST_NODES (length fs) ≡ true
      → with_formulas fs (g ∷ []) ≡ Err Nodes
  expected-full e a n = rw (e, a, n) refl

  pub expected-atoms : list_any (same_formula g) fs ≡ false → (is_atom g && nat_le MOST_ATOMS (length (names_among fs))) ≡ true
      → with_formulas fs (g ∷ []) ≡ Err Atoms
  expected-atoms e a = rw (e, a) refl

  -- a node that stands there is that of a formula that stands there
  pub among-from : All (AreOperandsAmong fs) fs → AreOperandsAmong fs g → Contains (map (node_in fs) fs) (node_in fs g) → IsAmong fs g
  among-from ready r c =
      let k = c.0 in
      let lt : k < length fs = omega (arith, c.1, length-map fs (node_in fs)) in
      let e = get_or-map (node_in fs) fs k g in
      let at : get_or (map (node_in fs) fs) k (node_in fs g) ≡ node_in fs g = c.2 in
      let f : get_or fs k g ≡ g = node-same fs (get_or fs k g) g (ready k g lt) r (sym e ∙ at) in
      subst (λ x. list_any (same_formula x) fs ≡ true) f (any-self same_formula same-true same-refl fs k g lt)

  pub contains-among : IsAmong fs g → Contains (map (node_in fs) fs) (node_in fs g)
  contains-among a =
      let i = place_in same_formula fs g in
      let lt : i < length fs = place-below same_formula fs g a in
      (i, omega (arith, length-map fs (node_in fs)), get_or-map (node_in fs) fs i g ∙ ap (node_in fs) (place-get same_formula same-true same-refl fs g g a))

  -- the number of a formula's node is its place
  pub number-is : All (AreOperandsAmong fs) fs → AreOnce same_formula fs → AreOperandsAmong fs g → (i : ℕ) → slice_get (map (node_in fs) fs) i ≡ Some (node_in fs g) → i ≡ place_in same_formula fs g
  number-is ready once r i at =
      let lt : i < length fs = omega (arith, slice_get_within (map (node_in fs) fs) i (node_in fs g) at, length-map fs (node_in fs)) in
      let e : node_in fs (get_or fs i g) ≡ node_in fs g = sym (get_or-map (node_in fs) fs i g) ∙ get_or_from_slice_get (map (node_in fs) fs) i (node_in fs g) (node_in fs g) at in
      let f : get_or fs i g ≡ g = node-same fs (get_or fs i g) g (ready i g lt) r e in
      sym (once i g lt) ∙ ap (place_in same_formula fs) f

module _ (names : List Name) (atoms : List ℕ) (nodes : List Node) (h : Built names atoms nodes) (g : Formula Name) where
  pub length-nodes : length nodes ≡ length h.formulas
  length-nodes = ap length h.nodes_are ∙ length-map h.formulas (node_in h.formulas)

  -- a formula that is new is numbered last
  abbrev pub extended : (atoms' : List ℕ) → list_any (same_formula g) h.formulas ≡ false → AreOperandsAmong (h.formulas ++ g ∷ []) g
      → map (name_at names) atoms' ≡ names_among (h.formulas ++ g ∷ []) → All (λ a. a < length names) atoms' → length atoms' ≤ MOST_ATOMS → length h.formulas < MOST_NODES
      → Built names atoms' (nodes ++ node_in (h.formulas ++ g ∷ []) g ∷ [])
  extended atoms' new ready atoms_are within few_atoms few = record {
    formulas = h.formulas ++ g ∷ [];
    different = h.different;
    atoms_are = atoms_are;
    nodes_are = ap (λ ns. ns ++ node_in (h.formulas ++ g ∷ []) g ∷ []) (h.nodes_are
        ∙ sym (map-same (node_in (h.formulas ++ g ∷ [])) (node_in h.formulas) h.formulas
        (All-weaker (AreOperandsAmong h.formulas) (λ f. node_in (h.formulas ++ g ∷ []) f ≡ node_in h.formulas f) (λ f r. node-more h.formulas (g ∷ []) f r) h.formulas h.operands)))
        ∙ sym (map-append (node_in (h.formulas ++ g ∷ [])) h.formulas (g ∷ []));
    operands = All-push (AreOperandsAmong (h.formulas ++ g ∷ [])) h.formulas g
        (All-weaker (AreOperandsAmong h.formulas) (AreOperandsAmong (h.formulas ++ g ∷ [])) (λ f r. ready-more h.formulas (g ∷ []) f r) h.formulas h.operands) ready;
    once = once-push same_formula same-true same-refl h.formulas g new h.once;
    within = within;
    few_atoms = few_atoms;
    few = omega (arith, few, length_push h.formulas g);
  }

  abbrev pub again : (new : List Node) → new ≡ nodes → Built names atoms new
  again new e = record {
    formulas = h.formulas;
    different = h.different;
    atoms_are = h.atoms_are;
    nodes_are = e ∙ h.nodes_are;
    operands = h.operands;
    once = h.once;
    within = h.within;
    few_atoms = h.few_atoms;
    few = h.few;
  }

  -- where a formula was numbered last, that is what was expected
  pub follows-new : (new : List Node) (i : ℕ) → list_any (same_formula g) h.formulas ≡ false → AreOperandsAmong (h.formulas ++ g ∷ []) g
      → (atoms' : List ℕ) → map (name_at names) atoms' ≡ names_among (h.formulas ++ g ∷ []) → All (λ a. a < length names) atoms' → length atoms' ≤ MOST_ATOMS → length h.formulas < MOST_NODES
      → new ≡ nodes ++ node_in (h.formulas ++ g ∷ []) g ∷ [] → slice_get new i ≡ Some (node_in (h.formulas ++ g ∷ []) g)
      → with_formulas h.formulas (g ∷ []) ≡ Ok (h.formulas ++ g ∷ []) → GivesNumber names (with_formulas h.formulas (g ∷ [])) g atoms' new (Ok i)
  follows-new new i absent ready atoms' atoms_are within few_atoms few new-is there expected =
      let k = extended atoms' absent ready atoms_are within few_atoms few in
      let at : slice_get (map (node_in (h.formulas ++ g ∷ [])) (h.formulas ++ g ∷ [])) i ≡ Some (node_in (h.formulas ++ g ∷ []) g)
      = ap (λ ns. slice_get ns i) (sym (new-is ∙ k.nodes_are)) ∙ there in (
        record { formulas = h.formulas ++ g ∷ []; different = k.different; atoms_are = k.atoms_are; nodes_are = new-is ∙ k.nodes_are; operands = k.operands; once = k.once; within = k.within; few_atoms = k.few_atoms; few = k.few },
        expected,
        (
          any-new same_formula same-true same-refl h.formulas g,
          number-is (h.formulas ++ g ∷ []) g k.operands k.once ready i at,
        ),
      )

  not-atom : list_any (same_formula g) h.formulas ≡ false → AreOperandsAmong h.formulas g → (is_atom g && nat_le MOST_ATOMS (length (names_among h.formulas))) ≡ false
  not-atom = absent g
    where
      absent : (f : Formula Name) → list_any (same_formula f) h.formulas ≡ false → AreOperandsAmong h.formulas f → (is_atom f && nat_le MOST_ATOMS (length (names_among h.formulas))) ≡ false
      absent (Atom a) e r = absurd (true≢false (sym r ∙ sym (atom-among h.formulas a) ∙ e))
      absent f e r = refl

  names-kept : list_any (same_formula g) h.formulas ≡ false → AreOperandsAmong h.formulas g → map (name_at names) atoms ≡ names_among (h.formulas ++ g ∷ [])
  names-kept e r = h.atoms_are ∙ sym (append-nil (names_among h.formulas)) ∙ ap (λ ns. names_among h.formulas ++ ns) (sym (none g e r)) ∙ sym (names-append h.formulas (g ∷ []))
    where
      none : (f : Formula Name) → list_any (same_formula f) h.formulas ≡ false → AreOperandsAmong h.formulas f → names_among (f ∷ []) ≡ []
      none (Atom a) e r = absurd (true≢false (sym r ∙ sym (atom-among h.formulas a) ∙ e))
      none f e r = refl

  -- a formula that is numbered, or whose operands are
  pub step-known : AreOperandsAmong h.formulas g → (n : Node) → n ≡ node_in h.formulas g → (new : List Node) (result : Result ℕ Fault) → IsAdded nodes n new result
      → GivesNumber names (with_formulas h.formulas (g ∷ [])) g atoms new result
  step-known r n e new (Err fault.NoMemory) added = tt
  step-known r n e new (Err (fault.TooMany excess.Atoms)) added = absurd added
  step-known r n e new (Err (fault.TooMany excess.Bounds)) added = absurd added
  step-known r n e new (Err (fault.TooMany excess.Queries)) added = absurd added
  step-known r n e new (Err (fault.TooMany excess.Numbers)) added = absurd added
  step-known r n e new (Err (fault.TooMany excess.Nodes)) added = by (list_any (same_formula g) h.formulas) refl
    where
      by : (b : Bool) → list_any (same_formula g) h.formulas ≡ b → with_formulas h.formulas (g ∷ []) ≡ Err Nodes
      by true a = absurd (added.1 (rw (h.nodes_are, e) (contains-among h.formulas g a)))
      by false a =
          let l = length-nodes in
          let full : length h.formulas ≡ MOST_NODES = sym l ∙ added.0 in
          expected-full h.formulas g a (not-atom a r) (rw full refl)
  step-known r n e new (Ok i) added = by added.0.grown
    where
      there : slice_get new i ≡ Some (node_in h.formulas g)
      there = added.0.there ∙ ap Some e

      by : ((new ≡ nodes) × Contains nodes n) ⊎ ((new ≡ nodes ++ n ∷ []) × ¬ Contains nodes n) → GivesNumber names (with_formulas h.formulas (g ∷ [])) g atoms new (Ok i)
      by (inl s) =
          let c = rw (h.nodes_are, e) at s.1 in
          let a : IsAmong h.formulas g = among-from h.formulas g h.operands r c in
          let at : slice_get (map (node_in h.formulas) h.formulas) i ≡ Some (node_in h.formulas g) = ap (λ ns. slice_get ns i) (sym (s.0 ∙ h.nodes_are)) ∙ there in
          (again new s.0, expected-known h.formulas g a, (a, number-is h.formulas g h.operands h.once r i at))
      by (inr s) = on (list_any (same_formula g) h.formulas) refl
        where
          on : (b : Bool) → list_any (same_formula g) h.formulas ≡ b → GivesNumber names (with_formulas h.formulas (g ∷ [])) g atoms new (Ok i)
          on true a = absurd (s.1 (rw (h.nodes_are, e) (contains-among h.formulas g a)))
          on false a =
              let few : length h.formulas < MOST_NODES = room (nat_lt (length h.formulas) MOST_NODES) refl in
              let more = node-more h.formulas (g ∷ []) g r in
              let new-is : new ≡ nodes ++ node_in (h.formulas ++ g ∷ []) g ∷ [] = s.0 ∙ ap (λ m. nodes ++ m ∷ []) (e ∙ sym more) in
              follows-new new i a (ready-more h.formulas (g ∷ []) g r) atoms (names-kept a r) h.within h.few_atoms few new-is (there ∙ ap Some (sym more))
              (expected-new h.formulas g a (not-atom a r) (grind (arith, nat_tests)))
            where
              room : (b : Bool) → nat_lt (length h.formulas) MOST_NODES ≡ b → length h.formulas < MOST_NODES
              room true t = grind (arith, nat_tests)
              room false t =
                  let l = length-nodes in
                  let most = h.few in
                  let least : MOST_NODES ≤ length h.formulas = grind (arith, nat_tests) in
                  absurd (added.1 (omega arith) s.1)
