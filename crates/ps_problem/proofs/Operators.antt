-- Marks over formulas that stand open and are numbered.
use Rattle.std.proofs.Common.{◌≡◌, ℕ, ◌+◌, ◌-◌, ◌<◌, ◌≤◌, List, [], ◌∷◌, ◌++◌, length, get_or, map, take, drop, All, refl, sym, ap, subst, ◌∙◌, arith}
use Rattle.std.specs.List.{flat_map}
use Rattle.std.proofs.Math.ListN.{get_or-map}
use Rattle.std.proofs.lemmas.List.{append-nil, append_assoc, length-map, map-append, take-append-drop, drop_more, drop_all, get_or_default, take-map}
use Rattle.std.proofs.lemmas.List.Elements.{All-take, All-push, All-weaker, All-map}
use Rattle.ps_meaning.specs.Formula.{Formula, Truth, Falsity, Atom, Not, And, Or, Implies, Iff, subformulas}
use Rattle.ps_meaning.specs.Statements.{Name}
use Rattle.ps_problem.specs.declared.mark.Mark.{Mark}
use Rattle.ps_problem.specs.declared.mark.Mark.TheVariants as mark
use Rattle.ps_problem.specs.Numbering.{same_formula, place_in, node_in}
use Rattle.ps_problem.specs.Drafts.{arity, from_top, made_by, marked}
use Rattle.ps_problem.specs.DraftLists.{open_after, HaveOperands}
use Rattle.ps_problem.specs.Numbered.{IsAmong, AreOperandsAmong, IsStack, operand, node_over, tops}
use Rattle.ps_problem.proofs.Lists.{place-below}
use Rattle.ps_problem.proofs.Nodes.{among-more, place-more}
use Rattle.ps_problem.proofs.Postfix.{map-same}

module _ (fs ss : List (Formula Name)) (ps : List ℕ) (s : IsStack fs ss ps) where
  pub length-stand : length ps ≡ length ss
  length-stand = ap length s.places ∙ length-map ss (place_in same_formula fs)

  top-among : (k : ℕ) → 1 ≤ k → k ≤ length ss → IsAmong fs (from_top ss k)
  top-among k least most = s.among (length ss - k) Truth (omega arith)

  top-place : (k : ℕ) → 1 ≤ k → k ≤ length ss → operand ps k ≡ place_in same_formula fs (from_top ss k)
  top-place k least most =
      let l = length-stand in
      let lt : length ss - k < length ps = omega arith in
      ap (λ n. get_or ps (n - k) 0) l
      ∙ get_or_default ps (length ss - k) 0 (place_in same_formula fs Truth) lt
      ∙ ap (λ ns. get_or ns (length ss - k) (place_in same_formula fs Truth)) s.places
      ∙ get_or-map (place_in same_formula fs) ss (length ss - k) Truth

  module _ (names : List Name) where
    pub operator-ready : (m : Mark) → ((n : ℕ) → m ≡ mark.Name n → ⊥) → arity m ≤ length ps → AreOperandsAmong fs (made_by names ss m)
    operator-ready mark.True not le = tt
    operator-ready mark.False not le = tt
    operator-ready (mark.Name n) not le = absurd (not n refl)
    operator-ready mark.Not not le = let l = length-stand in top-among 1 (omega arith) (omega arith)
    operator-ready mark.And not le = let l = length-stand in (top-among 2 (omega arith) (omega arith), top-among 1 (omega arith) (omega arith))
    operator-ready mark.Or not le = let l = length-stand in (top-among 2 (omega arith) (omega arith), top-among 1 (omega arith) (omega arith))
    operator-ready mark.Implies not le = let l = length-stand in (top-among 2 (omega arith) (omega arith), top-among 1 (omega arith) (omega arith))
    operator-ready mark.Iff not le = let l = length-stand in (top-among 2 (omega arith) (omega arith), top-among 1 (omega arith) (omega arith))

    pub operator-node : (m : Mark) → ((n : ℕ) → m ≡ mark.Name n → ⊥) → arity m ≤ length ps → node_over ps m ≡ node_in fs (made_by names ss m)
    operator-node mark.True not le = refl
    operator-node mark.False not le = refl
    operator-node (mark.Name n) not le = absurd (not n refl)
    operator-node mark.Not not le = let l = length-stand in let p = top-place 1 (omega arith) (omega arith) in cc
    operator-node mark.And not le = let l = length-stand in let p = top-place 1 (omega arith) (omega arith) in let q = top-place 2 (omega arith) (omega arith) in cc
    operator-node mark.Or not le = let l = length-stand in let p = top-place 1 (omega arith) (omega arith) in let q = top-place 2 (omega arith) (omega arith) in cc
    operator-node mark.Implies not le = let l = length-stand in let p = top-place 1 (omega arith) (omega arith) in let q = top-place 2 (omega arith) (omega arith) in cc
    operator-node mark.Iff not le = let l = length-stand in let p = top-place 1 (omega arith) (omega arith) in let q = top-place 2 (omega arith) (omega arith) in cc

    -- after a mark its formula stands in the place of its operands
    pub stand-marked : (more : List (Formula Name)) (m : Mark) (i : ℕ) → arity m ≤ length ps → IsAmong (fs ++ more) (made_by names ss m) → i ≡ place_in same_formula (fs ++ more) (made_by names ss m)
        → IsStack (fs ++ more) (marked names ss m) (take (length ps - arity m) ps ++ i ∷ [])
    stand-marked more m i le there at = record {
      places =
          ap (λ n. take (n - arity m) ps ++ i ∷ []) length-stand
          ∙ ap (λ ns. take (length ss - arity m) ns ++ i ∷ []) (s.places ∙ sym (map-same (place_in same_formula (fs ++ more)) (place_in same_formula fs) ss (All-weaker (IsAmong fs) (λ f. place_in same_formula (fs ++ more) f ≡ place_in same_formula fs f) (λ f a. place-more fs more f a) ss s.among)))
          ∙ ap (λ ns. ns ++ i ∷ []) (take-map (place_in same_formula (fs ++ more)) (length ss - arity m) ss)
          ∙ ap (λ n. map (place_in same_formula (fs ++ more)) (take (length ss - arity m) ss) ++ n ∷ []) at
          ∙ sym (map-append (place_in same_formula (fs ++ more)) (take (length ss - arity m) ss) (made_by names ss m ∷ []));
      among = All-push (IsAmong (fs ++ more)) (take (length ss - arity m) ss) (made_by names ss m)
          (All-take (IsAmong (fs ++ more)) (length ss - arity m) ss (All-weaker (IsAmong fs) (IsAmong (fs ++ more)) (λ f a. among-more fs more f a) ss s.among)) there;
    }

flat-append : (xs ys : List (Formula Name)) → flat_map subformulas (xs ++ ys) ≡ flat_map subformulas xs ++ flat_map subformulas ys
flat-append [] ys = refl
flat-append (x ∷ xs) ys = ap (λ zs. subformulas x ++ zs) (flat-append xs ys) ∙ sym (append_assoc (subformulas x) (flat_map subformulas xs) (flat_map subformulas ys))

last-one : (ss : List (Formula Name)) → 1 ≤ length ss → ss ≡ take (length ss - 1) ss ++ from_top ss 1 ∷ []
last-one ss le =
    sym (take-append-drop (length ss - 1) ss)
    ∙ ap (λ xs. take (length ss - 1) ss ++ xs) (drop_more ss (length ss - 1) Truth (omega arith) ∙ ap (λ xs. from_top ss 1 ∷ xs) (drop_all (length ss - 1 + 1) ss (omega arith)))

last-two : (ss : List (Formula Name)) → 2 ≤ length ss → ss ≡ take (length ss - 2) ss ++ from_top ss 2 ∷ from_top ss 1 ∷ []
last-two ss le =
    let e : length ss - 2 + 1 ≡ length ss - 1 = omega arith in
    sym (take-append-drop (length ss - 2) ss)
    ∙ ap (λ xs. take (length ss - 2) ss ++ xs) (drop_more ss (length ss - 2) Truth (omega arith)
    ∙ ap (λ n. from_top ss 2 ∷ drop n ss) e
    ∙ ap (λ xs. from_top ss 2 ∷ xs) (drop_more ss (length ss - 1) Truth (omega arith) ∙ ap (λ xs. from_top ss 1 ∷ xs) (drop_all (length ss - 1 + 1) ss (omega arith))))

flat-one : (xs : List (Formula Name)) (f g : Formula Name) → subformulas g ≡ subformulas f ++ g ∷ [] → flat_map subformulas (xs ++ g ∷ []) ≡ flat_map subformulas (xs ++ f ∷ []) ++ g ∷ []
flat-one xs f g e =
    flat-append xs (g ∷ [])
    ∙ ap (λ zs. flat_map subformulas xs ++ zs) (append-nil (subformulas g) ∙ e)
    ∙ sym (append_assoc (flat_map subformulas xs) (subformulas f) (g ∷ []))
    ∙ ap (λ zs. (flat_map subformulas xs ++ zs) ++ g ∷ []) (sym (append-nil (subformulas f)))
    ∙ ap (λ zs. zs ++ g ∷ []) (sym (flat-append xs (f ∷ [])))

flat-two : (xs : List (Formula Name)) (f f' g : Formula Name) → subformulas g ≡ subformulas f ++ subformulas f' ++ g ∷ []
    → flat_map subformulas (xs ++ g ∷ []) ≡ flat_map subformulas (xs ++ f ∷ f' ∷ []) ++ g ∷ []
flat-two xs f f' g e =
    flat-append xs (g ∷ [])
    ∙ ap (λ zs. flat_map subformulas xs ++ zs) (append-nil (subformulas g) ∙ e)
    ∙ sym (append_assoc (flat_map subformulas xs) (subformulas f ++ subformulas f') (g ∷ []))
    ∙ ap (λ zs. (flat_map subformulas xs ++ (subformulas f ++ zs)) ++ g ∷ []) (sym (append-nil (subformulas f')))
    ∙ ap (λ zs. zs ++ g ∷ []) (sym (flat-append xs (f ∷ f' ∷ [])))

flat-none : (ss : List (Formula Name)) (g : Formula Name) → subformulas g ≡ g ∷ [] → flat_map subformulas (take (length ss - 0) ss ++ g ∷ []) ≡ flat_map subformulas ss ++ g ∷ []
flat-none ss g e =
    flat-append (take (length ss - 0) ss) (g ∷ [])
    ∙ ap (λ zs. flat_map subformulas (take (length ss - 0) ss) ++ zs) (append-nil (subformulas g) ∙ e)
    ∙ ap (λ zs. flat_map subformulas zs ++ g ∷ []) (whole ss)
  where
    whole : (xs : List (Formula Name)) → take (length xs - 0) xs ≡ xs
    whole xs = sym (append-nil (take (length xs - 0) xs)) ∙ ap (λ zs. take (length xs - 0) xs ++ zs) (sym (drop_all (length xs - 0) xs (omega arith))) ∙ take-append-drop (length xs - 0) xs

module _ (names : List Name) where
  flat-marked : (ss : List (Formula Name)) (m : Mark) → arity m ≤ length ss → flat_map subformulas (marked names ss m) ≡ flat_map subformulas ss ++ made_by names ss m ∷ []
  flat-marked ss mark.True le = flat-none ss Truth refl
  flat-marked ss mark.False le = flat-none ss Falsity refl
  flat-marked ss (mark.Name n) le = flat-none ss (Atom (get_or names n [])) refl
  flat-marked ss mark.Not le = flat-one (take (length ss - 1) ss) (from_top ss 1) (Not (from_top ss 1)) refl ∙ ap (λ zs. flat_map subformulas zs ++ Not (from_top ss 1) ∷ []) (sym (last-one ss le))
  flat-marked ss mark.And le = flat-two (take (length ss - 2) ss) (from_top ss 2) (from_top ss 1) (And (from_top ss 2) (from_top ss 1)) refl ∙ ap (λ zs. flat_map subformulas zs ++ And (from_top ss 2) (from_top ss 1) ∷ []) (sym (last-two ss le))
  flat-marked ss mark.Or le = flat-two (take (length ss - 2) ss) (from_top ss 2) (from_top ss 1) (Or (from_top ss 2) (from_top ss 1)) refl ∙ ap (λ zs. flat_map subformulas zs ++ Or (from_top ss 2) (from_top ss 1) ∷ []) (sym (last-two ss le))
  flat-marked ss mark.Implies le = flat-two (take (length ss - 2) ss) (from_top ss 2) (from_top ss 1) (Implies (from_top ss 2) (from_top ss 1)) refl ∙ ap (λ zs. flat_map subformulas zs ++ Implies (from_top ss 2) (from_top ss 1) ∷ []) (sym (last-two ss le))
  flat-marked ss mark.Iff le = flat-two (take (length ss - 2) ss) (from_top ss 2) (from_top ss 1) (Iff (from_top ss 2) (from_top ss 1)) refl ∙ ap (λ zs. flat_map subformulas zs ++ Iff (from_top ss 2) (from_top ss 1) ∷ []) (sym (last-two ss le))

  flat-standing : (ss : List (Formula Name)) (ms : List Mark) → HaveOperands names ss ms → flat_map subformulas (open_after names ss ms) ≡ flat_map subformulas ss ++ tops names ss ms
  flat-standing ss [] h = sym (append-nil (flat_map subformulas ss))
  flat-standing ss (m ∷ ms) h = flat-standing (marked names ss m) ms h.1 ∙ ap (λ zs. zs ++ tops names (marked names ss m) ms) (flat-marked ss m h.0) ∙ append_assoc (flat_map subformulas ss) (made_by names ss m ∷ []) (tops names (marked names ss m) ms)

  -- marks that spell a formula make its subformulas
  pub tops-are : (ms : List Mark) (f : Formula Name) → HaveOperands names [] ms → open_after names [] ms ≡ f ∷ [] → tops names [] ms ≡ subformulas f
  tops-are ms f h e = sym (flat-standing [] ms h) ∙ ap (flat_map subformulas) e ∙ append-nil (subformulas f)

-- the numbers that stand open are those of nodes
pub numbers-below : (fs ss : List (Formula Name)) (ps : List ℕ) → IsStack fs ss ps → All (λ i. i < length (map (node_in fs) fs)) ps
numbers-below fs ss ps s = subst (All (λ i. i < length (map (node_in fs) fs))) (sym s.places)
    (All-map (λ i. i < length (map (node_in fs) fs)) (place_in same_formula fs) ss
    (All-weaker (IsAmong fs) (λ f. place_in same_formula fs f < length (map (node_in fs) fs))
    (λ f a. let b : place_in same_formula fs f < length fs = place-below same_formula fs f a in omega (arith, length-map fs (node_in fs))) ss s.among))
