-- The atoms of formulas by name.
use Rattle.std.proofs.Common.{◌≡◌, ℕ, zero, suc, ◌<◌, Bool, true, false, List, [], ◌∷◌, ◌++◌, length, map, All, Some, slice_get, refl, sym, ap, subst, ◌∙◌, true≢false, if◌then◌else◌, arith}
use Rattle.std.specs.Prelude.{Contains, slice_index_or}
use Rattle.std.specs.List.{list_any, fold}
use Rattle.std.proofs.lemmas.List.{length-map}
use Rattle.std.proofs.lemmas.List.Elements.{All-nil, All-cons, All-head, All-tail, All-push, All-append, All-map, All-weaker, All-contains, All-contains_itself}
use Rattle.std.proofs.lemmas.Option.{slice_get-map}
use Rattle.std.specs.Option.{option_map}
use Rattle.ps_meaning.specs.Formula.{Formula, subformulas}
use Rattle.ps_meaning.specs.Formula as formula
use Rattle.ps_meaning.specs.Statements.{Name}
use Rattle.ps_problem.specs.Numbering.{same_name, same_formula, with_new, names_among}
use Rattle.ps_problem.proofs.NameLists.{same_name-refl}
use Rattle.ps_first_order.specs.FirstOrder.{FirstOrder, Signature, IsSignature, IsSymbol, IsPlain, Term, Constant, Variable, IsTerm, IsFormula, Structure, Assignment, assigned, constant_of, IsGroundAtom}
use Rattle.ps_first_order.specs.FirstOrder as first_order
use Rattle.ps_ground.specs.Grounding.{atom_name, conjunction, disjunction, ground_under}
use Rattle.ps_ground.specs.Images.{cut, value_named, world_of}
use Rattle.ps_ground.proofs.Cutting.{cut-atom}

-- the property holds of the name of each atom of a formula
abbrev pub EachAtom : (Name → Type 0) → Formula Name → Type 0
EachAtom P formula.Truth = Unit {0}
EachAtom P formula.Falsity = Unit {0}
EachAtom P (formula.Atom a) = P a
EachAtom P (formula.Not f) = EachAtom P f
EachAtom P (formula.And f g) = EachAtom P f × EachAtom P g
EachAtom P (formula.Or f g) = EachAtom P f × EachAtom P g
EachAtom P (formula.Implies f g) = EachAtom P f × EachAtom P g
EachAtom P (formula.Iff f g) = EachAtom P f × EachAtom P g

module _ (P : Name → Type 0) where
  each-and : (fs : List (Formula Name)) (g : Formula Name) → EachAtom P g → All (EachAtom P) fs → EachAtom P (fold formula.And g fs)
  each-and [] g h hs = h
  each-and (f ∷ fs) g h hs = each-and fs (formula.And g f) (h, All-head (EachAtom P) f fs hs) (All-tail (EachAtom P) f fs hs)

  each-or : (fs : List (Formula Name)) (g : Formula Name) → EachAtom P g → All (EachAtom P) fs → EachAtom P (fold formula.Or g fs)
  each-or [] g h hs = h
  each-or (f ∷ fs) g h hs = each-or fs (formula.Or g f) (h, All-head (EachAtom P) f fs hs) (All-tail (EachAtom P) f fs hs)

  pub each-conjunction : (fs : List (Formula Name)) → All (EachAtom P) fs → EachAtom P (conjunction fs)
  each-conjunction [] hs = tt
  each-conjunction (f ∷ fs) hs = each-and fs f (All-head (EachAtom P) f fs hs) (All-tail (EachAtom P) f fs hs)

  pub each-disjunction : (fs : List (Formula Name)) → All (EachAtom P) fs → EachAtom P (disjunction fs)
  each-disjunction [] hs = tt
  each-disjunction (f ∷ fs) hs = each-or fs f (All-head (EachAtom P) f fs hs) (All-tail (EachAtom P) f fs hs)

  and-each : (fs : List (Formula Name)) (g : Formula Name) → EachAtom P (fold formula.And g fs) → EachAtom P g × All (EachAtom P) fs
  and-each [] g h = (h, All-nil (EachAtom P))
  and-each (f ∷ fs) g h =
      let r = and-each fs (formula.And g f) h in
      (r.0.0, All-cons (EachAtom P) f fs r.0.1 r.1)

  or-each : (fs : List (Formula Name)) (g : Formula Name) → EachAtom P (fold formula.Or g fs) → EachAtom P g × All (EachAtom P) fs
  or-each [] g h = (h, All-nil (EachAtom P))
  or-each (f ∷ fs) g h =
      let r = or-each fs (formula.Or g f) h in
      (r.0.0, All-cons (EachAtom P) f fs r.0.1 r.1)

  pub conjunction-each : (fs : List (Formula Name)) → EachAtom P (conjunction fs) → All (EachAtom P) fs
  conjunction-each [] h = All-nil (EachAtom P)
  conjunction-each (f ∷ fs) h = let r = and-each fs f h in All-cons (EachAtom P) f fs r.0 r.1

  pub disjunction-each : (fs : List (Formula Name)) → EachAtom P (disjunction fs) → All (EachAtom P) fs
  disjunction-each [] h = All-nil (EachAtom P)
  disjunction-each (f ∷ fs) h = let r = or-each fs f h in All-cons (EachAtom P) f fs r.0 r.1

  -- so it does of each atom of a subformula
  pub each-subformula : (f : Formula Name) → EachAtom P f → All (EachAtom P) (subformulas f)
  each-subformula formula.Truth h = All-cons (EachAtom P) formula.Truth [] tt (All-nil (EachAtom P))
  each-subformula formula.Falsity h = All-cons (EachAtom P) formula.Falsity [] tt (All-nil (EachAtom P))
  each-subformula (formula.Atom a) h = All-cons (EachAtom P) (formula.Atom a) [] h (All-nil (EachAtom P))
  each-subformula (formula.Not f) h = All-push (EachAtom P) (subformulas f) (formula.Not f) (each-subformula f h) h
  each-subformula (formula.And f g) h = All-push (EachAtom P) (subformulas f ++ subformulas g) (formula.And f g) (All-append (EachAtom P) (subformulas f) (subformulas g) (each-subformula f h.0) (each-subformula g h.1)) h
  each-subformula (formula.Or f g) h = All-push (EachAtom P) (subformulas f ++ subformulas g) (formula.Or f g) (All-append (EachAtom P) (subformulas f) (subformulas g) (each-subformula f h.0) (each-subformula g h.1)) h
  each-subformula (formula.Implies f g) h = All-push (EachAtom P) (subformulas f ++ subformulas g) (formula.Implies f g) (All-append (EachAtom P) (subformulas f) (subformulas g) (each-subformula f h.0) (each-subformula g h.1)) h
  each-subformula (formula.Iff f g) h = All-push (EachAtom P) (subformulas f ++ subformulas g) (formula.Iff f g) (All-append (EachAtom P) (subformulas f) (subformulas g) (each-subformula f h.0) (each-subformula g h.1)) h

  -- and of each name among formulas
  pub each-name : (fs : List (Formula Name)) → All (EachAtom P) fs → All P (names_among fs)
  each-name [] h = All-nil P
  each-name (formula.Atom a ∷ fs) h = All-cons P a (names_among fs) (All-head (EachAtom P) (formula.Atom a) fs h) (each-name fs (All-tail (EachAtom P) (formula.Atom a) fs h))
  each-name (f ∷ fs) h = each-name fs (All-tail (EachAtom P) f fs h)

  -- and where each formula is listed once
  pub each-new : (fs acc : List (Formula Name)) → All (EachAtom P) acc → All (EachAtom P) fs → All (EachAtom P) (fold (with_new same_formula) acc fs)
  each-new [] acc h hs = h
  each-new (f ∷ fs) acc h hs = each-new fs (with_new same_formula acc f) (by (list_any (same_formula f) acc)) (All-tail (EachAtom P) f fs hs)
    where
      by : (b : Bool) → All (EachAtom P) (if b then acc else (acc ++ f ∷ []))
      by true = h
      by false = All-push (EachAtom P) acc f h (All-head (EachAtom P) f fs hs)

-- the name of a ground atom
pub record IsAtomName (s : Signature) (n : Name) : Type 0 where
  pub predicate : Name
  pub constants : List Name
  pub is : n ≡ atom_name predicate constants
  pub atom : IsGroundAtom s predicate constants

module _ (s : Signature) (sound : IsSignature s) where
  -- the parts of a ground atom have no `_`
  plain-predicate : (p : Name) (cs : List Name) → IsGroundAtom s p cs → IsPlain p
  plain-predicate p cs g = (All-contains (λ q. IsSymbol q.name) s.predicates (record { name = p; arity = length cs }) sound.predicates g.predicate).plain

  plain-constants : (p : Name) (cs : List Name) → IsGroundAtom s p cs → All IsPlain cs
  plain-constants p cs g = All-weaker (Contains s.constants) IsPlain (λ c k. (All-contains IsSymbol s.constants c sound.constants k).plain) cs g.constants

  pub cut-ground : (p : Name) (cs : List Name) → IsGroundAtom s p cs → cut (atom_name p cs) ≡ (p, cs)
  cut-ground p cs g = cut-atom p cs (plain-predicate p cs g) (plain-constants p cs g)

  pub value-ground : (m : Structure) (p : Name) (cs : List Name) → IsGroundAtom s p cs → value_named m (atom_name p cs) ≡ m p cs
  value-ground m p cs g = ap (λ c. m c.0 c.1) (cut-ground p cs g)

  pub names-differ : (p q : Name) (cs ds : List Name) → IsGroundAtom s p cs → IsGroundAtom s q ds → atom_name p cs ≡ atom_name q ds → (p ≡ q) × (cs ≡ ds)
  names-differ p q cs ds g h e =
      let same : (p, cs) ≡ (q, ds) = sym (cut-ground p cs g) ∙ ap cut e ∙ cut-ground q ds h in
      (ap (λ c. c.0) same, ap (λ c. c.1) same)

  pub world-truths : (names : List Name) (m : Structure) (p : Name) (cs : List Name) (i : ℕ) → IsGroundAtom s p cs
      → slice_get names i ≡ Some (atom_name p cs) → slice_get (world_of names m) i ≡ Some (m p cs)
  world-truths names m p cs i g e = slice_get-map (value_named m) names i ∙ ap (option_map (value_named m)) e ∙ ap Some (value-ground m p cs g)

-- a name that is in a list, and not first, is in the rest
pub contains-rest : (x y : Name) (xs : List Name) → same_name y x ≡ false → Contains (x ∷ xs) y → Contains xs y
contains-rest x y xs e h = go h.0 h.1 h.2
  where
    go : (k : ℕ) → k < suc (length xs) → slice_index_or (x ∷ xs) k y ≡ y → Contains xs y
    go zero lt i = absurd (true≢false (sym (same_name-refl y) ∙ ap (same_name y) (sym i) ∙ e))
    go (suc k) lt i = (k, omega arith, i)

module _ (s : Signature) where
  -- each variable that is bound stands for a constant
  abbrev pub StandFor : List Name → Assignment → Type 0
  StandFor bound a = (x : Name) → Contains bound x → Contains s.constants (a x)

  pub stand-more : (bound : List Name) (a : Assignment) (x c : Name) → StandFor bound a → Contains s.constants c → StandFor (x ∷ bound) (assigned a x c)
  stand-more bound a x c h k y there = by (same_name y x) refl
    where
      by : (b : Bool) → same_name y x ≡ b → Contains s.constants (if b then c else a y)
      by true e = k
      by false e = h y (contains-rest x y bound e there)

  pub term-stands : (bound : List Name) (a : Assignment) → StandFor bound a → (t : Term) → IsTerm s bound t → Contains s.constants (constant_of a t)
  term-stands bound a h (Constant c) k = k
  term-stands bound a h (Variable x) k = h x k

  pub ground-atom : (bound : List Name) (a : Assignment) (p : Name) (ts : List Term) → StandFor bound a → first_order.IsAtom s bound p ts → IsGroundAtom s p (map (constant_of a) ts)
  ground-atom bound a p ts h k = record {
    predicate = subst (λ n. Contains s.predicates (record { name = p; arity = n })) (sym (length-map ts (constant_of a))) k.0;
    constants = All-map (Contains s.constants) (constant_of a) ts (All-weaker (IsTerm s bound) (λ t. Contains s.constants (constant_of a t)) (term-stands bound a h) ts k.1);
  }

  -- the atoms of a ground formula are ground atoms
  pub each-ground : (f : FirstOrder) (bound : List Name) (a : Assignment) → IsFormula s bound f → StandFor bound a → EachAtom (IsAtomName s) (ground_under f s.constants a)
  each-ground first_order.Truth bound a h k = tt
  each-ground first_order.Falsity bound a h k = tt
  each-ground (first_order.Holds p ts) bound a h k = record { predicate = p; constants = map (constant_of a) ts; is = refl; atom = ground-atom bound a p ts k h }
  each-ground (first_order.Not f) bound a h k = each-ground f bound a h k
  each-ground (first_order.And f g) bound a h k = (each-ground f bound a h.0 k, each-ground g bound a h.1 k)
  each-ground (first_order.Or f g) bound a h k = (each-ground f bound a h.0 k, each-ground g bound a h.1 k)
  each-ground (first_order.Implies f g) bound a h k = (each-ground f bound a h.0 k, each-ground g bound a h.1 k)
  each-ground (first_order.Iff f g) bound a h k = (each-ground f bound a h.0 k, each-ground g bound a h.1 k)
  each-ground (first_order.ForAll x f) bound a h k =
      each-conjunction (IsAtomName s) (map (λ c. ground_under f s.constants (assigned a x c)) s.constants)
      (All-map (EachAtom (IsAtomName s)) (λ c. ground_under f s.constants (assigned a x c)) s.constants
      (All-weaker (Contains s.constants) (λ c. EachAtom (IsAtomName s) (ground_under f s.constants (assigned a x c)))
      (λ c there. each-ground f (x ∷ bound) (assigned a x c) h.1 (stand-more bound a x c k there)) s.constants (All-contains_itself s.constants)))
  each-ground (first_order.Exists x f) bound a h k =
      each-disjunction (IsAtomName s) (map (λ c. ground_under f s.constants (assigned a x c)) s.constants)
      (All-map (EachAtom (IsAtomName s)) (λ c. ground_under f s.constants (assigned a x c)) s.constants
      (All-weaker (Contains s.constants) (λ c. EachAtom (IsAtomName s) (ground_under f s.constants (assigned a x c)))
      (λ c there. each-ground f (x ∷ bound) (assigned a x c) h.1 (stand-more bound a x c k there)) s.constants (All-contains_itself s.constants)))
