-- Formulas as nodes: different formulas have different nodes, and more formulas change no node.
use Rattle.std.proofs.Common.{◌≡◌, Bool, true, ◌&&◌, ◌||◌, List, [], ◌∷◌, ◌++◌, refl, sym, ap, ◌∙◌, true≢false}
use Rattle.std.specs.List.{list_any}
use Rattle.ps_meaning.specs.Formula.{Formula, Truth, Falsity, Atom, Not, And, Or, Implies, Iff}
use Rattle.ps_meaning.specs.Statements.{Name}
use Rattle.ps_formula.specs.declared.node.Node.TheVariants as node
use Rattle.ps_problem.specs.Numbering.{same_name, same_formula, place_in, names_among, node_in}
use Rattle.ps_problem.specs.Numbered.{IsAmong, AreOperandsAmong}
use Rattle.ps_problem.proofs.NameLists.{same_name-true, same_name-refl}
use Rattle.ps_problem.proofs.Lists.{and-true, any-append, place-append, place-same}

pub same-true : (f g : Formula Name) → same_formula f g ≡ true → f ≡ g
same-true Truth Truth e = refl
same-true Falsity Falsity e = refl
same-true (Atom a) (Atom b) e = ap Atom (same_name-true a b e)
same-true (Not f) (Not g) e = ap Not (same-true f g e)
same-true (And f f') (And g g') e = let p = and-true (same_formula f g) (same_formula f' g') e in let l = same-true f g p.0 in let r = same-true f' g' p.1 in cc
same-true (Or f f') (Or g g') e = let p = and-true (same_formula f g) (same_formula f' g') e in let l = same-true f g p.0 in let r = same-true f' g' p.1 in cc
same-true (Implies f f') (Implies g g') e = let p = and-true (same_formula f g) (same_formula f' g') e in let l = same-true f g p.0 in let r = same-true f' g' p.1 in cc
same-true (Iff f f') (Iff g g') e = let p = and-true (same_formula f g) (same_formula f' g') e in let l = same-true f g p.0 in let r = same-true f' g' p.1 in cc
same-true f g e = absurd (true≢false (sym e))

and-both : (a b : Bool) → a ≡ true → b ≡ true → (a && b) ≡ true
and-both a b p q = rw (p, q) refl

pub same-refl : (f : Formula Name) → same_formula f f ≡ true
same-refl Truth = refl
same-refl Falsity = refl
same-refl (Atom a) = same_name-refl a
same-refl (Not f) = same-refl f
same-refl (And f g) = and-both (same_formula f f) (same_formula g g) (same-refl f) (same-refl g)
same-refl (Or f g) = and-both (same_formula f f) (same_formula g g) (same-refl f) (same-refl g)
same-refl (Implies f g) = and-both (same_formula f f) (same_formula g g) (same-refl f) (same-refl g)
same-refl (Iff f g) = and-both (same_formula f f) (same_formula g g) (same-refl f) (same-refl g)

pub names-append : (fs gs : List (Formula Name)) → names_among (fs ++ gs) ≡ names_among fs ++ names_among gs
names-append [] gs = refl
names-append (Atom a ∷ fs) gs = ap (λ ns. a ∷ ns) (names-append fs gs)
names-append (f ∷ fs) gs = names-append fs gs

-- an atom stands among formulas exactly where its name is among theirs
pub atom-among : (fs : List (Formula Name)) (a : Name) → list_any (same_formula (Atom a)) fs ≡ list_any (same_name a) (names_among fs)
atom-among [] a = refl
atom-among (Atom b ∷ fs) a = ap (λ t. same_name a b || t) (atom-among fs a)
atom-among (f ∷ fs) a = atom-among fs a

module _ (fs more : List (Formula Name)) where
  pub among-more : (f : Formula Name) → IsAmong fs f → IsAmong (fs ++ more) f
  among-more f h = any-append same_formula fs more f h

  pub ready-more : (f : Formula Name) → AreOperandsAmong fs f → AreOperandsAmong (fs ++ more) f
  ready-more Truth h = tt
  ready-more Falsity h = tt
  ready-more (Atom a) h = rw (names-append fs more) (any-append same_name (names_among fs) (names_among more) a h)
  ready-more (Not f) h = among-more f h
  ready-more (And f g) h = (among-more f h.0, among-more g h.1)
  ready-more (Or f g) h = (among-more f h.0, among-more g h.1)
  ready-more (Implies f g) h = (among-more f h.0, among-more g h.1)
  ready-more (Iff f g) h = (among-more f h.0, among-more g h.1)

  pub place-more : (f : Formula Name) → IsAmong fs f → place_in same_formula (fs ++ more) f ≡ place_in same_formula fs f
  place-more f h = place-append same_formula fs more f h

  pub node-more : (f : Formula Name) → AreOperandsAmong fs f → node_in (fs ++ more) f ≡ node_in fs f
  node-more Truth h = refl
  node-more Falsity h = refl
  node-more (Atom a) h = ap node.Atom (ap (λ ns. place_in same_name ns a) (names-append fs more) ∙ place-append same_name (names_among fs) (names_among more) a h)
  node-more (Not f) h = ap node.Not (place-more f h)
  node-more (And f g) h = rw (place-more f h.0, place-more g h.1) refl
  node-more (Or f g) h = rw (place-more f h.0, place-more g h.1) refl
  node-more (Implies f g) h = rw (place-more f h.0, place-more g h.1) refl
  node-more (Iff f g) h = rw (place-more f h.0, place-more g h.1) refl

module _ (fs : List (Formula Name)) where
  at-same : (f g : Formula Name) → IsAmong fs f → IsAmong fs g → place_in same_formula fs f ≡ place_in same_formula fs g → f ≡ g
  at-same = place-same same_formula same-true same-refl fs

  -- formulas with one node are one formula
  pub node-same : (f g : Formula Name) → AreOperandsAmong fs f → AreOperandsAmong fs g → node_in fs f ≡ node_in fs g → f ≡ g
  node-same Truth Truth h k e = refl
  node-same Falsity Falsity h k e = refl
  node-same (Atom a) (Atom b) h k e = ap Atom (place-same same_name same_name-true same_name-refl (names_among fs) a b h k (cc))
  node-same (Not f) (Not g) h k e = ap Not (at-same f g h k (cc))
  node-same (And f f') (And g g') h k e = let l = at-same f g h.0 k.0 (cc) in let r = at-same f' g' h.1 k.1 (cc) in cc
  node-same (Or f f') (Or g g') h k e = let l = at-same f g h.0 k.0 (cc) in let r = at-same f' g' h.1 k.1 (cc) in cc
  node-same (Implies f f') (Implies g g') h k e = let l = at-same f g h.0 k.0 (cc) in let r = at-same f' g' h.1 k.1 (cc) in cc
  node-same (Iff f f') (Iff g g') h k e = let l = at-same f g h.0 k.0 (cc) in let r = at-same f' g' h.1 k.1 (cc) in cc
  node-same f g h k e = cc
