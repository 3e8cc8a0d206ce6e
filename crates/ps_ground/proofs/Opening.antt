-- The formulas that stand open in a draft while marks are added.
use Rattle.std.proofs.Common.{◌≡◌, ℕ, ◌+◌, ◌-◌, ◌<◌, ◌≤◌, List, [], ◌∷◌, ◌++◌, length, map, take, drop, get_or, All, refl, sym, ap, subst, ◌∙◌, arith}
use Rattle.std.proofs.lemmas.List.{append-nil, append_assoc, map-append, length_push, get_or_at, take_at, drop_more, drop_all}
use Rattle.std.proofs.lemmas.List.Elements.{All-nil, All-cons, All-append, All-push}
use Rattle.ps_meaning.specs.Formula.{Formula, subformulas}
use Rattle.ps_meaning.specs.Formula as formula
use Rattle.ps_meaning.specs.Statements.{Name}
use Rattle.ps_text.specs.Canonical.{canonical_nesting, HasNames}
use Rattle.ps_problem.specs.declared.limits.TheConstants.{MOST_NESTING}
use Rattle.std.specs.Prelude.{Result, Ok, Err, IfOk, OnOk}
use Rattle.ps_io.specs.declared.no_memory.NoMemory.{NoMemory}
use Rattle.ps_problem.specs.Drafts.{Drafted, from_top, with_formula}
use Rattle.ps_first_order.specs.declared.part.Connective.{Connective}
use Rattle.ps_first_order.specs.declared.part.Connective.TheVariants as connective
use Rattle.ps_ground.specs.declared.mark.GroundMark.{GroundMark}
use Rattle.ps_ground.specs.declared.mark.GroundMark.TheVariants as mark
use Rattle.ps_ground.specs.GroundParts.{mark_of, marks_of}
use Rattle.ps_ground.specs.Drafting.{connected, taken_by, made_of, behind_mark, behind_marks, FindOperands, IsNamed, AreDraftable, IsMarked, HasFormula}
use Rattle.ps_ground.proofs.Marking.{connected-marks, not-marks}

-- the formulas on top of a stack
top-one : (fs : List (Formula Name)) (f : Formula Name) → from_top (fs ++ f ∷ []) 1 ≡ f
top-one fs f = get_or_at fs f [] formula.Truth (length (fs ++ f ∷ []) - 1) (let l = length_push fs f in omega arith)

top-two : (fs : List (Formula Name)) (f g : Formula Name) → from_top ((fs ++ f ∷ []) ++ g ∷ []) 2 ≡ f
top-two fs f g =
    let l = length_push fs f in
    let k = length_push (fs ++ f ∷ []) g in
    ap (λ xs. get_or xs (length ((fs ++ f ∷ []) ++ g ∷ []) - 2) formula.Truth) (append_assoc fs (f ∷ []) (g ∷ []))
    ∙ get_or_at fs f (g ∷ []) formula.Truth (length ((fs ++ f ∷ []) ++ g ∷ []) - 2) (omega (arith, l, k))

below-one : (fs : List (Formula Name)) (f : Formula Name) → take (length (fs ++ f ∷ []) - 1) (fs ++ f ∷ []) ≡ fs
below-one fs f = take_at fs (f ∷ []) (length (fs ++ f ∷ []) - 1) (let l = length_push fs f in omega arith)

below-two : (fs : List (Formula Name)) (f g : Formula Name) → take (length ((fs ++ f ∷ []) ++ g ∷ []) - 2) ((fs ++ f ∷ []) ++ g ∷ []) ≡ fs
below-two fs f g =
    let l = length_push fs f in
    let k = length_push (fs ++ f ∷ []) g in
    ap (take (length ((fs ++ f ∷ []) ++ g ∷ []) - 2)) (append_assoc fs (f ∷ []) (g ∷ []))
    ∙ take_at fs (f ∷ g ∷ []) (length ((fs ++ f ∷ []) ++ g ∷ []) - 2) (omega (arith, l, k))

behind-none : (fs : List (Formula Name)) → take (length fs - 0) fs ≡ fs
behind-none fs = ap (λ xs. take (length fs - 0) xs) (sym (append-nil fs)) ∙ take_at fs [] (length fs - 0) (omega arith)

behind-not : (fs : List (Formula Name)) (f : Formula Name) → behind_mark (fs ++ f ∷ []) mark.Not ≡ fs ++ formula.Not f ∷ []
behind-not fs f = rw (below-one fs f, top-one fs f) refl

behind-joined : (c : Connective) (fs : List (Formula Name)) (f g : Formula Name) → behind_mark ((fs ++ f ∷ []) ++ g ∷ []) (mark.Joined c) ≡ fs ++ connected c f g ∷ []
behind-joined c fs f g = rw (below-two fs f g, top-two fs f g, top-one (fs ++ f ∷ []) g) refl

-- the marks of a formula leave it open, and all of them find their operands
record Leaves (fs : List (Formula Name)) (f : Formula Name) (ms : List GroundMark) : Type 0 where
  opened : behind_marks fs (marks_of f ++ ms) ≡ behind_marks (fs ++ f ∷ []) ms
  found : FindOperands (fs ++ f ∷ []) ms → FindOperands fs (marks_of f ++ ms)

leaf : (m : GroundMark) (fs : List (Formula Name)) (f : Formula Name) (ms : List GroundMark) → marks_of f ≡ m ∷ [] → taken_by m ≡ 0 → made_of fs m ≡ f → Leaves fs f ms
leaf m fs f ms one none is =
    let here : behind_mark fs m ≡ fs ++ f ∷ [] = ap (λ k. take (length fs - k) fs ++ made_of fs m ∷ []) none ∙ ap (λ xs. xs ++ made_of fs m ∷ []) (behind-none fs) ∙ ap (λ g. fs ++ g ∷ []) is in
    record {
      opened = ap (λ xs. behind_marks fs (xs ++ ms)) one ∙ ap (λ xs. behind_marks xs ms) here;
      found = λ h. subst (λ xs. FindOperands fs (xs ++ ms)) (sym one) (omega (arith, none), subst (λ xs. FindOperands xs ms) (sym here) h);
    }

leaves-not : (fs : List (Formula Name)) (f : Formula Name) (ms : List GroundMark) → Leaves fs f (mark.Not ∷ ms) → Leaves fs (formula.Not f) ms
leaves-not fs f ms h =
    let e : marks_of (formula.Not f) ++ ms ≡ marks_of f ++ mark.Not ∷ ms = ap (λ xs. xs ++ ms) (not-marks f) ∙ append_assoc (marks_of f) (mark.Not ∷ []) ms in
    let l = length_push fs f in
    record {
      opened = ap (behind_marks fs) e ∙ h.opened ∙ ap (λ xs. behind_marks xs ms) (behind-not fs f);
      found = λ k. subst (FindOperands fs) (sym e) (h.found (omega arith, subst (λ xs. FindOperands xs ms) (sym (behind-not fs f)) k));
    }

leaves-joined : (c : Connective) (fs : List (Formula Name)) (f g : Formula Name) (ms : List GroundMark) → Leaves fs f (marks_of g ++ mark.Joined c ∷ ms) → Leaves (fs ++ f ∷ []) g (mark.Joined c ∷ ms)
    → Leaves fs (connected c f g) ms
leaves-joined c fs f g ms one two =
    let e : marks_of (connected c f g) ++ ms ≡ marks_of f ++ (marks_of g ++ mark.Joined c ∷ ms)
    = ap (λ xs. xs ++ ms) (connected-marks c f g) ∙ append_assoc (marks_of f ++ marks_of g) (mark.Joined c ∷ []) ms ∙ append_assoc (marks_of f) (marks_of g) (mark.Joined c ∷ ms) in
    let l = length_push fs f in
    let k = length_push (fs ++ f ∷ []) g in
    record {
      opened = ap (behind_marks fs) e ∙ one.opened ∙ two.opened ∙ ap (λ xs. behind_marks xs ms) (behind-joined c fs f g);
      found = λ h. subst (FindOperands fs) (sym e) (one.found (two.found (omega (arith, l, k), subst (λ xs. FindOperands xs ms) (sym (behind-joined c fs f g)) h)));
    }

leaves : (f : Formula Name) (fs : List (Formula Name)) (ms : List GroundMark) → Leaves fs f ms
leaves formula.Truth fs ms = leaf mark.True fs formula.Truth ms refl refl refl
leaves formula.Falsity fs ms = leaf mark.False fs formula.Falsity ms refl refl refl
leaves (formula.Atom a) fs ms = leaf (mark.Name a) fs (formula.Atom a) ms refl refl refl
leaves (formula.Not f) fs ms = leaves-not fs f ms (leaves f fs (mark.Not ∷ ms))
leaves (formula.And f g) fs ms = leaves-joined connective.And fs f g ms (leaves f fs (marks_of g ++ mark.Joined connective.And ∷ ms)) (leaves g (fs ++ f ∷ []) (mark.Joined connective.And ∷ ms))
leaves (formula.Or f g) fs ms = leaves-joined connective.Or fs f g ms (leaves f fs (marks_of g ++ mark.Joined connective.Or ∷ ms)) (leaves g (fs ++ f ∷ []) (mark.Joined connective.Or ∷ ms))
leaves (formula.Implies f g) fs ms = leaves-joined connective.Implies fs f g ms (leaves f fs (marks_of g ++ mark.Joined connective.Implies ∷ ms)) (leaves g (fs ++ f ∷ []) (mark.Joined connective.Implies ∷ ms))
leaves (formula.Iff f g) fs ms = leaves-joined connective.Iff fs f g ms (leaves f fs (marks_of g ++ mark.Joined connective.Iff ∷ ms)) (leaves g (fs ++ f ∷ []) (mark.Joined connective.Iff ∷ ms))

pub marks-open : (f : Formula Name) (ms : List GroundMark) → ms ≡ marks_of f → behind_marks [] ms ≡ f ∷ []
marks-open f ms e = ap (behind_marks []) (e ∙ sym (append-nil (marks_of f))) ∙ (leaves f [] []).opened

pub marks-find : (f : Formula Name) (ms : List GroundMark) → ms ≡ marks_of f → FindOperands [] ms
marks-find f ms e = subst (FindOperands []) (sym (e ∙ sym (append-nil (marks_of f)))) ((leaves f [] []).found tt)

-- the names among the marks of a formula are names
named-push : (f : Formula Name) (rest : List (Formula Name)) → All IsNamed (map mark_of rest) → IsNamed (mark_of f) → All IsNamed (map mark_of (rest ++ f ∷ []))
named-push f rest h k = subst (All IsNamed) (sym (map-append mark_of rest (f ∷ []))) (All-push IsNamed (map mark_of rest) (mark_of f) h k)

named-both : (xs ys : List (Formula Name)) → All IsNamed (map mark_of xs) → All IsNamed (map mark_of ys) → All IsNamed (map mark_of (xs ++ ys))
named-both xs ys h k = subst (All IsNamed) (sym (map-append mark_of xs ys)) (All-append IsNamed (map mark_of xs) (map mark_of ys) h k)

pub marks-named : (f : Formula Name) → HasNames f → All IsNamed (marks_of f)
marks-named formula.Truth h = All-cons IsNamed mark.True [] tt (All-nil IsNamed)
marks-named formula.Falsity h = All-cons IsNamed mark.False [] tt (All-nil IsNamed)
marks-named (formula.Atom a) h = All-cons IsNamed (mark.Name a) [] h (All-nil IsNamed)
marks-named (formula.Not f) h = named-push (formula.Not f) (subformulas f) (marks-named f h) tt
marks-named (formula.And f g) h = named-push (formula.And f g) (subformulas f ++ subformulas g) (named-both (subformulas f) (subformulas g) (marks-named f h.0) (marks-named g h.1)) tt
marks-named (formula.Or f g) h = named-push (formula.Or f g) (subformulas f ++ subformulas g) (named-both (subformulas f) (subformulas g) (marks-named f h.0) (marks-named g h.1)) tt
marks-named (formula.Implies f g) h = named-push (formula.Implies f g) (subformulas f ++ subformulas g) (named-both (subformulas f) (subformulas g) (marks-named f h.0) (marks-named g h.1)) tt
marks-named (formula.Iff f g) h = named-push (formula.Iff f g) (subformulas f ++ subformulas g) (named-both (subformulas f) (subformulas g) (marks-named f h.0) (marks-named g h.1)) tt

-- so many marks were added
pub record AreMarked (old : Drafted) (ms : List GroundMark) (i : ℕ) (new : Drafted) : Type 0 where
  pub rest : behind_marks new.«open» (drop i ms) ≡ behind_marks old.«open» ms
  pub found : FindOperands old.«open» ms → FindOperands new.«open» (drop i ms)
  pub formulas : new.formulas ≡ old.formulas
  pub items : new.items ≡ old.items
  pub names : length new.names ≤ length old.names + i

module _ (old : Drafted) (ms : List GroundMark) where
  pub marked-start : AreMarked old ms 0 old
  marked-start = record { rest = refl; found = λ h. h; formulas = refl; items = refl; names = omega arith }

  pub marked-finds : (i : ℕ) (new : Drafted) (d : GroundMark) → i < length ms → AreMarked old ms i new → FindOperands old.«open» ms → taken_by (get_or ms i d) ≤ length new.«open»
  marked-finds i new d lt h found =
      let k : FindOperands new.«open» (get_or ms i d ∷ drop (i + 1) ms) = subst (FindOperands new.«open») (drop_more ms i d lt) (h.found found) in
      k.0

  pub marked-more : (i : ℕ) (here new : Drafted) (d : GroundMark) → i < length ms → AreMarked old ms i here → IsMarked here (get_or ms i d) new → AreMarked old ms (i + 1) new
  marked-more i here new d lt h k = record {
    rest = ap (λ fs. behind_marks fs (drop (i + 1) ms)) k.opened ∙ ap (behind_marks here.«open») (sym (drop_more ms i d lt)) ∙ h.rest;
    found = λ all.
        let two : FindOperands here.«open» (get_or ms i d ∷ drop (i + 1) ms) = subst (FindOperands here.«open») (drop_more ms i d lt) (h.found all) in
        subst (λ fs. FindOperands fs (drop (i + 1) ms)) (sym k.opened) two.1;
    formulas = k.formulas ∙ h.formulas;
    items = k.items ∙ h.items;
    names = (let a = k.names in let b = h.names in omega arith);
  }

  -- all marks were added
  pub marked-all : (i : ℕ) (new : Drafted) → length ms ≤ i → AreMarked old ms i new → old.«open» ≡ [] → (f : Formula Name) → ms ≡ marks_of f → new.«open» ≡ f ∷ []
  marked-all i new most h closed f e = ap (behind_marks new.«open») (sym (drop_all i ms most)) ∙ h.rest ∙ ap (λ fs. behind_marks fs ms) closed ∙ marks-open f ms e

  pub all-named : AreDraftable ms → All IsNamed ms
  all-named h = subst (All IsNamed) (sym h.is) (marks-named h.formula h.named)

  pub all-find : AreDraftable ms → old.«open» ≡ [] → FindOperands old.«open» ms
  all-find h closed = subst (λ fs. FindOperands fs ms) (sym closed) (marks-find h.formula ms h.is)

  pub open-nested : (i : ℕ) (new : Drafted) → length ms ≤ i → AreMarked old ms i new → old.«open» ≡ [] → AreDraftable ms → All (λ f. canonical_nesting f ≤ MOST_NESTING) new.«open»
  open-nested i new most h closed k =
      subst (All (λ f. canonical_nesting f ≤ MOST_NESTING)) (sym (marked-all i new most h closed k.formula k.is))
      (All-cons (λ f. canonical_nesting f ≤ MOST_NESTING) k.formula [] k.nesting (All-nil (λ f. canonical_nesting f ≤ MOST_NESTING)))

  pub has-formula : (i : ℕ) (here new : Drafted) (r : Result ℕ NoMemory) → length ms ≤ i → AreMarked old ms i here → old.«open» ≡ []
      → IfOk r (λ n. n ≡ length here.formulas) → OnOk r (new ≡ with_formula here) → IfOk r (λ n. HasFormula old ms n new)
  has-formula i here new (Ok n) most h closed number is = record {
    number_is = number ∙ ap length h.formulas;
    formulas = λ f e. ap (λ d. d.formulas) is ∙ ap (λ fs. here.formulas ++ fs) (marked-all i here most h closed f e) ∙ ap (λ fs. fs ++ f ∷ []) h.formulas;
    closed = ap (λ d. d.«open») is;
    items = ap (λ d. d.items) is ∙ h.items;
  }
  has-formula i here new (Err e) most h closed number is = tt
