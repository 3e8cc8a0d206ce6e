-- The marks of ground formulas of numbered parts.
use Rattle.std.proofs.Common.{◌≡◌, ◌≢◌, ℕ, zero, suc, ◌+◌, ◌<◌, Bool, true, false, List, [], ◌∷◌, ◌++◌, length, map, take, set, get_or, refl, sym, ap, subst, ◌∙◌, true≢false, if◌then◌else◌, arith}
use Rattle.std.specs.List.{fold}
use Rattle.std.proofs.lemmas.List.{append-nil, append_assoc, map-append, length-append, length-set, length-map, get_or_append_left, get_or_at, get_or-set_same, get_or-set_other, set-set, set-get_or, take_more, take_all, length-take-le}
use Rattle.std.proofs.lemmas.List.Elements.{All-set}
use Rattle.std.proofs.lemmas.List.Sums.{fold-append}
use Rattle.ps_meaning.specs.Formula.{Formula, subformulas}
use Rattle.ps_meaning.specs.Formula as formula
use Rattle.ps_meaning.specs.Statements.{Name}
use Rattle.ps_problem.specs.Problems.{name_at}
use Rattle.ps_problem.specs.Numbering.{AreOnce, same_name, place_in}
use Rattle.ps_problem.proofs.NameLists.{same_name-true}
use Rattle.ps_first_order.specs.declared.part.Connective.{Connective}
use Rattle.ps_first_order.specs.declared.part.Connective.TheVariants as connective
use Rattle.ps_first_order.specs.declared.part.Quantifier.{Quantifier}
use Rattle.ps_first_order.specs.declared.part.Quantifier.TheVariants as quantifier
use Rattle.ps_first_order.specs.declared.part.Part.{Part}
use Rattle.ps_first_order.specs.declared.part.Part.TheVariants as part
use Rattle.ps_first_order.specs.declared.part.FirstOrderParts.{FirstOrderParts}
use Rattle.ps_ground.specs.declared.mark.GroundMark.{GroundMark}
use Rattle.ps_ground.specs.declared.mark.GroundMark.TheVariants as mark
use Rattle.ps_first_order.specs.FirstOrder.{FirstOrder, Assignment, assigned}
use Rattle.ps_first_order.specs.FirstOrder as first_order
use Rattle.ps_ground.specs.Grounding.{conjunction, disjunction, ground_under}
use Rattle.ps_first_order.specs.Parts.{joined_by, bound_by, operand, formula_over, formulas_from, formulas_in, Fits, AreParts}
use Rattle.ps_ground.specs.GroundParts.{AreNumbers, assignment_in, mark_of, marks_of, ground_part}
use Rattle.ps_ground.specs.Marks.{joining_mark, joining_marks}
use Rattle.ps_ground.specs.Drafting.{connected}

-- the formula of a part is its own over the formulas of its operands
module _ (p : FirstOrderParts) where
  kept : (fs : List FirstOrder) (qs : List Part) (i : ℕ) → i < length fs → operand (formulas_from p fs qs) i ≡ operand fs i
  kept fs [] i lt = refl
  kept fs (q ∷ qs) i lt =
      let l = length-append fs (formula_over p fs q ∷ []) in
      let below : i < length (fs ++ formula_over p fs q ∷ []) = omega (arith, l) in
      kept (fs ++ formula_over p fs q ∷ []) qs i below ∙ get_or_append_left fs (formula_over p fs q ∷ []) first_order.Truth i lt

  over-same : (fs gs : List FirstOrder) (n : ℕ) (q : Part) → Fits p n q → ((a : ℕ) → a < n → operand fs a ≡ operand gs a) → formula_over p fs q ≡ formula_over p gs q
  over-same fs gs n part.True h same = refl
  over-same fs gs n part.False h same = refl
  over-same fs gs n (part.Holds i start end) h same = refl
  over-same fs gs n (part.Not a) h same = ap first_order.Not (same a h)
  over-same fs gs n (part.Joined c a b) h same = rw (same a h.0, same b h.1) refl
  over-same fs gs n (part.Bound q x a) h same = ap (bound_by q (name_at p.variables x)) (same a h.1)

  formula-behind : (fs : List FirstOrder) (qs : List Part) (i : ℕ) (d : Part) → i < length qs → ((j : ℕ) → j < length qs → Fits p (length fs + j) (get_or qs j d))
      → operand (formulas_from p fs qs) (length fs + i) ≡ formula_over p (formulas_from p fs qs) (get_or qs i d)
  formula-behind fs [] i d lt fit = absurd (omega arith)
  formula-behind fs (q ∷ qs) zero d lt fit =
      let x = formula_over p fs q in
      let l = length-append fs (x ∷ []) in
      let place : length fs + zero ≡ length fs = omega arith in
      let below : length fs < length (fs ++ x ∷ []) = omega (arith, l) in
      ap (operand (formulas_from p (fs ++ x ∷ []) qs)) place
      ∙ kept (fs ++ x ∷ []) qs (length fs) below
      ∙ get_or_at fs x [] first_order.Truth (length fs) refl
      ∙ over-same fs (formulas_from p (fs ++ x ∷ []) qs) (length fs + zero) q (fit zero (omega arith))
      (λ a lt. let least : a < length fs = omega arith in sym (kept fs (q ∷ qs) a least))
  formula-behind fs (q ∷ qs) (suc i) d lt fit =
      let x = formula_over p fs q in
      let l = length-append fs (x ∷ []) in
      let place : length fs + suc i ≡ length (fs ++ x ∷ []) + i = omega (arith, l) in
      ap (operand (formulas_from p (fs ++ x ∷ []) qs)) place
      ∙ formula-behind (fs ++ x ∷ []) qs i d (omega arith)
      (λ j least. let e : length fs + suc j ≡ length (fs ++ x ∷ []) + j = omega (arith, l) in subst (λ n. Fits p n (get_or qs j d)) e (fit (suc j) (omega arith)))

  pub formula_at_place : AreParts p → (i : ℕ) (d : Part) → i < length p.parts → operand (formulas_in p) i ≡ formula_over p (formulas_in p) (get_or p.parts i d)
  formula_at_place sound i d lt =
      let zero-less : (j : ℕ) → 0 + j ≡ j = λ j. omega arith in
      ap (operand (formulas_in p)) (sym (zero-less i)) ∙ formula-behind [] p.parts i d lt (λ j least. subst (λ n. Fits p n (get_or p.parts j d)) (sym (zero-less j)) (sound.fit j d least))

pub joined-ground : (c : Connective) (f g : FirstOrder) (cs : List Name) (a : Assignment) → ground_under (joined_by c f g) cs a ≡ connected c (ground_under f cs a) (ground_under g cs a)
joined-ground connective.And f g cs a = refl
joined-ground connective.Or f g cs a = refl
joined-ground connective.Implies f g cs a = refl
joined-ground connective.Iff f g cs a = refl

three : (f g h : Formula Name) → map mark_of (subformulas f ++ subformulas g ++ h ∷ []) ≡ (marks_of f ++ marks_of g) ++ mark_of h ∷ []
three f g h = map-append mark_of (subformulas f ++ subformulas g) (h ∷ []) ∙ ap (λ ms. ms ++ mark_of h ∷ []) (map-append mark_of (subformulas f) (subformulas g))

pub connected-marks : (c : Connective) (f g : Formula Name) → marks_of (connected c f g) ≡ (marks_of f ++ marks_of g) ++ mark.Joined c ∷ []
connected-marks connective.And f g = three f g (formula.And f g)
connected-marks connective.Or f g = three f g (formula.Or f g)
connected-marks connective.Implies f g = three f g (formula.Implies f g)
connected-marks connective.Iff f g = three f g (formula.Iff f g)

pub not-marks : (f : Formula Name) → marks_of (formula.Not f) ≡ marks_of f ++ mark.Not ∷ []
not-marks f = map-append mark_of (subformulas f) (formula.Not f ∷ [])

-- the marks of formulas, joined as a quantifier does; none where there are none
abbrev pub marks_joined : Quantifier → List (Formula Name) → List GroundMark
marks_joined q [] = []
marks_joined q (f ∷ fs) = marks_of (fold (connected (joining_mark q)) f fs)

abbrev pub joined_all : Quantifier → List (Formula Name) → Formula Name
joined_all quantifier.ForAll fs = conjunction fs
joined_all quantifier.Exists fs = disjunction fs

all-marks : (q : Quantifier) (fs : List (Formula Name)) → 0 < length fs → marks_joined q fs ≡ marks_of (joined_all q fs)
all-marks quantifier.ForAll [] h = absurd (omega arith)
all-marks quantifier.Exists [] h = absurd (omega arith)
all-marks quantifier.ForAll (f ∷ fs) h = refl
all-marks quantifier.Exists (f ∷ fs) h = refl

bound-ground : (q : Quantifier) (x : Name) (f : FirstOrder) (cs : List Name) (a : Assignment) → ground_under (bound_by q x f) cs a ≡ joined_all q (map (λ c. ground_under f cs (assigned a x c)) cs)
bound-ground quantifier.ForAll x f cs a = refl
bound-ground quantifier.Exists x f cs a = refl

joined-push : (q : Quantifier) (fs : List (Formula Name)) (f : Formula Name) → marks_joined q (fs ++ f ∷ []) ≡ (marks_joined q fs ++ marks_of f) ++ joining_marks q (length fs)
joined-push q [] f = sym (append-nil (marks_of f))
joined-push q (g ∷ gs) f = ap marks_of (fold-append (connected (joining_mark q)) g gs (f ∷ [])) ∙ connected-marks (joining_mark q) (fold (connected (joining_mark q)) g gs) f

-- a name's first place is its own
place-found : (xs : List Name) (x d : Name) → place_in same_name xs x < length xs → same_name x (get_or xs (place_in same_name xs x) d) ≡ true
place-found [] x d lt = absurd (omega arith)
place-found (y ∷ ys) x d lt = by (same_name x y) refl lt (place-found ys x d)
  where
    by : (b : Bool) → same_name x y ≡ b → (if b then 0 else suc (place_in same_name ys x)) < suc (length ys) → (place_in same_name ys x < length ys → same_name x (get_or ys (place_in same_name ys x) d) ≡ true)
        → same_name x (get_or (y ∷ ys) (if b then 0 else suc (place_in same_name ys x)) d) ≡ true
    by true e lt k = e
    by false e lt k = k (omega arith)

module _ (p : FirstOrderParts) (once : AreOnce same_name p.variables) where
  pub assignment-set : (numbers : List ℕ) (x c : ℕ) → length numbers ≡ length p.variables → x < length p.variables
      → assignment_in p (set numbers x c) ≡ assigned (assignment_in p numbers) (name_at p.variables x) (name_at p.constants c)
  assignment-set numbers x c each lt = λ i y. at y i
    where
      within : x < length numbers
      within = omega (arith, each)

      at : (y : Name) → assignment_in p (set numbers x c) y ≡ assigned (assignment_in p numbers) (name_at p.variables x) (name_at p.constants c) y
      at y = by (same_name y (name_at p.variables x)) refl
        where
          by : (b : Bool) → same_name y (name_at p.variables x) ≡ b → assignment_in p (set numbers x c) y ≡ (if b then name_at p.constants c else assignment_in p numbers y)
          by true e =
              let place : place_in same_name p.variables y ≡ x = ap (place_in same_name p.variables) (same_name-true y (name_at p.variables x) e) ∙ once x [] lt in
              ap (λ k. name_at p.constants (get_or (set numbers x c) k 0)) place ∙ ap (name_at p.constants) (get_or-set_same numbers x c 0 within)
          by false e =
              let other : place_in same_name p.variables y ≢ x = λ same.
              let below : place_in same_name p.variables y < length p.variables = omega (arith, same) in
              true≢false (sym (place-found p.variables y [] below) ∙ ap (λ k. same_name y (get_or p.variables k [])) same ∙ e) in
              ap (name_at p.constants) (get_or-set_other numbers x (place_in same_name p.variables y) c 0 other)

pub numbers-set : (p : FirstOrderParts) (numbers : List ℕ) (x c : ℕ) → AreNumbers p numbers → c < length p.constants → AreNumbers p (set numbers x c)
numbers-set p numbers x c h lt = record { each = length-set numbers x c ∙ h.each; within = All-set (λ n. n < length p.constants) numbers x c lt h.within }

-- the ground formulas of a part for the first so many constants
abbrev pub instances : FirstOrderParts → ℕ → ℕ → List ℕ → List Name → List (Formula Name)
instances p x body numbers cs = map (λ c. ground_under (operand (formulas_in p) body) p.constants (assigned (assignment_in p numbers) (name_at p.variables x) c)) cs

-- as far as the constants of a quantifier have been gone through: only the variable's number has changed, and the marks
-- of the formulas of so many constants are there
pub record IsAsFar (p : FirstOrderParts) (q : Quantifier) (x body : ℕ) (first : List ℕ) (before : List GroundMark) (constant : ℕ) (numbers : List ℕ)
    (marks : List GroundMark) : Type 0 where
  pub numbers_are : AreNumbers p numbers
  pub others_stay : set numbers x 0 ≡ set first x 0
  pub marks_are : marks ≡ before ++ marks_joined q (instances p x body first (take constant p.constants))

set-other : (numbers first : List ℕ) (x c : ℕ) → set numbers x 0 ≡ set first x 0 → set numbers x c ≡ set first x c
set-other numbers first x c e = sym (set-set numbers x 0 c) ∙ ap (λ xs. set xs x c) e ∙ set-set first x 0 c

module _ (p : FirstOrderParts) (q : Quantifier) (x body : ℕ) (first : List ℕ) (before : List GroundMark) where
  pub far-start : AreNumbers p first → IsAsFar p q x body first before 0 first before
  far-start h = record { numbers_are = h; others_stay = refl; marks_are = sym (append-nil before) }

  pub far-more : AreParts p → AreNumbers p first → x < length p.variables → (c : ℕ) (numbers : List ℕ) (marks : List GroundMark) → c < length p.constants → IsAsFar p q x body first before c numbers marks
      → IsAsFar p q x body first before (c + 1) (set numbers x c) ((marks ++ marks_of (ground_part p body (assignment_in p (set numbers x c)))) ++ joining_marks q c)
  far-more sound h there c numbers marks lt far = record {
    numbers_are = numbers-set p numbers x c far.numbers_are lt;
    others_stay = set-set numbers x c 0 ∙ far.others_stay;
    marks_are =
        let same : assignment_in p (set numbers x c) ≡ assigned (assignment_in p first) (name_at p.variables x) (name_at p.constants c)
        = ap (assignment_in p) (set-other numbers first x c far.others_stay) ∙ assignment-set p sound.once first x c h.each there in
        let one = λ (n : Name). ground_under (operand (formulas_in p) body) p.constants (assigned (assignment_in p first) (name_at p.variables x) n) in
        let so_far = instances p x body first (take c p.constants) in
        let more : instances p x body first (take (c + 1) p.constants) ≡ so_far ++ one (name_at p.constants c) ∷ []
        = ap (map one) (take_more p.constants c [] lt) ∙ map-append one (take c p.constants) (name_at p.constants c ∷ []) in
        let count : length so_far ≡ c = length-map (take c p.constants) one ∙ length-take-le c p.constants (omega arith) in
        let this = ap (λ a. marks_of (ground_part p body a)) same in
        rw (this, far.marks_are, more, joined-push q so_far (one (name_at p.constants c)), count) (rebracket before (marks_joined q so_far) (marks_of (one (name_at p.constants c))) (joining_marks q c));
  }
    where
      rebracket : (ks bs cs ds : List GroundMark) → (((ks ++ bs) ++ cs) ++ ds) ≡ (ks ++ ((bs ++ cs) ++ ds))
      rebracket ks bs cs ds = ap (λ xs. xs ++ ds) (append_assoc ks bs cs) ∙ append_assoc ks (bs ++ cs) ds

  pub far-end : AreParts p → (numbers : List ℕ) (marks : List GroundMark) → IsAsFar p q x body first before (length p.constants) numbers marks
      → (marks ≡ before ++ marks_of (ground_under (bound_by q (name_at p.variables x) (operand (formulas_in p) body)) p.constants (assignment_in p first)))
      × (set numbers x 0 ≡ set first x 0)
  far-end sound numbers marks far =
      let one = λ (n : Name). ground_under (operand (formulas_in p) body) p.constants (assigned (assignment_in p first) (name_at p.variables x) n) in
      let some : 0 < length (map one p.constants) = (let l = length-map p.constants one in let s = sound.some in omega arith) in
      let all : take (length p.constants) p.constants ≡ p.constants = take_all (length p.constants) p.constants (omega arith) in
      let same = all-marks q (map one p.constants) some in
      let ground-is = bound-ground q (name_at p.variables x) (operand (formulas_in p) body) p.constants (assignment_in p first) in (
        far.marks_are ∙ ap (λ cs. before ++ marks_joined q (map one cs)) all ∙ ap (λ ms. before ++ ms) (same ∙ ap marks_of (sym ground-is)),
        far.others_stay,
      )

  -- all constants
  pub far-marks : AreParts p → (c : ℕ) (numbers : List ℕ) (marks : List GroundMark) → c ≡ length p.constants → IsAsFar p q x body first before c numbers marks
      → marks ≡ before ++ marks_of (ground_under (bound_by q (name_at p.variables x) (operand (formulas_in p) body)) p.constants (assignment_in p first))
  far-marks sound c numbers marks e far = (far-end sound numbers marks (subst (λ k. IsAsFar p q x body first before k numbers marks) e far)).0

  -- and the variable's number as it was before
  pub far-back : (c n : ℕ) (numbers : List ℕ) (marks : List GroundMark) → n ≡ get_or first x n → IsAsFar p q x body first before c numbers marks → set numbers x n ≡ first
  far-back c n numbers marks e far = set-other numbers first x n far.others_stay ∙ ap (set first x) e ∙ set-get_or first x n

  -- one constant more
  pub far-step : AreParts p → AreNumbers p first → x < length p.variables → (c : ℕ) (numbers numbers' : List ℕ) (marks here after : List GroundMark) → c < length p.constants
      → IsAsFar p q x body first before c numbers marks → numbers' ≡ set numbers x c
      → here ≡ marks ++ marks_of (ground_part p body (assignment_in p (set numbers x c))) → after ≡ here ++ joining_marks q c
      → IsAsFar p q x body first before (c + 1) numbers' after
  far-step sound h there c numbers numbers' marks here after lt far same one two =
      subst (λ ns. IsAsFar p q x body first before (c + 1) ns after) (sym same)
      (subst (IsAsFar p q x body first before (c + 1) (set numbers x c)) (sym (two ∙ ap (λ ms. ms ++ joining_marks q c) one)) (far-more sound h there c numbers marks lt far))

-- marks behind those that there were
module _ (p : FirstOrderParts) (i : ℕ) (a : Assignment) (before : List GroundMark) where
  pub added : (f : FirstOrder) (new : List GroundMark) → operand (formulas_in p) i ≡ f → new ≡ before ++ marks_of (ground_under f p.constants a) → new ≡ before ++ marks_of (ground_part p i a)
  added f new at e = e ∙ ap (λ g. before ++ marks_of (ground_under g p.constants a)) (sym at)

  pub added-not : (f : FirstOrder) (one new : List GroundMark) → operand (formulas_in p) i ≡ first_order.Not f → one ≡ before ++ marks_of (ground_under f p.constants a) → new ≡ one ++ mark.Not ∷ []
      → new ≡ before ++ marks_of (ground_part p i a)
  added-not f one new at e k =
      let ms = marks_of (ground_under f p.constants a) in
      added (first_order.Not f) new at
      (k ∙ ap (λ xs. xs ++ mark.Not ∷ []) e ∙ append_assoc before ms (mark.Not ∷ []) ∙ ap (λ xs. before ++ xs) (sym (not-marks (ground_under f p.constants a))))

  pub added-joined : (c : Connective) (f g : FirstOrder) (one two new : List GroundMark) → operand (formulas_in p) i ≡ joined_by c f g
      → one ≡ before ++ marks_of (ground_under f p.constants a) → two ≡ one ++ marks_of (ground_under g p.constants a) → new ≡ two ++ mark.Joined c ∷ []
      → new ≡ before ++ marks_of (ground_part p i a)
  added-joined c f g one two new at e k l =
      let ms = marks_of (ground_under f p.constants a) in
      let ns = marks_of (ground_under g p.constants a) in
      added (joined_by c f g) new at
      (l ∙ ap (λ xs. xs ++ mark.Joined c ∷ []) (k ∙ ap (λ xs. xs ++ ns) e ∙ append_assoc before ms ns) ∙ append_assoc before (ms ++ ns) (mark.Joined c ∷ [])
      ∙ ap (λ xs. before ++ xs) (sym (ap marks_of (joined-ground c f g p.constants a) ∙ connected-marks c (ground_under f p.constants a) (ground_under g p.constants a))))
