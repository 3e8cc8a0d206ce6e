-- How many marks ground formulas have.
use Rattle.std.proofs.Common.{◌≡◌, ℕ, ◌+◌, ◌*◌, ◌-◌, ◌<◌, ◌≤◌, min, Bool, true, false, List, [], ◌∷◌, ◌++◌, length, map, get_or, All, replicate, refl, sym, ap, subst, ◌∙◌, if◌then◌else◌, inl, inr, arith}
use Rattle.std.specs.Prelude.{Contains, ◌⊎◌}
use Rattle.std.specs.List.{fold}
use Rattle.std.proofs.Math.Nat.{mul-le-mul_left}
use Rattle.std.proofs.lemmas.Bool.{cases_lt}
use Rattle.std.proofs.lemmas.List.{length-append, length-map, length_push, length-replicate, get_or_append_left, get_or_push, get_or_default}
use Rattle.std.proofs.lemmas.List.Elements.{All-head, All-tail, All-map, All-replicate}
use Rattle.ps_meaning.specs.Formula.{Formula, subformulas}
use Rattle.ps_meaning.specs.Formula as formula
use Rattle.ps_meaning.specs.Statements.{Name}
use Rattle.ps_problem.specs.Numbering.{same_name}
use Rattle.ps_ground.specs.declared.limits.TheConstants.{MOST_MARKS}
use Rattle.ps_first_order.specs.declared.part.Connective.{Connective}
use Rattle.ps_first_order.specs.declared.part.Connective.TheVariants as connective
use Rattle.ps_first_order.specs.declared.part.Quantifier.{Quantifier}
use Rattle.ps_first_order.specs.declared.part.Quantifier.TheVariants as quantifier
use Rattle.ps_first_order.specs.declared.part.Part.{Part}
use Rattle.ps_first_order.specs.declared.part.Part.TheVariants as part
use Rattle.ps_first_order.specs.declared.part.FirstOrderParts.{FirstOrderParts}
use Rattle.ps_ground.specs.declared.mark.GroundMark.{GroundMark}
use Rattle.ps_first_order.specs.FirstOrder.{FirstOrder, Signature, IsFormula, IsSentence, unassigned, Term, Constant, Variable, IsTerm, Assignment, assigned, constant_of}
use Rattle.ps_first_order.specs.FirstOrder as first_order
use Rattle.ps_ground.specs.Grounding.{atom_name, conjunction, disjunction, ground_under, ground_formula}
use Rattle.ps_first_order.specs.Parts.{joined_by, bound_by, operand, formula_over, formulas_in, Fits, AreParts}
use Rattle.ps_ground.specs.GroundParts.{AreNumbers, assignment_in, ground_part, mark_of, marks_of, count_marks, capped, capped_over, AreCapped, AreCounted}
use Rattle.ps_ground.proofs.Atoms.{contains-rest}
use Rattle.ps_ground.proofs.Marking.{formula_at_place}

pair-size : (f g h : Formula Name) → length (subformulas f ++ subformulas g ++ h ∷ []) ≡ length (subformulas f) + length (subformulas g) + 1
pair-size f g h = let a = length_push (subformulas f ++ subformulas g) h in let b = length-append (subformulas f) (subformulas g) in omega (arith, a, b)

-- formulas of one size, joined to the left
module _ (k : ℕ) where
  abbrev AreOfSize : List (Formula Name) → Type 0
  AreOfSize fs = All (λ f. length (subformulas f) ≡ k) fs

  fold-and : (fs : List (Formula Name)) (g : Formula Name) → AreOfSize fs → length (subformulas (fold formula.And g fs)) ≡ length (subformulas g) + length fs * (k + 1)
  fold-and [] g h = omega arith
  fold-and (f ∷ fs) g h =
      let rest = fold-and fs (formula.And g f) (All-tail (λ f. length (subformulas f) ≡ k) f fs h) in
      let one = All-head (λ f. length (subformulas f) ≡ k) f fs h in
      let two = pair-size g f (formula.And g f) in
      omega (arith, rest, one, two)

  fold-or : (fs : List (Formula Name)) (g : Formula Name) → AreOfSize fs → length (subformulas (fold formula.Or g fs)) ≡ length (subformulas g) + length fs * (k + 1)
  fold-or [] g h = omega arith
  fold-or (f ∷ fs) g h =
      let rest = fold-or fs (formula.Or g f) (All-tail (λ f. length (subformulas f) ≡ k) f fs h) in
      let one = All-head (λ f. length (subformulas f) ≡ k) f fs h in
      let two = pair-size g f (formula.Or g f) in
      omega (arith, rest, one, two)

  conjunction-size : (fs : List (Formula Name)) → 0 < length fs → AreOfSize fs → length (subformulas (conjunction fs)) ≡ length fs * k + (length fs - 1)
  conjunction-size [] some h = absurd (omega arith)
  conjunction-size (f ∷ fs) some h =
      let rest = fold-and fs f (All-tail (λ f. length (subformulas f) ≡ k) f fs h) in
      let one = All-head (λ f. length (subformulas f) ≡ k) f fs h in
      omega (arith, rest, one)

  disjunction-size : (fs : List (Formula Name)) → 0 < length fs → AreOfSize fs → length (subformulas (disjunction fs)) ≡ length fs * k + (length fs - 1)
  disjunction-size [] some h = absurd (omega arith)
  disjunction-size (f ∷ fs) some h =
      let rest = fold-or fs f (All-tail (λ f. length (subformulas f) ≡ k) f fs h) in
      let one = All-head (λ f. length (subformulas f) ≡ k) f fs h in
      omega (arith, rest, one)

-- a ground formula has as many marks as are counted
module _ (cs : List Name) (some : 0 < length cs) where
  instances-size : (f : FirstOrder) (x : Name) (a : Assignment) → ((c : Name) → length (subformulas (ground_under f cs (assigned a x c))) ≡ count_marks (length cs) f)
      → All (λ g. length (subformulas g) ≡ count_marks (length cs) f) (map (λ c. ground_under f cs (assigned a x c)) cs)
  instances-size f x a h = All-map (λ g. length (subformulas g) ≡ count_marks (length cs) f) (λ c. ground_under f cs (assigned a x c)) cs (λ k d lt. h (get_or cs k d))

  pub size-is : (f : FirstOrder) (a : Assignment) → length (subformulas (ground_under f cs a)) ≡ count_marks (length cs) f
  size-is first_order.Truth a = refl
  size-is first_order.Falsity a = refl
  size-is (first_order.Holds p ts) a = refl
  size-is (first_order.Not f) a =
      let one = size-is f a in
      let more = length_push (subformulas (ground_under f cs a)) (formula.Not (ground_under f cs a)) in
      omega (arith, one, more)
  size-is (first_order.And f g) a =
      let one = size-is f a in let two = size-is g a in
      let both = pair-size (ground_under f cs a) (ground_under g cs a) (formula.And (ground_under f cs a) (ground_under g cs a)) in
      omega (arith, one, two, both)
  size-is (first_order.Or f g) a =
      let one = size-is f a in let two = size-is g a in
      let both = pair-size (ground_under f cs a) (ground_under g cs a) (formula.Or (ground_under f cs a) (ground_under g cs a)) in
      omega (arith, one, two, both)
  size-is (first_order.Implies f g) a =
      let one = size-is f a in let two = size-is g a in
      let both = pair-size (ground_under f cs a) (ground_under g cs a) (formula.Implies (ground_under f cs a) (ground_under g cs a)) in
      omega (arith, one, two, both)
  size-is (first_order.Iff f g) a =
      let one = size-is f a in let two = size-is g a in
      let both = pair-size (ground_under f cs a) (ground_under g cs a) (formula.Iff (ground_under f cs a) (ground_under g cs a)) in
      omega (arith, one, two, both)
  size-is (first_order.ForAll x f) a =
      let l = length-map cs (λ c. ground_under f cs (assigned a x c)) in
      let e = conjunction-size (count_marks (length cs) f) (map (λ c. ground_under f cs (assigned a x c)) cs) (rw l some) (instances-size f x a (λ c. size-is f (assigned a x c))) in
      e ∙ ap (λ n. n * count_marks (length cs) f + (n - 1)) l
  size-is (first_order.Exists x f) a =
      let l = length-map cs (λ c. ground_under f cs (assigned a x c)) in
      let e = disjunction-size (count_marks (length cs) f) (map (λ c. ground_under f cs (assigned a x c)) cs) (rw l some) (instances-size f x a (λ c. size-is f (assigned a x c))) in
      e ∙ ap (λ n. n * count_marks (length cs) f + (n - 1)) l

  pub marks-size : (f : FirstOrder) (a : Assignment) → length (marks_of (ground_under f cs a)) ≡ count_marks (length cs) f
  marks-size f a = length-map (subformulas (ground_under f cs a)) mark_of ∙ size-is f a

-- numbers and their caps
cap-one : (m x : ℕ) → min (min x m + 1) m ≡ min (x + 1) m
cap-one m x = grind arith

cap-two : (m x y : ℕ) → min (min x m + min y m + 1) m ≡ min (x + y + 1) m
cap-two m x y = grind arith

min-below : (x m : ℕ) → x ≤ m → min x m ≡ x
min-below x m h = grind arith

min-above : (x m : ℕ) → m ≤ x → min x m ≡ m
min-above x m h = grind arith

cap-many : (m n x : ℕ) → 0 < n → min (n * min x m + (n - 1)) m ≡ min (n * x + (n - 1)) m
cap-many m n x some = by (cases_lt x m)
  where
    by : (x < m) ⊎ (m ≤ x) → min (n * min x m + (n - 1)) m ≡ min (n * x + (n - 1)) m
    by (inl lt) = ap (λ k. min (n * k + (n - 1)) m) (min-below x m (omega arith))
    by (inr le) =
        let least : m ≤ n * m = (let k = mul-le-mul_left m some in omega (arith, k)) in
        let more : n * m ≤ n * x = mul-le-mul_left n le in
        let one : min (n * m + (n - 1)) m ≡ m = min-above (n * m + (n - 1)) m (omega arith) in
        let two : min (n * x + (n - 1)) m ≡ m = min-above (n * x + (n - 1)) m (omega arith) in
        ap (λ k. min (n * k + (n - 1)) m) (min-above x m le) ∙ one ∙ sym two

module _ (p : FirstOrderParts) (some : 0 < length p.constants) where
  abbrev count : FirstOrder → ℕ
  count f = count_marks (length p.constants) f

  joined-count : (c : Connective) (f g : FirstOrder) → count (joined_by c f g) ≡ count f + count g + 1
  joined-count connective.And f g = refl
  joined-count connective.Or f g = refl
  joined-count connective.Implies f g = refl
  joined-count connective.Iff f g = refl

  bound-count : (q : Quantifier) (x : Name) (f : FirstOrder) → count (bound_by q x f) ≡ length p.constants * count f + (length p.constants - 1)
  bound-count quantifier.ForAll x f = refl
  bound-count quantifier.Exists x f = refl

  -- the count of a part over the counts of the parts before it
  over-is : (i : ℕ) (counts : List ℕ) (q : Part) → Fits p i q → AreCounted p i counts → capped_over (length p.constants) counts q ≡ capped (count (formula_over p (formulas_in p) q))
  over-is i counts part.True h k = sym (min-below 1 (MOST_MARKS + 1) (omega arith))
  over-is i counts part.False h k = sym (min-below 1 (MOST_MARKS + 1) (omega arith))
  over-is i counts (part.Holds n start end) h k = sym (min-below 1 (MOST_MARKS + 1) (omega arith))
  over-is i counts (part.Not a) h k = rw (k.counted a h) (cap-one (MOST_MARKS + 1) (count (operand (formulas_in p) a)))
  over-is i counts (part.Joined c a b) h k =
      let f = operand (formulas_in p) a in
      let g = operand (formulas_in p) b in
      rw (k.counted a h.0, k.counted b h.1, joined-count c f g) (cap-two (MOST_MARKS + 1) (count f) (count g))
  over-is i counts (part.Bound q x a) h k =
      let f = operand (formulas_in p) a in
      rw (k.counted a h.1, bound-count q (get_or p.variables x []) f) (cap-many (MOST_MARKS + 1) (length p.constants) (count f) some)

pub counted-start : (p : FirstOrderParts) → AreCounted p 0 []
counted-start p = record { each = refl; counted = λ k lt. absurd (omega arith) }

pub counted-more : (p : FirstOrderParts) → AreParts p → (i : ℕ) (counts : List ℕ) (d : Part) → i < length p.parts → AreCounted p i counts
    → AreCounted p (i + 1) (counts ++ capped_over (length p.constants) counts (get_or p.parts i d) ∷ [])
counted-more p sound i counts d lt k = record {
  each = (let l = length_push counts (capped_over (length p.constants) counts (get_or p.parts i d)) in let e = k.each in omega arith);
  counted = λ j least. by j (cases_lt j i) least;
}
  where
    by : (j : ℕ) → (j < i) ⊎ (i ≤ j) → j < i + 1 → get_or (counts ++ capped_over (length p.constants) counts (get_or p.parts i d) ∷ []) j 0 ≡ capped (count_marks (length p.constants) (operand (formulas_in p) j))
    by j (inl below) least =
        let e = k.each in
        let within : j < length counts = omega arith in
        get_or_append_left counts (capped_over (length p.constants) counts (get_or p.parts i d) ∷ []) 0 j within ∙ k.counted j below
    by j (inr above) least =
        let e = k.each in
        let same : j ≡ i = omega arith in
        let place : length counts ≡ j = omega arith in
        get_or_push counts (capped_over (length p.constants) counts (get_or p.parts i d)) 0 j place
        ∙ over-is p sound.some i counts (get_or p.parts i d) (sound.fit i d lt) k
        ∙ ap (λ f. capped (count_marks (length p.constants) f)) (sym (formula_at_place p sound i d lt))
        ∙ ap (λ n. capped (count_marks (length p.constants) (operand (formulas_in p) n))) (sym same)

pub counted-capped : (p : FirstOrderParts) (i : ℕ) (counts : List ℕ) → AreCounted p i counts → AreCapped counts
counted-capped p i counts h k d lt =
    let e = h.each in
    let within : k < i = omega arith in
    let least : min (count_marks (length p.constants) (operand (formulas_in p) k)) (MOST_MARKS + 1) ≤ MOST_MARKS + 1 = omega arith in
    subst (λ n. n ≤ MOST_MARKS + 1) (sym (get_or_default counts k d 0 lt ∙ h.counted k within)) least

-- the ground formula of a sentence depends on no assignment
same-terms : (s : Signature) (bound : List Name) (a b : Assignment) → ((x : Name) → Contains bound x → a x ≡ b x) → (ts : List Term) → All (IsTerm s bound) ts → map (constant_of a) ts ≡ map (constant_of b) ts
same-terms s bound a b h [] k = refl
same-terms s bound a b h (t ∷ ts) k = rw (one t (All-head (IsTerm s bound) t ts k), same-terms s bound a b h ts (All-tail (IsTerm s bound) t ts k)) refl
  where
    one : (t : Term) → IsTerm s bound t → constant_of a t ≡ constant_of b t
    one (Constant c) k = refl
    one (Variable x) k = h x k

module _ (s : Signature) (cs : List Name) where
  abbrev Agree : List Name → Assignment → Assignment → Type 0
  Agree bound a b = (x : Name) → Contains bound x → a x ≡ b x

  agree-more : (bound : List Name) (a b : Assignment) (x c : Name) → Agree bound a b → Agree (x ∷ bound) (assigned a x c) (assigned b x c)
  agree-more bound a b x c h y there = by (same_name y x) refl
    where
      by : (t : Bool) → same_name y x ≡ t → (if t then c else a y) ≡ (if t then c else b y)
      by true e = refl
      by false e = h y (contains-rest x y bound e there)

  map-each : (f g : Name → Formula Name) (xs : List Name) → ((c : Name) → f c ≡ g c) → map f xs ≡ map g xs
  map-each f g [] h = refl
  map-each f g (x ∷ xs) h = rw (h x, map-each f g xs h) refl

  pub same-ground : (f : FirstOrder) (bound : List Name) (a b : Assignment) → IsFormula s bound f → Agree bound a b → ground_under f cs a ≡ ground_under f cs b
  same-ground first_order.Truth bound a b h k = refl
  same-ground first_order.Falsity bound a b h k = refl
  same-ground (first_order.Holds p ts) bound a b h k = ap (λ xs. formula.Atom (atom_name p xs)) (same-terms s bound a b k ts h.1)
  same-ground (first_order.Not f) bound a b h k = ap formula.Not (same-ground f bound a b h k)
  same-ground (first_order.And f g) bound a b h k = rw (same-ground f bound a b h.0 k, same-ground g bound a b h.1 k) refl
  same-ground (first_order.Or f g) bound a b h k = rw (same-ground f bound a b h.0 k, same-ground g bound a b h.1 k) refl
  same-ground (first_order.Implies f g) bound a b h k = rw (same-ground f bound a b h.0 k, same-ground g bound a b h.1 k) refl
  same-ground (first_order.Iff f g) bound a b h k = rw (same-ground f bound a b h.0 k, same-ground g bound a b h.1 k) refl
  same-ground (first_order.ForAll x f) bound a b h k =
      ap conjunction (map-each (λ c. ground_under f cs (assigned a x c)) (λ c. ground_under f cs (assigned b x c)) cs
      (λ c. same-ground f (x ∷ bound) (assigned a x c) (assigned b x c) h.1 (agree-more bound a b x c k)))
  same-ground (first_order.Exists x f) bound a b h k =
      ap disjunction (map-each (λ c. ground_under f cs (assigned a x c)) (λ c. ground_under f cs (assigned b x c)) cs
      (λ c. same-ground f (x ∷ bound) (assigned a x c) (assigned b x c) h.1 (agree-more bound a b x c k)))

pub zeros-are : (p : FirstOrderParts) → AreParts p → (numbers : List ℕ) → numbers ≡ replicate (length p.variables) 0 → AreNumbers p numbers
zeros-are p sound numbers e = subst (AreNumbers p) (sym e) (record {
  each = length-replicate (length p.variables) 0;
  within = All-replicate (λ n. n < length p.constants) (length p.variables) 0 sound.some;
})

-- the part with a number, as a sentence over a signature with its constants
module _ (p : FirstOrderParts) (sound : AreParts p) (i : ℕ) (s : Signature) (e : s.constants ≡ p.constants) where
  abbrev marks_there : List GroundMark
  marks_there = marks_of (ground_formula s (operand (formulas_in p) i))

  count-there : length marks_there ≡ count_marks (length p.constants) (operand (formulas_in p) i)
  count-there =
      let some : 0 < length s.constants = rw e sound.some in
      marks-size s.constants some (operand (formulas_in p) i) unassigned ∙ ap (λ cs. count_marks (length cs) (operand (formulas_in p) i)) e

  module _ (there : i < length p.parts) (counts : List ℕ) (h : AreCounted p (length p.parts) counts) (n : ℕ) (is : n ≡ get_or counts i n) where
    counted-there : n ≡ min (length marks_there) (MOST_MARKS + 1)
    counted-there =
        let each = h.each in
        let within : i < length counts = omega arith in
        is ∙ get_or_default counts i n 0 within ∙ h.counted i there ∙ ap capped (sym count-there)

    pub above : (before : ℕ) → MOST_MARKS < before + n → MOST_MARKS < before + length marks_there
    above before lt =
        let c = counted-there in
        let least : min (length marks_there) (MOST_MARKS + 1) ≤ length marks_there = omega arith in
        omega (arith, c, least, lt)

    pub within : (before : ℕ) → before + n ≤ MOST_MARKS → before + length marks_there ≤ MOST_MARKS
    within before le = by (cases_lt (length marks_there) (MOST_MARKS + 1))
      where
        by : (length marks_there < MOST_MARKS + 1) ⊎ (MOST_MARKS + 1 ≤ length marks_there) → before + length marks_there ≤ MOST_MARKS
        by (inl below) = let c = counted-there ∙ min-below (length marks_there) (MOST_MARKS + 1) (omega arith) in omega (arith, c, le)
        by (inr more) = let c = counted-there ∙ min-above (length marks_there) (MOST_MARKS + 1) more in absurd (omega (arith, c, le))

  pub marks-there : IsSentence s (operand (formulas_in p) i) → (numbers : List ℕ) (none marks : List GroundMark) → none ≡ [] → marks ≡ none ++ marks_of (ground_part p i (assignment_in p numbers)) → marks ≡ marks_there
  marks-there sentence numbers none marks empty is =
      is ∙ ap (λ ms. ms ++ marks_of (ground_part p i (assignment_in p numbers))) empty
      ∙ ap (λ cs. marks_of (ground_under (operand (formulas_in p) i) cs (assignment_in p numbers))) (sym e)
      ∙ ap marks_of (same-ground s s.constants (operand (formulas_in p) i) [] (assignment_in p numbers) unassigned sentence (λ x there. absurd (omega (arith, there.1))))
