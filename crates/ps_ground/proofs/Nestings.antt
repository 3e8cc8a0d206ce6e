-- How deep the canonical spellings of ground formulas nest.
use Rattle.std.proofs.Common.{◌≡◌, ℕ, ◌+◌, ◌<◌, ◌≤◌, min, max, Bool, true, false, List, [], ◌∷◌, ◌++◌, length, map, get_or, All, refl, sym, ap, subst, ◌∙◌, if◌then◌else◌, inl, inr, arith}
use Rattle.std.specs.Prelude.{◌⊎◌, ◌==◌, nat_lt}
use Rattle.std.specs.List.{fold}
use Rattle.std.proofs.lemmas.Bool.{cases_lt, le-ltb}
use Rattle.std.proofs.lemmas.Bool.Decides.{nat_tests}
use Rattle.std.proofs.lemmas.List.{length-map, length_push, get_or_append_left, get_or_push, get_or_default}
use Rattle.std.proofs.lemmas.List.Elements.{All-head, All-tail, All-map}
use Rattle.ps_meaning.specs.Formula.{Formula}
use Rattle.ps_meaning.specs.Formula as formula
use Rattle.ps_meaning.specs.Statements.{Name}
use Rattle.ps_text.specs.Canonical.{parenthesis, nesting_at}
use Rattle.ps_problem.specs.declared.limits.TheConstants.{MOST_NESTING}
use Rattle.ps_first_order.specs.declared.part.Connective.{Connective}
use Rattle.ps_first_order.specs.declared.part.Connective.TheVariants as connective
use Rattle.ps_first_order.specs.declared.part.Quantifier.{Quantifier}
use Rattle.ps_first_order.specs.declared.part.Quantifier.TheVariants as quantifier
use Rattle.ps_first_order.specs.declared.part.Part.{Part}
use Rattle.ps_first_order.specs.declared.part.Part.TheVariants as part
use Rattle.ps_first_order.specs.declared.part.FirstOrderParts.{FirstOrderParts}
use Rattle.ps_first_order.specs.FirstOrder.{FirstOrder, Assignment, assigned}
use Rattle.ps_first_order.specs.FirstOrder as first_order
use Rattle.ps_first_order.specs.Parts.{joined_by, bound_by, operand, formula_over, formulas_in, Fits, AreParts}
use Rattle.ps_ground.specs.declared.spelling.Spelling.{Spelling}
use Rattle.ps_ground.specs.Grounding.{conjunction, disjunction, ground_under}
use Rattle.ps_ground.specs.Spellings.{most_of, spelling, at_level, joined_spelling, chain_spelling, bound_spelling, alone, operand_spelling, spelling_over, IsSmall, AreSmall, level_over, depth_over, spelling_of, AreSpelled, IsDepthOf}
use Rattle.ps_ground.proofs.Marking.{formula_at_place}

-- parentheses
none-alone : (r : ℕ) → r ≤ 5 → parenthesis r 5 ≡ 0
none-alone r h = ap (λ b. if b then 1 else 0) (le-ltb 5 r h)

more-parentheses : (j k level : ℕ) → j ≤ k → parenthesis j level ≤ parenthesis k level
more-parentheses j k level h = by (cases_lt level k)
  where
    one-most : (b : Bool) → (if b then 1 else 0) ≤ 1
    one-most true = omega arith
    one-most false = omega arith

    by : (level < k) ⊎ (k ≤ level) → parenthesis j level ≤ parenthesis k level
    by (inl lt) =
        let one : parenthesis k level ≡ 1 = grind (arith, nat_tests) in
        let least = one-most (nat_lt level j) in
        omega (arith, one, least)
    by (inr le) =
        let none : parenthesis j level ≡ 0 = ap (λ b. if b then 1 else 0) (le-ltb level j (omega arith)) in
        omega (arith, none)

max-self : (m : ℕ) → max m m ≡ m
max-self m = grind arith

max-right : (a b : ℕ) → a ≤ b → max a b ≡ b
max-right a b h = grind arith

-- the formula binds so tightly, and its canonical spelling nests so deep
abbrev Nests : ℕ → ℕ → Formula Name → Type 0
Nests level depth g = (r : ℕ) → r ≤ 5 → nesting_at r g ≡ parenthesis r level + depth

-- formulas of one spelling, joined to the left
module _ (level depth : ℕ) where
  abbrev deep-and : ℕ
  deep-and = parenthesis 5 level + depth

  abbrev deep-or : ℕ
  deep-or = parenthesis 4 level + depth

  fold-and : (gs : List (Formula Name)) (h : Formula Name) → Nests 4 deep-and h → All (Nests level depth) gs → Nests 4 deep-and (fold formula.And h gs)
  fold-and [] h k ks = k
  fold-and (g ∷ gs) h k ks = fold-and gs (formula.And h g)
      (λ r small.
      let one : nesting_at 4 h ≡ deep-and = (let e : nesting_at 4 h ≡ 0 + deep-and = k 4 (omega arith) in omega (arith, e)) in
      let two : nesting_at 5 g ≡ deep-and = All-head (Nests level depth) g gs ks 5 (omega arith) in
      ap (λ m. parenthesis r 4 + max m (nesting_at 5 g)) one ∙ ap (λ m. parenthesis r 4 + max deep-and m) two ∙ ap (λ m. parenthesis r 4 + m) (max-self deep-and))
      (All-tail (Nests level depth) g gs ks)

  fold-or : (gs : List (Formula Name)) (h : Formula Name) → Nests 3 deep-or h → All (Nests level depth) gs → Nests 3 deep-or (fold formula.Or h gs)
  fold-or [] h k ks = k
  fold-or (g ∷ gs) h k ks = fold-or gs (formula.Or h g)
      (λ r small.
      let one : nesting_at 3 h ≡ deep-or = (let e : nesting_at 3 h ≡ 0 + deep-or = k 3 (omega arith) in omega (arith, e)) in
      let two : nesting_at 4 g ≡ deep-or = All-head (Nests level depth) g gs ks 4 (omega arith) in
      ap (λ m. parenthesis r 3 + max m (nesting_at 4 g)) one ∙ ap (λ m. parenthesis r 3 + max deep-or m) two ∙ ap (λ m. parenthesis r 3 + m) (max-self deep-or))
      (All-tail (Nests level depth) g gs ks)

  first-and : (g h : Formula Name) → Nests level depth g → Nests level depth h → Nests 4 deep-and (formula.And g h)
  first-and g h k l r small =
      let one : nesting_at 4 g ≡ parenthesis 4 level + depth = k 4 (omega arith) in
      let two : nesting_at 5 h ≡ deep-and = l 5 (omega arith) in
      let most = more-parentheses 4 5 level (omega arith) in
      ap (λ m. parenthesis r 4 + max m (nesting_at 5 h)) one ∙ ap (λ m. parenthesis r 4 + max (parenthesis 4 level + depth) m) two
      ∙ ap (λ m. parenthesis r 4 + m) (max-right (parenthesis 4 level + depth) deep-and (omega (arith, most)))

  first-or : (g h : Formula Name) → Nests level depth g → Nests level depth h → Nests 3 deep-or (formula.Or g h)
  first-or g h k l r small =
      let one : nesting_at 3 g ≡ parenthesis 3 level + depth = k 3 (omega arith) in
      let two : nesting_at 4 h ≡ deep-or = l 4 (omega arith) in
      let most = more-parentheses 3 4 level (omega arith) in
      ap (λ m. parenthesis r 3 + max m (nesting_at 4 h)) one ∙ ap (λ m. parenthesis r 3 + max (parenthesis 3 level + depth) m) two
      ∙ ap (λ m. parenthesis r 3 + m) (max-right (parenthesis 3 level + depth) deep-or (omega (arith, most)))

  -- one formula is joined with none, more are joined one after the other
  abbrev AndNests : Bool → List (Formula Name) → Type 0
  AndNests b gs = Nests (if b then level else 4) (if b then depth else deep-and) (conjunction gs)

  abbrev OrNests : Bool → List (Formula Name) → Type 0
  OrNests b gs = Nests (if b then level else 3) (if b then depth else deep-or) (disjunction gs)

  and-nests : (gs : List (Formula Name)) → 0 < length gs → All (Nests level depth) gs → AndNests (length gs == 1) gs
  and-nests [] some ks = absurd (omega arith)
  and-nests (g ∷ []) some ks = All-head (Nests level depth) g [] ks
  and-nests (g ∷ h ∷ gs) some ks =
      let many : (length (g ∷ h ∷ gs) == 1) ≡ false = grind (arith, nat_tests) in
      let rest = All-tail (Nests level depth) g (h ∷ gs) ks in
      subst (λ b. AndNests b (g ∷ h ∷ gs)) (sym many)
      (fold-and gs (formula.And g h)
      (first-and g h (All-head (Nests level depth) g (h ∷ gs) ks) (All-head (Nests level depth) h gs rest))
      (All-tail (Nests level depth) h gs rest))

  or-nests : (gs : List (Formula Name)) → 0 < length gs → All (Nests level depth) gs → OrNests (length gs == 1) gs
  or-nests [] some ks = absurd (omega arith)
  or-nests (g ∷ []) some ks = All-head (Nests level depth) g [] ks
  or-nests (g ∷ h ∷ gs) some ks =
      let many : (length (g ∷ h ∷ gs) == 1) ≡ false = grind (arith, nat_tests) in
      let rest = All-tail (Nests level depth) g (h ∷ gs) ks in
      subst (λ b. OrNests b (g ∷ h ∷ gs)) (sym many)
      (fold-or gs (formula.Or g h)
      (first-or g h (All-head (Nests level depth) g (h ∷ gs) ks) (All-head (Nests level depth) h gs rest))
      (All-tail (Nests level depth) h gs rest))

-- so does a ground formula
module _ (cs : List Name) (some : 0 < length cs) where
  instances : (f : FirstOrder) (x : Name) (a : Assignment) (P : Formula Name → Type 0) → ((c : Name) → P (ground_under f cs (assigned a x c)))
      → All P (map (λ c. ground_under f cs (assigned a x c)) cs)
  instances f x a P h = All-map P (λ c. ground_under f cs (assigned a x c)) cs (λ k d lt. h (get_or cs k d))

  pub nests : (f : FirstOrder) (a : Assignment) → Nests (level_over (length cs) f) (depth_over (length cs) f) (ground_under f cs a)
  nests first_order.Truth a r small = let e = none-alone r small in omega (arith, e)
  nests first_order.Falsity a r small = let e = none-alone r small in omega (arith, e)
  nests (first_order.Holds p ts) a r small = let e = none-alone r small in omega (arith, e)
  nests (first_order.Not f) a r small =
      let e = none-alone r small in
      let one = nests f a 5 (omega arith) in
      omega (arith, e, one)
  nests (first_order.And f g) a r small = rw (nests f a 4 (omega arith), nests g a 5 (omega arith)) refl
  nests (first_order.Or f g) a r small = rw (nests f a 3 (omega arith), nests g a 4 (omega arith)) refl
  nests (first_order.Implies f g) a r small =
      let one : 1 + nesting_at 2 (ground_under g cs a) ≡ parenthesis 2 (level_over (length cs) g) + depth_over (length cs) g + 1 = (let e = nests g a 2 (omega arith) in omega (arith, e)) in
      ap (λ m. parenthesis r 2 + max m (1 + nesting_at 2 (ground_under g cs a))) (nests f a 3 (omega arith))
      ∙ ap (λ m. parenthesis r 2 + max (parenthesis 3 (level_over (length cs) f) + depth_over (length cs) f) m) one
  nests (first_order.Iff f g) a r small = rw (nests f a 1 (omega arith), nests g a 2 (omega arith)) refl
  nests (first_order.ForAll x f) a r small =
      let level = level_over (length cs) f in
      let depth = depth_over (length cs) f in
      let gs = map (λ c. ground_under f cs (assigned a x c)) cs in
      let l : length gs ≡ length cs = length-map cs (λ c. ground_under f cs (assigned a x c)) in
      subst (λ n. AndNests level depth (n == 1) gs) l
      (and-nests level depth gs (rw l some) (instances f x a (Nests level depth) (λ c. nests f (assigned a x c)))) r small
  nests (first_order.Exists x f) a r small =
      let level = level_over (length cs) f in
      let depth = depth_over (length cs) f in
      let gs = map (λ c. ground_under f cs (assigned a x c)) cs in
      let l : length gs ≡ length cs = length-map cs (λ c. ground_under f cs (assigned a x c)) in
      subst (λ n. OrNests level depth (n == 1) gs) l
      (or-nests level depth gs (rw l some) (instances f x a (Nests level depth) (λ c. nests f (assigned a x c)))) r small

  -- and at the level that is required of a whole formula no parentheses stand
  pub nests-whole : (f : FirstOrder) (a : Assignment) → 1 ≤ level_over (length cs) f → nesting_at 1 (ground_under f cs a) ≡ depth_over (length cs) f
  nests-whole f a h =
      let none : parenthesis 1 (level_over (length cs) f) ≡ 0 = ap (λ b. if b then 1 else 0) (le-ltb (level_over (length cs) f) 1 h) in
      let e = nests f a 1 (omega arith) in
      omega (arith, e, none)

level-least : (n : ℕ) (f : FirstOrder) → 1 ≤ level_over n f
level-least n first_order.Truth = omega arith
level-least n first_order.Falsity = omega arith
level-least n (first_order.Holds p ts) = omega arith
level-least n (first_order.Not f) = omega arith
level-least n (first_order.And f g) = omega arith
level-least n (first_order.Or f g) = omega arith
level-least n (first_order.Implies f g) = omega arith
level-least n (first_order.Iff f g) = omega arith
level-least n (first_order.ForAll x f) = by (n == 1) (level-least n f)
  where
    by : (b : Bool) → 1 ≤ level_over n f → 1 ≤ (if b then level_over n f else 4)
    by true h = h
    by false h = omega arith
level-least n (first_order.Exists x f) = by (n == 1) (level-least n f)
  where
    by : (b : Bool) → 1 ≤ level_over n f → 1 ≤ (if b then level_over n f else 3)
    by true h = h
    by false h = omega arith

-- caps
cap-after : (p x m : ℕ) → min (p + min x m) m ≡ min (p + x) m
cap-after p x m = grind arith

cap-next : (p x m : ℕ) → min (p + min x m + 1) m ≡ min (p + x + 1) m
cap-next p x m = grind arith

cap-max : (p x q y m : ℕ) → min (max (p + min x m) (q + min y m)) m ≡ min (max (p + x) (q + y)) m
cap-max p x q y m = grind arith

cap-max-next : (p x q y m : ℕ) → min (max (p + min x m) (q + min y m + 1)) m ≡ min (max (p + x) (q + y + 1)) m
cap-max-next p x q y m = grind arith

spelled-alike : (level depth depth' : ℕ) → most_of depth ≡ most_of depth' → spelling level depth ≡ spelling level depth'
spelled-alike level depth depth' e = λ i. record { level = level; depth = e i }

module _ (p : FirstOrderParts) where
  abbrev n : ℕ
  n = length p.constants

  joined-is : (c : Connective) (f g : FirstOrder) → joined_spelling c (spelling_of n f) (spelling_of n g) ≡ spelling_of n (joined_by c f g)
  joined-is connective.And f g = spelled-alike 4 _ _ (cap-max (parenthesis 4 (level_over n f)) (depth_over n f) (parenthesis 5 (level_over n g)) (depth_over n g) (MOST_NESTING + 1))
  joined-is connective.Or f g = spelled-alike 3 _ _ (cap-max (parenthesis 3 (level_over n f)) (depth_over n f) (parenthesis 4 (level_over n g)) (depth_over n g) (MOST_NESTING + 1))
  joined-is connective.Implies f g = spelled-alike 2 _ _ (cap-max-next (parenthesis 3 (level_over n f)) (depth_over n f) (parenthesis 2 (level_over n g)) (depth_over n g) (MOST_NESTING + 1))
  joined-is connective.Iff f g = spelled-alike 1 _ _ (cap-max (parenthesis 1 (level_over n f)) (depth_over n f) (parenthesis 2 (level_over n g)) (depth_over n g) (MOST_NESTING + 1))

  bound-is : (q : Quantifier) (x : Name) (f : FirstOrder) → bound_spelling n q (spelling_of n f) ≡ spelling_of n (bound_by q x f)
  bound-is quantifier.ForAll x f = by (n == 1)
    where
      by : (b : Bool) → (if b then spelling_of n f else chain_spelling quantifier.ForAll (spelling_of n f))
          ≡ spelling (if b then level_over n f else 4) (if b then depth_over n f else (parenthesis 5 (level_over n f) + depth_over n f))
      by true = refl
      by false = spelled-alike 4 _ _ (cap-after (parenthesis 5 (level_over n f)) (depth_over n f) (MOST_NESTING + 1))
  bound-is quantifier.Exists x f = by (n == 1)
    where
      by : (b : Bool) → (if b then spelling_of n f else chain_spelling quantifier.Exists (spelling_of n f))
          ≡ spelling (if b then level_over n f else 3) (if b then depth_over n f else (parenthesis 4 (level_over n f) + depth_over n f))
      by true = refl
      by false = spelled-alike 3 _ _ (cap-after (parenthesis 4 (level_over n f)) (depth_over n f) (MOST_NESTING + 1))

  -- the spelling of a part over those of the parts before it
  spelled-over : (i : ℕ) (ss : List Spelling) (q : Part) → Fits p i q → AreSpelled p i ss → spelling_over n ss q ≡ spelling_of n (formula_over p (formulas_in p) q)
  spelled-over i ss part.True h k = refl
  spelled-over i ss part.False h k = refl
  spelled-over i ss (part.Holds m start end) h k = refl
  spelled-over i ss (part.Not a) h k =
      let f = operand (formulas_in p) a in
      ap (λ s. spelling 5 (at_level 5 s + 1)) (k.spelled a h)
      ∙ spelled-alike 5 _ _ (cap-next (parenthesis 5 (level_over n f)) (depth_over n f) (MOST_NESTING + 1))
  spelled-over i ss (part.Joined c a b) h k =
      ap (λ s. joined_spelling c s (operand_spelling ss b)) (k.spelled a h.0)
      ∙ ap (joined_spelling c (spelling_of n (operand (formulas_in p) a))) (k.spelled b h.1)
      ∙ joined-is c (operand (formulas_in p) a) (operand (formulas_in p) b)
  spelled-over i ss (part.Bound q x a) h k =
      ap (bound_spelling n q) (k.spelled a h.1) ∙ bound-is q (get_or p.variables x []) (operand (formulas_in p) a)

pub spelled-more : (p : FirstOrderParts) → AreParts p → (i : ℕ) (ss : List Spelling) (d : Part) → i < length p.parts → AreSpelled p i ss
    → AreSpelled p (i + 1) (ss ++ spelling_over (length p.constants) ss (get_or p.parts i d) ∷ [])
spelled-more p sound i ss d lt k = record {
  each = (let l = length_push ss (spelling_over (length p.constants) ss (get_or p.parts i d)) in let e = k.each in omega arith);
  spelled = λ j least. by j (cases_lt j i) least;
}
  where
    by : (j : ℕ) → (j < i) ⊎ (i ≤ j) → j < i + 1 → get_or (ss ++ spelling_over (length p.constants) ss (get_or p.parts i d) ∷ []) j alone ≡ spelling_of (length p.constants) (operand (formulas_in p) j)
    by j (inl below) least =
        let e = k.each in
        let within : j < length ss = omega arith in
        get_or_append_left ss (spelling_over (length p.constants) ss (get_or p.parts i d) ∷ []) alone j within ∙ k.spelled j below
    by j (inr above) least =
        let e = k.each in
        let same : j ≡ i = omega arith in
        let place : length ss ≡ j = omega arith in
        get_or_push ss (spelling_over (length p.constants) ss (get_or p.parts i d)) alone j place
        ∙ spelled-over p i ss (get_or p.parts i d) (sound.fit i d lt) k
        ∙ ap (spelling_of (length p.constants)) (sym (formula_at_place p sound i d lt))
        ∙ ap (λ m. spelling_of (length p.constants) (operand (formulas_in p) m)) (sym same)

pub spelled-small : (p : FirstOrderParts) (i : ℕ) (ss : List Spelling) → AreSpelled p i ss → AreSmall ss
spelled-small p i ss h k d lt =
    let e = h.each in
    let within : k < i = omega arith in
    let least : min (depth_over (length p.constants) (operand (formulas_in p) k)) (MOST_NESTING + 1) ≤ MOST_NESTING + 1 = omega arith in
    subst IsSmall (sym (get_or_default ss k d alone lt ∙ h.spelled k within)) least

-- the depth that is kept is the one of the ground formula
pub depth-there : (p : FirstOrderParts) → AreParts p → (ss : List Spelling) → AreSpelled p (length p.parts) ss → (i : ℕ) (s : Spelling) → i < length p.parts → s ≡ get_or ss i s → IsDepthOf p i s.depth
depth-there p sound ss h i s there is a =
    let each = h.each in
    let within : i < length ss = omega arith in
    ap (λ t. t.depth) (is ∙ get_or_default ss i s alone within ∙ h.spelled i there)
    ∙ ap most_of (sym (nests-whole p.constants sound.some (operand (formulas_in p) i) a (level-least (length p.constants) (operand (formulas_in p) i))))
