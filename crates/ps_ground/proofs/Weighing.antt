-- The weights of sentences over structures are those of their ground formulas over the image.
use Rattle.std.proofs.Common.{◌≡◌, ◌↔◌, ℤ, pos, ◌+ℤ◌, ◌*ℤ◌, List, [], ◌∷◌, ◌++◌, map, get_or, ℕ, All, Option, Some, None, IfSome, refl, sym, ap, subst, ◌∙◌}
use Rattle.std.specs.Option.{option_map, option_to_list}
use Rattle.std.specs.List.{AllZip}
use Rattle.std.proofs.lemmas.List.Elements.{All-nil, All-cons, All-head, All-tail}
use Rattle.ps_meaning.specs.declared.side.Side.{Side}
use Rattle.ps_meaning.specs.declared.side.Side.TheVariants.{AtMost}
use Rattle.ps_meaning.specs.Formula.{Formula, is_true}
use Rattle.ps_meaning.specs.Formula as formula
use Rattle.ps_meaning.specs.Distribution.{Entry, weight, total}
use Rattle.ps_meaning.specs.Bounds.{Bound, Compares, MeetsBound, MeetsAll}
use Rattle.ps_meaning.specs.Bounds as over_worlds
use Rattle.ps_meaning.specs.Statements.{Name, Ratio, SignedRatio}
use Rattle.ps_meaning.specs.Statements as meaning
use Rattle.ps_problem.specs.Problems as problem
use Rattle.ps_problem.specs.Scales as scales
use Rattle.ps_problem.specs.Scales.{scaled}
use Rattle.ps_problem.specs.Numbering.{numbered, numbered_given, stated_bound, stated_weights, stated_sum, stated_in, stated_bounds, numbered_question}
use Rattle.ps_problem.proofs.Stated.{bounds-stated, queries-asked}
use Rattle.ps_first_order.specs.FirstOrder.{FirstOrder, Signature, Structure, IsSentence, is_true_in, unassigned}
use Rattle.ps_first_order.specs.FirstOrder as first_order
use Rattle.ps_first_order.specs.Texts.{PlainStatement, Summand, LinearStatement, FirstOrderStatement, Plain, Linear, FirstOrderItem, Stated, Asked, statements_of, questions_of, sentences_in, stated_sentences, sentences_of, IsText}
use Rattle.ps_ground.specs.Grounding.{ground_formula, ground_plain, ground_summand, ground_linear, ground_statement, ground_items, ground_problem}
use Rattle.ps_ground.specs.Structures.{WeightedStructure, weight_in, SentenceBound, PlainOn, condition, bound_of, scale_of, weights_of, sum_of, stated_by, bounds_of, sum_of_weights, Meets}
use Rattle.ps_ground.specs.Images.{world_of, image}
use Rattle.ps_ground.specs.Laws.{names_of, query_of, pair_of, ImagesMeetTheProblem, QueriesAreAsked}
use Rattle.ps_ground.proofs.Truths.{truth-is}
use Rattle.ps_ground.proofs.Listed.{all-left, all-right, nothing-bound, all-covered}
use Rattle.ps_ground.proofs.Merging.{merged-weight}

-- a formula over numbers says of each structure's world what a sentence says of the structure
module _ (s : Signature) (names : List Name) where
  abbrev pub SaysTheSame : Formula ℕ → FirstOrder → Type 0
  SaysTheSame g f = (m : Structure) → is_true g (world_of names m) ≡ is_true_in s m f

  abbrev entry : WeightedStructure → Entry
  entry e = record { weight = e.weight; world = world_of names e.structure }

  weight-is : (g : Formula ℕ) (f : FirstOrder) → SaysTheSame g f → (d : List WeightedStructure) → weight (map entry d) g ≡ weight_in s d f
  weight-is g f h [] = refl
  weight-is g f h (e ∷ d) = rw (h e.structure, weight-is g f h d) refl

  pub image-weight : (g : Formula ℕ) (f : FirstOrder) → SaysTheSame g f → (d : List WeightedStructure) → weight (image names d) g ≡ weight_in s d f
  image-weight g f h d = merged-weight (map entry d) g ∙ weight-is g f h d

  says-and : (g k : Formula ℕ) (f h : FirstOrder) → SaysTheSame g f → SaysTheSame k h → SaysTheSame (formula.And g k) (first_order.And f h)
  says-and g k f h one two m = rw (one m, two m) refl

  -- the sentence's ground formula says the same
  abbrev pub IsKept : FirstOrder → Type 0
  IsKept f = SaysTheSame (numbered names (ground_formula s f)) f

  pub says-given : (g : Option FirstOrder) → IfSome g IsKept → SaysTheSame (numbered_given names (option_map (ground_formula s) g)) (condition g)
  says-given None h m = refl
  says-given (Some g) h m = h m

  compares-same : (side : Side) (x x' y y' : ℤ) → x ≡ x' → y ≡ y' → Compares side x y → Compares side x' y'
  compares-same side x x' y y' e k h = subst (λ z. Compares side z y') e (subst (Compares side x) k h)

  -- so a distribution meets a bound exactly where its image does
  pub meets-same : (f : FirstOrder) (g : Option FirstOrder) (side : Side) (num den : ℤ) (d : List WeightedStructure) → IsKept f → IfSome g IsKept
      → Meets s d (PlainOn (record { formula = f; given = condition g; side = side; num = num; den = den }))
      ↔ MeetsBound (over_worlds.Plain (record { formula = numbered names (ground_formula s f); given = numbered_given names (option_map (ground_formula s) g); side = side; num = num; den = den })) (image names d)
  meets-same f g side num den d kept given =
      let F = numbered names (ground_formula s f) in
      let G = numbered_given names (option_map (ground_formula s) g) in
      let says = says-given g given in
      let both = ap (λ z. den *ℤ z) (image-weight (formula.And F G) (first_order.And f (condition g)) (says-and F G f (condition g) kept says) d) in
      let alone = ap (λ z. num *ℤ z) (image-weight G (condition g) says d) in (
        compares-same side (den *ℤ weight_in s d (first_order.And f (condition g))) (den *ℤ weight (image names d) (formula.And F G)) (num *ℤ weight_in s d (condition g)) (num *ℤ weight (image names d) G) (sym both) (sym alone),
        compares-same side (den *ℤ weight (image names d) (formula.And F G)) (den *ℤ weight_in s d (first_order.And f (condition g))) (num *ℤ weight (image names d) G) (num *ℤ weight_in s d (condition g)) both alone,
      )

  -- the sums of weights are the same too
  sums-same : (m : ℕ) (us : List Summand) (d : List WeightedStructure) → All IsKept (map (λ u. u.formula) us)
      → over_worlds.sum_of_weights (stated_weights names m (map (ground_summand s) us)) (image names d) ≡ sum_of_weights s d (weights_of m us)
  sums-same m [] d h = refl
  sums-same m (u ∷ us) d h =
      let one = image-weight (numbered names (ground_formula s u.formula)) u.formula (All-head IsKept u.formula (map (λ u. u.formula) us) h) d in
      let rest = sums-same m us d (All-tail IsKept u.formula (map (λ u. u.formula) us) h) in
      λ i. (scaled m u.coefficient *ℤ one i) +ℤ rest i

  same-coefficients : (us : List Summand) → map (λ u. u.coefficient) (map (ground_summand s) us) ≡ map (λ u. u.coefficient) us
  same-coefficients [] = refl
  same-coefficients (u ∷ us) = ap (λ rs. u.coefficient ∷ rs) (same-coefficients us)

  same-scale : (t : LinearStatement) → scales.scale_of (ground_linear s t) ≡ scale_of t
  same-scale t = ap (λ rs. scales.lcm_with 1 (map (λ r. r.den) ((t.value ∷ option_to_list t.upper) ++ rs))) (same-coefficients t.terms)

  -- so a distribution meets a linear bound exactly where its image does
  linear-same : (t : LinearStatement) (side : Side) (value : SignedRatio) (d : List WeightedStructure) → All IsKept (map (λ u. u.formula) t.terms)
      → Meets s d (sum_of t side value) ↔ MeetsBound (stated_sum names (ground_linear s t) side value) (image names d)
  linear-same t side value d kept =
      let m = scales.scale_of (ground_linear s t) in
      let sums : over_worlds.sum_of_weights (stated_weights names m (map (ground_summand s) t.terms)) (image names d) ≡ sum_of_weights s d (weights_of (scale_of t) t.terms) =
      sums-same m t.terms d kept ∙ ap (λ k. sum_of_weights s d (weights_of k t.terms)) (same-scale t) in
      let rights : (scaled m value *ℤ total (image names d)) ≡ (scaled (scale_of t) value *ℤ weight_in s d first_order.Truth) =
      (λ i. scaled (same-scale t i) value *ℤ image-weight formula.Truth first_order.Truth (λ _. refl) d i) in (
        compares-same side (sum_of_weights s d (weights_of (scale_of t) t.terms)) (over_worlds.sum_of_weights (stated_weights names m (map (ground_summand s) t.terms)) (image names d)) (scaled (scale_of t) value *ℤ weight_in s d first_order.Truth) (scaled m value *ℤ total (image names d)) (sym sums) (sym rights),
        compares-same side (over_worlds.sum_of_weights (stated_weights names m (map (ground_summand s) t.terms)) (image names d)) (sum_of_weights s d (weights_of (scale_of t) t.terms)) (scaled m value *ℤ total (image names d)) (scaled (scale_of t) value *ℤ weight_in s d first_order.Truth) sums rights,
      )

  -- the sentences of a statement
  abbrev pub AreKept : FirstOrder → Option FirstOrder → Type 0
  AreKept f g = IsKept f × IfSome g IsKept

  pub kept-in : (f : FirstOrder) (g : Option FirstOrder) → All IsKept (sentences_in f g) → AreKept f g
  kept-in f None h = (All-head IsKept f [] h, tt)
  kept-in f (Some g) h = (All-head IsKept f (g ∷ []) h, All-head IsKept g [] (All-tail IsKept f (g ∷ []) h))

  -- each sentence of a statement is kept
  abbrev pub IsKeptStatement : FirstOrderStatement → Type 0
  IsKeptStatement t = All IsKept (stated_sentences t)

  pub kept-statements : (items : List FirstOrderItem) → All IsKept (sentences_of items) → All IsKeptStatement (statements_of items)
  kept-statements [] h = All-nil IsKeptStatement
  kept-statements (Stated t ∷ items) h = All-cons IsKeptStatement t (statements_of items)
      (all-left IsKept (stated_sentences t) (sentences_of items) h)
      (kept-statements items (all-right IsKept (stated_sentences t) (sentences_of items) h))
  kept-statements (Asked q ∷ items) h = kept-statements items (all-right IsKept (sentences_in q.formula q.given) (sentences_of items) h)

  pub kept-questions : (items : List FirstOrderItem) → All IsKept (sentences_of items) → All (λ q. AreKept q.formula q.given) (questions_of items)
  kept-questions [] h = All-nil (λ q. AreKept q.formula q.given)
  kept-questions (Stated t ∷ items) h = kept-questions items (all-right IsKept (stated_sentences t) (sentences_of items) h)
  kept-questions (Asked q ∷ items) h = All-cons (λ q. AreKept q.formula q.given) q (questions_of items)
      (kept-in q.formula q.given (all-left IsKept (sentences_in q.formula q.given) (sentences_of items) h))
      (kept-questions items (all-right IsKept (sentences_in q.formula q.given) (sentences_of items) h))

  module _ (d : List WeightedStructure) where
    abbrev AreMetTogether : SentenceBound → Bound → Type 0
    AreMetTogether b c = Meets s d b ↔ MeetsBound c (image names d)

    bound-same : (t : PlainStatement) (on : Side) (value : Ratio) → AreKept t.formula t.given → AreMetTogether (bound_of t on value) (stated_bound names (ground_plain s t) on value)
    bound-same t on value k = meets-same t.formula t.given on (pos value.num) (pos value.den) d k.0 k.1

    statement-same : (t : FirstOrderStatement) → IsKeptStatement t → (bs : List SentenceBound) (cs : List Bound) → AllZip AreMetTogether bs cs
        → AllZip AreMetTogether (stated_by t ++ bs) (stated_in names (ground_statement s t) ++ cs)
    statement-same (Plain t) h bs cs rest = by t.upper
      where
        there : AreKept t.formula t.given
        there = kept-in t.formula t.given h

        by : (u : Option Ratio) → AllZip AreMetTogether (bound_of t t.side t.value ∷ map (bound_of t AtMost) (option_to_list u) ++ bs)
            (stated_bound names (ground_plain s t) t.side t.value ∷ map (stated_bound names (ground_plain s t) AtMost) (option_to_list u) ++ cs)
        by None = (bound-same t t.side t.value there, rest)
        by (Some r) = (bound-same t t.side t.value there, (bound-same t AtMost r there, rest))
    statement-same (Linear t) h bs cs rest = by t.upper
      where
        by : (u : Option SignedRatio) → AllZip AreMetTogether (sum_of t t.side t.value ∷ map (sum_of t AtMost) (option_to_list u) ++ bs)
            (stated_sum names (ground_linear s t) t.side t.value ∷ map (stated_sum names (ground_linear s t) AtMost) (option_to_list u) ++ cs)
        by None = (linear-same t t.side t.value d h, rest)
        by (Some r) = (linear-same t t.side t.value d h, (linear-same t AtMost r d h, rest))

    bounds-same : (ts : List FirstOrderStatement) → All IsKeptStatement ts → AllZip AreMetTogether (bounds_of ts) (stated_bounds names (map (ground_statement s) ts))
    bounds-same [] h = tt
    bounds-same (t ∷ ts) h = statement-same t (All-head IsKeptStatement t ts h) (bounds_of ts) (stated_bounds names (map (ground_statement s) ts)) (bounds-same ts (All-tail IsKeptStatement t ts h))

    all-together : (bs : List SentenceBound) (cs : List Bound) → AllZip AreMetTogether bs cs → All (Meets s d) bs ↔ MeetsAll cs (image names d)
    all-together [] [] h = ((λ k. All-nil (λ c. MeetsBound c (image names d))), (λ k. All-nil (Meets s d)))
    all-together [] (c ∷ cs) h = absurd h
    all-together (b ∷ bs) [] h = absurd h
    all-together (b ∷ bs) (c ∷ cs) h =
        let rest = all-together bs cs h.1 in (
          (λ k. All-cons (λ c. MeetsBound c (image names d)) c cs (h.0.0 (All-head (Meets s d) b bs k)) (rest.0 (All-tail (Meets s d) b bs k))),
          (λ k. All-cons (Meets s d) b bs (h.0.1 (All-head (λ c. MeetsBound c (image names d)) c cs k)) (rest.1 (All-tail (λ c. MeetsBound c (image names d)) c cs k))),
        )

    pub stated-same : (ts : List FirstOrderStatement) → All IsKeptStatement ts → All (Meets s d) (bounds_of ts) ↔ MeetsAll (stated_bounds names (map (ground_statement s) ts)) (image names d)
    stated-same ts h = all-together (bounds_of ts) (stated_bounds names (map (ground_statement s) ts)) (bounds-same ts h)

ground-stated : (s : Signature) (items : List FirstOrderItem) → meaning.statements_of (ground_items s items) ≡ map (ground_statement s) (statements_of items)
ground-stated s [] = refl
ground-stated s (Stated t ∷ items) = ap (λ xs. ground_statement s t ∷ xs) (ground-stated s items)
ground-stated s (Asked q ∷ items) = ground-stated s items

module _ (s : Signature) (items : List FirstOrderItem) where
  ground-asked : (its : List FirstOrderItem) → map (numbered_question (names_of s items)) (meaning.questions_of (ground_items s its)) ≡ map (λ q. pair_of (query_of s items q)) (questions_of its)
  ground-asked [] = refl
  ground-asked (Stated t ∷ its) = ground-asked its
  ground-asked (Asked q ∷ its) = ap (λ xs. pair_of (query_of s items q) ∷ xs) (ground-asked its)

  pub asked : QueriesAreAsked s items
  asked = queries-asked (ground_items s items) ∙ ground-asked items

  module _ (text : IsText s items) where
    pub all-kept : All (IsKept s (names_of s items)) (sentences_of items)
    all-kept k d lt = λ m. truth-is s text.signature (names_of s items) m (get_or (sentences_of items) k d) [] unassigned (text.sentences k d lt) (nothing-bound s) (all-covered s items k d lt)

    pub meets-together : ImagesMeetTheProblem s items
    meets-together d =
        let kept = kept-statements s (names_of s items) items all-kept in
        let bounds : problem.bounds_of (ground_problem s items) ≡ stated_bounds (names_of s items) (map (ground_statement s) (statements_of items)) = bounds-stated (ground_items s items) ∙ ap (stated_bounds (names_of s items)) (ground-stated s items) in
        rw bounds (stated-same s (names_of s items) d (statements_of items) kept)
