-- Distributions over structures, and the texts that they meet.
use Rattle.std.specs.Prelude.{◌<◌, ℕ, ℤ, pos, ◌+ℤ◌, ◌*ℤ◌, ◌≤ℤ◌, if◌then◌else◌, List, [], ◌∷◌, ◌++◌, length, map, All, AllPairs}
use Rattle.std.specs.Prelude.{Option, Some, None, option_to_list}
use Rattle.ps_meaning.specs.declared.side.Side.{Side}
use Rattle.ps_meaning.specs.declared.side.Side.TheVariants.{AtMost, Exactly}
use Rattle.ps_meaning.specs.Bounds.{Compares}
use Rattle.ps_meaning.specs.Rational.{Rational}
use Rattle.ps_meaning.specs.Statements.{Ratio, SignedRatio}
use Rattle.ps_problem.specs.Scales.{lcm_with, scaled}
use Rattle.ps_first_order.specs.FirstOrder.{FirstOrder, Truth, And, Signature, Structure, is_true_in, AreSame}
use Rattle.ps_first_order.specs.Texts.{PlainStatement, Summand, LinearStatement, FirstOrderStatement, Plain, Linear}
use Rattle.ps_first_order.specs.Texts.{FirstOrderQuestion, FirstOrderItem, statements_of}

-- a structure and its weight
pub record WeightedStructure : Type 0 where
  pub weight : ℤ
  pub structure : Structure

-- the weight of the structures in which a sentence is true
abbrev pub weight_in : Signature → List WeightedStructure → FirstOrder → ℤ
weight_in s [] f = pos 0
weight_in s (e ∷ d) f = (if is_true_in s e.structure f then e.weight else pos 0) +ℤ weight_in s d f

-- a distribution over structures: at least one, none twice, each of a weight of at least 1
pub record IsStructureDistribution (s : Signature) (d : List WeightedStructure) : Type 0 where
  pub some : 0 < length d
  pub weighed : All (λ e. pos 1 ≤ℤ e.weight) d
  pub different : AllPairs (λ e e'. ¬ AreSame s e.structure e'.structure) d

-- the probability of a sentence, given a condition, against num/den; the condition is truth where nothing is given
pub record PlainBound : Type 0 where
  pub formula : FirstOrder
  pub given : FirstOrder
  pub side : Side
  pub num : ℤ
  pub den : ℤ

-- the sum of the probabilities of sentences, each times its number, against a whole number
pub record LinearBound : Type 0 where
  pub terms : List (FirstOrder × ℤ)
  pub side : Side
  pub right : ℤ

-- a bound on one probability, or on a sum of them
pub data SentenceBound : Type 0 where
  PlainOn : (plain : PlainBound) → SentenceBound
  LinearOn : (linear : LinearBound) → SentenceBound

-- a condition, which is truth where nothing is given
abbrev pub condition : Option FirstOrder → FirstOrder
condition None = Truth
condition (Some g) = g

-- what a plain statement says on one side
abbrev pub bound_of : PlainStatement → Side → Ratio → SentenceBound
bound_of t on value = PlainOn (record {
  formula = t.formula;
  given = condition t.given;
  side = on;
  num = pos value.num;
  den = pos value.den;
})

-- the denominators of a linear statement: those of its right sides, and those of its coefficients
abbrev pub denominators : LinearStatement → List ℕ
denominators t = map (λ r. r.den) (t.value ∷ option_to_list t.upper ++ map (λ u. u.coefficient) t.terms)

-- the scale of a linear statement: the least common multiple of its denominators
abbrev pub scale_of : LinearStatement → ℕ
scale_of t = lcm_with 1 (denominators t)

-- the formulas of terms, each with its coefficient times a scale
abbrev pub weights_of : ℕ → List Summand → List (FirstOrder × ℤ)
weights_of m [] = []
weights_of m (u ∷ us) = (u.formula, scaled m u.coefficient) ∷ weights_of m us

-- what a linear statement says on one side: all of it times its scale
abbrev pub sum_of : LinearStatement → Side → SignedRatio → SentenceBound
sum_of t on value = LinearOn (record {
  terms = weights_of (scale_of t) t.terms;
  side = on;
  right = scaled (scale_of t) value;
})

-- what a statement says: one bound, and an upper one too where it is an interval
abbrev pub stated_by : FirstOrderStatement → List SentenceBound
stated_by (Plain t) = bound_of t t.side t.value ∷ map (bound_of t AtMost) (option_to_list t.upper)
stated_by (Linear t) = sum_of t t.side t.value ∷ map (sum_of t AtMost) (option_to_list t.upper)

-- what statements say
abbrev pub bounds_of : List FirstOrderStatement → List SentenceBound
bounds_of [] = []
bounds_of (t ∷ ts) = stated_by t ++ bounds_of ts

-- the weights of sentences, each times its number
abbrev pub sum_of_weights : Signature → List WeightedStructure → List (FirstOrder × ℤ) → ℤ
sum_of_weights s d [] = pos 0
sum_of_weights s d (t ∷ ts) = (t.1 *ℤ weight_in s d t.0) +ℤ sum_of_weights s d ts

-- the distribution meets a plain bound, in product form: where the condition weighs nothing every bound is met
abbrev pub MeetsPlain : Signature → List WeightedStructure → PlainBound → Type 0
MeetsPlain s d b = Compares b.side (b.den *ℤ weight_in s d (And b.formula b.given)) (b.num *ℤ weight_in s d b.given)

-- the distribution meets the bound: of a linear one, the sum of the weights, each times its number, compares with the right
-- side times the weight of all structures
abbrev pub Meets : Signature → List WeightedStructure → SentenceBound → Type 0
Meets s d (PlainOn b) = MeetsPlain s d b
Meets s d (LinearOn b) = Compares b.side (sum_of_weights s d b.terms) (b.right *ℤ weight_in s d Truth)

-- the distribution meets each bound of each sentence of the text
abbrev pub MeetsText : Signature → List FirstOrderItem → List WeightedStructure → Type 0
MeetsText s items d = All (Meets s d) (bounds_of (statements_of items))

-- a distribution over structures that meets the text
pub record IsModelOfText (s : Signature) (items : List FirstOrderItem) (d : List WeightedStructure) : Type 0 where
  pub distribution : IsStructureDistribution s d
  pub met : MeetsText s items d

-- a distribution that meets the text and gives a query's condition positive probability
pub record IsAllowed (s : Signature) (items : List FirstOrderItem) (q : FirstOrderQuestion) (d : List WeightedStructure)
    : Type 0 where
  pub model : IsModelOfText s items d
  pub positive : pos 1 ≤ℤ weight_in s d (condition q.given)

-- the bound that says that a query's probability is on this side of a value
abbrev pub bound_on : FirstOrderQuestion → Side → Rational → SentenceBound
bound_on q on value = PlainOn (record {
  formula = q.formula;
  given = condition q.given;
  side = on;
  num = value.over;
  den = pos value.under;
})

-- in each allowed distribution the query's probability is on this side of the value: a lower bound where it is at least
-- the value, an upper bound where it is at most the value
pub record Bounds (s : Signature) (items : List FirstOrderItem) (q : FirstOrderQuestion) (side : Side) (value : Rational)
    : Type 0 where
  pub met : (d : List WeightedStructure) → IsAllowed s items q d → Meets s d (bound_on q side value)

-- an allowed distribution in which the query's probability is the value
pub record Reaches (s : Signature) (items : List FirstOrderItem) (q : FirstOrderQuestion) (value : Rational)
    (d : List WeightedStructure) : Type 0 where
  pub allowed : IsAllowed s items q d
  pub equal : Meets s d (bound_on q Exactly value)
