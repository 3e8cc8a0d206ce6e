-- What the numbers of a problem stand for, and which problems are in order.
use Rattle.std.specs.Prelude.{◌≡◌, ◌≢◌, ◌≤◌, ◌<◌, ◌+◌, ◌-◌, ◌==◌, if◌then◌else◌, slice_get, ℕ, ℤ, pos, Bool, true, false, List}
use Rattle.std.specs.Prelude.{[], ◌∷◌, ◌++◌, Option, Some, None, is_some, unwrap_or, IsSome, length, map, All, AllPairs, IfSome}
use Rattle.std.specs.Prelude.{slice_index_or, unsigned_abs}
use Rattle.ps_meaning.specs.declared.side.Side.{Side}
use Rattle.ps_meaning.specs.declared.side.Side.TheVariants.{AtLeast, AtMost}
use Rattle.ps_text.specs.declared.limits.TheConstants.{MOST_TERMS}
use Rattle.ps_meaning.specs.Formula.{Formula, Truth, And}
use Rattle.ps_meaning.specs.Bounds as meaning
use Rattle.ps_meaning.specs.Statements.{Name}
use Rattle.ps_formula.specs.Nodes.{trees, AreNodes, AtomBelow}
use Rattle.ps_formula.specs.declared.node.Node.{Node}
use Rattle.ps_formula.specs.declared.limits.TheConstants.{MOST_ATOMS, MOST_NODES}
use Rattle.ps_problem.specs.declared.limits.TheConstants.{MOST_BOUNDS, MOST_QUERIES, MOST_DENOMINATOR}
use Rattle.ps_problem.specs.declared.limits.TheConstants.{GREATEST_SCALE, MOST_SIZES}
use Rattle.ps_problem.specs.declared.bound.Bound.{Bound}
use Rattle.ps_problem.specs.declared.sentence.Linear.{Linear}
use Rattle.ps_problem.specs.declared.sentence.Sentence.{Sentence}
use Rattle.ps_problem.specs.declared.sentence.Sentence.TheVariants as sentence
use Rattle.ps_problem.specs.declared.query.Query.{Query}

-- the names of the atoms, the nodes, the sentences and the queries of a problem
pub record Parts : Type 0 where
  pub names : List Name
  pub nodes : List Node
  pub sentences : List Sentence
  pub queries : List Query

-- a problem of these four
abbrev pub parts_of : List Name → List Node → List Sentence → List Query → Parts
parts_of names nodes sentences queries = record { names = names; nodes = nodes; sentences = sentences; queries = queries }

-- a bound of a sentence: a plain one, or that of a linear sentence, its upper one where the second is true
pub data BoundIn : Type 0 where
  PlainIn : (bound : Bound) → BoundIn
  LinearIn : (linear : Linear) (upper : Bool) → BoundIn

-- the side of a linear sentence's bound
abbrev pub side_at : Linear → Bool → Side
side_at l false = l.side
side_at l true = AtMost

-- the right side of a linear sentence's bound
abbrev pub right_at : Linear → Bool → ℤ
right_at l false = l.right
right_at l true = unwrap_or l.upper l.right

-- the bounds of a sentence: one, and of an interval a second
abbrev pub bounds_of_sentence : Sentence → List BoundIn
bounds_of_sentence (sentence.Plain first None) = PlainIn first ∷ []
bounds_of_sentence (sentence.Plain first (Some second)) = PlainIn first ∷ PlainIn second ∷ []
bounds_of_sentence (sentence.Linear l) = LinearIn l false ∷ (if is_some l.upper then LinearIn l true ∷ [] else [])

-- the bounds of sentences in order
abbrev pub bounds_in : List Sentence → List BoundIn
bounds_in [] = []
bounds_in (s ∷ ss) = bounds_of_sentence s ++ bounds_in ss

-- the bound of sentences by its number, from 1
abbrev pub bound_at : List Sentence → ℕ → Option BoundIn
bound_at ss i = if i == 0 then None else slice_get (bounds_in ss) (i - 1)

-- the name of a number
abbrev pub name_at : List Name → ℕ → Name
name_at names n = slice_index_or names n []

-- the formula of a node
abbrev pub tree_at : List Node → ℕ → Formula ℕ
tree_at ns i = slice_index_or (trees ns) i Truth

-- the formula of a condition, which is truth where nothing is given
abbrev pub given_at : List Node → Option ℕ → Formula ℕ
given_at ns None = Truth
given_at ns (Some g) = tree_at ns g

-- the formulas of nodes, each with its number
abbrev pub weights_at : List Node → List (ℕ × ℤ) → meaning.Weights
weights_at ns [] = []
weights_at ns (t ∷ ts) = (tree_at ns t.0, t.1) ∷ weights_at ns ts

-- the bound that a bound's numbers stand for
abbrev pub bound_of : List Node → BoundIn → meaning.Bound
bound_of ns (PlainIn b) = meaning.Plain (record {
  formula = tree_at ns b.formula;
  given = given_at ns b.given;
  side = b.side;
  num = pos b.num;
  den = pos b.den;
})
bound_of ns (LinearIn l upper) = meaning.Linear (record {
  terms = weights_at ns l.terms;
  side = side_at l upper;
  right = right_at l upper;
})

-- the bounds that a problem's sentences stand for
abbrev pub bounds_of : Parts → List meaning.Bound
bounds_of p = map (bound_of p.nodes) (bounds_in p.sentences)

-- the node stands for formula and condition together, and is the formula's where nothing is given
abbrev pub IsBoth : List Node → ℕ → Option ℕ → ℕ → Type 0
IsBoth ns formula None both = both ≡ formula
IsBoth ns formula (Some g) both = tree_at ns both ≡ And (tree_at ns formula) (tree_at ns g)

-- the nodes of a bound or a query are there
pub record HasNodes (ns : List Node) (formula : ℕ) (given : Option ℕ) (both : ℕ) : Type 0 where
  pub formula_there : formula < length ns
  pub given_there : IfSome given (λ g. g < length ns)
  pub both_there : both < length ns
  pub both_is : IsBoth ns formula given both

-- the bound is over nodes that are there, and its value is at most 1 with a denominator within the limit
pub record IsBound (ns : List Node) (b : Bound) : Type 0 where
  pub nodes : HasNodes ns b.formula b.given b.both
  pub den_least : 1 ≤ b.den
  pub den_most : b.den ≤ MOST_DENOMINATOR
  pub num_most : b.num ≤ b.den

-- the sum of the sizes of terms' numbers
abbrev pub terms_size : List (ℕ × ℤ) → ℕ
terms_size [] = 0
terms_size (t ∷ ts) = unsigned_abs t.1 + terms_size ts

-- the sizes of terms' numbers and of a right side sum to no more than they may
abbrev pub AreSmall : List (ℕ × ℤ) → ℤ → Type 0
AreSmall ts right = unsigned_abs right + terms_size ts ≤ MOST_SIZES

-- the node is there
abbrev pub IsTerm : List Node → ℕ × ℤ → Type 0
IsTerm ns t = t.0 < length ns

-- a linear sentence is over nodes that are there, no more than may be, its numbers are within their limits, and an interval's
-- lower side is at least
pub record IsLinear (ns : List Node) (l : Linear) : Type 0 where
  pub some : 1 ≤ length l.terms
  pub few : length l.terms ≤ MOST_TERMS
  pub nodes : All (IsTerm ns) l.terms
  pub scale_least : 1 ≤ l.scale
  pub scale_most : l.scale ≤ GREATEST_SCALE
  pub small : AreSmall l.terms l.right
  pub small_upper : IfSome l.upper (AreSmall l.terms)
  pub side : IfSome l.upper (λ r. l.side ≡ AtLeast)

-- an upper bound is that of an interval
abbrev pub HasUpper : Linear → Bool → Type 0
HasUpper l upper = upper ≡ true → IsSome l.upper

-- the bound is over nodes that are there, and its numbers are within their limits
abbrev pub IsBoundIn : List Node → BoundIn → Type 0
IsBoundIn ns (PlainIn b) = IsBound ns b
IsBoundIn ns (LinearIn l upper) = IsLinear ns l × HasUpper l upper

-- each bound is
abbrev pub AreBounds : List Node → List BoundIn → Type 0
AreBounds ns bs = All (IsBoundIn ns) bs

-- the bounds of a sentence are over nodes that are there, and its numbers are within their limits
abbrev pub IsSentence : List Node → Sentence → Type 0
IsSentence ns s = AreBounds ns (bounds_of_sentence s)

-- a problem within the limits, whose numbers are in range
pub record AreParts (p : Parts) : Type 0 where
  pub nodes : AreNodes p.nodes
  pub few_nodes : length p.nodes ≤ MOST_NODES
  pub few_atoms : length p.names ≤ MOST_ATOMS
  pub names : AllPairs (λ a b. a ≢ b) p.names
  pub atoms : All (AtomBelow (length p.names)) p.nodes
  pub bounds : AreBounds p.nodes (bounds_in p.sentences)
  pub few_bounds : length (bounds_in p.sentences) ≤ MOST_BOUNDS
  pub queries : All (λ q. HasNodes p.nodes q.formula q.given q.both) p.queries
  pub few_queries : length p.queries ≤ MOST_QUERIES
