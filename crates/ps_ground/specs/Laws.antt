-- What the laws of ground formulas say.
use Rattle.std.specs.Prelude.{◌≡◌, ◌↔◌, ℕ, List, Some, length, map, slice_get, All}
use Rattle.ps_meaning.specs.declared.side.Side.{Side}
use Rattle.ps_meaning.specs.Formula.{Formula, is_true}
use Rattle.ps_meaning.specs.Distribution.{Entry, IsDistribution}
use Rattle.ps_meaning.specs.Bounds.{MeetsAll}
use Rattle.ps_meaning.specs.Rational.{Rational}
use Rattle.ps_meaning.specs.Statements.{Name}
use Rattle.ps_problem.specs.Problems as problem
use Rattle.ps_problem.specs.Numbering.{numbered, numbered_given, queries_of}
use Rattle.ps_claims.specs.Queries as over_worlds
use Rattle.ps_text.specs.Canonical.{HasNames}
use Rattle.ps_ground.specs.GroundParts.{marks_of}
use Rattle.ps_ground.specs.Drafting.{IsShort}
use Rattle.ps_first_order.specs.FirstOrder.{FirstOrder, IsSentence, Signature, Structure, IsGroundAtom, is_true_in}
use Rattle.ps_first_order.specs.Texts.{FirstOrderItem, FirstOrderQuestion, IsText, sentences_of, questions_of}
use Rattle.ps_ground.specs.Grounding.{atom_name, ground_formula, ground_question, ground_problem}
use Rattle.ps_ground.specs.Structures.{WeightedStructure, IsStructureDistribution, MeetsText, IsModelOfText}
use Rattle.ps_ground.specs.Structures.{IsAllowed, Bounds, Reaches}
use Rattle.ps_ground.specs.Images.{world_of, image}

-- the names of the atoms of a text's problem
abbrev pub names_of : Signature → List FirstOrderItem → List Name
names_of s items = (ground_problem s items).names

-- how many atoms the problem has
abbrev pub atoms_of : Signature → List FirstOrderItem → ℕ
atoms_of s items = length (names_of s items)

-- what holds of each text with its signature
abbrev pub OfTexts : (Signature → List FirstOrderItem → Type 0) → Type 0
OfTexts P = (s : Signature) (items : List FirstOrderItem) → IsText s items → P s items

-- different ground atoms have different names
abbrev pub AtomNamesDiffer : Signature → Type 0
AtomNamesDiffer s = (p q : Name) (cs ds : List Name) → IsGroundAtom s p cs → IsGroundAtom s q ds
    → atom_name p cs ≡ atom_name q ds → (p ≡ q) × (cs ≡ ds)

-- the atoms of a sentence's ground formula are names, where none is too long
abbrev pub GroundAtomsAreNames : Signature → Type 0
GroundAtomsAreNames s = (f : FirstOrder) → IsSentence s f → All IsShort (marks_of (ground_formula s f))
    → HasNames (ground_formula s f)

-- in the world of a structure each ground atom that has a place has its truth value in the structure
abbrev pub WorldsHaveTheTruths : Signature → Type 0
WorldsHaveTheTruths s = (names : List Name) (m : Structure) (p : Name) (cs : List Name) (i : ℕ) → IsGroundAtom s p cs
    → slice_get names i ≡ Some (atom_name p cs) → slice_get (world_of names m) i ≡ Some (m p cs)

-- each sentence of the text is true in a structure exactly where its ground formula is true in the structure's world
abbrev pub TruthIsKept : Signature → List FirstOrderItem → Type 0
TruthIsKept s items = (m : Structure) → All (λ f.
    is_true (numbered (names_of s items) (ground_formula s f)) (world_of (names_of s items) m) ≡ is_true_in s m f)
    (sentences_of items)

-- the image of a distribution over structures is a distribution over worlds
abbrev pub ImagesAreDistributions : Signature → List FirstOrderItem → Type 0
ImagesAreDistributions s items = (d : List WeightedStructure) → IsStructureDistribution s d
    → IsDistribution (atoms_of s items) (image (names_of s items) d)

-- a distribution over structures meets the text exactly where its image meets the problem
abbrev pub ImagesMeetTheProblem : Signature → List FirstOrderItem → Type 0
ImagesMeetTheProblem s items = (d : List WeightedStructure)
    → MeetsText s items d ↔ MeetsAll (problem.bounds_of (ground_problem s items)) (image (names_of s items) d)

-- every distribution over worlds is the image of one over structures
abbrev pub AllAreImages : Signature → List FirstOrderItem → Type 0
AllAreImages s items = (d : List Entry) → IsDistribution (atoms_of s items) d
    → (e : List WeightedStructure) × IsStructureDistribution s e × (image (names_of s items) e ≡ d)

-- a query over worlds: its ground formula and condition
abbrev pub query_of : Signature → List FirstOrderItem → FirstOrderQuestion → over_worlds.Query
query_of s items q = record {
  formula = numbered (names_of s items) (ground_question s q).formula;
  evidence = numbered_given (names_of s items) (ground_question s q).given;
}

-- formula and condition of a query over worlds
abbrev pub pair_of : over_worlds.Query → Formula ℕ × Formula ℕ
pair_of q = (q.formula, q.evidence)

-- the queries of the text's problem ask what the text asks
abbrev pub QueriesAreAsked : Signature → List FirstOrderItem → Type 0
QueriesAreAsked s items = queries_of (ground_problem s items) ≡ map (λ q. pair_of (query_of s items q)) (questions_of items)

-- no distribution over structures meets the text exactly where none over worlds meets the problem
abbrev pub InconsistentTogether : Signature → List FirstOrderItem → Type 0
InconsistentTogether s items = ((d : List WeightedStructure) → ¬ IsModelOfText s items d)
    ↔ over_worlds.IsInconsistent (atoms_of s items) (problem.bounds_of (ground_problem s items))

-- what holds of a query over structures holds of it over worlds: whether no distribution is allowed, which values are
-- lower and upper bounds, and which are reached
pub record QueryIsKept (s : Signature) (items : List FirstOrderItem) (q : FirstOrderQuestion) : Type 0 where
  pub impossible : ((d : List WeightedStructure) → ¬ IsAllowed s items q d)
      ↔ over_worlds.IsImpossible (atoms_of s items) (problem.bounds_of (ground_problem s items)) (query_of s items q).evidence
  pub bounds : (side : Side) (value : Rational) → Bounds s items q side value
      ↔ over_worlds.Holds (atoms_of s items) (problem.bounds_of (ground_problem s items)) (query_of s items q) side value
  pub reached : (value : Rational) → ((d : List WeightedStructure) × Reaches s items q value d)
      ↔ ((d : List Entry)
      × over_worlds.Reaches (atoms_of s items) (problem.bounds_of (ground_problem s items)) (query_of s items q) value d)

-- this is so for each query of the text
abbrev pub QueriesAreKept : Signature → List FirstOrderItem → Type 0
QueriesAreKept s items = All (QueryIsKept s items) (questions_of items)
