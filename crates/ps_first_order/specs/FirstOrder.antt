-- First-order formulas over listed constants, structures, and truth in them.
use Rattle.std.specs.Prelude.{◌≡◌, ◌≢◌, ℕ, ◌≤◌, ◌<◌, Bool, true, false, not, ◌&&◌, ◌||◌, if◌then◌else◌}
use Rattle.std.specs.Prelude.{List, [], ◌∷◌, length, map, All, AllPairs, Contains}
use Rattle.std.specs.List.{list_any, list_all}
use Rattle.ps_meaning.specs.Formula.{agree}
use Rattle.ps_meaning.specs.Names.{IsName}
use Rattle.ps_meaning.specs.Statements.{Name}
use Rattle.ps_problem.specs.Numbering.{same_name}
use Rattle.ps_first_order.specs.declared.limits.TheConstants.{MOST_CONSTANTS, MOST_PREDICATES, MOST_ARITY, UNDERSCORE}

-- a predicate, and how many terms it takes
pub record Predicate : Type 0 where
  pub name : Name
  pub arity : ℕ

-- the constants in order, and the predicates
pub record Signature : Type 0 where
  pub constants : List Name
  pub predicates : List Predicate

-- a constant, or a variable
pub data Term : Type 0 where
  Constant Variable : (name : Name) → Term

-- a formula of first-order logic without functions and equality
pub data FirstOrder : Type 0 where
  Truth Falsity : FirstOrder
  Holds : (predicate : Name) (terms : List Term) → FirstOrder
  Not : (operand : FirstOrder) → FirstOrder
  And Or Implies Iff : (left right : FirstOrder) → FirstOrder
  ForAll Exists : (variable : Name) (body : FirstOrder) → FirstOrder

-- no `_` stands in the name
abbrev pub IsPlain : Name → Type 0
IsPlain name = All (λ b. b ≢ UNDERSCORE) name

-- a name of a constant or a predicate
pub record IsSymbol (name : Name) : Type 0 where
  pub named : IsName name
  pub plain : IsPlain name

-- the names are different, and the limits are kept
pub record IsSignature (s : Signature) : Type 0 where
  pub some : 0 < length s.constants
  pub few_constants : length s.constants ≤ MOST_CONSTANTS
  pub few_predicates : length s.predicates ≤ MOST_PREDICATES
  pub constants : All IsSymbol s.constants
  pub predicates : All (λ p. IsSymbol p.name) s.predicates
  pub arities : All (λ p. p.arity ≤ MOST_ARITY) s.predicates
  pub constants_differ : AllPairs (λ a b. a ≢ b) s.constants
  pub predicates_differ : AllPairs (λ p q. p.name ≢ q.name) s.predicates
  pub apart : All (λ p. ¬ Contains s.constants p.name) s.predicates

-- a term is a listed constant, or one of the variables that are bound there
abbrev pub IsTerm : Signature → List Name → Term → Type 0
IsTerm s bound (Constant c) = Contains s.constants c
IsTerm s bound (Variable x) = Contains bound x

-- a predicate takes as many terms as its arity says
abbrev pub IsAtom : Signature → List Name → Name → List Term → Type 0
IsAtom s bound p ts = Contains s.predicates (record { name = p; arity = length ts }) × All (IsTerm s bound) ts

-- the name of a constant, of a predicate or of a variable that is bound there is no name for a further variable
pub record IsNew (s : Signature) (bound : List Name) (x : Name) : Type 0 where
  pub no_constant : ¬ Contains s.constants x
  pub no_predicate : All (λ p. p.name ≢ x) s.predicates
  pub unbound : ¬ Contains bound x

-- the formula is one over the signature, where these variables are bound around it
abbrev pub IsFormula : Signature → List Name → FirstOrder → Type 0
IsFormula s bound Truth = Unit {0}
IsFormula s bound Falsity = Unit {0}
IsFormula s bound (Holds p ts) = IsAtom s bound p ts
IsFormula s bound (Not f) = IsFormula s bound f
IsFormula s bound (And f g) = IsFormula s bound f × IsFormula s bound g
IsFormula s bound (Or f g) = IsFormula s bound f × IsFormula s bound g
IsFormula s bound (Implies f g) = IsFormula s bound f × IsFormula s bound g
IsFormula s bound (Iff f g) = IsFormula s bound f × IsFormula s bound g
IsFormula s bound (ForAll x f) = IsNew s bound x × IsFormula s (x ∷ bound) f
IsFormula s bound (Exists x f) = IsNew s bound x × IsFormula s (x ∷ bound) f

-- a formula in which each variable is bound
abbrev pub IsSentence : Signature → FirstOrder → Type 0
IsSentence s f = IsFormula s [] f

-- a structure gives a truth value to each predicate with each list of constants; what it gives to other names and to
-- lists of another length than the arity counts for nothing
abbrev pub Structure : Type 0
Structure = Name → List Name → Bool

-- the constants that variables stand for
abbrev pub Assignment : Type 0
Assignment = Name → Name

-- no variable stands for anything yet
abbrev pub unassigned : Assignment
unassigned x = []

-- the assignment in which one variable stands for a constant, and the others for what they did
abbrev pub assigned : Assignment → Name → Name → Assignment
assigned a x c y = if same_name y x then c else a y

-- the constant that a term stands for
abbrev pub constant_of : Assignment → Term → Name
constant_of a (Constant c) = c
constant_of a (Variable x) = a x

-- whether a formula is true in a structure over these constants; they are all there is
abbrev pub is_true_under : FirstOrder → List Name → Structure → Assignment → Bool
is_true_under Truth cs m a = true
is_true_under Falsity cs m a = false
is_true_under (Holds p ts) cs m a = m p (map (constant_of a) ts)
is_true_under (Not f) cs m a = not (is_true_under f cs m a)
is_true_under (And f g) cs m a = is_true_under f cs m a && is_true_under g cs m a
is_true_under (Or f g) cs m a = is_true_under f cs m a || is_true_under g cs m a
is_true_under (Implies f g) cs m a = not (is_true_under f cs m a) || is_true_under g cs m a
is_true_under (Iff f g) cs m a = agree (is_true_under f cs m a) (is_true_under g cs m a)
is_true_under (ForAll x f) cs m a = list_all (λ c. is_true_under f cs m (assigned a x c)) cs
is_true_under (Exists x f) cs m a = list_any (λ c. is_true_under f cs m (assigned a x c)) cs

-- whether a sentence is true in a structure
abbrev pub is_true_in : Signature → Structure → FirstOrder → Bool
is_true_in s m f = is_true_under f s.constants m unassigned

-- a predicate of the signature with as many of its constants as its arity says
pub record IsGroundAtom (s : Signature) (p : Name) (cs : List Name) : Type 0 where
  pub predicate : Contains s.predicates (record { name = p; arity = length cs })
  pub constants : All (Contains s.constants) cs

-- two structures are the same where they give each predicate with each list of constants the same truth value
pub record AreSame (s : Signature) (m n : Structure) : Type 0 where
  pub same : (p : Name) (cs : List Name) → IsGroundAtom s p cs → m p cs ≡ n p cs
