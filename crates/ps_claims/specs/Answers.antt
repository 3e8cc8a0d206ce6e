-- Answers to a problem, and when they are right. They hold certificates of some kind, on which being right doesn't depend.
use Rattle.std.specs.Prelude.{◌≡◌, ◌≤◌, ◌+◌, ℕ, ℤ, List, [], length}
use Rattle.std.specs.List.{AllZip}
use Rattle.ps_meaning.specs.Distribution.{Entry, total}
use Rattle.ps_meaning.specs.declared.side.Side.{Side}
use Rattle.ps_meaning.specs.declared.side.Side.TheVariants.{AtLeast, AtMost}
use Rattle.ps_meaning.specs.Bounds.{Bound, IsModelOf}
use Rattle.ps_meaning.specs.Rational.{Rational}
use Rattle.ps_claims.specs.Queries.{Query, IsInconsistent, IsImpossible, Holds, Reaches}

-- weighted worlds, and what their weights are said to sum to
pub record Model : Type 0 where
  pub total : ℤ
  pub worlds : List Entry

-- what is answered to a list of bounds; what is open claims nothing
pub data Verdict (C : Type 0) : Type 0 where
  Consistent : (model : Model) → Verdict C
  Inconsistent : (shown_by : C) → Verdict C
  OpenVerdict : Verdict C

-- what is answered to one side of a query
pub data SideAnswer (C : Type 0) : Type 0 where
  Value : (value : Rational) (model : Model) (shown_by : C) → SideAnswer C
  OpenSide : SideAnswer C

-- what is answered to a query
pub data QueryAnswer (C : Type 0) : Type 0 where
  Interval : (lower upper : SideAnswer C) → QueryAnswer C
  Impossible : (shown_by : C) → QueryAnswer C
  OpenQuery : QueryAnswer C

-- what is answered to a problem
pub record Answer (C : Type 0) : Type 0 where
  pub verdict : Verdict C
  pub parts : List (QueryAnswer C)

-- a model of at most one world more than there are bounds, with the sum of its weights as total
pub record IsBasicModel (bounds : List Bound) (m : Model) : Type 0 where
  pub few : length m.worlds ≤ length bounds + 1
  pub total : m.total ≡ total m.worlds

-- a distribution that meets each bound, of at most one world more than there are bounds, with the sum of its weights as total
pub record ShowsConsistent (atoms : ℕ) (bounds : List Bound) (m : Model) : Type 0 where
  pub model : IsModelOf atoms bounds m.worlds
  pub basic : IsBasicModel bounds m

-- a value that bounds the query's probability, and that a distribution reaches, of at most one world more than there are bounds,
-- with the sum of its weights as total
pub record IsTight (atoms : ℕ) (bounds : List Bound) (q : Query) (side : Side) (value : Rational) (m : Model) : Type 0 where
  pub holds : Holds atoms bounds q side value
  pub reached : Reaches atoms bounds q value m.worlds
  pub basic : IsBasicModel bounds m

-- a verdict is right: its model shows that the bounds are consistent, or they are inconsistent; an open one claims nothing
abbrev pub IsRightVerdict : {C : Type 0} → ℕ → List Bound → Verdict C → Type 0
IsRightVerdict atoms bounds (Consistent m) = ShowsConsistent atoms bounds m
IsRightVerdict atoms bounds (Inconsistent c) = IsInconsistent atoms bounds
IsRightVerdict atoms bounds OpenVerdict = Unit {0}

-- a side is right: its value is tight for the query, as its model shows; an open one claims nothing
abbrev pub IsRightSide : {C : Type 0} → ℕ → List Bound → Query → Side → SideAnswer C → Type 0
IsRightSide atoms bounds q side (Value value m c) = IsTight atoms bounds q side value m
IsRightSide atoms bounds q side OpenSide = Unit {0}

-- a part is right: both of its sides are, or the query's evidence is impossible; an open one claims nothing
abbrev pub IsRightPart : {C : Type 0} → ℕ → List Bound → Query → QueryAnswer C → Type 0
IsRightPart atoms bounds q (Interval lower upper) =
    IsRightSide atoms bounds q AtLeast lower × IsRightSide atoms bounds q AtMost upper
IsRightPart atoms bounds q (Impossible c) = IsImpossible atoms bounds q.evidence
IsRightPart atoms bounds q OpenQuery = Unit {0}

-- the queries that have a part: each where the verdict is consistent, else none
abbrev pub asked_under : {C Q : Type 0} → Verdict C → List Q → List Q
asked_under (Consistent m) qs = qs
asked_under (Inconsistent c) qs = []
asked_under OpenVerdict qs = []

-- the verdict is right, and so is each part, of which there is one for each query, in order, where the verdict is consistent,
-- and none otherwise
pub record IsRight {C : Type 0} (atoms : ℕ) (bounds : List Bound) (queries : List Query) (a : Answer C) : Type 0 where
  pub verdict : IsRightVerdict atoms bounds a.verdict
  pub parts : AllZip (IsRightPart atoms bounds) (asked_under a.verdict queries) a.parts
