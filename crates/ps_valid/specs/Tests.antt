-- What the tests of a model find.
use Rattle.std.specs.Prelude.{ℕ, ℤ, ◌≡◌, List, All, Option, MatchOption, length, map}
use Rattle.ps_meaning.specs.declared.side.Side.TheVariants.{Exactly}
use Rattle.ps_meaning.specs.Distribution.{Entry, weight}
use Rattle.ps_meaning.specs.Bounds.{MeetsBound}
use Rattle.ps_meaning.specs.Rows as meaning
use Rattle.ps_meaning.specs.Rows.{MeetsRow}
use Rattle.ps_formula.specs.declared.node.Node.{Node}
use Rattle.ps_problem.specs.declared.row.Row.{Row}
use Rattle.ps_problem.specs.declared.query.Query.{Query}
use Rattle.ps_problem.specs.Problems.{Parts, bounds_of, given_at}
use Rattle.ps_problem.specs.Rows.{row_of}
use Rattle.ps_meaning.specs.Rational.{Rational}
use Rattle.ps_claims.specs.Queries.{bound_on}
use Rattle.ps_claims.specs.Answers.{Model}
use Rattle.ps_claims.specs.Validity.{query_of}
use Rattle.ps_claims.specs.declared.reason.Reason.{Reason}
use Rattle.ps_claims.specs.declared.reason.Reason.TheVariants.{TooManyWorlds, WeightZero, WorldTwice, TotalWrong, BoundMissed}
use Rattle.ps_claims.specs.Claims.{AreProperEntries, IsWeightless, IsRepeated, IsFirstWithout}
use Rattle.ps_claims.specs.Claims.{MissesFirst, AreFew, HasTotal, IsSound}
use Rattle.ps_claims.specs.Rows.{MeetsRows}
use Rattle.ps_valid.specs.Judged.{HasRows}
use Rattle.ps_valid.specs.Valuations.{MeetsAt}

-- each world has a truth value for each atom
abbrev pub HaveShape : ℕ → List Entry → Type 0
HaveShape atoms d = All (λ e. length e.world ≡ atoms) d

-- each world has a truth value for each of the problem's atoms
abbrev pub HasAtoms : Parts → Model → Type 0
HasAtoms p m = HaveShape (length p.names) m.worlds

-- the reason is the first against an entry
abbrev pub IsFirstAmong : List Entry → Reason → Type 0
IsFirstAmong d (WeightZero n) = IsWeightless d n
IsFirstAmong d (WorldTwice n) = IsRepeated d n
IsFirstAmong d other = ⊥

-- the reason is the first against an entry, and there is none where each entry has a weight and no world stands twice
abbrev pub FindsFault : List Entry → Option Reason → Type 0
FindsFault d found = MatchOption found (AreProperEntries d) (IsFirstAmong d)

-- the row is the first that entries over nodes miss, and there is none where they meet all
abbrev pub FindsMissedAt : List Entry → List Row → Option ℕ → Type 0
FindsMissedAt d rows found = MatchOption found (All (MeetsAt d) rows) (IsFirstWithout (MeetsAt d) rows)

-- the row of this number, from 1, is the first that isn't met
abbrev pub MissesRowFirst : List meaning.Row → List Entry → ℕ → Type 0
MissesRowFirst rows d n = IsFirstWithout (λ r. MeetsRow r d) rows n

-- the row over these nodes is the first that the entries miss, and there is none where they meet all
abbrev pub FindsMissed : List Node → List Row → List Entry → Option ℕ → Type 0
FindsMissed ns rows d found = MatchOption found (MeetsRows (map (row_of ns) rows) d)
    (MissesRowFirst (map (row_of ns) rows) d)

-- the reason is the first against such a model
abbrev pub IsFirstAgainst : Parts → Model → Reason → Type 0
IsFirstAgainst p m TooManyWorlds = ¬ AreFew p m
IsFirstAgainst p m (WeightZero n) = AreFew p m × IsWeightless m.worlds n
IsFirstAgainst p m (WorldTwice n) = AreFew p m × IsRepeated m.worlds n
IsFirstAgainst p m TotalWrong = AreFew p m × AreProperEntries m.worlds × ¬ HasTotal m
IsFirstAgainst p m (BoundMissed n) = AreFew p m × AreProperEntries m.worlds × HasTotal m × MissesFirst (bounds_of p) m.worlds n
IsFirstAgainst p m other = ⊥

-- the reason is the first against such a model, and there is none where nothing is wrong with it
abbrev pub FindsAgainst : Parts → Model → Option Reason → Type 0
FindsAgainst p m found = MatchOption found (IsSound p m) (IsFirstAgainst p m)

-- the reason is the first against such a model of each problem that has these rows over the same atoms and nodes
abbrev pub FindsAgainstOver : Parts → List Row → Model → Option Reason → Type 0
FindsAgainstOver p rows m found = (q : Parts) → HasRows p rows q → FindsAgainst q m found

-- the weight that a model gives a query's evidence
abbrev pub evidence_weight : Parts → Query → Model → ℤ
evidence_weight p q m = weight m.worlds (given_at p.nodes q.given)

-- a model gives a query the value
abbrev pub GivesValue : Parts → Query → Rational → Model → Type 0
GivesValue p q value m = MeetsBound (bound_on (query_of p.nodes q) Exactly value) m.worlds
