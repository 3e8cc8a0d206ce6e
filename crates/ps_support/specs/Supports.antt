-- The sentences on which a bound rests.
use Rattle.std.specs.Prelude.{◌-◌, ◌&&◌, ℕ, zero, suc, ℤ, pos, negsuc, ◌≤ℤ◌, unsigned_abs, Bool, true, false, not}
use Rattle.std.specs.Prelude.{is_none, is_some, if◌then◌else◌, List, [], ◌∷◌, ◌++◌, length, map, get_or, slice_get}
use Rattle.std.specs.Prelude.{◌≡◌, Option, Some, None, option_to_list, All, Result, OnOk, Vec}
use Rattle.std.specs.List.Sorted.{IsPermutation, IsSortedByKey}
use Rattle.std.specs.Ordering.{nat_cmp}
use Rattle.ps_meaning.specs.Formula.{Formula}
use Rattle.ps_meaning.specs.Distribution.{Entry, weight, IsDistribution}
use Rattle.ps_meaning.specs.declared.side.Side.{Side}
use Rattle.ps_meaning.specs.declared.side.Side.TheVariants.{AtLeast, AtMost}
use Rattle.ps_meaning.specs.Bounds.{MeetsBound, MeetsAll}
use Rattle.ps_meaning.specs.Rational.{Rational}
use Rattle.ps_problem.specs.declared.query.Query as stored
use Rattle.ps_problem.specs.declared.sentence.Sentence.{Sentence}
use Rattle.ps_problem.specs.Problems.{Parts, BoundIn, PlainIn, LinearIn, bound_of, bounds_in, bounds_of_sentence}
use Rattle.ps_answer.specs.declared.answer.Dual.{Dual}
use Rattle.ps_claims.specs.Queries.{Query, bound_on}
use Rattle.ps_claims.specs.Duals.{HasValueHead}
use Rattle.ps_claims.specs.Certificates.{dual_of}
use Rattle.ps_claims.specs.Validity.{IsRefuted, query_of}
use Rattle.ps_claims.specs.declared.claim_kind.ClaimKind.{ClaimKind}
use Rattle.ps_claims.specs.declared.claim_kind.ClaimKind.TheVariants as kind
use Rattle.ps_support.specs.declared.bound_side.BoundSide.{BoundSide}
use Rattle.ps_support.specs.declared.bound_side.BoundSide.TheVariants.{Lower, Upper}
use Rattle.ps_support.specs.declared.places.BoundPlace.{BoundPlace}
use Rattle.ps_support.specs.declared.support.Support.{Support}
use Rattle.ps_support.specs.declared.support.Supporting.{Supporting}
use Rattle.ps_support.specs.Places.{places_in}
use Rattle.ps_support.specs.Rates.{hundredth_where, rate_of, size_of}

-- ---- bounds that rest on some sentences
-- the bounds of the sentence of a number, from 1; none where there is no such sentence
abbrev pub bounds_at : Option Sentence → List BoundIn
bounds_at (Some s) = bounds_of_sentence s
bounds_at None = []

-- the distribution meets the sentence of a number
abbrev pub MeetsSentence : Parts → List Entry → ℕ → Type 0
MeetsSentence p d n = MeetsAll (map (bound_of p.nodes) (bounds_at (slice_get p.sentences (n - 1)))) d

-- a distribution that meets the sentences of these numbers, whatever it does to the others, and gives the evidence positive
-- probability
pub record IsAllowedBy (p : Parts) (numbers : List ℕ) (evidence : Formula ℕ) (d : List Entry) : Type 0 where
  pub distribution : IsDistribution (length p.names) d
  pub met : All (MeetsSentence p d) numbers
  pub positive : pos 1 ≤ℤ weight d evidence

-- the bound rests on these sentences: in each distribution that meets them alone the query's probability is on this side of the
-- value
pub record RestsOn (p : Parts) (q : Query) (side : Side) (value : Rational) (numbers : List ℕ) : Type 0 where
  pub met : (d : List Entry) → IsAllowedBy p numbers q.evidence d → MeetsBound (bound_on q side value) d

-- ---- what a dual says of them
-- the probability is at least a lower bound, and at most an upper one
abbrev pub side_of : BoundSide → Side
side_of Lower = AtLeast
side_of Upper = AtMost

-- what is claimed of it
abbrev pub kind_of : BoundSide → ClaimKind
kind_of Lower = kind.Lower
kind_of Upper = kind.Upper

-- the dual shows that the value is a bound of the query
pub record IsShownBy (p : Parts) (side : BoundSide) (q : stored.Query) (value : Rational) (d : Dual) : Type 0 where
  pub head : HasValueHead value (dual_of d)
  pub refuted : IsRefuted p (kind_of side) q.given q.both (dual_of d)

-- the number is another than 0
abbrev pub is_other : ℤ → Bool
is_other (pos zero) = false
is_other (pos (suc n)) = true
is_other (negsuc n) = true

-- the bound has a condition: that of a linear sentence has none
abbrev pub has_condition : Option BoundIn → Bool
has_condition (Some (PlainIn b)) = is_some b.given
has_condition (Some (LinearIn l upper)) = false
has_condition None = false

-- neither it nor the query has a condition
abbrev pub is_free : stored.Query → Option BoundIn → Bool
is_free q bound = is_none q.given && not (has_condition bound)

-- what a bound's number counts in
abbrev pub unit_of : Option BoundIn → ℕ
unit_of (Some (PlainIn b)) = b.den
unit_of (Some (LinearIn l upper)) = l.scale
unit_of None = 1

-- the line on which the sentence of a number begins, from 1; 0 where it isn't told
abbrev pub line_in : List ℕ → ℕ → ℕ
line_in lines n = get_or lines (n - 1) 0

-- a bound of a problem, by its multiplier, which isn't 0, in a dual with this top. Where neither it nor the query has a
-- condition, the bound of the query moves with its number as fast as the dual says
abbrev pub supporting : BoundSide → stored.Query → Option BoundIn → BoundPlace → ℕ → ℤ × ℤ → Supporting
supporting side q bound place line y = record {
  sentence = place.sentence;
  line = line;
  end = place.end;
  rate = rate_of side (size_of y.0 (unit_of bound)) y.1;
  hundredth = hundredth_where (is_free q bound) side (size_of y.0 (unit_of bound)) y.1;
  weight = unsigned_abs (size_of y.0 (unit_of bound));
}

-- the same of the bound at a place of the problem, which belongs to this sentence, by a dual
abbrev pub told : Parts → BoundSide → stored.Query → Dual → List ℕ → ℕ × BoundPlace → List Supporting
told p side q d lines at =
    supporting side q (slice_get (bounds_in p.sentences) at.0) at.1 (line_in lines at.1.sentence)
    (get_or d.rows at.0 (pos 0), d.top) ∷ []

-- the same at a place, where there is one and the multiplier isn't 0
abbrev pub support_by : BoundSide → stored.Query → Option BoundIn → Option BoundPlace → List ℕ → ℤ × ℤ → Option Supporting
support_by side q bound None lines y = None
support_by side q bound (Some place) lines y =
    if is_other y.0 then Some (supporting side q bound place (line_in lines place.sentence) y) else None

unfoldable pub support_at : Parts → BoundSide → stored.Query → Dual → List ℕ → ℕ → Option Supporting
support_at p side q d lines i =
    support_by side q (slice_get (bounds_in p.sentences) i) (slice_get (places_in 1 p.sentences) i) lines
    (get_or d.rows i (pos 0), d.top)

abbrev pub noted : Parts → BoundSide → stored.Query → Dual → List ℕ → ℕ → List Supporting
noted p side q d lines i = option_to_list (support_at p side q d lines i)

-- unless memory ran out, more bounds stand behind those before
abbrev pub Notes : {T E Z : Type 0} → Result T E → (old new : Vec Supporting Z) → List Supporting → Type 0
Notes result old new more = OnOk result (new.items ≡ old.items ++ more)

-- those of the first bounds, so many
abbrev pub supports_to : Parts → BoundSide → stored.Query → Dual → List ℕ → ℕ → List Supporting
supports_to p side q d lines zero = []
supports_to p side q d lines (suc n) = supports_to p side q d lines n ++ noted p side q d lines n

-- those of all bounds, in the order of the problem
abbrev pub supports_in : Parts → BoundSide → stored.Query → Dual → List ℕ → List Supporting
supports_in p side q d lines = supports_to p side q d lines (length (bounds_in p.sentences))

-- ---- the sentences as they are told
-- the numbers of sentences
abbrev pub numbers_of : List Supporting → List ℕ
numbers_of ss = map (λ s. s.sentence) ss

-- they are sorted by weight, the greatest first
abbrev pub FallByWeight : List Supporting → Type 0
FallByWeight ss = IsSortedByKey (λ s. s.weight) (λ a b. nat_cmp b a) ss

-- the bound that is told rests on the sentences that are named with it
abbrev pub IsSupport : Parts → stored.Query → BoundSide → Support → Type 0
IsSupport p q side s = RestsOn p (query_of p.nodes q) (side_of side) s.value (numbers_of s.sentences)

-- all bounds with a multiplier other than 0 are told
abbrev pub NamesAll : Parts → BoundSide → stored.Query → Dual → List ℕ → Support → Type 0
NamesAll p side q d lines s = IsPermutation (supports_in p side q d lines) s.sentences
