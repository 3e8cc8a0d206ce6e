-- The bounds whose multipliers aren't 0, one after the other.
use Rattle.std.proofs.Common.{◌≡◌, ◌≤◌, ◌<◌, ◌+◌, ◌∙◌, ℕ, zero, suc, ℤ, pos, negsuc, Bool, true, false, List, [], ◌∷◌, ◌++◌, map, Option, Some, None, Result, Ok, Err, OnOk, length, get_or, refl, sym, ap, subst, append-nil, arith}
use Rattle.std.specs.Prelude.{option_to_list, slice_get, unsigned_abs}
use Rattle.ps_meaning.specs.Rational.{Rational}
use Rattle.std.proofs.lemmas.List.{length-map}
use Rattle.std.proofs.lemmas.Slice.Zip.{AllZip-long}
use Rattle.ps_problem.specs.declared.query.Query as stored
use Rattle.ps_problem.specs.declared.row.Row.{Row}
use Rattle.ps_problem.specs.declared.bound.Bound.{Bound}
use Rattle.ps_problem.specs.declared.sentence.Sentence.{Sentence}
use Rattle.ps_problem.specs.Problems.{Parts, BoundIn, PlainIn, LinearIn, bounds_in}
use Rattle.ps_problem.specs.Rows.{plain_row, row_at, rows_in}
use Rattle.ps_answer.specs.declared.answer.Dual.{Dual}
use Rattle.ps_support.specs.declared.bound_side.BoundSide.{BoundSide}
use Rattle.ps_support.specs.declared.places.BoundPlace.{BoundPlace}
use Rattle.ps_support.specs.declared.support.Supporting.{Supporting}
use Rattle.ps_support.specs.Places.{places_in}
use Rattle.ps_support.specs.Rates.{hundredth_where, rate_of, size_of}
use Rattle.ps_support.specs.Supports.{is_free, is_other, line_in, support_at, support_by, supporting, supports_in, supports_to, told, unit_of}
use Rattle.ps_support.proofs.Owned.{IsOwned, owned}

-- ---- places and rows
-- there is a place for each bound
places-long : (ss : List Sentence) → length (places_in 1 ss) ≡ length (bounds_in ss)
places-long ss = AllZip-long (IsOwned ss) (bounds_in ss) (places_in 1 ss) (owned ss)

pub place_inside : (ss : List Sentence) (places : List BoundPlace) (i : ℕ) → places ≡ places_in 1 ss → i < length (bounds_in ss) → i < length places
place_inside ss places i e lt = subst (λ (n : ℕ). i < n) (sym (ap length e ∙ places-long ss)) lt

pub bound_inside : (ss : List Sentence) (places : List BoundPlace) (i : ℕ) → places ≡ places_in 1 ss → i < length places → i < length (bounds_in ss)
bound_inside ss places i e lt = subst (λ (n : ℕ). i < n) (ap length e ∙ places-long ss) lt

pub past_bounds : (ss : List Sentence) (places : List BoundPlace) (i : ℕ) → places ≡ places_in 1 ss → length places ≤ i → length (bounds_in ss) ≤ i
past_bounds ss places i e past = subst (λ (n : ℕ). n ≤ i) (ap length e ∙ places-long ss) past

pub row_inside : (ss : List Sentence) (rows : List Row) (i : ℕ) → rows ≡ rows_in ss → i < length (bounds_in ss) → i < length rows
row_inside ss rows i e lt = subst (λ (n : ℕ). i < n) (sym (ap length e ∙ length-map (bounds_in ss) row_at)) lt

pub read_at : (xs : List ℤ) (i : ℕ) (y : ℤ) → i < length xs → y ≡ get_or xs i y → y ≡ get_or xs i (pos 0)
read_at [] i y lt is = absurd (omega (arith, lt))
read_at (x ∷ xs) zero y lt is = is
read_at (x ∷ xs) (suc i) y lt is = read_at xs i y (omega (arith, lt)) is

pub got : {X : Type 0} (xs : List X) (i : ℕ) (x : X) → i < length xs → x ≡ get_or xs i x → slice_get xs i ≡ Some x
got [] i x lt is = absurd (omega (arith, lt))
got (y ∷ xs) zero x lt is = ap Some (sym is)
got (y ∷ xs) (suc i) x lt is = got xs i x (omega (arith, lt)) is

pub got_or : {X : Type 0} (xs : List X) (i : ℕ) (d : X) → i < length xs → slice_get xs i ≡ Some (get_or xs i d)
got_or [] i d lt = absurd (omega (arith, lt))
got_or (x ∷ xs) zero d lt = refl
got_or (x ∷ xs) (suc i) d lt = got_or xs i d (omega (arith, lt))

plain-unit : (b : Bound) (g : Option ℕ) → (plain_row b g).unit ≡ b.den
plain-unit b None = refl
plain-unit b (Some g) = refl

unit-is : (b : BoundIn) → (row_at b).unit ≡ unit_of (Some b)
unit-is (PlainIn b) = plain-unit b b.given
unit-is (LinearIn l upper) = refl

-- the unit of a row is that of its bound
unit-at : (bs : List BoundIn) (i : ℕ) (r : Row) → i < length bs → r ≡ get_or (map row_at bs) i r → r.unit ≡ unit_of (slice_get bs i)
unit-at [] i r lt is = absurd (omega (arith, lt))
unit-at (b ∷ bs) zero r lt is = ap (λ (x : Row). x.unit) is ∙ unit-is b
unit-at (b ∷ bs) (suc i) r lt is = unit-at bs i r (omega (arith, lt)) is

pub unit_there : (ss : List Sentence) (rows : List Row) (i : ℕ) (r : Row) → rows ≡ rows_in ss → i < length (bounds_in ss) → r ≡ get_or rows i r → r.unit ≡ unit_of (slice_get (bounds_in ss) i)
unit_there ss rows i r laid lt is = unit-at (bounds_in ss) i r lt (subst (λ (rs : List Row). r ≡ get_or rs i r) laid is)

-- ---- one bound
module _ (p : Parts) (side : BoundSide) (q : stored.Query) (d : Dual) (lines : List ℕ) where
  other-of : (y : ℤ) → (y ≡ pos 0 → ⊥) → is_other y ≡ true
  other-of (pos zero) h = absurd (h refl)
  other-of (pos (suc n)) h = refl
  other-of (negsuc n) h = refl

  same-of : (y : ℤ) → y ≡ pos 0 → is_other y ≡ false
  same-of y e = rw e refl

  no-support : (o : Option BoundPlace) (b : Option BoundIn) (y : ℤ × ℤ) → is_other y.0 ≡ false → support_by side q b o lines y ≡ None
  no-support None b y e = refl
  no-support (Some place) b y e = rw e refl

  by-place : (o : Option BoundPlace) (b : Option BoundIn) (place : BoundPlace) (y : ℤ × ℤ) → o ≡ Some place → is_other y.0 ≡ true
      → support_by side q b o lines y ≡ Some (supporting side q b place (line_in lines place.sentence) y)
  by-place o b place y e f = rw (e, f) refl

  -- so nothing is noted of the one, and one bound of the other
  pub none_noted : (i : ℕ) (y : ℤ) → y ≡ get_or d.rows i (pos 0) → y ≡ pos 0 → (old : List Supporting) → old ≡ old ++ option_to_list (support_at p side q d lines i)
  unfolding support_at
  none_noted i y is e old =
      let none : support_at p side q d lines i ≡ None =
      no-support (slice_get (places_in 1 p.sentences) i) (slice_get (bounds_in p.sentences) i) (get_or d.rows i (pos 0), d.top) (same-of (get_or d.rows i (pos 0)) (sym is ∙ e)) in
      sym (append-nil old) ∙ ap (λ (o : Option Supporting). old ++ option_to_list o) (sym none)

  at-place : (i : ℕ) (places : List BoundPlace) (place : BoundPlace) → places ≡ places_in 1 p.sentences → slice_get places i ≡ Some place → is_other (get_or d.rows i (pos 0)) ≡ true
      → support_at p side q d lines i ≡ Some (supporting side q (slice_get (bounds_in p.sentences) i) place (line_in lines place.sentence) (get_or d.rows i (pos 0), d.top))
  unfolding support_at
  at-place i places place e there other =
      let stands : slice_get (places_in 1 p.sentences) i ≡ Some place = subst (λ (ps : List BoundPlace). slice_get ps i ≡ Some place) e there in
      by-place (slice_get (places_in 1 p.sentences) i) (slice_get (bounds_in p.sentences) i) place (get_or d.rows i (pos 0), d.top) stands other

  pub one_noted : {T E : Type 0} (r : Result T E) (i : ℕ) (places : List BoundPlace) (place : BoundPlace) (y : ℤ) → places ≡ places_in 1 p.sentences
      → slice_get places i ≡ Some place → y ≡ get_or d.rows i (pos 0) → (y ≡ pos 0 → ⊥)
      → (old new : List Supporting) → OnOk r (new ≡ old ++ told p side q d lines (i, place)) → OnOk r (new ≡ old ++ option_to_list (support_at p side q d lines i))
  one_noted (Ok x) i places place y e there is other old new h =
      h ∙ ap (λ (o : Option Supporting). old ++ option_to_list o) (sym (at-place i places place e there (subst (λ (z : ℤ). is_other z ≡ true) is (other-of y other))))
  one_noted (Err x) i places place y e there is other old new h = tt

-- what is told of a bound, by its parts
abbrev in-parts : BoundPlace → ℕ → ℕ → Rational → Option Rational → Supporting
in-parts place line weight rate moved = record { sentence = place.sentence; line = line; end = place.end; rate = rate; hundredth = moved; weight = weight }

pub told_of : (side : BoundSide) (q : stored.Query) (b : Option BoundIn) (place : BoundPlace) (lines : List ℕ) (y top : ℤ) (unit : ℕ) (size : ℤ) (free : Bool) (line weight : ℕ)
    (rate : Rational) (moved : Option Rational) → unit ≡ unit_of b → size ≡ size_of y unit → free ≡ is_free q b → line ≡ line_in lines place.sentence → weight ≡ unsigned_abs size
    → rate ≡ rate_of side size top → moved ≡ hundredth_where free side size top → (one : Supporting)
    → one ≡ in-parts place line weight rate moved → one ≡ supporting side q b place (line_in lines place.sentence) (y, top)
told_of side q b place lines y top unit size free line weight rate moved counted sized freed lined weighed rated hundred one is =
    let whole : size ≡ size_of y (unit_of b) = sized ∙ ap (λ (n : ℕ). size_of y n) counted in
    let fast : rate ≡ rate_of side (size_of y (unit_of b)) top = rated ∙ ap (λ (z : ℤ). rate_of side z top) whole in
    let moves : moved ≡ hundredth_where (is_free q b) side (size_of y (unit_of b)) top =
    hundred ∙ ap (λ (f : Bool). hundredth_where f side size top) freed ∙ ap (λ (z : ℤ). hundredth_where (is_free q b) side z top) whole in
    let weighs : weight ≡ unsigned_abs (size_of y (unit_of b)) = weighed ∙ ap unsigned_abs whole in
    let told : in-parts place line weight rate moved ≡ supporting side q b place (line_in lines place.sentence) (y, top) =
    (λ j. in-parts place (lined j) (weighs j) (fast j) (moves j)) in
    is ∙ told

-- ---- all bounds
-- those of the first bounds are found
pub record IsFoundTo (p : Parts) (side : BoundSide) (q : stored.Query) (d : Dual) (lines : List ℕ) (i : ℕ) (found : List Supporting) : Type 0 where
  pub within : i ≤ length (bounds_in p.sentences)
  pub is : found ≡ supports_to p side q d lines i

module _ (p : Parts) (side : BoundSide) (q : stored.Query) (d : Dual) (lines : List ℕ) where
  pub none_found : (found : List Supporting) → found ≡ [] → IsFoundTo p side q d lines 0 found
  none_found found e = record { within = omega arith; is = e }

  pub next_found : (i : ℕ) (old new : List Supporting) → i < length (bounds_in p.sentences) → new ≡ old ++ option_to_list (support_at p side q d lines i) → IsFoundTo p side q d lines i old
      → IsFoundTo p side q d lines (i + 1) new
  next_found i old new lt grown h =
      let more : i + 1 ≡ suc i = omega arith in
      record {
        within = omega (arith, lt);
        is = grown ∙ ap (λ l. l ++ option_to_list (support_at p side q d lines i)) h.is ∙ ap (supports_to p side q d lines) (sym more);
      }

  pub all_found : (i : ℕ) (found : List Supporting) → length (bounds_in p.sentences) ≤ i → IsFoundTo p side q d lines i found → found ≡ supports_in p side q d lines
  all_found i found past h =
      let all : i ≡ length (bounds_in p.sentences) = omega (arith, past, h.within) in
      h.is ∙ ap (supports_to p side q d lines) all
