-- The line of an open part that names the world 1,000,002, one past the limit, is as long as that of the world before it.
use Rattle.std.proofs.Common.{◌≡◌, ℕ, ◌+◌, ◌<◌, ◌≤◌, eqb, cond, List, [], ◌∷◌, ◌++◌, length, fold, inl, inr, refl, ap, subst, arith}
use Rattle.std.specs.Prelude.{decimal}
use Rattle.std.specs.List.{AllZip}
use Rattle.std.proofs.lemmas.Fmt.{decimal_step}
use Rattle.std.proofs.lemmas.List.{length-append}
use Rattle.std.proofs.lemmas.Bool.Decides.{eqb_tells}
use Rattle.ps_io.specs.LineText.{with_word}
use Rattle.ps_frac.specs.declared.wide.Op.{Op}
use Rattle.ps_table.specs.declared.place.Place.{Place}
use Rattle.ps_table.specs.declared.place.Place.TheVariants as place
use Rattle.ps_table.specs.declared.limits.TheConstants.{MOST_ROWS}
use Rattle.ps_io.specs.declared.limits.TheConstants.{LONGEST_LINE}
use Rattle.ps_answer.specs.declared.item.Ratio.{Ratio}
use Rattle.ps_answer.specs.declared.item.LineItem.TheVariants.{OpenWide}
use Rattle.ps_answer.specs.Words.{Word, Fraction, word_text}
use Rattle.ps_answer.specs.Items.{count, op_word, place_words, item_words, item_line, IsRatioWithin}
use Rattle.ps_answer.specs.declared.limits.TheConstants.{MOST_OPERAND, MOST_WORLD}
use Rattle.ps_valid.proofs.ShortLines.{short_line}
use Rattle.ps_query.proofs.Places.{IsWorldUnder, IsPlaceUnder, place_within}

-- ---- words of the same length
AreAsLong : List Word → List Word → Type 0
AreAsLong vs ws = AllZip (λ v w. length (word_text v) ≡ length (word_text w)) vs ws

as_long : (ws : List Word) → AreAsLong ws ws
unfolding AreAsLong
as_long [] = tt
as_long (w ∷ ws) = (refl, as_long ws)

long_append : (vs ws more : List Word) → AreAsLong vs ws → AreAsLong (vs ++ more) (ws ++ more)
unfolding AreAsLong
long_append [] [] more h = as_long more
long_append [] (w ∷ ws) more h = absurd h
long_append (v ∷ vs) [] more h = absurd h
long_append (v ∷ vs) (w ∷ ws) more h = (h.0, long_append vs ws more h.1)

same_word : (s t v w : List ℕ) → length s ≡ length t → length v ≡ length w → length (with_word s v) ≡ length (with_word t w)
same_word [] [] v w e f = f
same_word [] (y ∷ t) v w e f = absurd (omega (arith, e))
same_word (x ∷ s) [] v w e f = absurd (omega (arith, e))
same_word (x ∷ s) (y ∷ t) v w e f = omega (arith, e, f, length-append (x ∷ s) (32 ∷ v), length-append (y ∷ t) (32 ∷ w))

same_joined : (s t : List ℕ) (vs ws : List Word) → length s ≡ length t → AreAsLong vs ws
    → length (fold (λ line word. with_word line (word_text word)) s vs) ≡ length (fold (λ line word. with_word line (word_text word)) t ws)
unfolding AreAsLong
same_joined s t [] [] e h = e
same_joined s t [] (w ∷ ws) e h = absurd h
same_joined s t (v ∷ vs) [] e h = absurd h
same_joined s t (v ∷ vs) (w ∷ ws) e h =
    same_joined (with_word s (word_text v)) (with_word t (word_text w)) vs ws (same_word s t (word_text v) (word_text w) e h.0) h.1

-- ---- the world before
before : ℕ → ℕ
before n = cond (eqb n (MOST_WORLD + 1)) MOST_WORLD n

record IsBefore (n : ℕ) : Type 0 where
  some : 0 < n → 0 < before n
  most : n ≤ MOST_WORLD + 1 → before n ≤ MOST_WORLD
  long : length (decimal (before n)) ≡ length (decimal n)

as_many_digits : length (decimal 1000001) ≡ length (decimal 1000002)
as_many_digits =
    let e : length (decimal 1000001) ≡ length (decimal 100000 ++ 49 ∷ []) = ap length (decimal_step 1000001 (omega arith) (omega arith)) in
    let f : length (decimal 1000002) ≡ length (decimal 100000 ++ 50 ∷ []) = ap length (decimal_step 1000002 (omega arith) (omega arith)) in
    omega (arith, e, f, length-append (decimal 100000) (49 ∷ []), length-append (decimal 100000) (50 ∷ []))

is_before : (n : ℕ) → IsBefore n
unfolding before
is_before n = elim (eqb_tells n (MOST_WORLD + 1)) [
  | inl e ↦ rw (e.1) (record { some = λ h. omega arith; most = λ h. omega arith; long = as_many_digits })
  | inr e ↦ record {
    some = λ h. rw (e.0) h;
    most = λ h. rw (e.0) (let ne = e.1 in omega arith);
    long = rw (e.0) refl;
  }
]

place_before : Place → Place
place_before (place.Ratio i) = place.Ratio i
place_before (place.Scale j) = place.Scale j
place_before (place.Times i j) = place.Times i j
place_before (place.Minus i j) = place.Minus i j
place_before (place.Cost j i) = place.Cost j i
place_before (place.Whole i) = place.Whole i
place_before (place.Scaled i) = place.Scaled i
place_before (place.Weight i) = place.Weight i
place_before (place.Weighed i) = place.Weighed i
place_before (place.Total i) = place.Total i
place_before (place.PriceTimes n m) = place.PriceTimes (before n) m
place_before (place.PricePlus n m) = place.PricePlus (before n) m
place_before (place.ColumnTimes n i m) = place.ColumnTimes (before n) i m
place_before (place.ColumnPlus n i m) = place.ColumnPlus (before n) i m

world_under : (n : ℕ) → IsWorldUnder (MOST_WORLD + 1) n → IsWorldUnder MOST_WORLD (before n)
world_under n h = ((is_before n).some h.0, (is_before n).most h.1)

place_under : (rows : ℕ) (at : Place) → IsPlaceUnder rows (MOST_WORLD + 1) at → IsPlaceUnder rows MOST_WORLD (place_before at)
unfolding place_before
place_under rows (place.Ratio i) h = h
place_under rows (place.Scale j) h = h
place_under rows (place.Times i j) h = h
place_under rows (place.Minus i j) h = h
place_under rows (place.Cost j i) h = h
place_under rows (place.Whole i) h = h
place_under rows (place.Scaled i) h = h
place_under rows (place.Weight i) h = h
place_under rows (place.Weighed i) h = h
place_under rows (place.Total i) h = h
place_under rows (place.PriceTimes n m) h = (world_under n h.0, h.1)
place_under rows (place.PricePlus n m) h = (world_under n h.0, h.1)
place_under rows (place.ColumnTimes n i m) h = (world_under n h.0, h.1, h.2)
place_under rows (place.ColumnPlus n i m) h = (world_under n h.0, h.1, h.2)

-- ---- their words
world_long : (n : ℕ) → length (word_text (count (before n))) ≡ length (word_text (count n))
world_long n = (is_before n).long

place_long : (at : Place) → AreAsLong (place_words (place_before at)) (place_words at)
unfolding place_before AreAsLong
place_long (place.Ratio i) = as_long (place_words (place.Ratio i))
place_long (place.Scale j) = as_long (place_words (place.Scale j))
place_long (place.Times i j) = as_long (place_words (place.Times i j))
place_long (place.Minus i j) = as_long (place_words (place.Minus i j))
place_long (place.Cost j i) = as_long (place_words (place.Cost j i))
place_long (place.Whole i) = as_long (place_words (place.Whole i))
place_long (place.Scaled i) = as_long (place_words (place.Scaled i))
place_long (place.Weight i) = as_long (place_words (place.Weight i))
place_long (place.Weighed i) = as_long (place_words (place.Weighed i))
place_long (place.Total i) = as_long (place_words (place.Total i))
place_long (place.PriceTimes n m) = (refl, (world_long n, (refl, tt)))
place_long (place.PricePlus n m) = (refl, (world_long n, (refl, tt)))
place_long (place.ColumnTimes n i m) = (refl, (world_long n, (refl, (refl, tt))))
place_long (place.ColumnPlus n i m) = (refl, (world_long n, (refl, (refl, tt))))

line_long : (at : Place) (op : Op) (left right : Ratio) → length (item_line (OpenWide (place_before at) op left right)) ≡ length (item_line (OpenWide at op left right))
unfolding AreAsLong
line_long at op left right =
    same_joined [] [] (item_words (OpenWide (place_before at) op left right)) (item_words (OpenWide at op left right)) refl
    (refl, (refl, long_append (place_words (place_before at)) (place_words at) (op_word op ∷ Fraction left ∷ Fraction right ∷ []) (place_long at)))

-- the line of an open part over at most 1,000,002 worlds is short
pub wide_short : (rows : ℕ) (at : Place) (op : Op) (left right : Ratio) → rows ≤ MOST_ROWS → IsPlaceUnder rows (MOST_WORLD + 1) at → IsRatioWithin MOST_OPERAND left → IsRatioWithin MOST_OPERAND right
    → length (item_line (OpenWide at op left right)) < LONGEST_LINE
wide_short rows at op left right few h l r =
    subst (λ n. n < LONGEST_LINE) (line_long at op left right)
    (short_line (OpenWide (place_before at) op left right) (place_within rows MOST_WORLD (place_before at) few (omega arith) (place_under rows at h), l, r))
