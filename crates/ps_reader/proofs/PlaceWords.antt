-- Words of places.
use Rattle.std.proofs.Common.{◌≡◌, ℕ, ◌≤◌, List, [], ◌∷◌, ◌++◌, length, map, Result, Ok, Err, refl, sym, ap, subst, ◌∙◌, arith, inl, inr}
use Rattle.std.specs.Prelude.{⊤, codes}
use Rattle.ps_table.specs.declared.col.Col.{Col}
use Rattle.ps_frac.specs.declared.wide.Op.{Op}
use Rattle.ps_frac.specs.declared.wide.Op.TheVariants as op
use Rattle.ps_table.specs.declared.place.Place.{Place}
use Rattle.ps_table.specs.declared.place.Place.TheVariants as place
use Rattle.ps_table.specs.declared.place.TableCol.{TableCol}
use Rattle.ps_table.specs.declared.place.TableCol.TheVariants as shown
use Rattle.ps_answer.proofs.OneItem.{no_word}
use Rattle.ps_answer.specs.Words.{Word, Letters, Fraction, Column, SpellWords}
use Rattle.ps_answer.specs.declared.item.LineItem.{LineItem}
use Rattle.ps_answer.specs.declared.item.LineItem.TheVariants as line
use Rattle.ps_answer.specs.declared.item.Ratio.{Ratio}
use Rattle.ps_answer.specs.declared.part.Part.TheVariants as part
use Rattle.ps_answer.specs.Faults.{first_of}
use Rattle.ps_answer.specs.Items.{count, op_word, shown_word, place_words, IsColWithin, IsShownWithin, IsPlaceWithin, IsRatioWithin, IsReducedWithin}
use Rattle.ps_answer.specs.declared.limits.TheConstants.{MOST_OPERAND}
use Rattle.ps_answer.specs.ExpectedParts.{behind}
use Rattle.ps_reader.specs.declared.line_fault.LineFault.{LineFault}
use Rattle.ps_reader.specs.declared.line_fault.LineFault.TheVariants.{NotCanonical, TooLarge, NoMemory}
use Rattle.ps_reader.specs.Cursor.{later}
use Rattle.ps_reader.specs.Read.{IsWordRead, AreWordsRead, both, IsSaid, IsItemRead}
use Rattle.ps_reader.specs.Places.{Begins, Leaves, IsFrontRead, IsPlaceRead, price_words, entry_words, IsPrintedPlace}
use Rattle.ps_reader.proofs.Sequences.{Makes, IsMade, item_read, made, word_then, IsNeverEmpty}
use Rattle.ps_reader.proofs.Cut.{mapped}
use Rattle.ps_reader.proofs.Items.{other, IsEndRead, last_word, count_word, column_word, fraction_word}

pub op_nonempty : IsNeverEmpty op_word
op_nonempty op.Add s = omega (arith, ap length s)
op_nonempty op.Sub s = omega (arith, ap length s)
op_nonempty op.Mul s = omega (arith, ap length s)
op_nonempty op.Div s = omega (arith, ap length s)
op_nonempty op.Lcm s = omega (arith, ap length s)

pub shown_nonempty : IsNeverEmpty shown_word
shown_nonempty shown.Right s = omega (arith, ap length s)
shown_nonempty (shown.Of c) s = s

-- one word
pub front_one : {A : Type 0} (v : A → Word) (F : A → Type 0) (ws : List (List ℕ)) (r : Result A LineFault) → IsNeverEmpty v → IsWordRead v (λ a. ⊤) F (first_of ws) r → IsFrontRead (λ a. v a ∷ []) F ws (later ws) r
front_one v F [] (Ok a) ne h = absurd (ne a h.0.0)
front_one v F [] (Err NotCanonical) ne h = λ a tail s. s
front_one v F [] (Err TooLarge) ne h = absurd (ne h.0 h.1.0)
front_one v F [] (Err NoMemory) ne h = h
front_one v F (w ∷ ws) (Ok a) ne h = (λ tail s. (h.0.0, s), h.1, λ a tail s. s.1)
front_one v F (w ∷ ws) (Err NotCanonical) ne h = λ a tail s. h a (s.0, tt)
front_one v F (w ∷ ws) (Err TooLarge) ne h = (h.0, λ tail s. (h.1.0, s), h.2, λ a tail s. s.1)
front_one v F (w ∷ ws) (Err NoMemory) ne h = h

-- a word, and those of another front
pub front_then : {A B : Type 0} (v : A → Word) (F : A → Type 0) (us : B → List Word) (G : B → Type 0) (ws rest : List (List ℕ)) (r : Result A LineFault) (q : Result B LineFault)
    → IsNeverEmpty v → IsWordRead v (λ a. ⊤) F (first_of ws) r → IsFrontRead us G (later ws) rest q
    → IsFrontRead {A = A × B} (λ p. v p.0 ∷ us p.1) (λ p. F p.0 × G p.1) ws rest (both r q)
front_then v F us G [] rest (Ok a) q ne h k = absurd (ne a h.0.0)
front_then v F us G [] rest (Err NotCanonical) q ne h k = λ a tail s. s
front_then v F us G [] rest (Err TooLarge) q ne h k = absurd (ne h.0 h.1.0)
front_then v F us G [] rest (Err NoMemory) q ne h k = h
front_then v F us G (w ∷ ws) rest (Ok a) (Ok b) ne h k = (λ tail s. (h.0.0, k.0 tail s), (h.1, k.1), λ p tail s. k.2 p.1 tail s.1)
front_then v F us G (w ∷ ws) rest (Ok a) (Err NotCanonical) ne h k = λ p tail s. k p.1 tail s.1
front_then v F us G (w ∷ ws) rest (Ok a) (Err TooLarge) ne h k = ((a, k.0), λ tail s. (h.0.0, k.1 tail s), λ f. k.2 f.1, λ p tail s. k.3 p.1 tail s.1)
front_then v F us G (w ∷ ws) rest (Ok a) (Err NoMemory) ne h k = k
front_then v F us G (w ∷ ws) rest (Err NotCanonical) q ne h k = λ p tail s. h p.0 (s.0, tt)
front_then v F us G (w ∷ ws) rest (Err TooLarge) (Ok b) ne h k = ((h.0, b), λ tail s. (h.1.0, k.0 tail s), λ f. h.2 f.0, λ p tail s. k.2 p.1 tail s.1)
front_then v F us G (w ∷ ws) rest (Err TooLarge) (Err NotCanonical) ne h k = λ p tail s. k p.1 tail s.1
front_then v F us G (w ∷ ws) rest (Err TooLarge) (Err TooLarge) ne h k = ((h.0, k.0), λ tail s. (h.1.0, k.1 tail s), λ f. h.2 f.0, λ p tail s. k.3 p.1 tail s.1)
front_then v F us G (w ∷ ws) rest (Err TooLarge) (Err NoMemory) ne h k = k
front_then v F us G (w ∷ ws) rest (Err NoMemory) q ne h k = h

-- the name of a place
abbrev pub place_name : Place → List ℕ
place_name (place.Ratio i) = codes "ratio"
place_name (place.Scale j) = codes "scale"
place_name (place.Times i j) = codes "times"
place_name (place.Minus i j) = codes "minus"
place_name (place.Cost j i) = codes "cost"
place_name (place.Whole i) = codes "whole"
place_name (place.Scaled i) = codes "scaled"
place_name (place.Weight i) = codes "weight"
place_name (place.Weighed i) = codes "weighed"
place_name (place.Total i) = codes "total"
place_name (place.PriceTimes n m) = codes "price-times"
place_name (place.PricePlus n m) = codes "price-plus"
place_name (place.ColumnTimes n i m) = codes "column-times"
place_name (place.ColumnPlus n i m) = codes "column-plus"

abbrev pub place_rest : Place → List Word
place_rest (place.Ratio i) = count i ∷ []
place_rest (place.Scale j) = shown_word j ∷ []
place_rest (place.Times i j) = count i ∷ shown_word j ∷ []
place_rest (place.Minus i j) = count i ∷ shown_word j ∷ []
place_rest (place.Cost j i) = Column j ∷ count i ∷ []
place_rest (place.Whole i) = count i ∷ []
place_rest (place.Scaled i) = count i ∷ []
place_rest (place.Weight i) = count i ∷ []
place_rest (place.Weighed i) = count i ∷ []
place_rest (place.Total i) = count i ∷ []
place_rest (place.PriceTimes n m) = price_words (n, m)
place_rest (place.PricePlus n m) = price_words (n, m)
place_rest (place.ColumnTimes n i m) = entry_words (n, (i, m))
place_rest (place.ColumnPlus n i m) = entry_words (n, (i, m))

words_are : (p : Place) → place_words p ≡ Letters (place_name p) ∷ place_rest p
words_are (place.Ratio i) = refl
words_are p = refl

-- a kind of place
pub record IsPlaceKind {A : Type 0} (name : List ℕ) (mk : A → Place) (vs : A → List Word) (F : A → Type 0) : Type 0 where
  pub words : (a : A) → place_words (mk a) ≡ Letters name ∷ vs a
  pub within : (a : A) → F a → IsPlaceWithin (mk a)
  pub back : (a : A) → IsPlaceWithin (mk a) → F a
  pub only : (p : Place) → name ≡ place_name p → (a : A) × (p ≡ mk a)

pub place_front : {A : Type 0} (name : List ℕ) (mk : A → Place) (vs : A → List Word) (F : A → Type 0) (ws rest : List (List ℕ)) (r : Result A LineFault)
    → IsPlaceKind name mk vs F → IsFrontRead vs F ws rest r → IsPlaceRead (name ∷ ws) rest (mapped mk r)
place_front name mk vs F ws rest r k h = by r h
  where
    begins : (a : _) → Begins vs ws rest a → Begins place_words (name ∷ ws) rest (mk a)
    begins a b tail s = subst (λ x. SpellWords (name ∷ ws) (x ++ tail)) (sym (k.words a)) (refl, b tail s)

    behind_name : (p : Place) (tail : List Word) → SpellWords (name ∷ ws) (place_words p ++ tail) → (a : _) × SpellWords ws (vs a ++ tail)
    behind_name p tail s =
        let t = subst (λ x. SpellWords (name ∷ ws) (x ++ tail)) (words_are p) s in
        let o = k.only p t.0 in
        (o.0, (subst (λ x. SpellWords (name ∷ ws) (x ++ tail)) (ap place_words o.1 ∙ k.words o.0) s).1)

    leaves : Leaves vs ws rest → Leaves place_words (name ∷ ws) rest
    leaves l p tail s = let b = behind_name p tail s in l b.0 tail b.1

    by : (r : Result _ LineFault) → IsFrontRead vs F ws rest r → IsPlaceRead (name ∷ ws) rest (mapped mk r)
    by (Ok a) h = (begins a h.0, k.within a h.1, leaves h.2)
    by (Err NotCanonical) h = λ p tail s. let b = behind_name p tail s in h b.0 tail b.1
    by (Err TooLarge) h = (mk h.0, begins h.0 h.1, λ w. h.2 (k.back h.0 w), leaves h.3)
    by (Err NoMemory) h = h

-- the kinds
abbrev pub IsRowIn : ℕ → Type 0
IsRowIn i = i ≤ 100

ratio_kind : IsPlaceKind (codes "ratio") (λ i. place.Ratio i) (λ i. count i ∷ []) IsRowIn
ratio_kind = record { words = λ a. refl; within = λ a f. f; back = λ a w. w; only = only }
  where
    only : (p : Place) → codes "ratio" ≡ place_name p → (a : ℕ) × (p ≡ place.Ratio a)
    only (place.Ratio i) e = (i, refl)
    only p e = other (codes "ratio") (place_name p) refl e

whole_kind : IsPlaceKind (codes "whole") (λ i. place.Whole i) (λ i. count i ∷ []) IsRowIn
whole_kind = record { words = λ a. refl; within = λ a f. f; back = λ a w. w; only = only }
  where
    only : (p : Place) → codes "whole" ≡ place_name p → (a : ℕ) × (p ≡ place.Whole a)
    only (place.Whole i) e = (i, refl)
    only p e = other (codes "whole") (place_name p) refl e

scaled_kind : IsPlaceKind (codes "scaled") (λ i. place.Scaled i) (λ i. count i ∷ []) IsRowIn
scaled_kind = record { words = λ a. refl; within = λ a f. f; back = λ a w. w; only = only }
  where
    only : (p : Place) → codes "scaled" ≡ place_name p → (a : ℕ) × (p ≡ place.Scaled a)
    only (place.Scaled i) e = (i, refl)
    only p e = other (codes "scaled") (place_name p) refl e

weight_kind : IsPlaceKind (codes "weight") (λ i. place.Weight i) (λ i. count i ∷ []) IsRowIn
weight_kind = record { words = λ a. refl; within = λ a f. f; back = λ a w. w; only = only }
  where
    only : (p : Place) → codes "weight" ≡ place_name p → (a : ℕ) × (p ≡ place.Weight a)
    only (place.Weight i) e = (i, refl)
    only p e = other (codes "weight") (place_name p) refl e

weighed_kind : IsPlaceKind (codes "weighed") (λ i. place.Weighed i) (λ i. count i ∷ []) IsRowIn
weighed_kind = record { words = λ a. refl; within = λ a f. f; back = λ a w. w; only = only }
  where
    only : (p : Place) → codes "weighed" ≡ place_name p → (a : ℕ) × (p ≡ place.Weighed a)
    only (place.Weighed i) e = (i, refl)
    only p e = other (codes "weighed") (place_name p) refl e

total_kind : IsPlaceKind (codes "total") (λ i. place.Total i) (λ i. count i ∷ []) IsRowIn
total_kind = record { words = λ a. refl; within = λ a f. f; back = λ a w. w; only = only }
  where
    only : (p : Place) → codes "total" ≡ place_name p → (a : ℕ) × (p ≡ place.Total a)
    only (place.Total i) e = (i, refl)
    only p e = other (codes "total") (place_name p) refl e

scale_kind : IsPlaceKind (codes "scale") (λ j. place.Scale j) (λ j. shown_word j ∷ []) IsShownWithin
scale_kind = record { words = λ a. refl; within = λ a f. f; back = λ a w. w; only = only }
  where
    only : (p : Place) → codes "scale" ≡ place_name p → (a : TableCol) × (p ≡ place.Scale a)
    only (place.Scale j) e = (j, refl)
    only p e = other (codes "scale") (place_name p) refl e

times_kind : IsPlaceKind {A = ℕ × TableCol} (codes "times") (λ a. place.Times a.0 a.1) (λ a. count a.0 ∷ shown_word a.1 ∷ []) (λ a. IsRowIn a.0 × IsShownWithin a.1)
times_kind = record { words = λ a. refl; within = λ a f. f; back = λ a w. w; only = only }
  where
    only : (p : Place) → codes "times" ≡ place_name p → (a : ℕ × TableCol) × (p ≡ place.Times a.0 a.1)
    only (place.Times i j) e = ((i, j), refl)
    only p e = other (codes "times") (place_name p) refl e

minus_kind : IsPlaceKind {A = ℕ × TableCol} (codes "minus") (λ a. place.Minus a.0 a.1) (λ a. count a.0 ∷ shown_word a.1 ∷ []) (λ a. IsRowIn a.0 × IsShownWithin a.1)
minus_kind = record { words = λ a. refl; within = λ a f. f; back = λ a w. w; only = only }
  where
    only : (p : Place) → codes "minus" ≡ place_name p → (a : ℕ × TableCol) × (p ≡ place.Minus a.0 a.1)
    only (place.Minus i j) e = ((i, j), refl)
    only p e = other (codes "minus") (place_name p) refl e

cost_kind : IsPlaceKind {A = Col × ℕ} (codes "cost") (λ a. place.Cost a.0 a.1) (λ a. Column a.0 ∷ count a.1 ∷ []) (λ a. IsColWithin a.0 × IsRowIn a.1)
cost_kind = record { words = λ a. refl; within = λ a f. f; back = λ a w. w; only = only }
  where
    only : (p : Place) → codes "cost" ≡ place_name p → (a : Col × ℕ) × (p ≡ place.Cost a.0 a.1)
    only (place.Cost j i) e = ((j, i), refl)
    only p e = other (codes "cost") (place_name p) refl e

-- places of a row
abbrev pub IsRowRead : List ℕ → Result ℕ LineFault → Type 0
IsRowRead word r = IsWordRead count (λ n. ⊤) (λ n. n ≤ 100) word r

pub ratio_read : (ws : List (List ℕ)) (r : Result ℕ LineFault) → IsRowRead (first_of ws) r → IsPlaceRead (codes "ratio" ∷ ws) (later ws) (mapped (λ i. place.Ratio i) r)
ratio_read ws r h = place_front (codes "ratio") _ _ _ ws (later ws) r ratio_kind (front_one count _ ws r count_word h)

pub whole_read : (ws : List (List ℕ)) (r : Result ℕ LineFault) → IsRowRead (first_of ws) r → IsPlaceRead (codes "whole" ∷ ws) (later ws) (mapped (λ i. place.Whole i) r)
whole_read ws r h = place_front (codes "whole") _ _ _ ws (later ws) r whole_kind (front_one count _ ws r count_word h)

pub scaled_read : (ws : List (List ℕ)) (r : Result ℕ LineFault) → IsRowRead (first_of ws) r → IsPlaceRead (codes "scaled" ∷ ws) (later ws) (mapped (λ i. place.Scaled i) r)
scaled_read ws r h = place_front (codes "scaled") _ _ _ ws (later ws) r scaled_kind (front_one count _ ws r count_word h)

pub weight_read : (ws : List (List ℕ)) (r : Result ℕ LineFault) → IsRowRead (first_of ws) r → IsPlaceRead (codes "weight" ∷ ws) (later ws) (mapped (λ i. place.Weight i) r)
weight_read ws r h = place_front (codes "weight") _ _ _ ws (later ws) r weight_kind (front_one count _ ws r count_word h)

pub weighed_read : (ws : List (List ℕ)) (r : Result ℕ LineFault) → IsRowRead (first_of ws) r → IsPlaceRead (codes "weighed" ∷ ws) (later ws) (mapped (λ i. place.Weighed i) r)
weighed_read ws r h = place_front (codes "weighed") _ _ _ ws (later ws) r weighed_kind (front_one count _ ws r count_word h)

pub total_read : (ws : List (List ℕ)) (r : Result ℕ LineFault) → IsRowRead (first_of ws) r → IsPlaceRead (codes "total" ∷ ws) (later ws) (mapped (λ i. place.Total i) r)
total_read ws r h = place_front (codes "total") _ _ _ ws (later ws) r total_kind (front_one count _ ws r count_word h)

abbrev pub IsShownRead : List ℕ → Result TableCol LineFault → Type 0
IsShownRead word r = IsWordRead shown_word (λ c. ⊤) IsShownWithin word r

pub scale_read : (ws : List (List ℕ)) (r : Result TableCol LineFault) → IsShownRead (first_of ws) r → IsPlaceRead (codes "scale" ∷ ws) (later ws) (mapped (λ j. place.Scale j) r)
scale_read ws r h = place_front (codes "scale") _ _ _ ws (later ws) r scale_kind (front_one shown_word _ ws r shown_nonempty h)

pub times_read : (ws : List (List ℕ)) (r : Result ℕ LineFault) (q : Result TableCol LineFault) → IsRowRead (first_of ws) r → IsShownRead (first_of (later ws)) q
    → IsPlaceRead (codes "times" ∷ ws) (later (later ws)) (mapped (λ a. place.Times a.0 a.1) (both r q))
times_read ws r q h k = place_front (codes "times") _ _ _ ws (later (later ws)) (both r q) times_kind
    (front_then count (λ i. i ≤ 100) (λ j. shown_word j ∷ []) IsShownWithin ws (later (later ws)) r q count_word h (front_one shown_word _ (later ws) q shown_nonempty k))

pub minus_read : (ws : List (List ℕ)) (r : Result ℕ LineFault) (q : Result TableCol LineFault) → IsRowRead (first_of ws) r → IsShownRead (first_of (later ws)) q
    → IsPlaceRead (codes "minus" ∷ ws) (later (later ws)) (mapped (λ a. place.Minus a.0 a.1) (both r q))
minus_read ws r q h k = place_front (codes "minus") _ _ _ ws (later (later ws)) (both r q) minus_kind
    (front_then count (λ i. i ≤ 100) (λ j. shown_word j ∷ []) IsShownWithin ws (later (later ws)) r q count_word h (front_one shown_word _ (later ws) q shown_nonempty k))

pub cost_read : (ws : List (List ℕ)) (r : Result Col LineFault) (q : Result ℕ LineFault) → IsWordRead Column (λ c. ⊤) IsColWithin (first_of ws) r → IsRowRead (first_of (later ws)) q
    → IsPlaceRead (codes "cost" ∷ ws) (later (later ws)) (mapped (λ a. place.Cost a.0 a.1) (both r q))
cost_read ws r q h k = place_front (codes "cost") _ _ _ ws (later (later ws)) (both r q) cost_kind
    (front_then Column IsColWithin (λ i. count i ∷ []) (λ i. i ≤ 100) ws (later (later ws)) r q column_word h (front_one count _ (later ws) q count_word k))

-- no other name is one of a place
pub no_place : (name : List ℕ) (ws rest : List (List ℕ)) → IsPrintedPlace name → (name ≡ codes "whole" → ⊥) → (name ≡ codes "scaled" → ⊥) → (name ≡ codes "weight" → ⊥) → (name ≡ codes "weighed" → ⊥) → (name ≡ codes "total" → ⊥)
    → IsPlaceRead (name ∷ ws) rest (Err NotCanonical)
no_place name ws rest h a b c d e (place.Ratio i) tail s = h.beside.not_ratio s.0
no_place name ws rest h a b c d e (place.Scale j) tail s = h.beside.not_scale s.0
no_place name ws rest h a b c d e (place.Times i j) tail s = h.beside.not_times s.0
no_place name ws rest h a b c d e (place.Minus i j) tail s = h.beside.not_minus s.0
no_place name ws rest h a b c d e (place.Cost j i) tail s = h.beside.not_cost s.0
no_place name ws rest h a b c d e (place.Whole i) tail s = a s.0
no_place name ws rest h a b c d e (place.Scaled i) tail s = b s.0
no_place name ws rest h a b c d e (place.Weight i) tail s = c s.0
no_place name ws rest h a b c d e (place.Weighed i) tail s = d s.0
no_place name ws rest h a b c d e (place.Total i) tail s = e s.0
no_place name ws rest h a b c d e (place.PriceTimes n m) tail s = h.not_price_times s.0
no_place name ws rest h a b c d e (place.PricePlus n m) tail s = h.not_price_plus s.0
no_place name ws rest h a b c d e (place.ColumnTimes n i m) tail s = h.not_column_times s.0
no_place name ws rest h a b c d e (place.ColumnPlus n i m) tail s = h.not_column_plus s.0

-- where no word is left there is no name
letters : (ws : List (List ℕ)) → SpellWords ws (map Letters ws)
letters [] = tt
letters (w ∷ ws) = (refl, letters ws)

unnamed : {P : Type 0} (p : Place) → [] ≡ place_name p → P
unnamed (place.Ratio i) e = absurd (omega (arith, ap length e))
unnamed p e = absurd (omega (arith, ap length e))

name_of : (p : Place) (w : List ℕ) (ws : List (List ℕ)) (tail : List Word) → SpellWords (w ∷ ws) (place_words p ++ tail) → w ≡ place_name p
name_of p w ws tail s = (subst (λ x. SpellWords (w ∷ ws) (x ++ tail)) (words_are p) s).0

pub named : (ws rest : List (List ℕ)) (r : Result Place LineFault) → IsPlaceRead (first_of ws ∷ later ws) rest r → IsPlaceRead ws rest r
named [] rest (Ok p) h = unnamed p (name_of p [] [] (map Letters rest) (h.0 (map Letters rest) (letters rest)))
named [] rest (Err NotCanonical) h = λ p tail s. no_word p tail s
named [] rest (Err TooLarge) h = unnamed h.0 (name_of h.0 [] [] (map Letters rest) (h.1 (map Letters rest) (letters rest)))
named [] rest (Err NoMemory) h = h
named (w ∷ ws) rest r h = h

pub place_named : (ws ws1 rest : List (List ℕ)) (name : List ℕ) (r : Result Place LineFault) → name ≡ first_of ws → ws1 ≡ later ws → IsPlaceRead (name ∷ ws1) rest r → IsPlaceRead ws rest r
place_named ws ws1 rest name r p q h = named ws rest r (subst (λ w. IsPlaceRead (w ∷ later ws) rest r) p (subst (λ x. IsPlaceRead (name ∷ x) rest r) q h))

-- the words behind a place
pub place_then : {B : Type 0} (vs : B → List Word) (Q G : B → Type 0) (ws rest : List (List ℕ)) (r : Result Place LineFault) (q : Result B LineFault) → IsPlaceRead ws rest r → AreWordsRead vs Q G rest q
    → AreWordsRead {A = Place × B} (λ p. place_words p.0 ++ vs p.1) (λ p. ⊤ × Q p.1) (λ p. IsPlaceWithin p.0 × G p.1) ws (both r q)
place_then vs Q G ws rest (Ok a) (Ok b) h k = ((h.0 (vs b) k.0.0, (tt, k.0.1)), (h.1, k.1))
place_then vs Q G ws rest (Ok a) (Err NotCanonical) h k = λ p s. k p.1 (h.2 p.0 (vs p.1) s.0, s.1.1)
place_then vs Q G ws rest (Ok a) (Err TooLarge) h k = ((a, k.0), (h.0 (vs k.0) k.1.0, (tt, k.1.1)), λ f. k.2 f.1)
place_then vs Q G ws rest (Ok a) (Err NoMemory) h k = k
place_then vs Q G ws rest (Err NotCanonical) q h k = λ p s. h p.0 (vs p.1) s.0
place_then vs Q G ws rest (Err TooLarge) (Ok b) h k = ((h.0, b), (h.1 (vs b) k.0.0, (tt, k.0.1)), λ f. h.2 f.0)
place_then vs Q G ws rest (Err TooLarge) (Err NotCanonical) h k = λ p s. k p.1 (h.3 p.0 (vs p.1) s.0, s.1.1)
place_then vs Q G ws rest (Err TooLarge) (Err TooLarge) h k = ((h.0, k.0), (h.1 (vs k.0) k.1.0, (tt, k.1.1)), λ f. h.2 f.0)
place_then vs Q G ws rest (Err TooLarge) (Err NoMemory) h k = k
place_then vs Q G ws rest (Err NoMemory) q h k = h

-- the line of an operation that was refused
abbrev pub WideParts : Type 0
WideParts = Place × (Op × (Ratio × (Ratio × Unit {0})))

abbrev pub wide_of : WideParts → LineItem
wide_of a = line.OpenWide a.0 a.1.0 a.1.1.0 a.1.1.1.0

abbrev pub WideProper : WideParts → Type 0
WideProper a = ⊤ × (⊤ × (IsReducedWithin MOST_OPERAND a.1.1.0 × (IsReducedWithin MOST_OPERAND a.1.1.1.0 × ⊤)))

wide_makes : (ws : List (List ℕ)) → Makes {A = WideParts} part.ACause (codes "open" ∷ codes "wide" ∷ []) ws wide_of (λ a. place_words a.0 ++ (op_word a.1.0 ∷ Fraction a.1.1.0 ∷ Fraction a.1.1.1.0 ∷ []))
    WideProper (λ a. IsPlaceWithin a.0 × (⊤ × (IsRatioWithin MOST_OPERAND a.1.1.0 × (IsRatioWithin MOST_OPERAND a.1.1.1.0 × ⊤))))
unfolding behind
wide_makes ws = record {
  words = λ a. refl;
  proper = λ a p. (p.1.1.0, p.1.1.1.0);
  within = λ a f. (f.0, f.1.1.0, f.1.1.1.0);
  back = λ a w. (w.0, (tt, (w.1, (w.2, tt))));
  fits = λ a p due. (_, refl);
  only = only;
}
  where
    only : (i : LineItem) → IsSaid (codes "open" ∷ codes "wide" ∷ ws) i → IsMade {A = WideParts} part.ACause wide_of WideProper i
    only (line.OpenWide at o l r) s = inr ((at, (o, (l, (r, tt)))), refl, (tt, (tt, (s.proper.0, (s.proper.1, tt)))))
    only (line.OpenPivots n) s = other (codes "wide") (codes "pivots") refl s.spelled.1.0
    only (line.OpenConflicts n) s = other (codes "wide") (codes "conflicts") refl s.spelled.1.0
    only i s = inl (λ due. refl)

abbrev pub IsOperandRead : List ℕ → Result Ratio LineFault → Type 0
IsOperandRead word r = IsWordRead Fraction (λ q. IsReducedWithin MOST_OPERAND q) (λ q. IsRatioWithin MOST_OPERAND q) word r

pub wide_read : (ws rest : List (List ℕ)) (p : Result Place LineFault) (o : Result Op LineFault) (l r : Result Ratio LineFault) (e : Result (Unit {0}) LineFault) → IsPlaceRead ws rest p
    → IsWordRead op_word (λ o. ⊤) (λ o. ⊤) (first_of rest) o → IsOperandRead (first_of (later rest)) l → IsOperandRead (first_of (later (later rest))) r → IsEndRead (later (later (later rest))) e
    → IsItemRead part.ACause (codes "open" ∷ codes "wide" ∷ ws) (made wide_of (both p (both o (both l (both r e)))))
wide_read ws rest p o l r e a b c d f =
    item_read part.ACause (codes "open" ∷ codes "wide" ∷ []) _ _ _ _ ws (wide_makes ws) (both p (both o (both l (both r e))))
    (place_then _ _ _ ws rest p (both o (both l (both r e))) a
    (word_then op_word _ _ _ _ _ rest o (both l (both r e)) op_nonempty b
    (word_then Fraction _ _ _ _ _ (later rest) l (both r e) fraction_word c (last_word Fraction _ _ (later (later rest)) r e fraction_word d f))))

-- a reading of a place that ended so
pub mapped_ok : {A : Type 0} (f : A → Place) (ws rest : List (List ℕ)) (r : Result A LineFault) (a : A) → IsPlaceRead ws rest (mapped f r) → r ≡ Ok a → IsPlaceRead ws rest (Ok (f a))
mapped_ok f ws rest r a h g = subst (λ x. IsPlaceRead ws rest x) (ap (mapped f) g) h

pub mapped_err : {A : Type 0} (f : A → Place) (ws rest : List (List ℕ)) (r : Result A LineFault) (e : LineFault) (q : Result Place LineFault) → IsPlaceRead ws rest (mapped f r) → r ≡ Err e → q ≡ Err e
    → IsPlaceRead ws rest q
mapped_err f ws rest r e q h g k = subst (λ x. IsPlaceRead ws rest x) (ap (mapped f) g ∙ sym k) h

-- an operation that was refused, word by word
pub wide_item : (ws rest r1 r2 r3 : List (List ℕ)) (a b d : List ℕ) (p : Result Place LineFault) (o : Result Op LineFault) (l r : Result Ratio LineFault) (e : Result (Unit {0}) LineFault) (q : Result WideParts LineFault) → IsPlaceRead ws rest p
    → a ≡ first_of rest → r1 ≡ later rest → b ≡ first_of r1 → r2 ≡ later r1 → d ≡ first_of r2 → r3 ≡ later r2
    → IsWordRead op_word (λ o. ⊤) (λ o. ⊤) a o → IsOperandRead b l → IsOperandRead d r → IsEndRead r3 e → q ≡ both p (both o (both l (both r e)))
    → IsItemRead part.ACause (codes "open" ∷ codes "wide" ∷ ws) (made wide_of q)
wide_item ws rest r1 r2 r3 a b d p o l r e q h pa qa pb qb pd qd ho hl hr he f =
    subst (λ x. IsItemRead part.ACause (codes "open" ∷ codes "wide" ∷ ws) (made wide_of x)) (sym f)
    (wide_read ws rest p o l r e h (subst (λ z. IsWordRead op_word (λ o. ⊤) (λ o. ⊤) z o) pa ho) (subst (λ z. IsOperandRead z l) (pb ∙ ap first_of qa) hl)
    (subst (λ z. IsOperandRead z r) (pd ∙ ap first_of (qb ∙ ap later qa)) hr) (subst (λ z. IsEndRead z e) (qd ∙ ap later (qb ∙ ap later qa)) he))
