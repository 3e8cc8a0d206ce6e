-- Words of places that name a world.
use Rattle.std.proofs.Common.{◌≡◌, ℕ, List, [], ◌∷◌, Result, refl, sym, ap, subst, ◌∙◌}
use Rattle.std.specs.Prelude.{⊤, codes}
use Rattle.ps_table.specs.declared.place.Place.{Place}
use Rattle.ps_table.specs.declared.place.Place.TheVariants as place
use Rattle.ps_answer.specs.Faults.{first_of}
use Rattle.ps_answer.specs.Items.{count, IsWorldWithin}
use Rattle.ps_reader.specs.declared.line_fault.LineFault.{LineFault}
use Rattle.ps_reader.specs.Cursor.{later}
use Rattle.ps_reader.specs.Read.{IsWordRead, both}
use Rattle.ps_reader.specs.Places.{IsFrontRead, IsPlaceRead, price_words, IsPriceWithin, entry_words, IsEntryWithin}
use Rattle.ps_reader.proofs.Cut.{mapped}
use Rattle.ps_reader.proofs.Items.{other, count_word}
use Rattle.ps_reader.proofs.PlaceWords.{IsPlaceKind, place_name, place_front, front_one, front_then, IsRowIn, IsRowRead}

-- ---- a world and a home, and a world, a row and a home
abbrev pub IsWorldRead : List ℕ → Result ℕ LineFault → Type 0
IsWorldRead word r = IsWordRead count (λ n. ⊤) IsWorldWithin word r

price_read : (ws : List (List ℕ)) (r q : Result ℕ LineFault) → IsWorldRead (first_of ws) r → IsRowRead (first_of (later ws)) q → IsFrontRead price_words IsPriceWithin ws (later (later ws)) (both r q)
price_read ws r q h k = front_then count IsWorldWithin (λ m. count m ∷ []) IsRowIn ws (later (later ws)) r q count_word h (front_one count _ (later ws) q count_word k)

entry_read : (ws : List (List ℕ)) (r q s : Result ℕ LineFault) → IsWorldRead (first_of ws) r → IsRowRead (first_of (later ws)) q → IsRowRead (first_of (later (later ws))) s
    → IsFrontRead entry_words IsEntryWithin ws (later (later (later ws))) (both r (both q s))
entry_read ws r q s h k l = front_then count IsWorldWithin (λ a. count a.0 ∷ count a.1 ∷ []) (λ a. IsRowIn a.0 × IsRowIn a.1) ws (later (later (later ws))) r (both q s) count_word h
    (front_then count IsRowIn (λ m. count m ∷ []) IsRowIn (later ws) (later (later (later ws))) q s count_word k (front_one count _ (later (later ws)) s count_word l))

-- word by word
pub price_item : (ws r1 r2 : List (List ℕ)) (a b : List ℕ) (n m : Result ℕ LineFault) (q : Result (ℕ × ℕ) LineFault) → a ≡ first_of ws → r1 ≡ later ws → b ≡ first_of r1 → r2 ≡ later r1
    → IsWorldRead a n → IsRowRead b m → q ≡ both n m → IsFrontRead price_words IsPriceWithin ws r2 q
price_item ws r1 r2 a b n m q pa qa pb qb hn hm e =
    subst (λ x. IsFrontRead price_words IsPriceWithin ws r2 x) (sym e)
    (subst (λ x. IsFrontRead price_words IsPriceWithin ws x (both n m)) (sym (qb ∙ ap later qa))
    (price_read ws n m (subst (λ z. IsWorldRead z n) pa hn) (subst (λ z. IsRowRead z m) (pb ∙ ap first_of qa) hm)))

pub entry_item : (ws r1 r2 r3 : List (List ℕ)) (a b d : List ℕ) (n i m : Result ℕ LineFault) (q : Result (ℕ × (ℕ × ℕ)) LineFault) → a ≡ first_of ws → r1 ≡ later ws → b ≡ first_of r1 → r2 ≡ later r1
    → d ≡ first_of r2 → r3 ≡ later r2 → IsWorldRead a n → IsRowRead b i → IsRowRead d m → q ≡ both n (both i m) → IsFrontRead entry_words IsEntryWithin ws r3 q
entry_item ws r1 r2 r3 a b d n i m q pa qa pb qb pd qd hn hi hm e =
    let second : r2 ≡ later (later ws) = qb ∙ ap later qa in
    subst (λ x. IsFrontRead entry_words IsEntryWithin ws r3 x) (sym e)
    (subst (λ x. IsFrontRead entry_words IsEntryWithin ws x (both n (both i m))) (sym (qd ∙ ap later second))
    (entry_read ws n i m (subst (λ z. IsWorldRead z n) pa hn) (subst (λ z. IsRowRead z i) (pb ∙ ap first_of qa) hi) (subst (λ z. IsRowRead z m) (pd ∙ ap first_of second) hm)))

-- ---- the kinds
price_times_kind : IsPlaceKind (codes "price-times") (λ a. place.PriceTimes a.0 a.1) price_words IsPriceWithin
price_times_kind = record { words = λ a. refl; within = λ a f. f; back = λ a w. w; only = only }
  where
    only : (p : Place) → codes "price-times" ≡ place_name p → (a : ℕ × ℕ) × (p ≡ place.PriceTimes a.0 a.1)
    only (place.PriceTimes n m) e = ((n, m), refl)
    only p e = other (codes "price-times") (place_name p) refl e

price_plus_kind : IsPlaceKind (codes "price-plus") (λ a. place.PricePlus a.0 a.1) price_words IsPriceWithin
price_plus_kind = record { words = λ a. refl; within = λ a f. f; back = λ a w. w; only = only }
  where
    only : (p : Place) → codes "price-plus" ≡ place_name p → (a : ℕ × ℕ) × (p ≡ place.PricePlus a.0 a.1)
    only (place.PricePlus n m) e = ((n, m), refl)
    only p e = other (codes "price-plus") (place_name p) refl e

column_times_kind : IsPlaceKind (codes "column-times") (λ a. place.ColumnTimes a.0 a.1.0 a.1.1) entry_words IsEntryWithin
column_times_kind = record { words = λ a. refl; within = λ a f. (f.0, f.1.0, f.1.1); back = λ a w. (w.0, (w.1, w.2)); only = only }
  where
    only : (p : Place) → codes "column-times" ≡ place_name p → (a : ℕ × (ℕ × ℕ)) × (p ≡ place.ColumnTimes a.0 a.1.0 a.1.1)
    only (place.ColumnTimes n i m) e = ((n, (i, m)), refl)
    only p e = other (codes "column-times") (place_name p) refl e

column_plus_kind : IsPlaceKind (codes "column-plus") (λ a. place.ColumnPlus a.0 a.1.0 a.1.1) entry_words IsEntryWithin
column_plus_kind = record { words = λ a. refl; within = λ a f. (f.0, f.1.0, f.1.1); back = λ a w. (w.0, (w.1, w.2)); only = only }
  where
    only : (p : Place) → codes "column-plus" ≡ place_name p → (a : ℕ × (ℕ × ℕ)) × (p ≡ place.ColumnPlus a.0 a.1.0 a.1.1)
    only (place.ColumnPlus n i m) e = ((n, (i, m)), refl)
    only p e = other (codes "column-plus") (place_name p) refl e

-- ---- behind the names
pub price_times_read : (ws rest : List (List ℕ)) (r : Result (ℕ × ℕ) LineFault) → IsFrontRead price_words IsPriceWithin ws rest r → IsPlaceRead (codes "price-times" ∷ ws) rest (mapped (λ a. place.PriceTimes a.0 a.1) r)
price_times_read ws rest r h = place_front (codes "price-times") _ _ _ ws rest r price_times_kind h

pub price_plus_read : (ws rest : List (List ℕ)) (r : Result (ℕ × ℕ) LineFault) → IsFrontRead price_words IsPriceWithin ws rest r → IsPlaceRead (codes "price-plus" ∷ ws) rest (mapped (λ a. place.PricePlus a.0 a.1) r)
price_plus_read ws rest r h = place_front (codes "price-plus") _ _ _ ws rest r price_plus_kind h

pub column_times_read : (ws rest : List (List ℕ)) (r : Result (ℕ × (ℕ × ℕ)) LineFault) → IsFrontRead entry_words IsEntryWithin ws rest r → IsPlaceRead (codes "column-times" ∷ ws) rest (mapped (λ a. place.ColumnTimes a.0 a.1.0 a.1.1) r)
column_times_read ws rest r h = place_front (codes "column-times") _ _ _ ws rest r column_times_kind h

pub column_plus_read : (ws rest : List (List ℕ)) (r : Result (ℕ × (ℕ × ℕ)) LineFault) → IsFrontRead entry_words IsEntryWithin ws rest r → IsPlaceRead (codes "column-plus" ∷ ws) rest (mapped (λ a. place.ColumnPlus a.0 a.1.0 a.1.1) r)
column_plus_read ws rest r h = place_front (codes "column-plus") _ _ _ ws rest r column_plus_kind h
