-- Kinds of lines.
use Rattle.std.proofs.Common.{◌≡◌, ℕ, ◌≤◌, ◌^◌, ℤ, pos, negsuc, ◌≤ℤ◌, false, List, [], ◌∷◌, ◌++◌, length, map, Result, refl, sym, ap, ◌∙◌, arith, true≢false, inl, inr}
use Rattle.std.specs.Prelude.{⊤, codes, bytes_eq}
use Rattle.std.proofs.lemmas.Slice.Eq.{bytes_eq-Decides}
use Rattle.ps_meaning.specs.Formula.{World}
use Rattle.ps_table.specs.declared.col.Col.{Col}
use Rattle.ps_answer.specs.Words.{Word, Number, Fraction, Column, Truths}
use Rattle.ps_answer.specs.declared.item.LineItem.{LineItem}
use Rattle.ps_answer.specs.declared.item.LineItem.TheVariants as line
use Rattle.ps_answer.specs.declared.part.Part.TheVariants as part
use Rattle.ps_answer.specs.Faults.{first_of}
use Rattle.ps_answer.specs.Items.{count, IsPrintable, IsColWithin}
use Rattle.ps_answer.specs.ExpectedParts.{behind}
use Rattle.ps_reader.specs.declared.line_fault.LineFault.{LineFault}
use Rattle.ps_reader.specs.Cursor.{later}
use Rattle.ps_reader.specs.Read.{IsWordRead, AreWordsRead, IsReadOrLacks, WordsSay, both, IsSaid, IsItemRead}
use Rattle.ps_reader.specs.Rows.{AreRowsWithin, AreRowsRead}
use Rattle.ps_reader.specs.Truths.{IsWorldRead}
use Rattle.ps_reader.proofs.Sequences.{Makes, IsMade, item_read, item_or_lacks, made, word_then, word_or_lacks, sure, all_sure, IsNeverEmpty}

-- different words
pub other : {P : Type 0} (a b : List ℕ) → bytes_eq a b ≡ false → a ≡ b → P
other a b h e = absurd (true≢false (sym ((bytes_eq-Decides a b).1 e) ∙ h))

-- kinds of words that are never without a byte
pub count_word : IsNeverEmpty count
count_word n s = omega (arith, s.plain.digits.0)

pub number_word : IsNeverEmpty Number
number_word (pos n) s = omega (arith, s.plain.digits.0)
number_word (negsuc n) s = s

pub truths_word : IsNeverEmpty Truths
truths_word [] s = omega (arith, ap length s)
truths_word (b ∷ w) s = omega (arith, ap length s)

pub column_word : IsNeverEmpty Column
column_word c s = s

pub fraction_word : IsNeverEmpty Fraction
fraction_word q s = empty s.over s.under s.is
  where
    empty : (over under : List ℕ) → [] ≡ over ++ 47 ∷ under → ⊥
    empty [] under e = omega (arith, ap length e)
    empty (x ∷ xs) under e = omega (arith, ap length e)

-- a word with nothing after it
pub last_word : {A : Type 0} (v : A → Word) (P F : A → Type 0) (ws : List (List ℕ)) (r : Result A LineFault) (e : Result (Unit {0}) LineFault)
    → IsNeverEmpty v → IsWordRead v P F (first_of ws) r → AreWordsRead (λ u. []) (λ u. ⊤) (λ u. ⊤) (later ws) e
    → AreWordsRead {A = A × Unit {0}} (λ p. v p.0 ∷ []) (λ p. P p.0 × ⊤) (λ p. F p.0 × ⊤) ws (both r e)
last_word v P F ws r e ne h k = word_then v P F (λ u. []) (λ u. ⊤) (λ u. ⊤) ws r e ne h k

abbrev pub IsEndRead : List (List ℕ) → Result (Unit {0}) LineFault → Type 0
IsEndRead ws e = AreWordsRead {A = Unit {0}} (λ u. []) (λ u. ⊤) (λ u. ⊤) ws e

-- a world with nothing after it
pub last_world : (ws : List (List ℕ)) (r : Result World LineFault) (e : Result (Unit {0}) LineFault) → IsWorldRead (first_of ws) r → IsEndRead (later ws) e
    → IsReadOrLacks {A = World × Unit {0}} ⊤ (WordsSay (λ p. Truths p.0 ∷ []) (λ p. ⊤ × ⊤) ws) (λ p. (length p.0 ≤ 128) × ⊤) (both r e)
last_world ws r e h k = word_or_lacks ⊤ Truths (λ w. ⊤) (λ w. length w ≤ 128) (λ u. []) (λ u. ⊤) (λ u. ⊤) ws r e truths_word h (all_sure ⊤ (λ u. []) (λ u. ⊤) (λ u. ⊤) (later ws) e k)

-- the first line of a report
report_makes : (ws : List (List ℕ)) → Makes {A = Unit {0} × Unit {0}} part.AReport (codes "report" ∷ []) ws (λ a. line.Report) (λ a. count 1 ∷ []) (λ a. ⊤ × ⊤) (λ a. ⊤ × ⊤)
unfolding behind
report_makes ws = record { words = λ a. refl; proper = λ a p. tt; within = λ a f. tt; back = λ a w. (tt, tt); fits = λ a p due. (due, refl); only = only }
  where
    only : (i : LineItem) → IsSaid ((codes "report" ∷ []) ++ ws) i → IsMade {A = Unit {0} × Unit {0}} part.AReport (λ a. line.Report) (λ a. ⊤ × ⊤) i
    only line.Report s = inr ((tt, tt), refl, (tt, tt))
    only i s = inl (λ due. refl)

pub report_read : (ws : List (List ℕ)) (r e : Result (Unit {0}) LineFault) → IsWordRead (λ u. count 1) (λ u. ⊤) (λ u. ⊤) (first_of ws) r → IsEndRead (later ws) e
    → IsItemRead part.AReport (codes "report" ∷ ws) (made (λ a. line.Report) (both r e))
report_read ws r e h k = item_read part.AReport (codes "report" ∷ []) _ _ _ _ ws (report_makes ws) (both r e) (last_word (λ u. count 1) (λ u. ⊤) (λ u. ⊤) ws r e (λ u. count_word 1) h k)

-- a model
abbrev pub Two : Type 0 → Type 0 → Type 0
Two A B = A × (B × Unit {0})

model_makes : (ws : List (List ℕ)) → Makes {A = Two ℤ ℕ} part.AModel (codes "model" ∷ []) ws (λ a. line.ModelHead a.0 a.1.0) (λ a. Number a.0 ∷ count a.1.0 ∷ []) (λ a. (pos 0 ≤ℤ a.0) × (⊤ × ⊤)) (λ a. IsPrintable a.0 × ((a.1.0 ≤ 101) × ⊤))
unfolding behind
model_makes ws = record { words = λ a. refl; proper = λ a p. p.0; within = λ a f. (f.0, f.1.0); back = λ a w. (w.0, (w.1, tt)); fits = λ a p due. (_, refl); only = only }
  where
    only : (i : LineItem) → IsSaid ((codes "model" ∷ []) ++ ws) i → IsMade {A = Two ℤ ℕ} part.AModel (λ a. line.ModelHead a.0 a.1.0) (λ a. (pos 0 ≤ℤ a.0) × (⊤ × ⊤)) i
    only (line.ModelHead t n) s = inr ((t, (n, tt)), refl, (s.proper, (tt, tt)))
    only i s = inl (λ due. refl)

pub model_read : (ws : List (List ℕ)) (t : Result ℤ LineFault) (n : Result ℕ LineFault) (e : Result (Unit {0}) LineFault)
    → IsWordRead Number (λ z. pos 0 ≤ℤ z) IsPrintable (first_of ws) t → IsWordRead count (λ n. ⊤) (λ n. n ≤ 101) (first_of (later ws)) n → IsEndRead (later (later ws)) e
    → IsItemRead part.AModel (codes "model" ∷ ws) (made (λ a. line.ModelHead a.0 a.1.0) (both t (both n e)))
model_read ws t n e h k l =
    item_read part.AModel (codes "model" ∷ []) _ _ _ _ ws (model_makes ws) (both t (both n e))
    (word_then Number _ _ _ _ _ ws t (both n e) number_word h (last_word count _ _ (later ws) n e count_word k l))

-- a model's world
entry_makes : (ws : List (List ℕ)) → Makes {A = Two ℤ World} part.AnEntry (codes "w" ∷ []) ws (λ a. line.Entry a.0 a.1.0) (λ a. Number a.0 ∷ Truths a.1.0 ∷ []) (λ a. (pos 0 ≤ℤ a.0) × (⊤ × ⊤)) (λ a. IsPrintable a.0 × ((length a.1.0 ≤ 128) × ⊤))
unfolding behind
entry_makes ws = record { words = λ a. refl; proper = λ a p. p.0; within = λ a f. (f.0, f.1.0); back = λ a w. (w.0, (w.1, tt)); fits = λ a p due. (_, refl); only = only }
  where
    only : (i : LineItem) → IsSaid ((codes "w" ∷ []) ++ ws) i → IsMade {A = Two ℤ World} part.AnEntry (λ a. line.Entry a.0 a.1.0) (λ a. (pos 0 ≤ℤ a.0) × (⊤ × ⊤)) i
    only (line.Entry t w) s = inr ((t, (w, tt)), refl, (s.proper, (tt, tt)))
    only i s = inl (λ due. refl)

pub entry_read : (ws : List (List ℕ)) (t : Result ℤ LineFault) (w : Result World LineFault) (e : Result (Unit {0}) LineFault)
    → IsWordRead Number (λ z. pos 0 ≤ℤ z) IsPrintable (first_of ws) t → IsWorldRead (first_of (later ws)) w → IsEndRead (later (later ws)) e
    → IsItemRead part.AnEntry (codes "w" ∷ ws) (made (λ a. line.Entry a.0 a.1.0) (both t (both w e)))
entry_read ws t w e h k l =
    item_or_lacks ⊤ part.AnEntry (codes "w" ∷ []) _ _ _ _ ws (λ u. tt) (entry_makes ws) (both t (both w e))
    (word_or_lacks ⊤ Number _ _ _ _ _ ws t (both w e) number_word (sure ⊤ Number _ _ (first_of ws) t h) (last_world (later ws) w e k l))

-- a dual
abbrev pub Three : Type 0 → Type 0 → Type 0 → Type 0
Three A B C = A × (B × (C × Unit {0}))

dual_makes : (ws : List (List ℕ)) → Makes {A = Three ℤ ℤ ℕ} part.ADual (codes "dual" ∷ []) ws (λ a. line.DualHead a.0 a.1.0 a.1.1.0) (λ a. Number a.0 ∷ Number a.1.0 ∷ count a.1.1.0 ∷ [])
    (λ a. (pos 0 ≤ℤ a.0) × (⊤ × (⊤ × ⊤))) (λ a. IsPrintable a.0 × (IsPrintable a.1.0 × ((a.1.1.0 ≤ 2 ^ 41) × ⊤)))
unfolding behind
dual_makes ws = record { words = λ a. refl; proper = λ a p. p.0; within = λ a f. (f.0, f.1.0, f.1.1.0); back = λ a w. (w.0, (w.1, (w.2, tt))); fits = λ a p due. (_, refl); only = only }
  where
    only : (i : LineItem) → IsSaid ((codes "dual" ∷ []) ++ ws) i → IsMade {A = Three ℤ ℤ ℕ} part.ADual (λ a. line.DualHead a.0 a.1.0 a.1.1.0) (λ a. (pos 0 ≤ℤ a.0) × (⊤ × (⊤ × ⊤))) i
    only (line.DualHead t h n) s = inr ((t, (h, (n, tt))), refl, (s.proper, (tt, (tt, tt))))
    only i s = inl (λ due. refl)

pub dual_read : (ws : List (List ℕ)) (t h : Result ℤ LineFault) (n : Result ℕ LineFault) (e : Result (Unit {0}) LineFault)
    → IsWordRead Number (λ z. pos 0 ≤ℤ z) IsPrintable (first_of ws) t → IsWordRead Number (λ z. ⊤) IsPrintable (first_of (later ws)) h
    → IsWordRead count (λ n. ⊤) (λ n. n ≤ 2 ^ 41) (first_of (later (later ws))) n → IsEndRead (later (later (later ws))) e
    → IsItemRead part.ADual (codes "dual" ∷ ws) (made (λ a. line.DualHead a.0 a.1.0 a.1.1.0) (both t (both h (both n e))))
dual_read ws t h n e a b c d =
    item_read part.ADual (codes "dual" ∷ []) _ _ _ _ ws (dual_makes ws) (both t (both h (both n e)))
    (word_then Number _ _ _ _ _ ws t (both h (both n e)) number_word a
    (word_then Number _ _ _ _ _ (later ws) h (both n e) number_word b (last_word count _ _ (later (later ws)) n e count_word c d)))

-- a dual's multipliers
rows_makes : (ws : List (List ℕ)) → Makes {A = List ℤ} part.SomeRows (codes "y" ∷ []) ws (λ zs. line.Rows zs) (λ zs. map Number zs) (λ zs. ⊤) AreRowsWithin
unfolding behind
rows_makes ws = record { words = λ a. refl; proper = λ a p. tt; within = λ a f. f; back = λ a w. w; fits = λ a p due. (_, refl); only = only }
  where
    only : (i : LineItem) → IsSaid ((codes "y" ∷ []) ++ ws) i → IsMade {A = List ℤ} part.SomeRows (λ zs. line.Rows zs) (λ zs. ⊤) i
    only (line.Rows zs) s = inr (zs, refl, tt)
    only i s = inl (λ due. refl)

pub rows_read : (ws : List (List ℕ)) (r : Result (List ℤ) LineFault) → AreRowsRead ws r → IsItemRead part.SomeRows (codes "y" ∷ ws) (made (λ zs. line.Rows zs) r)
rows_read ws r h = item_or_lacks ⊤ part.SomeRows (codes "y" ∷ []) _ _ _ _ ws (λ u. tt) (rows_makes ws) r h

-- a trace
abbrev pub One : Type 0 → Type 0
One A = A × Unit {0}

trace_makes : (ws : List (List ℕ)) → Makes {A = One ℕ} part.ATrace (codes "t" ∷ []) ws (λ a. line.TraceHead a.0) (λ a. count a.0 ∷ []) (λ a. ⊤ × ⊤) (λ a. (a.0 ≤ 2000001) × ⊤)
unfolding behind
trace_makes ws = record { words = λ a. refl; proper = λ a p. tt; within = λ a f. f.0; back = λ a w. (w, tt); fits = λ a p due. (_, refl); only = only }
  where
    only : (i : LineItem) → IsSaid ((codes "t" ∷ []) ++ ws) i → IsMade {A = One ℕ} part.ATrace (λ a. line.TraceHead a.0) (λ a. ⊤ × ⊤) i
    only (line.TraceHead n) s = inr ((n, tt), refl, (tt, tt))
    only i s = inl (λ due. refl)

pub trace_read : (ws : List (List ℕ)) (n : Result ℕ LineFault) (e : Result (Unit {0}) LineFault) → IsWordRead count (λ n. ⊤) (λ n. n ≤ 2000001) (first_of ws) n → IsEndRead (later ws) e
    → IsItemRead part.ATrace (codes "t" ∷ ws) (made (λ a. line.TraceHead a.0) (both n e))
trace_read ws n e h k = item_read part.ATrace (codes "t" ∷ []) _ _ _ _ ws (trace_makes ws) (both n e) (last_word count _ _ ws n e count_word h k)

-- events
pivot_makes : (ws : List (List ℕ)) → Makes {A = Two Col ℕ} part.AnEvent (codes "p" ∷ []) ws (λ a. line.PivotLine a.0 a.1.0) (λ a. Column a.0 ∷ count a.1.0 ∷ []) (λ a. ⊤ × (⊤ × ⊤)) (λ a. IsColWithin a.0 × ((a.1.0 ≤ 100) × ⊤))
unfolding behind
pivot_makes ws = record { words = λ a. refl; proper = λ a p. tt; within = λ a f. (f.0, f.1.0); back = λ a w. (w.0, (w.1, tt)); fits = λ a p due. (_, refl); only = only }
  where
    only : (i : LineItem) → IsSaid ((codes "p" ∷ []) ++ ws) i → IsMade {A = Two Col ℕ} part.AnEvent (λ a. line.PivotLine a.0 a.1.0) (λ a. ⊤ × (⊤ × ⊤)) i
    only (line.PivotLine c n) s = inr ((c, (n, tt)), refl, (tt, (tt, tt)))
    only (line.PricedLine w) s = other (codes "p") (codes "c") refl s.spelled.0
    only i s = inl (λ due. refl)

pub pivot_read : (ws : List (List ℕ)) (c : Result Col LineFault) (n : Result ℕ LineFault) (e : Result (Unit {0}) LineFault)
    → IsWordRead Column (λ c. ⊤) IsColWithin (first_of ws) c → IsWordRead count (λ n. ⊤) (λ n. n ≤ 100) (first_of (later ws)) n → IsEndRead (later (later ws)) e
    → IsItemRead part.AnEvent (codes "p" ∷ ws) (made (λ a. line.PivotLine a.0 a.1.0) (both c (both n e)))
pivot_read ws c n e h k l =
    item_read part.AnEvent (codes "p" ∷ []) _ _ _ _ ws (pivot_makes ws) (both c (both n e))
    (word_then Column _ _ _ _ _ ws c (both n e) column_word h (last_word count _ _ (later ws) n e count_word k l))

priced_makes : (ws : List (List ℕ)) → Makes {A = One World} part.AnEvent (codes "c" ∷ []) ws (λ a. line.PricedLine a.0) (λ a. Truths a.0 ∷ []) (λ a. ⊤ × ⊤) (λ a. (length a.0 ≤ 128) × ⊤)
unfolding behind
priced_makes ws = record { words = λ a. refl; proper = λ a p. tt; within = λ a f. f.0; back = λ a w. (w, tt); fits = λ a p due. (_, refl); only = only }
  where
    only : (i : LineItem) → IsSaid ((codes "c" ∷ []) ++ ws) i → IsMade {A = One World} part.AnEvent (λ a. line.PricedLine a.0) (λ a. ⊤ × ⊤) i
    only (line.PricedLine w) s = inr ((w, tt), refl, (tt, tt))
    only (line.PivotLine c n) s = other (codes "c") (codes "p") refl s.spelled.0
    only i s = inl (λ due. refl)

pub priced_read : (ws : List (List ℕ)) (w : Result World LineFault) (e : Result (Unit {0}) LineFault) → IsWorldRead (first_of ws) w → IsEndRead (later ws) e
    → IsItemRead part.AnEvent (codes "c" ∷ ws) (made (λ a. line.PricedLine a.0) (both w e))
priced_read ws w e h k = item_or_lacks ⊤ part.AnEvent (codes "c" ∷ []) _ _ _ _ ws (λ u. refl) (priced_makes ws) (both w e) (last_world ws w e h k)
