-- The kinds of lines.
use Rattle.std.proofs.Common.{◌≡◌, ℕ, ◌≤◌, ◌^◌, ℤ, pos, negsuc, ◌≤ℤ◌, Bool, List, [], ◌∷◌, ◌++◌, length, Result, Err, refl, sym, ap, subst, ◌∙◌, arith, inl, inr, to_z, of_z}
use mir.Syntax.{w128}
use Rattle.std.specs.Prelude.{⊤, codes}
use Rattle.std.proofs.lemmas.Int.{ints}
use Rattle.ps_log.specs.Spellings.{Spells}
use Rattle.ps_answer.specs.Words.{Word, Letters, Number, Truths, SpellWords}
use Rattle.ps_answer.specs.Faults.{first_of}
use Rattle.ps_answer.specs.Items.{count, IsPrintable}
use Rattle.ps_reader.specs.declared.line_fault.LineFault.{LineFault}
use Rattle.ps_reader.specs.declared.line_fault.LineFault.TheVariants.{NotCanonical}
use Rattle.ps_reader.specs.Cursor.{later}
use Rattle.ps_reader.specs.Read.{IsWordRead, both}
use Rattle.ps_reader.proofs.Sequences.{IsNeverEmpty, word_then, word_or_lacks, all_sure}
use Rattle.ps_reader.proofs.Items.{IsEndRead, One, Two, other, last_word, count_word, number_word, truths_word}
use Rattle.ps_reader.proofs.RowWords.{small_kept}
use Rattle.ps_max_text.specs.Parts.{behind}
use Rattle.ps_max_text.specs.Read.{IsSaid, IsItemRead, AreValuesRead}
use Rattle.ps_max_text.specs.declared.item.MaxItem.{MaxItem}
use Rattle.ps_max_text.specs.declared.item.MaxItem.TheVariants as line
use Rattle.ps_max_text.specs.declared.part.MaxPart.{MaxPart}
use Rattle.ps_max_text.specs.declared.part.MaxPart.TheVariants as part
use Rattle.ps_max_text.proofs.Making.{Makes, IsMade, made, item_read, item_or_lacks}

-- a line of one word behind those that it begins with
abbrev pub MakesOne : {A : Type 0} → MaxPart → List (List ℕ) → List (List ℕ) → (A → MaxItem) → (A → Word) → (A → Type 0) → (A → Type 0) → Type 0
MakesOne {A} p front ws mk v P F = Makes {A = One A} p front ws (λ a. mk a.0) (λ a. v a.0 ∷ []) (λ a. P a.0 × ⊤) (λ a. F a.0 × ⊤)

-- its word is read, and that there is no other
one_read : {A : Type 0} (p : MaxPart) (front ws ws1 : List (List ℕ)) (mk : A → MaxItem) (v : A → Word) (P F : A → Type 0) (a : List ℕ) (t : Result A LineFault) (e : Result (Unit {0}) LineFault) (r : Result (One A) LineFault)
    → MakesOne p front ws mk v P F → IsNeverEmpty v → a ≡ first_of ws → ws1 ≡ later ws → IsWordRead v P F a t → IsEndRead ws1 e → r ≡ both t e
    → IsItemRead p (front ++ ws) (made (λ a. mk a.0) r)
one_read p front ws ws1 mk v P F a t e r m n f g h k b =
    subst (λ x. IsItemRead p (front ++ ws) (made (λ a. mk a.0) x)) (sym b)
    (item_read p front _ _ _ _ ws m (both t e) (last_word v P F ws t e n (subst (λ x. IsWordRead v P F x t) f h) (subst (λ x. IsEndRead x e) g k)))

-- a line of nothing behind the words that it begins with
abbrev pub Bare : MaxPart → List (List ℕ) → List (List ℕ) → MaxItem → Type 0
Bare p front ws i = Makes {A = Unit {0}} p front ws (λ u. i) (λ u. []) (λ u. ⊤) (λ u. ⊤)

abbrev IsBareMade : MaxPart → MaxItem → MaxItem → Type 0
IsBareMade p i j = IsMade {A = Unit {0}} p (λ u. i) (λ u. ⊤) j

bare_read : (p : MaxPart) (front ws : List (List ℕ)) (i : MaxItem) (e : Result (Unit {0}) LineFault) → Bare p front ws i → IsEndRead ws e → IsItemRead p (front ++ ws) (made (λ u. i) e)
bare_read p front ws i e m h = item_read p front (λ u. i) (λ u. []) (λ u. ⊤) (λ u. ⊤) ws m e h

-- the first line
head_makes : (ws : List (List ℕ)) → MakesOne {A = Unit {0}} part.Head (codes "maxsat" ∷ []) ws (λ u. line.Head) (λ u. count 1) (λ u. ⊤) (λ u. ⊤)
unfolding behind
head_makes ws = record { words = λ a. refl; proper = λ a p. tt; within = λ a p f. tt; back = λ a p w. (tt, tt); fits = λ a due. (_, refl); only = only }
  where
    only : (i : MaxItem) → IsSaid (codes "maxsat" ∷ ws) i → IsMade {A = One (Unit {0})} part.Head (λ a. line.Head) (λ a. ⊤ × ⊤) i
    only line.Head s = inr ((tt, tt), refl, (tt, tt))
    only i s = inl (λ due. refl)

pub head_read : (ws ws1 : List (List ℕ)) (a : List ℕ) (t e : Result (Unit {0}) LineFault) (r : Result (One (Unit {0})) LineFault) → a ≡ first_of ws → ws1 ≡ later ws
    → IsWordRead {A = Unit {0}} (λ u. count 1) (λ u. ⊤) (λ u. ⊤) a t → IsEndRead ws1 e → r ≡ both t e → IsItemRead part.Head (codes "maxsat" ∷ ws) (made (λ a. line.Head) r)
head_read ws ws1 a t e r f g h k b = one_read part.Head (codes "maxsat" ∷ []) ws ws1 (λ u. line.Head) (λ u. count 1) (λ u. ⊤) (λ u. ⊤) a t e r (head_makes ws) (λ u. count_word 1) f g h k b

-- costs
abbrev pub IsAmount : ℤ → Type 0
IsAmount z = pos 0 ≤ℤ z

small_cost : (z : ℤ) → IsAmount z → IsPrintable z → z ≤ℤ pos (2 ^ 90)
small_cost z p f = omega (arith, ints, p, f)

cost_small : (z : ℤ) → IsAmount z → z ≤ℤ pos (2 ^ 90) → IsPrintable z
cost_small z p f = omega (arith, ints, p, f)

-- a cost is one of 128 bits
pub cost_kept : (z : ℤ) → IsAmount z → z ≤ℤ pos (2 ^ 90) → to_z w128 (of_z w128 z) ≡ z
cost_kept z p f = small_kept z (cost_small z p f)

-- an optimum
optimum_makes : (ws : List (List ℕ)) → MakesOne part.Answer (codes "optimum" ∷ []) ws line.Optimum Number IsAmount IsPrintable
unfolding behind
optimum_makes ws = record { words = λ a. refl; proper = λ a p. p.0; within = λ a p f. small_cost a.0 p.0 f.0; back = λ a p w. (cost_small a.0 p.0 w, tt); fits = λ a due. (_, refl); only = only }
  where
    only : (i : MaxItem) → IsSaid (codes "optimum" ∷ ws) i → IsMade {A = One ℤ} part.Answer (λ a. line.Optimum a.0) (λ a. IsAmount a.0 × ⊤) i
    only (line.Optimum c) s = inr ((c, tt), refl, (s.proper, tt))
    only line.Unsatisfiable s = other (codes "optimum") (codes "unsatisfiable") refl s.spelled.0
    only (line.OpenConflicts l n) s = other (codes "optimum") (codes "open") refl s.spelled.0
    only i s = inl (λ due. refl)

pub optimum_read : (ws ws1 : List (List ℕ)) (a : List ℕ) (t : Result ℤ LineFault) (e : Result (Unit {0}) LineFault) (r : Result (One ℤ) LineFault) → a ≡ first_of ws → ws1 ≡ later ws
    → IsWordRead Number IsAmount IsPrintable a t → IsEndRead ws1 e → r ≡ both t e → IsItemRead part.Answer (codes "optimum" ∷ ws) (made (λ a. line.Optimum a.0) r)
optimum_read ws ws1 a t e r f g h k b = one_read part.Answer (codes "optimum" ∷ []) ws ws1 line.Optimum Number IsAmount IsPrintable a t e r (optimum_makes ws) number_word f g h k b

-- that no assignment is allowed
unsatisfiable_makes : (ws : List (List ℕ)) → Bare part.Answer (codes "unsatisfiable" ∷ []) ws line.Unsatisfiable
unfolding behind
unsatisfiable_makes ws = record { words = λ a. refl; proper = λ a p. tt; within = λ a p f. tt; back = λ a p w. tt; fits = λ a due. (_, refl); only = only }
  where
    only : (i : MaxItem) → IsSaid (codes "unsatisfiable" ∷ ws) i → IsBareMade part.Answer line.Unsatisfiable i
    only line.Unsatisfiable s = inr (tt, refl, tt)
    only (line.Optimum c) s = other (codes "unsatisfiable") (codes "optimum") refl s.spelled.0
    only (line.OpenConflicts l n) s = other (codes "unsatisfiable") (codes "open") refl s.spelled.0
    only i s = inl (λ due. refl)

pub unsatisfiable_read : (ws : List (List ℕ)) (e : Result (Unit {0}) LineFault) → IsEndRead ws e → IsItemRead part.Answer (codes "unsatisfiable" ∷ ws) (made (λ u. line.Unsatisfiable) e)
unsatisfiable_read ws e h = bare_read part.Answer (codes "unsatisfiable" ∷ []) ws line.Unsatisfiable e (unsatisfiable_makes ws) h

-- what is open for conflicts
open_makes : (ws : List (List ℕ)) → Makes {A = Two ℕ ℕ} part.Answer (codes "open" ∷ codes "conflicts" ∷ []) ws (λ a. line.OpenConflicts a.0 a.1.0) (λ a. count a.0 ∷ count a.1.0 ∷ [])
    (λ a. ⊤ × (⊤ × ⊤)) (λ a. (a.0 ≤ 2 ^ 40) × ((a.1.0 ≤ 2 ^ 41) × ⊤))
unfolding behind
open_makes ws = record { words = λ a. refl; proper = λ a p. tt; within = λ a p f. (f.0, f.1.0); back = λ a p w. (w.0, (w.1, tt)); fits = λ a due. (_, refl); only = only }
  where
    only : (i : MaxItem) → IsSaid (codes "open" ∷ codes "conflicts" ∷ ws) i → IsMade {A = Two ℕ ℕ} part.Answer (λ a. line.OpenConflicts a.0 a.1.0) (λ a. ⊤ × (⊤ × ⊤)) i
    only (line.OpenConflicts l n) s = inr ((l, (n, tt)), refl, (tt, (tt, tt)))
    only (line.Optimum c) s = other (codes "open") (codes "optimum") refl s.spelled.0
    only line.Unsatisfiable s = other (codes "open") (codes "unsatisfiable") refl s.spelled.0
    only i s = inl (λ due. refl)

pub open_read : (ws ws1 ws2 : List (List ℕ)) (a b : List ℕ) (t u : Result ℕ LineFault) (e : Result (Unit {0}) LineFault) (r : Result (Two ℕ ℕ) LineFault)
    → a ≡ first_of ws → ws1 ≡ later ws → b ≡ first_of ws1 → ws2 ≡ later ws1
    → IsWordRead count (λ n. ⊤) (λ n. n ≤ 2 ^ 40) a t → IsWordRead count (λ n. ⊤) (λ n. n ≤ 2 ^ 41) b u → IsEndRead ws2 e → r ≡ both t (both u e)
    → IsItemRead part.Answer (codes "open" ∷ codes "conflicts" ∷ ws) (made (λ a. line.OpenConflicts a.0 a.1.0) r)
open_read ws ws1 ws2 a b t u e r f g h k x y z q =
    subst (λ x. IsItemRead part.Answer (codes "open" ∷ codes "conflicts" ∷ ws) (made (λ a. line.OpenConflicts a.0 a.1.0) x)) (sym q)
    (item_read part.Answer (codes "open" ∷ codes "conflicts" ∷ []) _ _ _ _ ws (open_makes ws) (both t (both u e))
    (word_then count _ _ _ _ _ ws t (both u e) count_word (subst (λ z. IsWordRead count (λ n. ⊤) (λ n. n ≤ 2 ^ 40) z t) f x)
    (last_word count _ _ (later ws) u e count_word (subst (λ z. IsWordRead count (λ n. ⊤) (λ n. n ≤ 2 ^ 41) z u) (h ∙ ap first_of g) y) (subst (λ z. IsEndRead z e) (k ∙ ap later g) z))))

pub no_open : (ws : List (List ℕ)) → (first_of ws ≡ codes "conflicts" → ⊥) → IsItemRead part.Answer (codes "open" ∷ ws) (Err NotCanonical)
unfolding behind
no_open [] n (line.OpenConflicts l c) s = absurd s.spelled.1
no_open (w ∷ ws) n (line.OpenConflicts l c) s = absurd (n s.spelled.1.0)
no_open ws n (line.Optimum c) s = other (codes "open") (codes "optimum") refl s.spelled.0
no_open ws n line.Unsatisfiable s = other (codes "open") (codes "unsatisfiable") refl s.spelled.0
no_open ws n i s = λ due. refl

-- values
values_makes : (ws : List (List ℕ)) → MakesOne {A = List Bool} part.Values (codes "v" ∷ []) ws (λ w. line.Values w) (λ w. Truths w) (λ w. ⊤) (λ w. length w ≤ 1024)
unfolding behind
values_makes ws = record { words = λ a. refl; proper = λ a p. tt; within = λ a p f. f.0; back = λ a p w. (w, tt); fits = λ a due. (_, refl); only = only }
  where
    only : (i : MaxItem) → IsSaid (codes "v" ∷ ws) i → IsMade {A = One (List Bool)} part.Values (λ a. line.Values a.0) (λ a. ⊤ × ⊤) i
    only (line.Values w) s = inr ((w, tt), refl, (tt, tt))
    only i s = inl (λ due. refl)

pub values_read : (ws ws1 : List (List ℕ)) (a : List ℕ) (t : Result (List Bool) LineFault) (e : Result (Unit {0}) LineFault) (r : Result (One (List Bool)) LineFault) → a ≡ first_of ws → ws1 ≡ later ws
    → AreValuesRead a t → IsEndRead ws1 e → r ≡ both t e → IsItemRead part.Values (codes "v" ∷ ws) (made (λ a. line.Values a.0) r)
values_read ws ws1 a t e r f g h k b =
    subst (λ x. IsItemRead part.Values (codes "v" ∷ ws) (made (λ a. line.Values a.0) x)) (sym b)
    (item_or_lacks ⊤ part.Values (codes "v" ∷ []) _ _ _ _ ws (λ u. tt) (values_makes ws) (both t e)
    (word_or_lacks ⊤ Truths (λ w. ⊤) (λ w. length w ≤ 1024) (λ u. []) (λ u. ⊤) (λ u. ⊤) ws t e truths_word (subst (λ x. AreValuesRead x t) f h)
    (all_sure ⊤ (λ u. []) (λ u. ⊤) (λ u. ⊤) (later ws) e (subst (λ x. IsEndRead x e) g k))))

-- how many steps there are
log_makes : (ws : List (List ℕ)) → MakesOne part.Log (codes "log" ∷ []) ws line.LogHead count (λ n. ⊤) (λ n. n ≤ 2 ^ 41)
unfolding behind
log_makes ws = record { words = λ a. refl; proper = λ a p. tt; within = λ a p f. f.0; back = λ a p w. (w, tt); fits = λ a due. (_, refl); only = only }
  where
    only : (i : MaxItem) → IsSaid (codes "log" ∷ ws) i → IsMade {A = One ℕ} part.Log (λ a. line.LogHead a.0) (λ a. ⊤ × ⊤) i
    only (line.LogHead n) s = inr ((n, tt), refl, (tt, tt))
    only i s = inl (λ due. refl)

pub log_read : (ws ws1 : List (List ℕ)) (a : List ℕ) (t : Result ℕ LineFault) (e : Result (Unit {0}) LineFault) (r : Result (One ℕ) LineFault) → a ≡ first_of ws → ws1 ≡ later ws
    → IsWordRead count (λ n. ⊤) (λ n. n ≤ 2 ^ 41) a t → IsEndRead ws1 e → r ≡ both t e → IsItemRead part.Log (codes "log" ∷ ws) (made (λ a. line.LogHead a.0) r)
log_read ws ws1 a t e r f g h k b = one_read part.Log (codes "log" ∷ []) ws ws1 line.LogHead count (λ n. ⊤) (λ n. n ≤ 2 ^ 41) a t e r (log_makes ws) count_word f g h k b

-- the best assignment so far, or that there is none
no_number : (z : ℤ) → Spells (codes "none") z → ⊥
no_number (pos n) s = omega (arith, s.plain.digits.1.0)
no_number (negsuc n) s = omega (arith, s.0)

no_none : {P : Type 0} (ws : List (List ℕ)) → (first_of ws ≡ codes "none" → ⊥) → SpellWords ws (Letters (codes "none") ∷ []) → P
no_none [] n s = absurd s
no_none (w ∷ ws) n s = absurd (n s.0)

best_makes : (ws : List (List ℕ)) → (first_of ws ≡ codes "none" → ⊥) → MakesOne part.Best (codes "best" ∷ []) ws line.Best Number IsAmount IsPrintable
unfolding behind
best_makes ws n = record { words = λ a. refl; proper = λ a p. p.0; within = λ a p f. small_cost a.0 p.0 f.0; back = λ a p w. (cost_small a.0 p.0 w, tt); fits = λ a due. (_, refl); only = only }
  where
    only : (i : MaxItem) → IsSaid (codes "best" ∷ ws) i → IsMade {A = One ℤ} part.Best (λ a. line.Best a.0) (λ a. IsAmount a.0 × ⊤) i
    only (line.Best c) s = inr ((c, tt), refl, (s.proper, tt))
    only line.NoBest s = no_none ws n s.spelled.1
    only i s = inl (λ due. refl)

pub best_read : (ws ws1 : List (List ℕ)) (a : List ℕ) (t : Result ℤ LineFault) (e : Result (Unit {0}) LineFault) (r : Result (One ℤ) LineFault) → (first_of ws ≡ codes "none" → ⊥) → a ≡ first_of ws → ws1 ≡ later ws
    → IsWordRead Number IsAmount IsPrintable a t → IsEndRead ws1 e → r ≡ both t e → IsItemRead part.Best (codes "best" ∷ ws) (made (λ a. line.Best a.0) r)
best_read ws ws1 a t e r n f g h k b = one_read part.Best (codes "best" ∷ []) ws ws1 line.Best Number IsAmount IsPrintable a t e r (best_makes ws n) number_word f g h k b

none_makes : (ws : List (List ℕ)) → Bare part.Best (codes "best" ∷ codes "none" ∷ []) ws line.NoBest
unfolding behind
none_makes ws = record { words = λ a. refl; proper = λ a p. tt; within = λ a p f. tt; back = λ a p w. tt; fits = λ a due. (_, refl); only = only }
  where
    only : (i : MaxItem) → IsSaid (codes "best" ∷ codes "none" ∷ ws) i → IsBareMade part.Best line.NoBest i
    only line.NoBest s = inr (tt, refl, tt)
    only (line.Best c) s = absurd (no_number c s.spelled.1.0)
    only i s = inl (λ due. refl)

pub none_read : (ws : List (List ℕ)) (e : Result (Unit {0}) LineFault) → IsEndRead ws e → IsItemRead part.Best (codes "best" ∷ codes "none" ∷ ws) (made (λ u. line.NoBest) e)
none_read ws e h = bare_read part.Best (codes "best" ∷ codes "none" ∷ []) ws line.NoBest e (none_makes ws) h

-- the end
end_makes : (ws : List (List ℕ)) → Bare part.End (codes "end" ∷ []) ws line.End
unfolding behind
end_makes ws = record { words = λ a. refl; proper = λ a p. tt; within = λ a p f. tt; back = λ a p w. tt; fits = λ a due. (_, refl); only = only }
  where
    only : (i : MaxItem) → IsSaid (codes "end" ∷ ws) i → IsBareMade part.End line.End i
    only line.End s = inr (tt, refl, tt)
    only i s = inl (λ due. refl)

pub end_read : (ws : List (List ℕ)) (e : Result (Unit {0}) LineFault) → IsEndRead ws e → IsItemRead part.End (codes "end" ∷ ws) (made (λ u. line.End) e)
end_read ws e h = bare_read part.End (codes "end" ∷ []) ws line.End e (end_makes ws) h
