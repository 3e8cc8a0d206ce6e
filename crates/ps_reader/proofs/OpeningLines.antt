-- Lines of verdicts, queries and sides.
use Rattle.std.proofs.Common.{◌≡◌, ℕ, suc, ◌==◌, ◌≤◌, ◌^◌, pos, ◌≤ℤ◌, Bool, true, false, ◌||◌, List, [], ◌∷◌, Some, None, Result, Ok, Err, refl, sym, ap, subst, ◌∙◌, true≢false, inl, inr}
use Rattle.std.specs.Prelude.{⊤, codes, bytes_eq, if◌then◌else◌}
use Rattle.std.specs.List.{list_any}
use Rattle.std.proofs.lemmas.Slice.Eq.{bytes_eq-Decides}
use Rattle.std.proofs.lemmas.Bool.{eqb-true}
use Rattle.std.proofs.lemmas.Option.{none-some}
use Rattle.ps_answer.proofs.Dues.{same_number}
use Rattle.ps_answer.specs.Words.{Fraction, side_letters, SpellWords}
use Rattle.ps_answer.specs.declared.item.LineItem.{LineItem}
use Rattle.ps_answer.specs.declared.item.LineItem.TheVariants as line
use Rattle.ps_answer.specs.declared.item.Ratio.{Ratio}
use Rattle.ps_answer.specs.declared.part.Part.{Part}
use Rattle.ps_answer.specs.declared.part.Part.TheVariants as part
use Rattle.ps_answer.specs.Faults.{first_of}
use Rattle.ps_answer.specs.Items.{count, IsReducedWithin, IsRatioWithin}
use Rattle.ps_answer.specs.ExpectedParts.{behind}
use Rattle.ps_reader.specs.declared.line_fault.LineFault.{LineFault}
use Rattle.ps_reader.specs.declared.line_fault.LineFault.TheVariants.{NotCanonical, TooLarge, NoMemory}
use Rattle.ps_reader.specs.Cursor.{later}
use Rattle.ps_reader.specs.Read.{IsWordRead, both, Fits, FitsNot, IsSaid, IsItemRead}
use Rattle.ps_reader.proofs.Sequences.{Makes, IsMade, item_read, made}
use Rattle.ps_reader.proofs.Items.{other, IsEndRead, One, last_word, count_word, fraction_word}

-- a line of one word
abbrev pub Bare : Part → List ℕ → LineItem → List (List ℕ) → Type 0
Bare p w i ws = Makes {A = Unit {0}} p (w ∷ []) ws (λ u. i) (λ u. []) (λ u. ⊤) (λ u. ⊤)

abbrev pub IsBareMade : Part → LineItem → LineItem → Type 0
IsBareMade p i j = IsMade {A = Unit {0}} p (λ u. i) (λ u. ⊤) j

bare_read : (p : Part) (w : List ℕ) (i : LineItem) (ws : List (List ℕ)) (e : Result (Unit {0}) LineFault) → Bare p w i ws → IsEndRead ws e → IsItemRead p (w ∷ ws) (made (λ u. i) e)
bare_read p w i ws e m h = item_read p (w ∷ []) (λ u. i) (λ u. []) (λ u. ⊤) (λ u. ⊤) ws m e h

-- verdicts
consistent_makes : (ws : List (List ℕ)) → Bare part.AVerdict (codes "consistent") line.Consistent ws
unfolding behind
consistent_makes ws = record { words = λ a. refl; proper = λ a p. tt; within = λ a f. tt; back = λ a w. tt; fits = λ a p due. (_, refl); only = only }
  where
    only : (i : LineItem) → IsSaid (codes "consistent" ∷ ws) i → IsBareMade part.AVerdict line.Consistent i
    only line.Consistent s = inr (tt, refl, tt)
    only line.Inconsistent s = other (codes "consistent") (codes "inconsistent") refl s.spelled.0
    only (line.OpenPivots n) s = other (codes "consistent") (codes "open") refl s.spelled.0
    only (line.OpenConflicts n) s = other (codes "consistent") (codes "open") refl s.spelled.0
    only (line.OpenWide at o l r) s = other (codes "consistent") (codes "open") refl s.spelled.0
    only i s = inl (λ due. refl)

pub consistent_read : (ws : List (List ℕ)) (e : Result (Unit {0}) LineFault) → IsEndRead ws e → IsItemRead part.AVerdict (codes "consistent" ∷ ws) (made (λ u. line.Consistent) e)
consistent_read ws e h = bare_read part.AVerdict (codes "consistent") line.Consistent ws e (consistent_makes ws) h

inconsistent_makes : (ws : List (List ℕ)) → Bare part.AVerdict (codes "inconsistent") line.Inconsistent ws
unfolding behind
inconsistent_makes ws = record { words = λ a. refl; proper = λ a p. tt; within = λ a f. tt; back = λ a w. tt; fits = λ a p due. (_, refl); only = only }
  where
    only : (i : LineItem) → IsSaid (codes "inconsistent" ∷ ws) i → IsBareMade part.AVerdict line.Inconsistent i
    only line.Inconsistent s = inr (tt, refl, tt)
    only line.Consistent s = other (codes "inconsistent") (codes "consistent") refl s.spelled.0
    only (line.OpenPivots n) s = other (codes "inconsistent") (codes "open") refl s.spelled.0
    only (line.OpenConflicts n) s = other (codes "inconsistent") (codes "open") refl s.spelled.0
    only (line.OpenWide at o l r) s = other (codes "inconsistent") (codes "open") refl s.spelled.0
    only i s = inl (λ due. refl)

pub inconsistent_read : (ws : List (List ℕ)) (e : Result (Unit {0}) LineFault) → IsEndRead ws e → IsItemRead part.AVerdict (codes "inconsistent" ∷ ws) (made (λ u. line.Inconsistent) e)
inconsistent_read ws e h = bare_read part.AVerdict (codes "inconsistent") line.Inconsistent ws e (inconsistent_makes ws) h

-- answers to queries
bounds_makes : (ws : List (List ℕ)) → Bare part.AnAnswer (codes "bounds") line.Bounds ws
unfolding behind
bounds_makes ws = record { words = λ a. refl; proper = λ a p. tt; within = λ a f. tt; back = λ a w. tt; fits = λ a p due. (_, refl); only = only }
  where
    only : (i : LineItem) → IsSaid (codes "bounds" ∷ ws) i → IsBareMade part.AnAnswer line.Bounds i
    only line.Bounds s = inr (tt, refl, tt)
    only line.Impossible s = other (codes "bounds") (codes "impossible") refl s.spelled.0
    only (line.OpenPivots n) s = other (codes "bounds") (codes "open") refl s.spelled.0
    only (line.OpenConflicts n) s = other (codes "bounds") (codes "open") refl s.spelled.0
    only (line.OpenWide at o l r) s = other (codes "bounds") (codes "open") refl s.spelled.0
    only i s = inl (λ due. refl)

pub bounds_read : (ws : List (List ℕ)) (e : Result (Unit {0}) LineFault) → IsEndRead ws e → IsItemRead part.AnAnswer (codes "bounds" ∷ ws) (made (λ u. line.Bounds) e)
bounds_read ws e h = bare_read part.AnAnswer (codes "bounds") line.Bounds ws e (bounds_makes ws) h

impossible_makes : (ws : List (List ℕ)) → Bare part.AnAnswer (codes "impossible") line.Impossible ws
unfolding behind
impossible_makes ws = record { words = λ a. refl; proper = λ a p. tt; within = λ a f. tt; back = λ a w. tt; fits = λ a p due. (_, refl); only = only }
  where
    only : (i : LineItem) → IsSaid (codes "impossible" ∷ ws) i → IsBareMade part.AnAnswer line.Impossible i
    only line.Impossible s = inr (tt, refl, tt)
    only line.Bounds s = other (codes "impossible") (codes "bounds") refl s.spelled.0
    only (line.OpenPivots n) s = other (codes "impossible") (codes "open") refl s.spelled.0
    only (line.OpenConflicts n) s = other (codes "impossible") (codes "open") refl s.spelled.0
    only (line.OpenWide at o l r) s = other (codes "impossible") (codes "open") refl s.spelled.0
    only i s = inl (λ due. refl)

pub impossible_read : (ws : List (List ℕ)) (e : Result (Unit {0}) LineFault) → IsEndRead ws e → IsItemRead part.AnAnswer (codes "impossible" ∷ ws) (made (λ u. line.Impossible) e)
impossible_read ws e h = bare_read part.AnAnswer (codes "impossible") line.Impossible ws e (impossible_makes ws) h

-- the end
end_makes : (j : ℕ) (ws : List (List ℕ)) → Bare (part.AQuery j) (codes "end") line.End ws
unfolding behind
end_makes j ws = record { words = λ a. refl; proper = λ a p. tt; within = λ a f. tt; back = λ a w. tt; fits = λ a p due. (_, refl); only = only }
  where
    only : (i : LineItem) → IsSaid (codes "end" ∷ ws) i → IsBareMade (part.AQuery j) line.End i
    only line.End s = inr (tt, refl, tt)
    only (line.Query n) s = other (codes "end") (codes "query") refl s.spelled.0
    only i s = inl (λ due. refl)

pub end_read : (j : ℕ) (ws : List (List ℕ)) (e : Result (Unit {0}) LineFault) → IsEndRead ws e → IsItemRead (part.AQuery j) (codes "end" ∷ ws) (made (λ u. line.End) e)
end_read j ws e h = bare_read (part.AQuery j) (codes "end") line.End ws e (end_makes j ws) h

-- a query, by its number
query_makes : (j : ℕ) (ws : List (List ℕ)) → Makes {A = One ℕ} (part.AQuery j) (codes "query" ∷ []) ws (λ a. line.Query a.0) (λ a. count a.0 ∷ []) (λ a. (a.0 ≡ j) × ⊤) (λ a. (a.0 ≤ 16) × ⊤)
unfolding behind
query_makes j ws = record { words = λ a. refl; proper = λ a p. tt; within = λ a f. f.0; back = λ a w. (w, tt); fits = λ a p due. fit a.0 p.0 due; only = only }
  where
    fit : (n : ℕ) → n ≡ j → (due : List Part) → (next : List Part) × (behind (part.AQuery j) (line.Query n) due ≡ Some next)
    fit n e due = (part.AnAnswer ∷ part.AQuery (suc j) ∷ due, ap (λ t. if t then Some (part.AnAnswer ∷ part.AQuery (suc j) ∷ due) else None) (ap (λ m. m == j) e ∙ same_number j))

    by : (n : ℕ) (t : Bool) → (n == j) ≡ t → IsMade {A = One ℕ} (part.AQuery j) (λ a. line.Query a.0) (λ a. (a.0 ≡ j) × ⊤) (line.Query n)
    by n true e = inr ((n, tt), refl, (eqb-true n j e, tt))
    by n false e = inl (λ due. ap (λ t. if t then Some (part.AnAnswer ∷ part.AQuery (suc j) ∷ due) else None) e)

    only : (i : LineItem) → IsSaid (codes "query" ∷ ws) i → IsMade {A = One ℕ} (part.AQuery j) (λ a. line.Query a.0) (λ a. (a.0 ≡ j) × ⊤) i
    only (line.Query n) s = by n (n == j) refl
    only line.End s = other (codes "query") (codes "end") refl s.spelled.0
    only i s = inl (λ due. refl)

pub query_read : (j : ℕ) (ws : List (List ℕ)) (n : Result ℕ LineFault) (e : Result (Unit {0}) LineFault) → IsWordRead count (λ n. n ≡ j) (λ n. n ≤ 16) (first_of ws) n → IsEndRead (later ws) e
    → IsItemRead (part.AQuery j) (codes "query" ∷ ws) (made (λ a. line.Query a.0) (both n e))
query_read j ws n e h k = item_read (part.AQuery j) (codes "query" ∷ []) _ _ _ _ ws (query_makes j ws) (both n e) (last_word count _ _ ws n e count_word h k)

-- a side's value
abbrev pub IsValueProper : Ratio → Type 0
IsValueProper q = (pos 0 ≤ℤ q.over) × IsReducedWithin (2 ^ 90) q

unspelled : {P : Type 0} (ws : List (List ℕ)) → (ws ≡ [] → ⊥) → SpellWords ws [] → P
unspelled [] n s = absurd (n refl)
unspelled (w ∷ ws) n s = absurd s

value_makes : (u : Bool) (ws : List (List ℕ)) → (ws ≡ [] → ⊥) → Makes {A = One Ratio} (part.ASide u) (side_letters u ∷ []) ws (λ a. line.Bound u a.0) (λ a. Fraction a.0 ∷ []) (λ a. IsValueProper a.0 × ⊤) (λ a. IsRatioWithin (2 ^ 90) a.0 × ⊤)
unfolding behind
value_makes false ws n = record { words = λ a. refl; proper = λ a p. p.0; within = λ a f. f.0; back = λ a w. (w, tt); fits = λ a p due. (_, refl); only = only }
  where
    only : (i : LineItem) → IsSaid (codes "lower" ∷ ws) i → IsMade {A = One Ratio} (part.ASide false) (λ a. line.Bound false a.0) (λ a. IsValueProper a.0 × ⊤) i
    only (line.Bound false q) s = inr ((q, tt), refl, (s.proper, tt))
    only (line.OpenSide false) s = unspelled ws n s.spelled.1
    only i s = inl (λ due. refl)
value_makes true ws n = record { words = λ a. refl; proper = λ a p. p.0; within = λ a f. f.0; back = λ a w. (w, tt); fits = λ a p due. (_, refl); only = only }
  where
    only : (i : LineItem) → IsSaid (codes "upper" ∷ ws) i → IsMade {A = One Ratio} (part.ASide true) (λ a. line.Bound true a.0) (λ a. IsValueProper a.0 × ⊤) i
    only (line.Bound true q) s = inr ((q, tt), refl, (s.proper, tt))
    only (line.OpenSide true) s = unspelled ws n s.spelled.1
    only i s = inl (λ due. refl)

pub value_read : (u : Bool) (ws : List (List ℕ)) (q : Result Ratio LineFault) (e : Result (Unit {0}) LineFault) → (ws ≡ [] → ⊥) → IsWordRead Fraction IsValueProper (IsRatioWithin (2 ^ 90)) (first_of ws) q → IsEndRead (later ws) e
    → IsItemRead (part.ASide u) (side_letters u ∷ ws) (made (λ a. line.Bound u a.0) (both q e))
value_read u ws q e n h k = item_read (part.ASide u) (side_letters u ∷ []) _ _ _ _ ws (value_makes u ws n) (both q e) (last_word Fraction _ _ ws q e fraction_word h k)

-- an open side
pub open_side_read : (u : Bool) (ws : List (List ℕ)) → ws ≡ [] → IsItemRead (part.ASide u) (side_letters u ∷ ws) (Ok (line.OpenSide u))
unfolding behind
open_side_read false ws e = (record { spelled = (refl, subst (λ l. SpellWords l []) (sym e) tt); proper = tt }, tt, λ due. (_, refl))
open_side_read true ws e = (record { spelled = (refl, subst (λ l. SpellWords l []) (sym e) tt); proper = tt }, tt, λ due. (_, refl))

-- causes
pivots_makes : (ws : List (List ℕ)) → Makes {A = One ℕ} part.ACause (codes "open" ∷ codes "pivots" ∷ []) ws (λ a. line.OpenPivots a.0) (λ a. count a.0 ∷ []) (λ a. ⊤ × ⊤) (λ a. (a.0 ≤ 1000000) × ⊤)
unfolding behind
pivots_makes ws = record { words = λ a. refl; proper = λ a p. tt; within = λ a f. f.0; back = λ a w. (w, tt); fits = λ a p due. (_, refl); only = only }
  where
    only : (i : LineItem) → IsSaid (codes "open" ∷ codes "pivots" ∷ ws) i → IsMade {A = One ℕ} part.ACause (λ a. line.OpenPivots a.0) (λ a. ⊤ × ⊤) i
    only (line.OpenPivots n) s = inr ((n, tt), refl, (tt, tt))
    only (line.OpenConflicts n) s = other (codes "pivots") (codes "conflicts") refl s.spelled.1.0
    only (line.OpenWide at o l r) s = other (codes "pivots") (codes "wide") refl s.spelled.1.0
    only i s = inl (λ due. refl)

pub pivots_read : (ws : List (List ℕ)) (n : Result ℕ LineFault) (e : Result (Unit {0}) LineFault) → IsWordRead count (λ n. ⊤) (λ n. n ≤ 1000000) (first_of ws) n → IsEndRead (later ws) e
    → IsItemRead part.ACause (codes "open" ∷ codes "pivots" ∷ ws) (made (λ a. line.OpenPivots a.0) (both n e))
pivots_read ws n e h k = item_read part.ACause (codes "open" ∷ codes "pivots" ∷ []) _ _ _ _ ws (pivots_makes ws) (both n e) (last_word count _ _ ws n e count_word h k)

conflicts_makes : (ws : List (List ℕ)) → Makes {A = One ℕ} part.ACause (codes "open" ∷ codes "conflicts" ∷ []) ws (λ a. line.OpenConflicts a.0) (λ a. count a.0 ∷ []) (λ a. ⊤ × ⊤) (λ a. (a.0 ≤ 2 ^ 40) × ⊤)
unfolding behind
conflicts_makes ws = record { words = λ a. refl; proper = λ a p. tt; within = λ a f. f.0; back = λ a w. (w, tt); fits = λ a p due. (_, refl); only = only }
  where
    only : (i : LineItem) → IsSaid (codes "open" ∷ codes "conflicts" ∷ ws) i → IsMade {A = One ℕ} part.ACause (λ a. line.OpenConflicts a.0) (λ a. ⊤ × ⊤) i
    only (line.OpenConflicts n) s = inr ((n, tt), refl, (tt, tt))
    only (line.OpenPivots n) s = other (codes "conflicts") (codes "pivots") refl s.spelled.1.0
    only (line.OpenWide at o l r) s = other (codes "conflicts") (codes "wide") refl s.spelled.1.0
    only i s = inl (λ due. refl)

pub conflicts_read : (ws : List (List ℕ)) (n : Result ℕ LineFault) (e : Result (Unit {0}) LineFault) → IsWordRead count (λ n. ⊤) (λ n. n ≤ 2 ^ 40) (first_of ws) n → IsEndRead (later ws) e
    → IsItemRead part.ACause (codes "open" ∷ codes "conflicts" ∷ ws) (made (λ a. line.OpenConflicts a.0) (both n e))
conflicts_read ws n e h k = item_read part.ACause (codes "open" ∷ codes "conflicts" ∷ []) _ _ _ _ ws (conflicts_makes ws) (both n e) (last_word count _ _ ws n e count_word h k)

-- the words of a line, by its first
pub begins : (ws : List (List ℕ)) (w : List ℕ) → first_of ws ≡ w → (w ≡ [] → ⊥) → ws ≡ w ∷ later ws
begins [] w e n = absurd (n (sym e))
begins (v ∷ ws) w e n = ap (λ x. x ∷ ws) e

-- a cause that is none of the three
pub no_cause : (ws : List (List ℕ)) → (first_of ws ≡ codes "pivots" → ⊥) → (first_of ws ≡ codes "conflicts" → ⊥) → (first_of ws ≡ codes "wide" → ⊥) → IsItemRead part.ACause (codes "open" ∷ ws) (Err NotCanonical)
unfolding behind
no_cause [] a b c (line.OpenPivots n) s = absurd s.spelled.1
no_cause [] a b c (line.OpenConflicts n) s = absurd s.spelled.1
no_cause [] a b c (line.OpenWide at o l r) s = absurd s.spelled.1
no_cause (w ∷ ws) a b c (line.OpenPivots n) s = absurd (a s.spelled.1.0)
no_cause (w ∷ ws) a b c (line.OpenConflicts n) s = absurd (b s.spelled.1.0)
no_cause (w ∷ ws) a b c (line.OpenWide at o l r) s = absurd (c s.spelled.1.0)
no_cause ws a b c i s = λ due. refl

-- a cause where a verdict is due, or an answer
cause_fits : (i : LineItem) → Fits part.ACause i → Fits part.AVerdict i × Fits part.AnAnswer i
unfolding behind
cause_fits (line.OpenPivots n) f = (λ due. (_, refl), λ due. (_, refl))
cause_fits (line.OpenConflicts n) f = (λ due. (_, refl), λ due. (_, refl))
cause_fits (line.OpenWide at o l r) f = (λ due. (_, refl), λ due. (_, refl))
cause_fits i f = absurd (none-some _ (f []).1)

no_verdict : (ws : List (List ℕ)) (i : LineItem) → IsSaid (codes "open" ∷ ws) i → FitsNot part.ACause i → FitsNot part.AVerdict i
unfolding behind
no_verdict ws line.Consistent s n = other (codes "open") (codes "consistent") refl s.spelled.0
no_verdict ws line.Inconsistent s n = other (codes "open") (codes "inconsistent") refl s.spelled.0
no_verdict ws i s n = n

no_answer : (ws : List (List ℕ)) (i : LineItem) → IsSaid (codes "open" ∷ ws) i → FitsNot part.ACause i → FitsNot part.AnAnswer i
unfolding behind
no_answer ws line.Bounds s n = other (codes "open") (codes "bounds") refl s.spelled.0
no_answer ws line.Impossible s n = other (codes "open") (codes "impossible") refl s.spelled.0
no_answer ws i s n = λ due. n (part.ATrace ∷ due)

pub cause_verdict : (ws : List (List ℕ)) (r : Result LineItem LineFault) → IsItemRead part.ACause (codes "open" ∷ ws) r → IsItemRead part.AVerdict (codes "open" ∷ ws) r
cause_verdict ws (Ok i) h = (h.0, h.1, (cause_fits i h.2).0)
cause_verdict ws (Err NotCanonical) h = λ i s. no_verdict ws i s (h i s)
cause_verdict ws (Err TooLarge) h = (h.0, h.1, (cause_fits h.0 h.2).0, h.3)
cause_verdict ws (Err NoMemory) h = h

pub cause_answer : (ws : List (List ℕ)) (r : Result LineItem LineFault) → IsItemRead part.ACause (codes "open" ∷ ws) r → IsItemRead part.AnAnswer (codes "open" ∷ ws) r
cause_answer ws (Ok i) h = (h.0, h.1, (cause_fits i h.2).1)
cause_answer ws (Err NotCanonical) h = λ i s. no_answer ws i s (h i s)
cause_answer ws (Err TooLarge) h = (h.0, h.1, (cause_fits h.0 h.2).1, h.3)
cause_answer ws (Err NoMemory) h = h

-- a word that is due, by elimination
one_of : (w a : List ℕ) (rest : List (List ℕ)) → list_any (λ v. bytes_eq w v) (a ∷ rest) ≡ true → (w ≡ a → ⊥) → list_any (λ v. bytes_eq w v) rest ≡ true
one_of w a rest e n = by (bytes_eq w a) refl e
  where
    by : (t : Bool) → bytes_eq w a ≡ t → (t || list_any (λ v. bytes_eq w v) rest) ≡ true → list_any (λ v. bytes_eq w v) rest ≡ true
    by true f e = absurd (n ((bytes_eq-Decides w a).0 f))
    by false f e = e

pub only_word : (w a : List ℕ) → list_any (λ v. bytes_eq w v) (a ∷ []) ≡ true → w ≡ a
only_word w a e = by (bytes_eq w a) refl e
  where
    by : (t : Bool) → bytes_eq w a ≡ t → (t || false) ≡ true → w ≡ a
    by true f e = (bytes_eq-Decides w a).0 f
    by false f e = absurd (true≢false (sym e))

pub second_word : (w a b : List ℕ) → list_any (λ v. bytes_eq w v) (a ∷ b ∷ []) ≡ true → (w ≡ a → ⊥) → w ≡ b
second_word w a b e n = only_word w b (one_of w a (b ∷ []) e n)

pub third_word : (w a b c : List ℕ) → list_any (λ v. bytes_eq w v) (a ∷ b ∷ c ∷ []) ≡ true → (w ≡ a → ⊥) → (w ≡ b → ⊥) → w ≡ c
third_word w a b c e n m = second_word w b c (one_of w a (b ∷ c ∷ []) e n) m

-- a side's value, word by word
pub value_item : (u : Bool) (ws ws1 : List (List ℕ)) (a : List ℕ) (t : Result Ratio LineFault) (e : Result (Unit {0}) LineFault) (r : Result (Ratio × Unit {0}) LineFault) → (ws ≡ [] → ⊥) → a ≡ first_of ws → ws1 ≡ later ws
    → IsWordRead Fraction IsValueProper (IsRatioWithin (2 ^ 90)) a t → IsEndRead ws1 e → r ≡ both t e → IsItemRead (part.ASide u) (side_letters u ∷ ws) (made (λ a. line.Bound u a.0) r)
value_item u ws ws1 a t e r n p q h l f = subst (λ x. IsItemRead (part.ASide u) (side_letters u ∷ ws) (made (λ a. line.Bound u a.0) x)) (sym f)
    (value_read u ws t e n (subst (λ z. IsWordRead Fraction IsValueProper (IsRatioWithin (2 ^ 90)) z t) p h) (subst (λ z. IsEndRead z e) q l))
