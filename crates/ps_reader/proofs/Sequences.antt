-- Words that are read one after another.
use Rattle.std.specs.Prelude.{⊤}
use Rattle.std.proofs.Common.{◌≡◌, ℕ, ◌==◌, List, [], ◌∷◌, ◌++◌, length, map, Result, Ok, Err, refl, sym, ap, subst, ◌∙◌, arith, ◌⊎◌, inl, inr}
use Rattle.std.proofs.lemmas.List.Splits.{length-slice_split}
use Rattle.ps_log.specs.Spellings.{words_of}
use Rattle.ps_answer.specs.Words.{Word, Letters, SpellsWord, SpellWords}
use Rattle.ps_answer.specs.declared.item.LineItem.{LineItem}
use Rattle.ps_answer.specs.declared.part.Part.{Part}
use Rattle.ps_answer.specs.Faults.{first_of}
use Rattle.ps_answer.specs.Items.{item_words, IsProper, IsWithin}
use Rattle.ps_reader.specs.declared.line_fault.LineFault.{LineFault}
use Rattle.ps_reader.specs.declared.line_fault.LineFault.TheVariants.{NotCanonical, TooLarge, NoMemory}
use Rattle.ps_reader.specs.Cursor.{later}
use Rattle.ps_reader.specs.Read.{IsReadOrLacks, WordSays, IsWordRead, WordsSay, AreWordsRead, both, Fits, FitsNot, IsSaid, TakesMemory, IsItemRead}

-- a line has a word
pub has_words : (text : List ℕ) → words_of text ≡ [] → ⊥
has_words text e = omega (arith, ap length e, length-slice_split (λ b. b == 32) text)

-- no word is left, or one is
pub none_left : AreWordsRead {A = Unit {0}} (λ u. []) (λ u. ⊤) (λ u. ⊤) [] (Ok tt)
none_left = ((tt, tt), tt)

pub some_left : (text : List ℕ) → AreWordsRead {A = Unit {0}} (λ u. []) (λ u. ⊤) (λ u. ⊤) (words_of text) (Err NotCanonical)
some_left text = by (words_of text) refl
  where
    by : (ws : List (List ℕ)) → words_of text ≡ ws → AreWordsRead {A = Unit {0}} (λ u. []) (λ u. ⊤) (λ u. ⊤) ws (Err NotCanonical)
    by [] e = absurd (has_words text e)
    by (w ∷ ws) e = λ u s. s.0

-- a kind of word that is never written without a byte
abbrev pub IsNeverEmpty : {A : Type 0} → (A → Word) → Type 0
IsNeverEmpty {A} written = (a : A) → SpellsWord [] (written a) → ⊥

-- a word that is read without memory is read
pub sure : {A : Type 0} (L : Type 0) (v : A → Word) (P F : A → Type 0) (word : List ℕ) (r : Result A LineFault) → IsWordRead v P F word r → IsReadOrLacks L (WordSays v P word) F r
sure L v P F word (Ok a) h = h
sure L v P F word (Err NotCanonical) h = h
sure L v P F word (Err TooLarge) h = h
sure L v P F word (Err NoMemory) h = absurd h

-- so are words
pub all_sure : {A : Type 0} (L : Type 0) (vs : A → List Word) (P F : A → Type 0) (ws : List (List ℕ)) (r : Result A LineFault) → AreWordsRead vs P F ws r → IsReadOrLacks L (WordsSay vs P ws) F r
all_sure L vs P F ws (Ok a) h = h
all_sure L vs P F ws (Err NotCanonical) h = h
all_sure L vs P F ws (Err TooLarge) h = h
all_sure L vs P F ws (Err NoMemory) h = absurd h

-- a word, and those after it, where memory may lack
pub word_or_lacks : {A B : Type 0} (L : Type 0) (v : A → Word) (P F : A → Type 0) (vs : B → List Word) (Q G : B → Type 0) (ws : List (List ℕ)) (r : Result A LineFault) (q : Result B LineFault)
    → IsNeverEmpty v → IsReadOrLacks L (WordSays v P (first_of ws)) F r → IsReadOrLacks L (WordsSay vs Q (later ws)) G q
    → IsReadOrLacks {A = A × B} L (WordsSay (λ p. v p.0 ∷ vs p.1) (λ p. P p.0 × Q p.1) ws) (λ p. F p.0 × G p.1) (both r q)
word_or_lacks L v P F vs Q G [] (Ok a) q ne h k = absurd (ne a h.0.0)
word_or_lacks L v P F vs Q G [] (Err NotCanonical) q ne h k = λ p s. s.0
word_or_lacks L v P F vs Q G [] (Err TooLarge) q ne h k = absurd (ne h.0 h.1.0)
word_or_lacks L v P F vs Q G [] (Err NoMemory) q ne h k = h
word_or_lacks L v P F vs Q G (w ∷ ws) (Ok a) (Ok b) ne h k = (((h.0.0, k.0.0), (h.0.1, k.0.1)), (h.1, k.1))
word_or_lacks L v P F vs Q G (w ∷ ws) (Ok a) (Err NotCanonical) ne h k = λ p s. k p.1 (s.0.1, s.1.1)
word_or_lacks L v P F vs Q G (w ∷ ws) (Ok a) (Err TooLarge) ne h k = ((a, k.0), ((h.0.0, k.1.0), (h.0.1, k.1.1)), λ f. k.2 f.1)
word_or_lacks L v P F vs Q G (w ∷ ws) (Ok a) (Err NoMemory) ne h k = k
word_or_lacks L v P F vs Q G (w ∷ ws) (Err NotCanonical) q ne h k = λ p s. h p.0 (s.0.0, s.1.0)
word_or_lacks L v P F vs Q G (w ∷ ws) (Err TooLarge) (Ok b) ne h k = ((h.0, b), ((h.1.0, k.0.0), (h.1.1, k.0.1)), λ f. h.2 f.0)
word_or_lacks L v P F vs Q G (w ∷ ws) (Err TooLarge) (Err NotCanonical) ne h k = λ p s. k p.1 (s.0.1, s.1.1)
word_or_lacks L v P F vs Q G (w ∷ ws) (Err TooLarge) (Err TooLarge) ne h k = ((h.0, k.0), ((h.1.0, k.1.0), (h.1.1, k.1.1)), λ f. h.2 f.0)
word_or_lacks L v P F vs Q G (w ∷ ws) (Err TooLarge) (Err NoMemory) ne h k = k
word_or_lacks L v P F vs Q G (w ∷ ws) (Err NoMemory) q ne h k = h

-- where it may not
pub word_then : {A B : Type 0} (v : A → Word) (P F : A → Type 0) (vs : B → List Word) (Q G : B → Type 0) (ws : List (List ℕ)) (r : Result A LineFault) (q : Result B LineFault)
    → IsNeverEmpty v → IsWordRead v P F (first_of ws) r → AreWordsRead vs Q G (later ws) q
    → AreWordsRead {A = A × B} (λ p. v p.0 ∷ vs p.1) (λ p. P p.0 × Q p.1) (λ p. F p.0 × G p.1) ws (both r q)
word_then v P F vs Q G ws r q ne h k = word_or_lacks ⊥ v P F vs Q G ws r q ne h k

-- what is made of what was read
abbrev pub made : {A : Type 0} → (A → LineItem) → Result A LineFault → Result LineItem LineFault
made mk (Ok a) = Ok (mk a)
made mk (Err why) = Err why

abbrev pub IsMade : {A : Type 0} → Part → (A → LineItem) → (A → Type 0) → LineItem → Type 0
IsMade {A} p mk P i = FitsNot p i ⊎ ((a : A) × (i ≡ mk a) × P a)

-- a kind of line that begins with these words
pub record Makes {A : Type 0} (p : Part) (front ws : List (List ℕ)) (mk : A → LineItem) (vs : A → List Word) (P F : A → Type 0) : Type 0 where
  pub words : (a : A) → item_words (mk a) ≡ map Letters front ++ vs a
  pub proper : (a : A) → P a → IsProper (mk a)
  pub within : (a : A) → F a → IsWithin (mk a)
  pub back : (a : A) → IsWithin (mk a) → F a
  pub fits : (a : A) → P a → Fits p (mk a)
  pub only : (i : LineItem) → IsSaid (front ++ ws) i → IsMade p mk P i

-- words with others before them
pub front_spelled : (front ws : List (List ℕ)) (vs : List Word) → SpellWords ws vs → SpellWords (front ++ ws) (map Letters front ++ vs)
front_spelled [] ws vs s = s
front_spelled (w ∷ front) ws vs s = (refl, front_spelled front ws vs s)

pub behind_front : (front ws : List (List ℕ)) (vs : List Word) → SpellWords (front ++ ws) (map Letters front ++ vs) → SpellWords ws vs
behind_front [] ws vs s = s
behind_front (w ∷ front) ws vs s = behind_front front ws vs s.1

-- the words behind those that a kind of line begins with are read, and so is the line
pub item_or_lacks : {A : Type 0} (L : Type 0) (p : Part) (front : List (List ℕ)) (mk : A → LineItem) (vs : A → List Word) (P F : A → Type 0) (ws : List (List ℕ))
    → (L → TakesMemory p (front ++ ws)) → Makes p front ws mk vs P F → (r : Result A LineFault) → IsReadOrLacks L (WordsSay vs P ws) F r → IsItemRead p (front ++ ws) (made mk r)
item_or_lacks L p front mk vs P F ws takes m r h = by r h
  where
    said : (a : _) → SpellWords ws (vs a) × P a → IsSaid (front ++ ws) (mk a)
    said a s = record { spelled = subst (λ x. SpellWords (front ++ ws) x) (sym (m.words a)) (front_spelled front ws (vs a) s.0); proper = m.proper a s.1 }

    none : (i : LineItem) → ((a : _) → SpellWords ws (vs a) × P a → ⊥) → IsSaid (front ++ ws) i → IsMade p mk P i → FitsNot p i
    none i n s (inl f) = f
    none i n s (inr t) =
        absurd (n t.0 (behind_front front ws (vs t.0) (subst (λ x. SpellWords (front ++ ws) x) (ap item_words t.1 ∙ m.words t.0) s.spelled), t.2))

    by : (r : Result _ LineFault) → IsReadOrLacks L (WordsSay vs P ws) F r → IsItemRead p (front ++ ws) (made mk r)
    by (Ok a) h = (said a h.0, m.within a h.1, m.fits a h.0.1)
    by (Err NotCanonical) h = λ i s. none i h s (m.only i s)
    by (Err TooLarge) h = (mk h.0, said h.0 h.1, m.fits h.0 h.1.1, λ g. h.2 (m.back h.0 g))
    by (Err NoMemory) h = takes h

-- where no memory is taken
pub item_read : {A : Type 0} (p : Part) (front : List (List ℕ)) (mk : A → LineItem) (vs : A → List Word) (P F : A → Type 0) (ws : List (List ℕ))
    → Makes p front ws mk vs P F → (r : Result A LineFault) → AreWordsRead vs P F ws r → IsItemRead p (front ++ ws) (made mk r)
item_read p front mk vs P F ws m r h = item_or_lacks ⊥ p front mk vs P F ws (λ b. absurd b) m r h

-- what is made of a reading that ended so
pub made_ok : {A : Type 0} (p : Part) (ws : List (List ℕ)) (mk : A → LineItem) (r : Result A LineFault) (a : A) → IsItemRead p ws (made mk r) → r ≡ Ok a → IsItemRead p ws (Ok (mk a))
made_ok p ws mk r a h f = subst (λ x. IsItemRead p ws x) (ap (made mk) f) h

pub made_err : {A : Type 0} (p : Part) (ws : List (List ℕ)) (mk : A → LineItem) (r : Result A LineFault) (e : LineFault) (q : Result LineItem LineFault) → IsItemRead p ws (made mk r) → r ≡ Err e → q ≡ Err e
    → IsItemRead p ws q
made_err p ws mk r e q h f g = subst (λ x. IsItemRead p ws x) (ap (made mk) f ∙ sym g) h
