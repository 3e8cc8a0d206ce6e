-- Kinds of lines, by the words that are read of them.
use Rattle.std.proofs.Common.{◌≡◌, ℕ, List, ◌++◌, map, Result, Ok, Err, sym, ap, subst, ◌∙◌, ◌⊎◌, inl, inr}
use Rattle.ps_answer.specs.Words.{Word, Letters, SpellWords}
use Rattle.ps_reader.specs.declared.line_fault.LineFault.{LineFault}
use Rattle.ps_reader.specs.declared.line_fault.LineFault.TheVariants.{NotCanonical, TooLarge, NoMemory}
use Rattle.ps_reader.specs.Read.{IsReadOrLacks, WordsSay, AreWordsRead}
use Rattle.ps_reader.proofs.Sequences.{front_spelled, behind_front}
use Rattle.ps_max_text.specs.Faults.{TakesMemory}
use Rattle.ps_max_text.specs.Items.{item_words, IsProper, IsWithin}
use Rattle.ps_max_text.specs.Read.{Fits, FitsNot, IsSaid, IsItemRead}
use Rattle.ps_max_text.specs.declared.item.MaxItem.{MaxItem}
use Rattle.ps_max_text.specs.declared.part.MaxPart.{MaxPart}

-- what is made of what was read
abbrev pub made : {A : Type 0} → (A → MaxItem) → Result A LineFault → Result MaxItem LineFault
made mk (Ok a) = Ok (mk a)
made mk (Err why) = Err why

abbrev pub IsMade : {A : Type 0} → MaxPart → (A → MaxItem) → (A → Type 0) → MaxItem → Type 0
IsMade {A} p mk P i = FitsNot p i ⊎ ((a : A) × (i ≡ mk a) × P a)

-- a kind of line that begins with these words
pub record Makes {A : Type 0} (p : MaxPart) (front ws : List (List ℕ)) (mk : A → MaxItem) (vs : A → List Word) (P F : A → Type 0) : Type 0 where
  pub words : (a : A) → item_words (mk a) ≡ map Letters front ++ vs a
  pub proper : (a : A) → P a → IsProper (mk a)
  pub within : (a : A) → P a → F a → IsWithin (mk a)
  pub back : (a : A) → P a → IsWithin (mk a) → F a
  pub fits : (a : A) → Fits p (mk a)
  pub only : (i : MaxItem) → IsSaid (front ++ ws) i → IsMade p mk P i

-- the words behind those that a kind of line begins with are read, and so is the line
pub item_or_lacks : {A : Type 0} (L : Type 0) (p : MaxPart) (front : List (List ℕ)) (mk : A → MaxItem) (vs : A → List Word) (P F : A → Type 0) (ws : List (List ℕ))
    → (L → TakesMemory p) → Makes p front ws mk vs P F → (r : Result A LineFault) → IsReadOrLacks L (WordsSay vs P ws) F r → IsItemRead p (front ++ ws) (made mk r)
item_or_lacks L p front mk vs P F ws takes m r h = by r h
  where
    said : (a : _) → SpellWords ws (vs a) × P a → IsSaid (front ++ ws) (mk a)
    said a s = record { spelled = subst (λ x. SpellWords (front ++ ws) x) (sym (m.words a)) (front_spelled front ws (vs a) s.0); proper = m.proper a s.1 }

    none : (i : MaxItem) → ((a : _) → SpellWords ws (vs a) × P a → ⊥) → IsSaid (front ++ ws) i → IsMade p mk P i → FitsNot p i
    none i n s (inl f) = f
    none i n s (inr t) =
        absurd (n t.0 (behind_front front ws (vs t.0) (subst (λ x. SpellWords (front ++ ws) x) (ap item_words t.1 ∙ m.words t.0) s.spelled), t.2))

    by : (r : Result _ LineFault) → IsReadOrLacks L (WordsSay vs P ws) F r → IsItemRead p (front ++ ws) (made mk r)
    by (Ok a) h = (said a h.0, m.within a h.0.1 h.1, m.fits a)
    by (Err NotCanonical) h = λ i s. none i h s (m.only i s)
    by (Err TooLarge) h = (mk h.0, said h.0 h.1, m.fits h.0, λ g. h.2 (m.back h.0 h.1.1 g))
    by (Err NoMemory) h = takes h

-- where no memory is taken
pub item_read : {A : Type 0} (p : MaxPart) (front : List (List ℕ)) (mk : A → MaxItem) (vs : A → List Word) (P F : A → Type 0) (ws : List (List ℕ))
    → Makes p front ws mk vs P F → (r : Result A LineFault) → AreWordsRead vs P F ws r → IsItemRead p (front ++ ws) (made mk r)
item_read p front mk vs P F ws m r h = item_or_lacks ⊥ p front mk vs P F ws (λ b. absurd b) m r h

-- what is made of a reading that ended so
pub made_ok : {A : Type 0} (p : MaxPart) (ws : List (List ℕ)) (mk : A → MaxItem) (r : Result A LineFault) (a : A) → IsItemRead p ws (made mk r) → r ≡ Ok a → IsItemRead p ws (Ok (mk a))
made_ok p ws mk r a h f = subst (λ x. IsItemRead p ws x) (ap (made mk) f) h

pub made_err : {A : Type 0} (p : MaxPart) (ws : List (List ℕ)) (mk : A → MaxItem) (r : Result A LineFault) (e : LineFault) (q : Result MaxItem LineFault) → IsItemRead p ws (made mk r) → r ≡ Err e → q ≡ Err e
    → IsItemRead p ws q
made_err p ws mk r e q h f g = subst (λ x. IsItemRead p ws x) (ap (made mk) f ∙ sym g) h
