-- Sentences that clash: each is there, and they are written one after the other.
use Rattle.std.proofs.Common.{◌≡◌, ℕ, ◌<◌, ◌≤◌, List, [], ◌∷◌, ◌++◌, Some, None, length, get_or, inl, inr, refl, sym, ap, subst, ◌∙◌, append_assoc, append-nil}
use Rattle.std.specs.Prelude.{◌⊎◌, slice_get}
use Rattle.std.proofs.lemmas.Option.{slice_get_cases, get_or_from_slice_get}
use Rattle.ps_problem.specs.declared.sentence.Sentence.{Sentence}
use Rattle.ps_problem.specs.Problems.{Parts, AreParts, IsSentence}
use Rattle.ps_canonical.proofs.Laid.{sentence-there}
use Rattle.ps_spoken.specs.declared.clash.Clashing.{Clashing}
use Rattle.ps_spoken.specs.Clashes.{clashing_text, clash_texts, rest_text, rest_texts}

pub clashing-push : (p : Parts) (lines : List ℕ) (cs : List Clashing) (c : Clashing) → clash_texts p lines (cs ++ c ∷ []) ≡ clash_texts p lines cs ++ clashing_text p lines c
clashing-push p lines [] c = append-nil (clashing_text p lines c)
clashing-push p lines (b ∷ cs) c =
    ap (λ bs. clashing_text p lines b ++ bs) (clashing-push p lines cs c) ∙ sym (append_assoc (clashing_text p lines b) (clash_texts p lines cs) (clashing_text p lines c))

pub rest-push : (cs : List Clashing) (c : Clashing) → rest_texts (cs ++ c ∷ []) ≡ rest_texts cs ++ rest_text c
rest-push [] c = append-nil (rest_text c)
rest-push (b ∷ cs) c = ap (λ bs. rest_text b ++ bs) (rest-push cs c) ∙ sym (append_assoc (rest_text b) (rest_texts cs) (rest_text c))

-- the sentence at a place is over nodes that are there
there-by : (p : Parts) → AreParts p → (i : ℕ) (s : Sentence) → slice_get p.sentences i ≡ Some s
    → ((x : Sentence) × (i < length p.sentences) × (slice_get p.sentences i ≡ Some x) × (get_or p.sentences i x ≡ x)) ⊎ ((length p.sentences ≤ i) × (slice_get p.sentences i ≡ None))
    → IsSentence p.nodes s
there-by p are i s e (inl h) =
    let same : get_or p.sentences i s ≡ s = get_or_from_slice_get p.sentences i s s e in
    subst (IsSentence p.nodes) same (sentence-there p are p.sentences refl i s h.1)
there-by p are i s e (inr h) = let none = h.1 in absurd (cc)

pub sentence_there : (p : Parts) → AreParts p → (i : ℕ) (s : Sentence) → slice_get p.sentences i ≡ Some s → IsSentence p.nodes s
sentence_there p are i s e = there-by p are i s e (slice_get_cases p.sentences i).1
