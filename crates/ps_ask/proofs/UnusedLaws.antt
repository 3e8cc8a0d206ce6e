-- The sentences on which no bound rests, one after the other.
use Rattle.std.proofs.Common.{◌≡◌, ◌≤◌, ◌<◌, ◌+◌, ◌∙◌, ℕ, suc, List, [], ◌∷◌, ◌++◌, length, drop, sym, ap, append_assoc, append-nil, arith}
use Rattle.std.proofs.lemmas.List.{drop_all, drop_more}
use Rattle.ps_problem.specs.declared.sentence.Sentence.{Sentence}
use Rattle.ps_spoken.specs.declared.details.Details.{Details}
use Rattle.ps_ask.specs.Unused.{unused_from, unused_one}

-- behind the first sentences, so many, the others begin with the next
split-here : (ss : List Sentence) (i n : ℕ) (ts : List Details) → i < length ss → unused_from n (drop i ss) ts ≡ unused_one n ts ++ unused_from (suc n) (drop (i + 1) ss) ts
split-here [] i n ts lt = absurd (omega (arith, lt))
split-here (s ∷ ss) i n ts lt = ap (λ (xs : List Sentence). unused_from n xs ts) (drop_more (s ∷ ss) i s lt)

pub unused_next : (ss : List Sentence) (ts : List Details) (i : ℕ) (old new : List ℕ) → i < length ss → new ≡ old ++ unused_one (i + 1) ts
    → old ++ unused_from (i + 1) (drop i ss) ts ≡ unused_from 1 ss ts → new ++ unused_from (i + 1 + 1) (drop (i + 1) ss) ts ≡ unused_from 1 ss ts
unused_next ss ts i old new lt grown h =
    let more : i + 1 + 1 ≡ suc (i + 1) = omega arith in
    let rest = unused_from (i + 1 + 1) (drop (i + 1) ss) ts in
    ap (λ l. l ++ rest) grown ∙ append_assoc old (unused_one (i + 1) ts) rest
    ∙ ap (λ l. old ++ l) (ap (λ (k : ℕ). unused_one (i + 1) ts ++ unused_from k (drop (i + 1) ss) ts) more ∙ sym (split-here ss i (i + 1) ts lt)) ∙ h

pub unused_all : (ss : List Sentence) (ts : List Details) (i : ℕ) (found : List ℕ) → length ss ≤ i → found ++ unused_from (i + 1) (drop i ss) ts ≡ unused_from 1 ss ts
    → found ≡ unused_from 1 ss ts
unused_all ss ts i found past h = sym (append-nil found) ∙ ap (λ l. found ++ unused_from (i + 1) l ts) (sym (drop_all i ss past)) ∙ h
