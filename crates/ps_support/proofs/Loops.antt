-- Lists that grow by the part of one item after the other.
use Rattle.std.proofs.Common.{◌≡◌, ◌≤◌, ◌<◌, ◌+◌, ◌∙◌, ℕ, suc, Bool, true, false, List, [], ◌∷◌, ◌++◌, map, take, length, drop, get_or, sym, ap, append_assoc, append-nil, arith}
use Rattle.std.proofs.lemmas.List.{drop_all, drop_more, map-append, take_all, take_more}
use Rattle.ps_problem.specs.declared.sentence.Sentence.{Sentence}
use Rattle.ps_problem.specs.Problems.{bounds_of_sentence}
use Rattle.ps_support.specs.declared.places.BoundPlace.{BoundPlace}
use Rattle.ps_support.specs.Examples.{true_from}
use Rattle.ps_support.specs.Places.{places_in, places_of}

one-more : (n : ℕ) → n + 1 ≡ suc n
one-more n = omega arith

there : {X : Type 0} (xs : List X) (i : ℕ) (x : X) → i < length xs → x ≡ get_or xs i x → drop i xs ≡ x ∷ drop (i + 1) xs
there xs i x lt is = drop_more xs i x lt ∙ ap (λ y. y ∷ drop (i + 1) xs) (sym is)

-- ---- atoms
first-atom : (n : ℕ) (v : Bool) (vs : List Bool) → true_from n (v ∷ vs) ≡ true_from n (v ∷ []) ++ true_from (n + 1) vs
first-atom n true vs = ap (λ (k : ℕ). n ∷ true_from k vs) (sym (one-more n))
first-atom n false vs = ap (λ (k : ℕ). true_from k vs) (sym (one-more n))

pub atoms_next : (vs : List Bool) (i : ℕ) (v : Bool) (old new : List ℕ) → i < length vs → v ≡ get_or vs i v → new ≡ old ++ true_from i (v ∷ []) → old ++ true_from i (drop i vs) ≡ true_from 0 vs
    → new ++ true_from (i + 1) (drop (i + 1) vs) ≡ true_from 0 vs
atoms_next vs i v old new lt is grown h =
    let rest = true_from (i + 1) (drop (i + 1) vs) in
    ap (λ l. l ++ rest) grown ∙ append_assoc old (true_from i (v ∷ [])) rest
    ∙ ap (λ l. old ++ l) (sym (first-atom i v (drop (i + 1) vs)) ∙ ap (true_from i) (sym (there vs i v lt is))) ∙ h

pub atoms_all : (vs : List Bool) (i : ℕ) (found : List ℕ) → length vs ≤ i → found ++ true_from i (drop i vs) ≡ true_from 0 vs → found ≡ true_from 0 vs
atoms_all vs i found past h = sym (append-nil found) ∙ ap (λ l. found ++ true_from i l) (sym (drop_all i vs past)) ∙ h

-- ---- places
pub places_next : (ss : List Sentence) (i : ℕ) (s : Sentence) (old new : List BoundPlace) → i < length ss → s ≡ get_or ss i s → new ≡ old ++ places_of (i + 1) (length (bounds_of_sentence s))
    → old ++ places_in (i + 1) (drop i ss) ≡ places_in 1 ss → new ++ places_in (i + 1 + 1) (drop (i + 1) ss) ≡ places_in 1 ss
places_next ss i s old new lt is grown h =
    let here = places_of (i + 1) (length (bounds_of_sentence s)) in
    let rest = places_in (i + 1 + 1) (drop (i + 1) ss) in
    ap (λ l. l ++ rest) grown ∙ append_assoc old here rest
    ∙ ap (λ l. old ++ l) (ap (λ (k : ℕ). here ++ places_in k (drop (i + 1) ss)) (one-more (i + 1)) ∙ ap (places_in (i + 1)) (sym (there ss i s lt is))) ∙ h

pub places_all : (ss : List Sentence) (i : ℕ) (found : List BoundPlace) → length ss ≤ i → found ++ places_in (i + 1) (drop i ss) ≡ places_in 1 ss → found ≡ places_in 1 ss
places_all ss i found past h = sym (append-nil found) ∙ ap (λ l. found ++ places_in (i + 1) l) (sym (drop_all i ss past)) ∙ h

-- ---- worlds
module _ {X Y : Type 0} (f : X → Y) where
  pub mapped_next : (xs : List X) (i : ℕ) (x : X) → i < length xs → x ≡ get_or xs i x → (old new : List Y) → new ≡ old ++ f x ∷ [] → old ≡ map f (take i xs)
      → new ≡ map f (take (i + 1) xs)
  mapped_next xs i x lt is old new grown h =
      let one : f x ≡ f (get_or xs i x) = ap f is in
      grown ∙ ap (λ l. l ++ f x ∷ []) h ∙ ap (λ (y : Y). map f (take i xs) ++ y ∷ []) one
      ∙ sym (map-append f (take i xs) (get_or xs i x ∷ [])) ∙ ap (map f) (sym (take_more xs i x lt))

  pub mapped_all : (xs : List X) (i : ℕ) → length xs ≤ i → (found : List Y) → found ≡ map f (take i xs) → found ≡ map f xs
  mapped_all xs i past found h = h ∙ ap (map f) (take_all i xs past)
