-- A bound by its number, sentence by sentence.
use Rattle.std.proofs.Common.{◌≡◌, ℕ, zero, suc, ◌+◌, ◌-◌, ◌<◌, ◌≤◌, List, [], ◌∷◌, ◌++◌, length, get_or, drop, drop-cons, refl, sym, ap, ◌∙◌, arith}
use Rattle.std.specs.Prelude.{slice_get}
use Rattle.ps_problem.specs.declared.sentence.Sentence.{Sentence}
use Rattle.ps_problem.specs.Problems.{bounds_of_sentence, bounds_in}

get-first : {X : Type 0} (xs ys : List X) (i : ℕ) → i < length xs → slice_get (xs ++ ys) i ≡ slice_get xs i
get-first [] ys i h = absurd (omega arith)
get-first (x ∷ xs) ys zero h = refl
get-first (x ∷ xs) ys (suc i) h = get-first xs ys i (omega arith)

get-rest : {X : Type 0} (xs ys : List X) (i : ℕ) → length xs ≤ i → slice_get (xs ++ ys) i ≡ slice_get ys (i - length xs)
get-rest [] ys i h = let e : i ≡ i - 0 = omega arith in ap (slice_get ys) e
get-rest (x ∷ xs) ys zero h = absurd (omega arith)
get-rest (x ∷ xs) ys (suc i) h = let e : i - length xs ≡ suc i - length (x ∷ xs) = omega arith in get-rest xs ys i (omega arith) ∙ ap (slice_get ys) e

module _ (ss : List Sentence) (k : ℕ) (s : Sentence) (h : k < length ss) where
  bounds-turn : bounds_in (drop k ss) ≡ bounds_of_sentence (get_or ss k s) ++ bounds_in (drop (k + 1) ss)
  bounds-turn = let e : k + 1 ≡ suc k = omega arith in rw e (ap bounds_in (drop-cons ss k s h))

  -- a bound of the next sentence
  pub bound-here : (i : ℕ) → i < length (bounds_of_sentence (get_or ss k s)) → slice_get (bounds_in (drop k ss)) i ≡ slice_get (bounds_of_sentence (get_or ss k s)) i
  bound-here i l = ap (λ bs. slice_get bs i) bounds-turn ∙ get-first (bounds_of_sentence (get_or ss k s)) (bounds_in (drop (k + 1) ss)) i l

  -- a bound behind it
  pub bound-later : (i : ℕ) → length (bounds_of_sentence (get_or ss k s)) ≤ i → slice_get (bounds_in (drop k ss)) i ≡ slice_get (bounds_in (drop (k + 1) ss)) (i - length (bounds_of_sentence (get_or ss k s)))
  bound-later i l = ap (λ bs. slice_get bs i) bounds-turn ∙ get-rest (bounds_of_sentence (get_or ss k s)) (bounds_in (drop (k + 1) ss)) i l
