-- Texts of items by their places, one after the other.
use Rattle.std.proofs.Common.{◌≡◌, ℕ, suc, ◌+◌, ◌<◌, ◌≤◌, List, [], ◌∷◌, ◌++◌, take, length, get_or, sym, ap, ◌∙◌, append_assoc, append-nil, arith}
use Rattle.std.proofs.lemmas.List.{take_more, take_all, length-take-le}
use Rattle.ps_spoken.specs.Listings.{texts_from, texts_of}

module _ {X : Type 0} (text : ℕ → X → List ℕ) where
  texts-push : (xs : List X) (k : ℕ) (x : X) → texts_from text k (xs ++ x ∷ []) ≡ texts_from text k xs ++ text (k + length xs) x
  texts-push [] k x =
      let same : k ≡ k + 0 = omega arith in
      append-nil (text k x) ∙ ap (λ (j : ℕ). text j x) same
  texts-push (y ∷ ys) k x =
      let same : suc k + length ys ≡ k + suc (length ys) = omega arith in
      ap (λ bs. text k y ++ bs) (texts-push ys (suc k) x)
      ∙ sym (append_assoc (text k y) (texts_from text (suc k) ys) (text (suc k + length ys) x))
      ∙ ap (λ (j : ℕ). (text k y ++ texts_from text (suc k) ys) ++ text j x) same

  -- one item more
  texts-step : (xs : List X) (i : ℕ) (d : X) → i < length xs → texts_of text (take (i + 1) xs) ≡ texts_of text (take i xs) ++ text i (get_or xs i d)
  texts-step xs i d lt =
      let within : i ≤ length xs = omega (arith, lt) in
      let taken : length (take i xs) ≡ i = length-take-le i xs within in
      let size : 0 + length (take i xs) ≡ i = omega (arith, taken) in
      ap (texts_from text 0) (take_more xs i d lt) ∙ texts-push (take i xs) 0 (get_or xs i d)
      ∙ ap (λ (j : ℕ). texts_from text 0 (take i xs) ++ text j (get_or xs i d)) size

  pub texts-at : (xs : List X) (i : ℕ) (d : X) → i < length xs → (before out out' : List ℕ)
      → out ≡ before ++ texts_of text (take i xs) → out' ≡ out ++ text i (get_or xs i d) → out' ≡ before ++ texts_of text (take (i + 1) xs)
  texts-at xs i d lt before out out' h k =
      k ∙ ap (λ bs. bs ++ text i (get_or xs i d)) h ∙ append_assoc before (texts_of text (take i xs)) (text i (get_or xs i d))
      ∙ ap (λ bs. before ++ bs) (sym (texts-step xs i d lt))

  pub texts-more : (xs : List X) (i : ℕ) (x : X) → i < length xs → x ≡ get_or xs i x → (before out out' : List ℕ)
      → out ≡ before ++ texts_of text (take i xs) → out' ≡ out ++ text i x → out' ≡ before ++ texts_of text (take (i + 1) xs)
  texts-more xs i x lt is before out out' h k = texts-at xs i x lt before out out' h (k ∙ ap (λ (y : X). out ++ text i y) is)

  -- all items
  pub texts-all : (xs : List X) (i : ℕ) → length xs ≤ i → (before out : List ℕ) → out ≡ before ++ texts_of text (take i xs) → out ≡ before ++ texts_of text xs
  texts-all xs i le before out h = h ∙ ap (λ ys. before ++ texts_of text ys) (take_all i xs le)
