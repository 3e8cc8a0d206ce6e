-- What is told beneath bounds, one item after the other.
use Rattle.std.proofs.Common.{◌≡◌, ℕ, ◌≤◌, min, List, [], ◌∷◌, ◌++◌, take, length, sym, ap, ◌∙◌, append_assoc, append-nil, arith}
use Rattle.std.proofs.lemmas.List.{take_min}
use Rattle.ps_problem.specs.Problems.{Parts}
use Rattle.ps_spoken.specs.Listings.{texts_of}
use Rattle.ps_spoken.specs.Unused.{unused_line, unused_lines}

-- one sentence more
pub unused-push : (p : Parts) (lines : List ℕ) (ns : List ℕ) (n : ℕ) → unused_lines p lines (ns ++ n ∷ []) ≡ unused_lines p lines ns ++ unused_line p lines n
unused-push p lines [] n = append-nil (unused_line p lines n)
unused-push p lines (m ∷ ns) n =
    ap (λ bs. unused_line p lines m ++ bs) (unused-push p lines ns n) ∙ sym (append_assoc (unused_line p lines m) (unused_lines p lines ns) (unused_line p lines n))

-- the items that are shown, where they are no more than so many
pub shown_all : {X : Type 0} (text : ℕ → X → List ℕ) (xs : List X) (most i : ℕ) → min (length xs) most ≤ i → i ≤ min (length xs) most → (before out : List ℕ)
    → out ≡ before ++ texts_of text (take i xs) → out ≡ before ++ texts_of text (take most xs)
shown_all text xs most i past within before out h =
    let same : i ≡ min most (length xs) = omega arith in
    h ∙ ap (λ (k : ℕ). before ++ texts_of text (take k xs)) same ∙ ap (λ ys. before ++ texts_of text ys) (take_min most xs)
