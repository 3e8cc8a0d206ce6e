-- The parts of a row: which one stands at a number, and one more behind them.
use Rattle.std.proofs.Common.{◌≡◌, ℕ, zero, suc, ◌+◌, ◌-◌, ◌<◌, ◌≤◌, ℤ, Some, None, List, [], ◌∷◌, ◌++◌, length, get_or, take, drop, arith, refl, sym, ap, ◌∙◌}
use Rattle.std.specs.Prelude.{slice_get}
use Rattle.std.proofs.lemmas.List.{take-append-le, drop-append-le, length-drop}
use Rattle.std.proofs.Math.Seq.{drop-append_seam}
use Rattle.ps_pbcheck.specs.Parts.{parts_from, AreEnds, start_at}

-- the part of a number
pub part-at : (start : ℕ) (row : List ℤ) (ends : List ℕ) (i e : ℕ) → i < length ends → e ≡ get_or ends i e → slice_get (parts_from start row ends) i ≡ Some (take (e - start_at start ends i) (drop (start_at start ends i) row))
part-at start row [] i e h at = absurd (omega (arith, h))
part-at start row (end ∷ ends) zero e h at = ap (λ x. Some (take (x - start) (drop start row))) (sym at)
part-at start row (end ∷ ends) (suc zero) e h at = part-at end row ends zero e (omega (arith, h)) at
part-at start row (end ∷ ends) (suc (suc i)) e h at = part-at end row ends (suc i) e (omega (arith, h)) at

pub part-past : (start : ℕ) (row : List ℤ) (ends : List ℕ) (i : ℕ) → length ends ≤ i → slice_get (parts_from start row ends) i ≡ None
part-past start row [] i h = refl
part-past start row (end ∷ ends) zero h = absurd (omega (arith, h))
part-past start row (end ∷ ends) (suc i) h = part-past end row ends i (omega (arith, h))

pub parts-length : (start : ℕ) (row : List ℤ) (ends : List ℕ) → length (parts_from start row ends) ≡ length ends
parts-length start row [] = refl
parts-length start row (end ∷ ends) = ap suc (parts-length end row ends)

-- ends lie within the row, and rise
pub start-most : (start n : ℕ) (ends : List ℕ) → AreEnds start n ends → start ≤ n
start-most start n [] h = omega (arith, h)
start-most start n (end ∷ ends) h = omega (arith, h.0, start-most end n ends h.1)

pub record IsPart (n from to : ℕ) : Type 0 where
  pub rising : from ≤ to
  pub within : to ≤ n

pub part-within : (start n : ℕ) (ends : List ℕ) (i e : ℕ) → AreEnds start n ends → i < length ends → e ≡ get_or ends i e → IsPart n (start_at start ends i) e
part-within start n [] i e rise h at = absurd (omega (arith, h))
part-within start n (end ∷ ends) zero e rise h at =
    record { rising = omega (arith, at, rise.0); within = omega (arith, at, start-most end n ends rise.1) }
part-within start n (end ∷ ends) (suc zero) e rise h at =
    let p = part-within end n ends zero e rise.1 (omega (arith, h)) at in record { rising = p.rising; within = p.within }
part-within start n (end ∷ ends) (suc (suc i)) e rise h at =
    let p = part-within end n ends (suc i) e rise.1 (omega (arith, h)) at in record { rising = p.rising; within = p.within }

-- one more part
pub ends-more : (start n m : ℕ) (ends : List ℕ) → AreEnds start n ends → n ≤ m → AreEnds start m (ends ++ m ∷ [])
ends-more start n m [] h le = (omega (arith, h, le), refl)
ends-more start n m (end ∷ ends) h le = (h.0, ends-more end n m ends h.1 le)

whole : (more : List ℤ) (n : ℕ) → n ≡ length more → take n more ≡ more
whole [] n e = rw e refl
whole (x ∷ more) n e = rw e (ap (λ y. x ∷ y) (whole more (length more) refl))

same_part : (start end : ℕ) (row more : List ℤ) → start ≤ end → end ≤ length row → take (end - start) (drop start (row ++ more)) ≡ take (end - start) (drop start row)
same_part start end row more rises within =
    ap (take (end - start)) (drop-append-le start row more (omega (arith, rises, within)))
    ∙ take-append-le (end - start) (drop start row) more (omega (arith, rises, within, length-drop start row))

pub parts-more : (start : ℕ) (row more : List ℤ) (ends : List ℕ) (m : ℕ) → AreEnds start (length row) ends → m ≡ length row + length more → parts_from start (row ++ more) (ends ++ m ∷ []) ≡ parts_from start row ends ++ more ∷ []
parts-more start row more [] m h e =
    let at : take (m - start) (drop start (row ++ more)) ≡ more = ap (λ s. take (m - s) (drop s (row ++ more))) h ∙ ap (take (m - length row)) (drop-append_seam row more) ∙ whole more (m - length row) (omega (arith, e)) in
    ap (λ x. x ∷ []) at
parts-more start row more (end ∷ ends) m h e =
    rw (same_part start end row more h.0 (start-most end (length row) ends h.1), parts-more end row more ends m h.1 e) refl
