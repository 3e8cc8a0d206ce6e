-- Systems of linear equations with whole coefficients, and their solutions over one denominator.
use Rattle.std.specs.Prelude.{◌≡◌, ◌≤◌, ◌^◌, ℤ, pos, unsigned_abs, ◌+ℤ◌, ◌*ℤ◌, ◌≤ℤ◌, List, [], ◌∷◌, length, All}
use Rattle.std.specs.List.{AllZip}
use Rattle.ps_lifting.specs.declared.solution.Solution.{Solution}

-- the sum of the products of two lists, place by place
abbrev pub dot_product : List ℤ → List ℤ → ℤ
dot_product [] xs = pos 0
dot_product (a ∷ row) [] = pos 0
dot_product (a ∷ row) (x ∷ xs) = (a *ℤ x) +ℤ dot_product row xs

-- a row has a coefficient for each numerator, and with the numerators it gives the right side times the denominator
pub record Meets (xs : List ℤ) (d : ℤ) (row : List ℤ) (b : ℤ) : Type 0 where
  pub sized : length row ≡ length xs
  pub equal : dot_product row xs ≡ (b *ℤ d)

-- the numerators over the denominator solve the system exactly
pub record Solves (rows : List (List ℤ)) (right : List ℤ) (s : Solution) : Type 0 where
  pub positive : pos 1 ≤ℤ s.denominator
  pub met : AllZip (Meets s.numerators s.denominator) rows right

-- each number is at most 2^90 in size
abbrev pub AreSmall : List ℤ → Type 0
AreSmall xs = All (λ x. unsigned_abs x ≤ 2 ^ 90) xs
