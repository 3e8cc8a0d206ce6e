-- A model has at most one world for each row.
use Rattle.std.proofs.Common.{◌≡◌, ℕ, zero, suc, ◌+◌, ◌<◌, ◌≤◌, Bool, true, false, cond, leb, le-leb, List, [], ◌∷◌, ◌++◌, length, get_or, sym, refl, ap, subst, arith, inl, inr}
use Rattle.std.proofs.lemmas.Bool.{cases_eq, cases_lt, lt-leb}
use Rattle.std.proofs.lemmas.List.{length-append}
use Rattle.ps_meaning.specs.Rational.{Rational}
use Rattle.ps_meaning.specs.Formula.{World}
use Rattle.ps_meaning.specs.Distribution.{Entry}
use Rattle.ps_simplex.specs.Rule.{SimplexTable}
use Rattle.ps_runs.specs.Certificates.{value_of, is_above, entry_for, entries_to}
use Rattle.ps_meaning.specs.Scaled.{scaled}

abbrev count_to : ℕ → (ℕ → ℕ) → ℕ
count_to zero f = 0
count_to (suc n) f = count_to n f + f n

count_most : (n : ℕ) (f : ℕ → ℕ) → ((i : ℕ) → i < n → f i ≤ 1) → count_to n f ≤ n
count_most zero f h = omega arith
count_most (suc n) f h = let a = count_most n f (λ i l. h i (omega arith)) in let b = h n (omega arith) in omega (arith, a, b)

count_kept : (n : ℕ) (f g : ℕ → ℕ) → ((i : ℕ) → i < n → f i ≤ g i) → count_to n f ≤ count_to n g
count_kept zero f g h = omega arith
count_kept (suc n) f g h = let a = count_kept n f g (λ i l. h i (omega arith)) in let b = h n (omega arith) in omega (arith, a, b)

count_grows : (n : ℕ) (f g : ℕ → ℕ) (p : ℕ) → p < n → ((i : ℕ) → i < n → f i ≤ g i) → f p + 1 ≤ g p → count_to n f + 1 ≤ count_to n g
count_grows zero f g p l h k = absurd (omega arith)
count_grows (suc n) f g p l h k =
    elim (cases_eq n p) [
      | inl e ↦ let a = count_kept n f g (λ i r. h i (omega arith)) in let b : f n + 1 ≤ g n = subst (λ m. f m + 1 ≤ g m) (sym e) k in omega (arith, a, b)
      | inr ne ↦ let a = count_grows n f g p (omega arith) (λ i r. h i (omega arith)) k in let b = h n (omega arith) in omega (arith, a, b)
    ]

-- 1 for a number up to this one
abbrev upto : ℕ → ℕ → ℕ
upto b a = cond (leb a b) 1 0

upto_is : (a b : ℕ) → a ≤ b → upto b a ≡ 1
upto_is a b h = ap (λ t. cond t 1 0) (le-leb a b h)

upto-not : (a b : ℕ) → b < a → upto b a ≡ 0
upto-not a b h = ap (λ t. cond t 1 0) (lt-leb a b h)

upto_most : (a b : ℕ) → upto b a ≤ 1
upto_most a b = by (leb a b)
  where
    by : (t : Bool) → cond t 1 0 ≤ 1
    by true = omega arith
    by false = omega arith

upto_kept : (a b : ℕ) → upto b a ≤ upto (suc b) a
upto_kept a b =
    elim (cases_lt b a) [
      | inl l ↦ let e = upto-not a b l in omega (arith, e)
      | inr l ↦ let e = upto_is a b (omega arith) in let k = upto_is a (suc b) (omega arith) in omega (arith, e, k)
    ]

abbrev chosen : Bool → ℕ → Rational → World → List Entry
chosen b big x w = cond b (record { weight = scaled big x; world = w } ∷ []) []

-- where each column of value above 0 is basic in some row, there are at most as many entries as rows
pub entries_few : (f : SimplexTable) (big : ℕ) (pool : List World) (k : ℕ)
    → ((i : ℕ) → i < k → is_above (value_of f (suc (f.rows + i))) ≡ true → (p : ℕ) × (p < f.rows) × (f.basic p ≡ suc (f.rows + i)))
    → length (entries_to f big pool k) ≤ count_to f.rows (λ i. upto (f.rows + k) (f.basic i))
entries_few f big pool zero h = omega arith
entries_few f big pool (suc k) h =
    let before = entries_few f big pool k (λ i l. h i (omega arith)) in
    let split = length-append (entries_to f big pool k) (entry_for big (value_of f (suc (f.rows + k))) (get_or pool k [])) in
    let next : f.rows + suc k ≡ suc (f.rows + k) = omega arith in
    let kept = count_kept f.rows (λ i. upto (f.rows + k) (f.basic i)) (λ i. upto (suc (f.rows + k)) (f.basic i)) (λ i l. upto_kept (f.basic i) (f.rows + k)) in
    subst (λ m. length (entries_to f big pool (suc k)) ≤ count_to f.rows (λ i. upto m (f.basic i))) (sym next)
    (cases (is_above (value_of f (suc (f.rows + k)))) refl before split kept)
  where
    cases : (b : Bool) → is_above (value_of f (suc (f.rows + k))) ≡ b
        → length (entries_to f big pool k) ≤ count_to f.rows (λ i. upto (f.rows + k) (f.basic i))
        → length (entries_to f big pool k ++ chosen b big (value_of f (suc (f.rows + k))) (get_or pool k [])) ≡ length (entries_to f big pool k) + length (chosen b big (value_of f (suc (f.rows + k))) (get_or pool k []))
        → count_to f.rows (λ i. upto (f.rows + k) (f.basic i)) ≤ count_to f.rows (λ i. upto (suc (f.rows + k)) (f.basic i))
        → length (entries_to f big pool k ++ chosen b big (value_of f (suc (f.rows + k))) (get_or pool k [])) ≤ count_to f.rows (λ i. upto (suc (f.rows + k)) (f.basic i))
    cases true e before split kept =
        let row = h k (omega arith) e in
        let low = upto-not (f.basic row.0) (f.rows + k) (omega (arith, row.2)) in
        let high = upto_is (f.basic row.0) (suc (f.rows + k)) (omega (arith, row.2)) in
        let more = count_grows f.rows (λ i. upto (f.rows + k) (f.basic i)) (λ i. upto (suc (f.rows + k)) (f.basic i)) row.0 row.1 (λ i l. upto_kept (f.basic i) (f.rows + k)) (omega (arith, low, high)) in
        omega (arith, before, split, more)
    cases false e before split kept = omega (arith, before, split, kept)

pub count_rows : (f : SimplexTable) (k : ℕ) → count_to f.rows (λ i. upto (f.rows + k) (f.basic i)) ≤ f.rows
count_rows f k = count_most f.rows (λ i. upto (f.rows + k) (f.basic i)) (λ i l. upto_most (f.basic i) (f.rows + k))

pub entries_at_most : (f : SimplexTable) (big : ℕ) (pool : List World) (k : ℕ)
    → ((i : ℕ) → i < k → is_above (value_of f (suc (f.rows + i))) ≡ true → (p : ℕ) × (p < f.rows) × (f.basic p ≡ suc (f.rows + i)))
    → length (entries_to f big pool k) ≤ f.rows
entries_at_most f big pool k h = let a = entries_few f big pool k h in let b = count_rows f k in omega (arith, a, b)
