-- A basis as a choice of columns.
use Rattle.std.proofs.Common.{◌≡◌, ◌≢◌, ℕ, zero, suc, ◌-◌, ◌<◌, Bool, true, false, cond, eqb, eq-eqb, refl, sym, ap, ◌∙◌, subst, arith, inl, inr}
use Rattle.std.proofs.lemmas.Bool.{cases_eq, ne_eqb, true≢false}
use Rattle.ps_simplex.specs.Cycle.{IsBasicIn, HaveSameColumns}
use Rattle.ps_simplex.proofs.Choices.{count, count_none, count_one_more, rank, rank_tells}

-- whether column c is basic in one of n rows
abbrev has : ℕ → (ℕ → ℕ) → ℕ → Bool
has zero basic c = false
has (suc n) basic c = cond (eqb (basic n) c) true (has n basic c)

-- the columns behind the right side that are basic
abbrev pub chosen : ℕ → (ℕ → ℕ) → ℕ → Bool
chosen n basic j = has n basic (suc j)

has_next : (n : ℕ) (basic : ℕ → ℕ) → has (suc n) basic (basic n) ≡ true
has_next n basic = ap (λ b. cond b true (has n basic (basic n))) (eq-eqb (basic n) (basic n) refl)

has_other : (n : ℕ) (basic : ℕ → ℕ) (c : ℕ) → basic n ≢ c → has (suc n) basic c ≡ has n basic c
has_other n basic c ne = ap (λ b. cond b true (has n basic c)) (ne_eqb (basic n) c ne)

has_there : (n : ℕ) (basic : ℕ → ℕ) (i : ℕ) → i < n → has n basic (basic i) ≡ true
has_there zero basic i l = absurd (omega (arith, l))
has_there (suc n) basic i l =
    elim (cases_eq (basic n) (basic i)) [
      | inl e ↦ subst (λ c. has (suc n) basic c ≡ true) e (has_next n basic)
      | inr ne ↦ has_other n basic (basic i) ne ∙ has_there n basic i (elim (cases_eq i n) [ inl e ↦ absurd (ne (ap basic (sym e))) | inr apart ↦ omega (arith, l, apart) ])
    ]

has_row : (n : ℕ) (basic : ℕ → ℕ) (c : ℕ) → has n basic c ≡ true → IsBasicIn n basic c
has_row zero basic c h = absurd (true≢false (sym h))
has_row (suc n) basic c h =
    elim (cases_eq (basic n) c) [
      | inl e ↦ (n, omega arith, e)
      | inr ne ↦ let row = has_row n basic c (sym (has_other n basic c ne) ∙ h) in (row.0, (let l = row.1 in omega (arith, l)), row.2)
    ]

false_of : (b : Bool) → (b ≡ true → ⊥) → b ≡ false
false_of true h = absurd (h refl)
false_of false h = refl

-- a basis of n rows chooses n columns
pub count_chosen : (n w : ℕ) (basic : ℕ → ℕ) → ((i : ℕ) → i < n → 0 < basic i) → ((i : ℕ) → i < n → basic i < suc w) → ((i k : ℕ) → i < k → k < n → basic i ≢ basic k) → count w (chosen n basic) ≡ n
count_chosen zero w basic above within apart = count_none w
count_chosen (suc n) w basic above within apart =
    let before = count_chosen n w basic (λ i l. above i (omega (arith, l))) (λ i l. within i (omega (arith, l))) (λ i k l h. apart i k l (omega (arith, h))) in
    let up = above n (omega arith) in
    let under = within n (omega arith) in
    let is : suc (basic n - 1) ≡ basic n = omega (arith, up) in
    count_one_more w (basic n - 1) (chosen n basic) (chosen (suc n) basic) (omega (arith, up, under))
    (false_of (chosen n basic (basic n - 1)) (λ h. let row = has_row n basic (suc (basic n - 1)) h in apart row.0 n row.1 (omega arith) (row.2 ∙ is)))
    (subst (λ c. has (suc n) basic c ≡ true) (sym is) (has_next n basic))
    (λ j ne. has_other n basic (suc j) (λ e. ne (omega (arith, e))))
    ∙ ap suc before

-- bases of one number have the same columns
chosen_there : (n w : ℕ) (a b : ℕ → ℕ) → ((i : ℕ) → i < n → 0 < a i) → ((i : ℕ) → i < n → a i < suc w) → ((j : ℕ) → j < w → chosen n a j ≡ chosen n b j) → (i : ℕ) → i < n → IsBasicIn n b (a i)
chosen_there n w a b above within same i l =
    let up = above i l in
    let under = within i l in
    let is : suc (a i - 1) ≡ a i = omega (arith, up) in
    has_row n b (a i) (sym (subst (λ c. has n a c ≡ has n b c) is (same (a i - 1) (omega (arith, up, under)))) ∙ has_there n a i l)

pub same_number : (n w : ℕ) (a b : ℕ → ℕ) → ((i : ℕ) → i < n → 0 < a i) → ((i : ℕ) → i < n → a i < suc w) → ((i : ℕ) → i < n → 0 < b i) → ((i : ℕ) → i < n → b i < suc w)
    → count w (chosen n a) ≡ count w (chosen n b) → rank w (chosen n a) ≡ rank w (chosen n b) → HaveSameColumns n a b
same_number n w a b above_a within_a above_b within_b counts ranks = record {
  there = chosen_there n w a b above_a within_a (λ j l. rank_tells w (chosen n a) (chosen n b) counts ranks j l);
  back = chosen_there n w b a above_b within_b (λ j l. sym (rank_tells w (chosen n a) (chosen n b) counts ranks j l));
}
