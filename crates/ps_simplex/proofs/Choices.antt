-- Each choice of k of n things has its number below the ways to choose, and its number tells it.
use Rattle.std.proofs.Common.{◌≡◌, ◌≢◌, ℕ, zero, suc, ◌+◌, ◌<◌, Bool, true, false, cond, refl, sym, ap, ◌∙◌, subst, arith, inl, inr}
use Rattle.std.proofs.lemmas.Bool.{cases_eq}
use Rattle.ps_simplex.specs.Count.{choose}

-- how many of the first n things are chosen
abbrev pub count : ℕ → (ℕ → Bool) → ℕ
count zero f = 0
count (suc n) f = cond (f n) (suc (count n f)) (count n f)

-- the number of the choice
abbrev pub rank : ℕ → (ℕ → Bool) → ℕ
rank zero f = 0
rank (suc n) f = cond (f n) (rank n f + choose n (suc (count n f))) (rank n f)

one_more : (n : ℕ) (b : Bool) (c r : ℕ) → r < choose n c → cond b (r + choose n (suc c)) r < choose (suc n) (cond b (suc c) c)
unfolding choose
one_more n true c r h = omega (arith, h)
one_more n false zero r h = omega (arith, h)
one_more n false (suc c) r h = omega (arith, h)

pub rank_less : (n : ℕ) (f : ℕ → Bool) → rank n f < choose n (count n f)
unfolding choose
rank_less zero f = omega arith
rank_less (suc n) f = one_more n (f n) (count n f) (rank n f) (rank_less n f)

split : (n : ℕ) (b d : Bool) (c k r t : ℕ) → r < choose n c → t < choose n k → cond b (suc c) c ≡ cond d (suc k) k
    → cond b (r + choose n (suc c)) r ≡ cond d (t + choose n (suc k)) t → (b ≡ d) × (c ≡ k) × (r ≡ t)
split n true true c k r t h l e f =
    let same : c ≡ k = omega (arith, e) in
    let more = ap (λ z. choose n (suc z)) same in
    (refl, same, omega (arith, f, more))
split n false false c k r t h l e f = (refl, e, f)
split n true false c k r t h l e f = let more = ap (choose n) e in absurd (omega (arith, f, l, more))
split n false true c k r t h l e f = let more = ap (choose n) e in absurd (omega (arith, f, h, more))

pub rank_tells : (n : ℕ) (f g : ℕ → Bool) → count n f ≡ count n g → rank n f ≡ rank n g → (i : ℕ) → i < n → f i ≡ g i
rank_tells zero f g e k i l = absurd (omega (arith, l))
rank_tells (suc n) f g e k i l =
    let parts = split n (f n) (g n) (count n f) (count n g) (rank n f) (rank n g) (rank_less n f) (rank_less n g) e k in
    elim (cases_eq i n) [
      | inl is ↦ subst (λ z. f z ≡ g z) (sym is) parts.0
      | inr ne ↦ rank_tells n f g parts.1 parts.2 i (omega (arith, l, ne))
    ]

-- ---- counting
pub count_same : (n : ℕ) (f g : ℕ → Bool) → ((i : ℕ) → i < n → f i ≡ g i) → count n f ≡ count n g
count_same zero f g h = refl
count_same (suc n) f g h =
    let e = count_same n f g (λ i l. h i (omega (arith, l))) in
    λ z. cond (h n (omega arith) z) (suc (e z)) (e z)

pub count_none : (n : ℕ) → count n (λ _. false) ≡ 0
count_none zero = refl
count_none (suc n) = count_none n

lifted : (b : Bool) (c : ℕ) → cond b (suc (suc c)) (suc c) ≡ suc (cond b (suc c) c)
lifted true c = refl
lifted false c = refl

pub count_one_more : (n c : ℕ) (f g : ℕ → Bool) → c < n → f c ≡ false → g c ≡ true → ((i : ℕ) → i ≢ c → g i ≡ f i) → count n g ≡ suc (count n f)
count_one_more zero c f g l out within others = absurd (omega (arith, l))
count_one_more (suc n) c f g l out within others =
    elim (cases_eq n c) [
      | inl e ↦
          let before = count_same n g f (λ i h. others i (λ k. absurd (omega (arith, h, k, e)))) in
          let gn : g n ≡ true = ap g e ∙ within in
          let fn : f n ≡ false = ap f e ∙ out in
          (λ z. cond (gn z) (suc (count n g)) (count n g)) ∙ ap suc before ∙ ap suc (sym (λ z. cond (fn z) (suc (count n f)) (count n f)))
      | inr ne ↦
          let before = count_one_more n c f g (omega (arith, l, ne)) out within others in
          (λ z. cond (others n ne z) (suc (before z)) (before z)) ∙ lifted (f n) (count n f)
    ]
