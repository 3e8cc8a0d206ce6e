-- Words of fractions.
use Rattle.std.specs.Prelude.{⊤}
use Rattle.std.proofs.Common.{◌≡◌, ◌≢◌, ℕ, zero, suc, ◌/◌, ◌<◌, ◌≤◌, ◌^◌, ℤ, pos, negsuc, Bool, true, List, [], ◌∷◌, length, get_or, Result, Ok, Err, sym, ap, subst, ◌∙◌, arith, unsigned_abs, int_div, ◌↔◌}
use Rattle.std.specs.Int.{IsGcd}
use Rattle.std.specs.Char.{digit_value}
use Rattle.std.specs.Str.Parse.{AllDigits}
use Rattle.std.proofs.lemmas.Int.{ints}
use Rattle.ps_meaning.specs.Rational.{Rational, fraction, quotient}
use Rattle.ps_meaning.specs.Gcd.{gcd}
use Rattle.ps_meaning.specs.Coprime.{is_gcd}
use Rattle.ps_log.specs.Spellings.{IsDecimal, Spells}
use Rattle.ps_log.specs.Numbers.{Lacks, IsCut}
use Rattle.ps_frac.proofs.Sizes.{divided_up, divided_down}
use Rattle.ps_log.proofs.Spelled.{value_of_spelling}
use Rattle.ps_answer.proofs.Cuts.{one_cut_at, no_cut_at}
use Rattle.ps_answer.specs.declared.item.Ratio.{Ratio}
use Rattle.ps_answer.specs.Items.{IsRatioWithin, IsReducedWithin}
use Rattle.ps_answer.specs.Words.{SpellsRatio}
use Rattle.ps_reader.specs.declared.line_fault.LineFault.{LineFault}
use Rattle.ps_reader.specs.declared.line_fault.LineFault.TheVariants.{NotCanonical, TooLarge, NoMemory}
use Rattle.ps_reader.specs.Read.{IsRead}
use Rattle.ps_reader.specs.Ratios.{IsUnder, AreParts, IsLowest}
use Rattle.ps_reader.specs.Numerals.{IsNumberUpTo}

-- a number has no slash
cons_lacks : (b : ℕ) (bs : List ℕ) → b ≢ 47 → Lacks 47 bs → Lacks 47 (b ∷ bs)
cons_lacks b bs h k = λ i d lt. by i d lt
  where
    by : (i d : ℕ) → i < suc (length bs) → get_or (b ∷ bs) i d ≢ 47
    by zero d lt = h
    by (suc i) d lt = k i d (omega (arith, lt))

digits_lack : (ds : List ℕ) → AllDigits 10 ds → Lacks 47 ds
digits_lack [] h = λ i d lt. absurd (omega (arith, lt))
digits_lack (d ∷ ds) h = cons_lacks d ds (λ e. omega (arith, subst (λ x. digit_value x < 10) e h.0)) (digits_lack ds h.1)

number_lacks : (word : List ℕ) (z : ℤ) → Spells word z → Lacks 47 word
number_lacks word (pos n) s = digits_lack word s.plain.digits.1
number_lacks [] (negsuc n) s = absurd s
number_lacks (c ∷ cs) (negsuc n) s = cons_lacks c cs (λ e. omega (arith, s.0, e)) (digits_lack cs s.1.plain.digits.1)

-- a word that is cut at a slash spells a fraction where its parts do
cut_ratio : (word over under : List ℕ) (q : Ratio) → IsCut word 47 over under → Spells over q.over → IsDecimal under q.under → SpellsRatio word q
cut_ratio word over under q c s d = record { over = over; under = under; is = c.0; over_is = s; under_is = d }

ratio_cut : (word over under : List ℕ) (q : Ratio) → IsCut word 47 over under → SpellsRatio word q → Spells over q.over × IsDecimal under q.under
ratio_cut word over under q c s =
    let e = one_cut_at 47 over under s.over s.under c.1 (number_lacks s.over q.over s.over_is) (sym c.0 ∙ s.is) in
    (subst (λ w. Spells w q.over) (sym e.0) s.over_is, subst (λ w. IsDecimal w q.under) (sym e.1) s.under_is)

pub no_ratio : (word : List ℕ) (q : Ratio) → Lacks 47 word → SpellsRatio word q → ⊥
no_ratio word q l s = no_cut_at 47 word s.over s.under l s.is

one_number : (word : List ℕ) (y z : ℤ) → Spells word y → Spells word z → y ≡ z
one_number word y z s t = sym (value_of_spelling word y s) ∙ value_of_spelling word z t

-- a numerator that asks this is read
abbrev pub IsOver : (ℤ → Type 0) → ℕ → List ℕ → Result ℤ LineFault → Type 0
IsOver Asks limit word result = IsRead (λ z. Spells word z × Asks z) (λ z. unsigned_abs z ≤ limit) result

-- what is read of the parts is read of the fraction
abbrev pub AsksRatio : (ℤ → Type 0) → ℕ → Ratio → Type 0
AsksRatio Asks limit q = Asks q.over × IsReducedWithin limit q

pub ratio_read : (Asks : ℤ → Type 0) (limit : ℕ) (word over under : List ℕ) (a : Result ℤ LineFault) (b : Result ℕ LineFault) (r : Result Ratio LineFault)
    → IsCut word 47 over under → IsOver Asks limit over a → IsUnder limit under b → IsLowest a b r
    → IsRead (λ q. SpellsRatio word q × AsksRatio Asks limit q) (λ q. IsRatioWithin limit q) r
ratio_read Asks limit word over under (Ok z) (Ok n) (Ok q) c h k l = (
  (
    cut_ratio word over under q c (subst (Spells over) (sym l.0) h.0.0) (subst (IsDecimal under) (sym l.1) k.0.0),
    (subst Asks (sym l.0) h.0.1, (subst (λ m. 1 ≤ m) (sym l.1) k.0.1, λ _ _. subst (λ m. IsGcd (unsigned_abs q.over) m 1) (sym l.1) (subst (λ y. IsGcd (unsigned_abs y) n 1) (sym l.0) l.2))),
  ),
  (subst (λ y. unsigned_abs y ≤ limit) (sym l.0) h.1, subst (λ m. m ≤ limit) (sym l.1) k.1),
)
ratio_read Asks limit word over under (Ok z) (Ok n) (Err why) c h k l = subst (λ w. IsRead (λ q. SpellsRatio word q × AsksRatio Asks limit q) (λ q. IsRatioWithin limit q) (Err w)) (sym l.0) (λ q s. none q s)
  where
    none : (q : Ratio) → SpellsRatio word q × AsksRatio Asks limit q → ⊥
    none q s =
        let p = ratio_cut word over under q c s.0 in
        let e : q.over ≡ z = one_number over q.over z p.0 h.0.0 in
        let f : q.under ≡ n = sym p.1.value ∙ k.0.0.value in
        l.1 (subst (λ y. IsGcd (unsigned_abs y) n 1) e (subst (λ m. IsGcd (unsigned_abs q.over) m 1) f
        (s.1.1.1 (subst (λ y. unsigned_abs y ≤ limit) (sym e) h.1) (subst (λ m. m ≤ limit) (sym f) k.1))))
ratio_read Asks limit word over under (Ok z) (Err NotCanonical) r c h k l = subst (IsRead (λ q. SpellsRatio word q × AsksRatio Asks limit q) (λ q. IsRatioWithin limit q)) (sym l)
    (λ q s. k q.under ((ratio_cut word over under q c s.0).1, s.1.1.0))
ratio_read Asks limit word over under (Ok z) (Err TooLarge) r c h k l = subst (IsRead (λ q. SpellsRatio word q × AsksRatio Asks limit q) (λ q. IsRatioWithin limit q)) (sym l)
    (record { over = z; under = k.0 }, (cut_ratio word over under _ c h.0.0 k.1.0, (h.0.1, (k.1.1, λ _ w. absurd (k.2 w)))), λ w. k.2 w.1)
ratio_read Asks limit word over under (Ok z) (Err NoMemory) r c h k l = absurd k
ratio_read Asks limit word over under (Err NotCanonical) b r c h k l = subst (IsRead (λ q. SpellsRatio word q × AsksRatio Asks limit q) (λ q. IsRatioWithin limit q)) (sym l)
    (λ q s. h q.over ((ratio_cut word over under q c s.0).0, s.1.0))
ratio_read Asks limit word over under (Err TooLarge) (Ok n) r c h k l = subst (IsRead (λ q. SpellsRatio word q × AsksRatio Asks limit q) (λ q. IsRatioWithin limit q)) (sym l)
    (record { over = h.0; under = n }, (cut_ratio word over under _ c h.1.0 k.0.0, (h.1.1, (k.0.1, λ w _. absurd (h.2 w)))), λ w. h.2 w.0)
ratio_read Asks limit word over under (Err TooLarge) (Err NotCanonical) r c h k l = subst (IsRead (λ q. SpellsRatio word q × AsksRatio Asks limit q) (λ q. IsRatioWithin limit q)) (sym l)
    (λ q s. k q.under ((ratio_cut word over under q c s.0).1, s.1.1.0))
ratio_read Asks limit word over under (Err TooLarge) (Err TooLarge) r c h k l = subst (IsRead (λ q. SpellsRatio word q × AsksRatio Asks limit q) (λ q. IsRatioWithin limit q)) (sym l)
    (record { over = h.0; under = k.0 }, (cut_ratio word over under _ c h.1.0 k.1.0, (h.1.1, (k.1.1, λ w _. absurd (h.2 w)))), λ w. h.2 w.0)
ratio_read Asks limit word over under (Err TooLarge) (Err NoMemory) r c h k l = absurd k
ratio_read Asks limit word over under (Err NoMemory) b r c h k l = absurd h

-- a fraction keeps its numbers where they are coprime, and only there
pub lowest_kept : (z : ℤ) (n : ℕ) → 1 ≤ n → (fraction z n).over ≡ z → (fraction z n).under ≡ n → IsGcd (unsigned_abs z) n 1
lowest_kept z n h e f = subst (λ m. IsGcd (unsigned_abs z) m 1) f (subst (λ y. IsGcd (unsigned_abs y) (fraction z n).under 1) e (fraction z n).lowest.coprime)

pub coprime_kept : (z : ℤ) (n : ℕ) → 1 ≤ n → IsGcd (unsigned_abs z) n 1 → ((fraction z n).over ≡ z) × ((fraction z n).under ≡ n)
unfolding quotient
coprime_kept z zero h c = absurd (omega (arith, h))
coprime_kept z (suc n) h c =
    let g : gcd (unsigned_abs z) (suc n) ≡ 1 = sym (is_gcd (unsigned_abs z) (suc n) 1 c) in
    (ap (λ k. int_div z (pos k)) g ∙ over_one z, ap (λ k. suc n / k) g ∙ sym (under_one (suc n)))
  where
    under_one : (n : ℕ) → n ≡ n / 1
    under_one n = omega arith

    over_one : (z : ℤ) → int_div z (pos 1) ≡ z
    over_one (pos n) = sym (divided_up (pos n) 1 n (omega (arith, ints)) (under_one n))
    over_one (negsuc n) = sym (divided_down (negsuc n) 1 (suc n) (omega (arith, ints)) (under_one (suc n)))

-- the test of lowest terms
pub is_lowest : (z : ℤ) (under : ℕ) (q : Rational) (b : Bool) → 1 ≤ under → q ≡ fraction z under → (b ≡ true) ↔ ((q.over ≡ z) × (q.under ≡ under)) → (b ≡ true) ↔ IsGcd (unsigned_abs z) under 1
is_lowest z under q b h e t = (
  λ y. let k = t.0 y in lowest_kept z under h (ap (λ r. r.over) (sym e) ∙ k.0) (ap (λ r. r.under) (sym e) ∙ k.1),
  λ c. let k = coprime_kept z under h c in t.1 (ap (λ r. r.over) e ∙ k.0, ap (λ r. r.under) e ∙ k.1),
)

-- the parts are within what a fraction holds
pub parts_fit : (Asks : ℤ → Type 0) (limit : ℕ) (over under : List ℕ) (a : Result ℤ LineFault) (b : Result ℕ LineFault) → limit < 2 ^ 127 → IsOver Asks limit over a → IsUnder limit under b → AreParts a b
parts_fit Asks limit over under (Ok z) (Ok n) l h k = (omega (arith, l, h.1), omega (arith, l, k.1), k.0.1)
parts_fit Asks limit over under (Ok z) (Err e) l h k = tt
parts_fit Asks limit over under (Err e) b l h k = tt

-- an operand asks nothing of its numerator
pub any_over : (limit : ℕ) (word : List ℕ) (a : Result ℤ LineFault) → IsNumberUpTo limit word a → IsOver (λ z. ⊤) limit word a
any_over limit word (Ok z) h = ((h.0, tt), h.1)
any_over limit word (Err NotCanonical) h = λ z s. h z s.0
any_over limit word (Err TooLarge) h = (h.0, (h.1, tt), h.2)
any_over limit word (Err NoMemory) h = h

pub no_sign : (limit : ℕ) (word : List ℕ) (r : Result Ratio LineFault) → IsRead (λ q. SpellsRatio word q × AsksRatio (λ z. ⊤) limit q) (λ q. IsRatioWithin limit q) r
    → IsRead (λ q. SpellsRatio word q × IsReducedWithin limit q) (λ q. IsRatioWithin limit q) r
no_sign limit word (Ok q) h = ((h.0.0, h.0.1.1), h.1)
no_sign limit word (Err NotCanonical) h = λ q s. h q (s.0, (tt, s.1))
no_sign limit word (Err TooLarge) h = (h.0, (h.1.0, h.1.1.1), h.2)
no_sign limit word (Err NoMemory) h = h
