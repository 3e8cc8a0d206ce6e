-- Numbers of any size, compared by their digits.
use Rattle.std.proofs.Common.{◌≡◌, ◌≢◌, ℕ, zero, suc, ◌+◌, ◌*◌, ◌<◌, ◌≤◌, ℤ, pos, negsuc, Bool, true, false, List, [], ◌∷◌, length, take, get_or, refl, sym, ap, subst, ◌∙◌, arith, nat_lt, Option, Some, None, unsigned_abs, ◌&&◌}
use Rattle.std.specs.Char.{digit_value}
use Rattle.std.specs.Str.Parse.{AllDigits, digits_value, digits_value_after}
use Rattle.std.proofs.lemmas.Str.Parse.{digit_from_value}
use Rattle.std.proofs.lemmas.Str.{digit_value_digit}
use Rattle.ps_pb.specs.Weights.{are_rising}
use Rattle.ps_log.specs.Spellings.{words_of, IsPlain, IsDecimal, Spells, SpellAll}
use Rattle.ps_log.specs.Numbers.{words_after}
use Rattle.ps_log.specs.GoalNumbers.{size_word, pairs_from, TellsLess, HasVariable, HasOneWord, TellsRising}
use Rattle.ps_log.proofs.LineAnswers.{same_rest}
use Rattle.ps_log.proofs.Spelled.{minus_first}

decide : {P : Type 0} (b t : Bool) → b ≡ t → (b ≡ true → P) → (b ≡ false → P) → P
decide b true e f g = f e
decide b false e f g = g e

shorter : (m n : ℕ) → nat_lt m n ≡ true → m + 1 ≤ n
shorter m n h = grind (arith, h)

-- fewer digits after a smaller number are less
less-after : (n m : ℕ) (xs ys : List ℕ) → n < m → length xs ≤ length ys → AllDigits 10 xs → AllDigits 10 ys → digits_value_after 10 n xs < digits_value_after 10 m ys
less-after n m [] [] h l p q = h
less-after n m (x ∷ xs) [] h l p q = absurd (omega (arith, l))
less-after n m [] (y ∷ ys) h l p q = less-after n (m * 10 + digit_value y) [] ys (omega (arith, h)) (omega arith) tt q.1
less-after n m (x ∷ xs) (y ∷ ys) h l p q = decide (nat_lt (length xs) (length ys)) (nat_lt (length xs) (length ys)) refl
    (λ e. less-after n (m * 10 + digit_value y) (x ∷ xs) ys (omega (arith, h)) (omega (arith, shorter (length xs) (length ys) e)) p q.1)
    (λ e. less-after (n * 10 + digit_value x) (m * 10 + digit_value y) xs ys (omega (arith, h, p.0)) (omega (arith, l)) p.1 q.1)

-- a longer numeral without a leading zero is greater
shorter-less : (a b : List ℕ) → IsPlain a → IsPlain b → length a < length b → digits_value 10 a < digits_value 10 b
shorter-less a [] p q h = absurd (omega (arith, h))
shorter-less a (c ∷ cs) p q h =
    let k = digit_value_digit c (digit_from_value c q.digits.1.0) in
    let no : c ≡ 48 → ⊥ = λ z. omega (arith, q.no_leading_zero z, p.digits.0, h) in
    let some : 0 < 0 * 10 + digit_value c = omega (arith, no) in
    less-after 0 (0 * 10 + digit_value c) a cs some (omega (arith, h)) p.digits.1 q.digits.1.1

-- the first digit that differs decides
differs : (n : ℕ) (a b : List ℕ) (i : ℕ) → take i a ≡ take i b → i < length a → length a ≡ length b → AllDigits 10 a → AllDigits 10 b → get_or a i 0 < get_or b i 0
    → digits_value_after 10 n a < digits_value_after 10 n b
differs n [] b i e h l p q d = absurd (omega (arith, h))
differs n (x ∷ xs) [] i e h l p q d = absurd (omega (arith, l))
differs n (x ∷ xs) (y ∷ ys) zero e h l p q d =
    let kx = digit_value_digit x (digit_from_value x p.0) in
    let ky = digit_value_digit y (digit_from_value y q.0) in
    less-after (n * 10 + digit_value x) (n * 10 + digit_value y) xs ys (omega (arith, d, kx, ky)) (omega (arith, l)) p.1 q.1
differs n (x ∷ xs) (y ∷ ys) (suc i) e h l p q d =
    let first : x ≡ y = ap (λ zs. get_or zs 0 x) e in
    let rest : take i xs ≡ take i ys = same_rest x y (take i xs) (take i ys) e in
    subst (λ z. digits_value_after 10 n (x ∷ xs) < digits_value_after 10 n (z ∷ ys)) first
    (differs (n * 10 + digit_value x) xs ys i rest (omega (arith, h)) (omega (arith, l)) p.1 (subst (λ z. AllDigits 10 (z ∷ ys)) (sym first) q).1 d)

is_less : (m n : ℕ) → m < n → nat_lt m n ≡ true
is_less m n h = grind (arith, h)

not_less : (m n : ℕ) → n ≤ m → nat_lt m n ≡ false
not_less m n h = grind (arith, h)

from_less : (m n : ℕ) → nat_lt m n ≡ true → m < n
from_less m n h = grind (arith, h)

from_not : (m n : ℕ) → nat_lt m n ≡ false → n ≤ m
from_not m n h = grind (arith, h)

-- numerals of different lengths
pub by-length : (a b : List ℕ) → length a ≢ length b → TellsLess a b (nat_lt (length a) (length b))
by-length a b ne = record { at = λ m n p q. by m n p q (nat_lt (length a) (length b)) refl }
  where
    by : (m n : ℕ) → IsDecimal a m → IsDecimal b n → (t : Bool) → nat_lt (length a) (length b) ≡ t → nat_lt (length a) (length b) ≡ nat_lt m n
    by m n p q true e =
        let less = shorter-less a b p.plain q.plain (from_less (length a) (length b) e) in
        e ∙ sym (is_less m n (rw (← p.value, ← q.value) less))
    by m n p q false e =
        let more = from_not (length a) (length b) e in
        let less = shorter-less b a q.plain p.plain (omega (arith, more, ne)) in
        e ∙ sym (not_less m n (omega (arith, less, p.value, q.value)))

-- numerals that differ at a place
pub by-digit : (a b : List ℕ) (i : ℕ) → take i a ≡ take i b → i < length a → length a ≡ length b → get_or a i 0 ≢ get_or b i 0 → TellsLess a b (nat_lt (get_or a i 0) (get_or b i 0))
by-digit a b i e h l ne = record { at = λ m n p q. by m n p q (nat_lt (get_or a i 0) (get_or b i 0)) refl }
  where
    by : (m n : ℕ) → IsDecimal a m → IsDecimal b n → (t : Bool) → nat_lt (get_or a i 0) (get_or b i 0) ≡ t → nat_lt (get_or a i 0) (get_or b i 0) ≡ nat_lt m n
    by m n p q true f =
        let less = differs 0 a b i e h l p.plain.digits.1 q.plain.digits.1 (from_less (get_or a i 0) (get_or b i 0) f) in
        f ∙ sym (is_less m n (omega (arith, less, p.value, q.value)))
    by m n p q false f =
        let more = from_not (get_or a i 0) (get_or b i 0) f in
        let less = differs 0 b a i (sym e) (omega (arith, h, l)) (sym l) q.plain.digits.1 p.plain.digits.1 (omega (arith, more, ne)) in
        f ∙ sym (not_less m n (omega (arith, less, p.value, q.value)))

-- the size of a number that a word spells
pub size-spelled : (word : List ℕ) (z : ℤ) → Spells word z → IsDecimal (size_word word) (unsigned_abs z)
size-spelled [] (pos n) s = s
size-spelled (c ∷ cs) (pos n) s = rw (minus_first c cs s.plain.digits.1.0) s
size-spelled [] (negsuc n) s = absurd s
size-spelled (c ∷ cs) (negsuc n) s = rw s.0 s.1

-- how far the variables were seen to rise
pub record Standing (zs : List ℤ) (last : List ℕ) (rest : Option (List ℕ)) : Type 0 where
  pub above : ℕ
  pub last_is : IsDecimal last above
  pub left : List ℤ
  pub spelled : SpellAll (words_after rest) left
  pub same : are_rising 0 (pairs_from zs) ≡ are_rising above (pairs_from left)

pub record RisesSoFar (text last : List ℕ) (rest : Option (List ℕ)) : Type 0 where
  pub at : (degree : ℤ) (zs : List ℤ) → SpellAll (words_of text) (degree ∷ zs) → Standing zs last rest

zero_word : IsDecimal (48 ∷ []) 0
zero_word = record { plain = record { digits = (omega arith, (omega arith, tt)); no_leading_zero = λ e. refl }; value = refl }

pub rises-none : (text word : List ℕ) (rest : Option (List ℕ)) → words_of text ≡ word ∷ words_after rest → RisesSoFar text (48 ∷ []) rest
rises-none text word rest e = record {
  at = λ degree zs s. record { above = 0; last_is = zero_word; left = zs; spelled = (subst (λ ws. SpellAll ws (degree ∷ zs)) e s).1; same = refl };
}

-- one more variable
record NextVariable (zs : List ℤ) (last variable : List ℕ) (after : Option (List ℕ)) (less : Bool) : Type 0 where
  pub above : ℕ
  pub next : ℕ
  pub next_is : IsDecimal variable next
  pub less_is : less ≡ nat_lt above next
  pub left : List ℤ
  pub spelled : SpellAll (words_after after) left
  pub same : are_rising 0 (pairs_from zs) ≡ (less && are_rising next (pairs_from left))

next : (zs : List ℤ) (last bytes variable : List ℕ) (after : Option (List ℕ)) (less : Bool) → Standing zs last (Some bytes) → HasVariable bytes variable after → TellsLess last variable less
    → NextVariable zs last variable after less
next zs last bytes variable after less st v t = by st.left (subst (λ ws. SpellAll ws st.left) v.words st.spelled) st.same
  where
    by : (left : List ℤ) → SpellAll (v.coefficient ∷ v.literal ∷ words_after after) left → are_rising 0 (pairs_from zs) ≡ are_rising st.above (pairs_from left) → NextVariable zs last variable after less
    by [] s e = absurd s
    by (k ∷ []) s e = absurd s.1
    by (k ∷ l ∷ more) s e =
        let d : IsDecimal variable (unsigned_abs l) = subst (λ w. IsDecimal w (unsigned_abs l)) (sym v.size) (size-spelled v.literal l s.1.0) in
        let is = t.at st.above (unsigned_abs l) st.last_is d in
        record {
          above = st.above;
          next = unsigned_abs l;
          next_is = d;
          less_is = is;
          left = more;
          spelled = s.1.1;
          same = e ∙ ap (λ b. b && are_rising (unsigned_abs l) (pairs_from more)) (sym is);
        }

pub rises-more : (text last bytes variable : List ℕ) (after : Option (List ℕ)) → RisesSoFar text last (Some bytes) → HasVariable bytes variable after → TellsLess last variable true
    → RisesSoFar text variable after
rises-more text last bytes variable after r v t = record {
  at = λ degree zs s. (let n = next zs last bytes variable after true (r.at degree zs s) v t in record { above = n.next; last_is = n.next_is; left = n.left; spelled = n.spelled; same = n.same });
}

pub rises-not : (text last bytes variable : List ℕ) (after : Option (List ℕ)) → RisesSoFar text last (Some bytes) → HasVariable bytes variable after → TellsLess last variable false
    → TellsRising (words_of text) false
rises-not text last bytes variable after r v t = record { at = λ degree zs s. sym (next zs last bytes variable after false (r.at degree zs s) v t).same }

-- nothing is left that could fail to rise
pub rises-all : (text last : List ℕ) → RisesSoFar text last None → TellsRising (words_of text) true
rises-all text last r = record { at = λ degree zs s. (let st = r.at degree zs s in sym (st.same ∙ none st.above st.left st.spelled)) }
  where
    none : (above : ℕ) (left : List ℤ) → SpellAll [] left → are_rising above (pairs_from left) ≡ true
    none above [] s = refl
    none above (z ∷ zs) s = absurd s

pub rises-last : (text last bytes : List ℕ) → RisesSoFar text last (Some bytes) → HasOneWord bytes → TellsRising (words_of text) true
rises-last text last bytes r w = record { at = λ degree zs s. (let st = r.at degree zs s in sym (st.same ∙ one st.above st.left (subst (λ ws. SpellAll ws st.left) w.words st.spelled))) }
  where
    one : (above : ℕ) (left : List ℤ) → SpellAll (w.word ∷ []) left → are_rising above (pairs_from left) ≡ true
    one above [] s = absurd s
    one above (z ∷ []) s = refl
    one above (y ∷ z ∷ zs) s = absurd s.1
