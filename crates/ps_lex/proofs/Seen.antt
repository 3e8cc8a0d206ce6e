-- A token is judged by what is kept of it.
use Rattle.std.proofs.Common.{◌≡◌, ℕ, ◌+◌, ◌-◌, ◌*◌, ◌^◌, ◌≤◌, min, ◌==◌, Bool, true, false, ◌&&◌, ◌||◌, inl, inr, List, [], ◌∷◌, ◌++◌, length, take, Option, Some, None, refl, sym, ap, subst, ◌∙◌, arith, true≢false, is_some}
use Rattle.std.proofs.lemmas.Nat.{mul-le}
use Rattle.std.proofs.lemmas.Slice.Eq.{bytes_eq-Decides}
use Rattle.std.proofs.lemmas.Bool.Decides.{nat_tests}
use Rattle.std.proofs.lemmas.List.{take_all, length-take}
use Rattle.std.specs.Prelude.{nat_lt, nat_eq, bytes_eq, codes, if◌then◌else◌}
use Rattle.ps_text.specs.Tokens as text
use Rattle.ps_text.specs.Tokens.{Token, IsToken, IsNumeral, AreDigits}
use Rattle.ps_text.specs.declared.kind.ReadKind.TheVariants.{NameTooLong, VersionUnknown, ZeroDenominator, DenominatorTooLarge, TooManyDecimals, NumberOutOfRange}
use Rattle.ps_text.specs.Grammar.{value_from, value}
use Rattle.ps_text.specs.declared.part.Part.{Part}
use Rattle.ps_text.specs.declared.part.Part.TheVariants as part
use Rattle.ps_text.specs.declared.part.Opening.{Opening}
use Rattle.ps_text.specs.ExpectedTokens.{State, in_version, version_fault, version_of as token_version, value_fault, greatest_value, fault_at, refusal, after}
use Rattle.ps_text.specs.declared.version.Version.{Version}
use Rattle.ps_text.specs.declared.version.Version.TheVariants.{One, Two}
use Rattle.ps_text.proofs.Signs.{Either, First, Second, either}
use Rattle.ps_text.proofs.Steps.{unless_true, passed}
use Rattle.ps_text.proofs.Cutting.{decide}
use Rattle.ps_text.proofs.Lawful.{tens_few}
use Rattle.ps_lex.specs.declared.digits.Digits.{Digits}
use Rattle.ps_lex.specs.Counted.{no_digits, with_digit, with_digits}
use Rattle.ps_lex.specs.Seen.{seen, numeral_seen}
use Rattle.ps_lex.specs.KeptTokens.{numeral_of, token_of}
use Rattle.ps_lex.proofs.Figures.{version_of, version_is, decimal_version, decimal_is, whole_fault, quotient_fault, decimal_fault}

capped_value : (d : Digits) (n : ℕ) (bs : List ℕ) → d.value ≡ min n 1000000000001 → (with_digits d bs).value ≡ min (value_from n bs) 1000000000001
capped_value d n [] e = e
capped_value d n (b ∷ bs) e = capped_value (with_digit d b) (10 * n + (b - 48)) bs (omega (arith, e))

capped_count : (d : Digits) (n : ℕ) (bs : List ℕ) → d.count ≡ min n 7 → (with_digits d bs).count ≡ min (n + length bs) 7
capped_count d n [] e = e ∙ omega arith
capped_count d n (b ∷ bs) e = capped_count (with_digit d b) (n + 1) bs (omega (arith, e)) ∙ omega arith

-- digits behind digits are counted as all of them together
pub more_digits : (d : Digits) (xs ys : List ℕ) → with_digits (with_digits d xs) ys ≡ with_digits d (xs ++ ys)
more_digits d [] ys = refl
more_digits d (x ∷ xs) ys = more_digits (with_digit d x) xs ys

-- the value that is kept of digits
pub value_seen : (ds : List ℕ) → (with_digits no_digits ds).value ≡ min (value ds) 1000000000001
value_seen ds = capped_value no_digits 0 ds (omega arith)

count_seen : (ds : List ℕ) → (with_digits no_digits ds).count ≡ min (length ds) 7
count_seen ds = capped_count no_digits 0 ds (omega arith) ∙ omega arith

-- digits that spell `1` or `2`
one_seen : (n : ℕ) (ds : List ℕ) → n ≤ 9 → AreDigits ds → bytes_eq ds ((48 + n) ∷ []) ≡ (((with_digits no_digits ds).count == 1) && ((with_digits no_digits ds).value == n))
one_seen n [] l i = absurd i
one_seen n (d ∷ []) l i = grind (arith, nat_tests)
one_seen n (d ∷ e ∷ ds) l i =
    let c : (with_digits no_digits (d ∷ e ∷ ds)).count ≡ min (length (d ∷ e ∷ ds)) 7 = count_seen (d ∷ e ∷ ds) in
    let f : ((with_digits no_digits (d ∷ e ∷ ds)).count == 1) ≡ false = grind (arith, nat_tests) in
    rw f (long (nat_eq d (48 + n)))
  where
    long : (b : Bool) → b && false ≡ false
    long true = refl
    long false = refl

version_seen : (n : text.Numeral) → IsNumeral n → version_fault (text.Number (numeral_of (numeral_seen n))) ≡ version_fault (text.Number n)
version_seen (text.Whole ds) i =
    let d = with_digits no_digits ds in
    version_of d.count d.value
    ∙ ap (λ b. if b then None else Some VersionUnknown) (shared (d.count == 1) (d.value == 1) (d.value == 2) ∙ (let e = one_seen 1 ds (omega arith) i in let f = one_seen 2 ds (omega arith) i in λ j. (sym e j) || (sym f j)))
  where
    shared : (a b c : Bool) → (a && (b || c)) ≡ ((a && b) || (a && c))
    shared true b c = refl
    shared false b c = refl
version_seen (text.Quotient ds es) i = refl
version_seen (text.Decimal ds es) i = decimal_version (min (length es) 7) (with_digits (with_digits no_digits ds) es).value

lt_cap : (n v : ℕ) → n ≤ 1000000000000 → nat_lt n (min v 1000000000001) ≡ nat_lt n v
lt_cap n v h = grind (arith, nat_tests)

eq_zero : (v : ℕ) → (min v 1000000000001 == 0) ≡ (v == 0)
eq_zero v = grind (arith, nat_tests)

-- a number of a linear sentence over a denominator
product_small : (n d : ℕ) → n ≤ 1000000 → d ≤ 1000000 → n * d ≤ 1000000000000
product_small n d h k = mul-le n d 1000000 1000000 h k

value_seen_fault : (k : ℕ) (n : text.Numeral) → k ≤ 1000000 → value_fault k (numeral_of (numeral_seen n)) ≡ value_fault k n
value_seen_fault k (text.Whole ds) h =
    whole_fault k (with_digits no_digits ds).count (with_digits no_digits ds).value
    ∙ ap (λ v. if nat_lt k v then Some NumberOutOfRange else None) (value_seen ds)
    ∙ ap (λ b. if b then Some NumberOutOfRange else None) (lt_cap k (value ds) (omega (arith, h)))
value_seen_fault k (text.Quotient ds es) h =
    quotient_fault k (with_digits no_digits ds).count (with_digits no_digits ds).value (with_digits no_digits es).count (with_digits no_digits es).value
    ∙ rw (value_seen ds, value_seen es, eq_zero (value es), lt_cap 1000000 (value es) (omega arith)) (last (value es == 0) (nat_lt 1000000 (value es)) refl)
  where
    last : (a b : Bool) → nat_lt 1000000 (value es) ≡ b
        → (if a then Some ZeroDenominator else (if b then Some DenominatorTooLarge else (if nat_lt (k * min (value es) 1000000000001) (min (value ds) 1000000000001) then Some NumberOutOfRange else None)))
        ≡ (if a then Some ZeroDenominator else (if b then Some DenominatorTooLarge else (if nat_lt (k * value es) (value ds) then Some NumberOutOfRange else None)))
    last true b e = refl
    last false true e = refl
    last false false e =
        let small : value es ≤ 1000000 = grind (arith, nat_tests) in
        let kept : min (value es) 1000000000001 ≡ value es = omega (arith, small) in
        rw (kept, lt_cap (k * value es) (value ds) (product_small k (value es) h small)) refl
value_seen_fault k (text.Decimal ds es) h =
    decimal_fault k (min (length es) 7) (with_digits (with_digits no_digits ds) es).value
    ∙ rw (ap (λ d. d.value) (more_digits no_digits ds es) ∙ value_seen (ds ++ es)) (by (nat_lt 6 (length es)) refl)
  where
    by : (a : Bool) → nat_lt 6 (length es) ≡ a
        → (if nat_lt 6 (min (length es) 7) then Some TooManyDecimals else (if nat_lt (k * 10 ^ min (length es) 7) (min (value (ds ++ es)) 1000000000001) then Some NumberOutOfRange else None))
        ≡ (if a then Some TooManyDecimals else (if nat_lt (k * 10 ^ length es) (value (ds ++ es)) then Some NumberOutOfRange else None))
    by true e = let t : nat_lt 6 (min (length es) 7) ≡ true = grind (arith, nat_tests) in rw t refl
    by false e =
        let few : length es ≤ 6 = grind (arith, nat_tests) in
        let t : nat_lt 6 (min (length es) 7) ≡ false = grind (arith, nat_tests) in
        let m : min (length es) 7 ≡ length es = omega (arith, few) in
        let s = lt_cap (k * 10 ^ length es) (value (ds ++ es)) (product_small k (10 ^ length es) h (tens_few (length es) few)) in
        rw (t, m, s) refl

-- a state by what it has
abbrev state : Part → Bool → Bool → List Opening → Version → Option ℕ → Bool → State
state p q g os v l s = record { part = p; query = q; given = g; opened = os; version = v; linear = l; minus = s }

-- numbers with the same faults
record HaveSameFaults (m n : text.Numeral) : Type 0 where
  version : version_fault (text.Number m) ≡ version_fault (text.Number n)
  value : (k : ℕ) → k ≤ 1000000 → value_fault k m ≡ value_fault k n

greatest_small : (l : Option ℕ) → greatest_value l ≤ 1000000
greatest_small None = omega arith
greatest_small (Some n) = omega arith

-- are refused alike
number_judged : (p : Part) (q g : Bool) (os : List Opening) (v : Version) (l : Option ℕ) (s : Bool) (m n : text.Numeral) → HaveSameFaults m n
    → refusal (state p q g os v l s) (text.Number m) ≡ refusal (state p q g os v l s) (text.Number n)
unfolding refusal
number_judged part.Psat q g os v l s m n f = refl
number_judged part.Version q g os v l s m n f = f.version
number_judged part.HeadEnd q g os v l s m n f = refl
number_judged part.Item q g os One l s m n f = refl
number_judged part.Item q g os Two l s m n f = f.value 1000000 (omega arith)
number_judged part.QueryProb q g os v l s m n f = refl
number_judged part.Term q g os v l s m n f = f.value 1000000 (omega arith)
number_judged part.TermProb q g os v l s m n f = refl
number_judged part.Paren q g os v l s m n f = refl
number_judged part.Operand q g os v l s m n f = refl
number_judged part.Operator q g os v l s m n f = refl
number_judged part.Relation q g os v l s m n f = refl
number_judged part.Number q g os v l s m n f = f.value (greatest_value l) (greatest_small l)
number_judged part.ItemEnd q g os v l s m n f = refl
number_judged part.Bracket q g os v l s m n f = refl
number_judged part.First q g os v l s m n f = f.value (greatest_value l) (greatest_small l)
number_judged part.Comma q g os v l s m n f = refl
number_judged part.Second q g os v l s m n f = f.value (greatest_value l) (greatest_small l)
number_judged part.BracketEnd q g os v l s m n f = refl
number_judged part.TextEnd q g os v l s m n f = refl
number_judged part.Done q g os v l s m n f = refl

-- a version that isn't refused is kept
version_kept : (d : State) (n : text.Numeral) → d.part ≡ part.Version → refusal d (text.Number n) ≡ None → token_version (text.Number (numeral_of (numeral_seen n))) ≡ token_version (text.Number n)
version_kept d (text.Quotient ds es) e h = refl
version_kept d (text.Decimal ds es) e h = decimal_is (min (length es) 7) (with_digits (with_digits no_digits ds) es).value
version_kept d (text.Whole ds) e h = by (either (bytes_eq ds (codes "1")) (bytes_eq ds (codes "2")) (unless_true (bytes_eq ds (codes "1") || bytes_eq ds (codes "2")) VersionUnknown fault))
  where
    fault : version_fault (text.Number (text.Whole ds)) ≡ None
    fault = subst (λ p. fault_at p d (text.Number (text.Whole ds)) ≡ None) e (passed d (text.Number (text.Whole ds)) h).fault

    alike : List ℕ → Type 0
    alike bs = token_version (text.Number (numeral_of (numeral_seen (text.Whole bs)))) ≡ token_version (text.Number (text.Whole bs))

    one : alike (codes "1")
    one = version_is 1 1

    two : alike (codes "2")
    two = version_is 1 2

    by : Either (bytes_eq ds (codes "1")) (bytes_eq ds (codes "2")) → alike ds
    by (First f) = subst alike (sym ((bytes_eq-Decides ds (codes "1")).0 f)) one
    by (Second f) = subst alike (sym ((bytes_eq-Decides ds (codes "2")).0 f)) two

number_after : (p : Part) (q g : Bool) (os : List Opening) (v : Version) (l : Option ℕ) (s : Bool) (m n : text.Numeral) → (p ≡ part.Version → token_version (text.Number m) ≡ token_version (text.Number n))
    → after (state p q g os v l s) (text.Number m) ≡ after (state p q g os v l s) (text.Number n)
unfolding after
number_after part.Psat q g os v l s m n f = refl
number_after part.Version q g os v l s m n f = ap (λ x. in_version x part.HeadEnd) (f refl)
number_after part.HeadEnd q g os v l s m n f = refl
number_after part.Item q g os v l s m n f = refl
number_after part.QueryProb q g os v l s m n f = refl
number_after part.Term q g os v l s m n f = refl
number_after part.TermProb q g os v l s m n f = refl
number_after part.Paren q g os v l s m n f = refl
number_after part.Operand q g os v l s m n f = refl
number_after part.Operator q g os v l s m n f = refl
number_after part.Relation q g os v l s m n f = refl
number_after part.Number q g os v l s m n f = refl
number_after part.ItemEnd q g os v l s m n f = refl
number_after part.Bracket q g os v l s m n f = refl
number_after part.First q g os v l s m n f = refl
number_after part.Comma q g os v l s m n f = refl
number_after part.Second q g os v l s m n f = refl
number_after part.BracketEnd q g os v l s m n f = refl
number_after part.TextEnd q g os v l s m n f = refl
number_after part.Done q g os v l s m n f = refl

long_refused : (d : State) (w : List ℕ) → nat_lt 32 (length w) ≡ true → refusal d (text.Word w) ≡ Some NameTooLong
unfolding refusal
long_refused d w h = rw h refl

-- a word that isn't refused is kept whole
pub word_kept : (d : State) (w : List ℕ) → refusal d (text.Word w) ≡ None → take 33 w ≡ w
word_kept d w h = elim (decide (nat_lt 32 (length w))) [
  | inl l ↦ absurd (true≢false (ap is_some (sym (long_refused d w l) ∙ h)))
  | inr l ↦ take_all 33 w (grind (arith, nat_tests))
]

-- what is kept of a token is refused as the token is
pub judged : (d : State) (t : Token) → IsToken t → refusal d (token_of (seen t)) ≡ refusal d t
judged d (text.Word w) i = elim (decide (nat_lt 33 (length w))) [
  | inl h ↦ long_refused d (take 33 w) (kept h) ∙ sym (long_refused d w (grind (arith, nat_tests)))
  | inr h ↦ ap (λ u. refusal d (text.Word u)) (take_all 33 w (grind (arith, nat_tests)))
]
  where
    kept : nat_lt 33 (length w) ≡ true → nat_lt 32 (length (take 33 w)) ≡ true
    kept h = let l = length-take 33 w in grind (arith, nat_tests)
judged d (text.Number n) i = number_judged d.part d.query d.given d.opened d.version d.linear d.minus (numeral_of (numeral_seen n)) n (record { version = version_seen n i; value = λ k h. value_seen_fault k n h })
judged d (text.Sign s) i = refl

-- and what is expected behind it is what is expected behind the token
pub goes_on : (d : State) (t : Token) → refusal d t ≡ None → after d (token_of (seen t)) ≡ after d t
goes_on d (text.Word w) h = ap (λ u. after d (text.Word u)) (word_kept d w h)
goes_on d (text.Number n) h = number_after d.part d.query d.given d.opened d.version d.linear d.minus (numeral_of (numeral_seen n)) n (λ e. version_kept d n e h)
goes_on d (text.Sign s) h = refl
