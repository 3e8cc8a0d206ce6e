-- What is kept of a token does what the token does.
use Rattle.std.proofs.Common.{◌≡◌, ℕ, zero, suc, ◌+◌, ◌*◌, ◌^◌, ◌≤◌, min, ◌==◌, Bool, true, false, List, [], ◌∷◌, ◌++◌, length, replicate, Option, Some, None, refl, sym, ap, ◌∙◌, arith, true≢false, is_some}
use Rattle.std.proofs.lemmas.Bool.Decides.{nat_tests}
use Rattle.std.proofs.lemmas.List.{length-append, length-replicate}
use Rattle.std.specs.Prelude.{nat_lt, if◌then◌else◌}
use Rattle.ps_meaning.specs.Statements.{Ratio}
use Rattle.ps_text.specs.Tokens as text
use Rattle.ps_text.specs.Tokens.{Token}
use Rattle.ps_text.specs.Grammar.{value}
use Rattle.ps_text.specs.Meanings.{ratio_of}
use Rattle.ps_text.specs.declared.kind.ReadKind.TheVariants.{ZeroDenominator, DenominatorTooLarge, TooManyDecimals, NumberOutOfRange}
use Rattle.ps_text.specs.declared.part.Part.{Part}
use Rattle.ps_text.specs.declared.part.Part.TheVariants as part
use Rattle.ps_text.specs.ExpectedTokens.{State, value_fault, fault_at, greatest_value, refusal}
use Rattle.ps_text.proofs.Steps.{passed}
use Rattle.std.proofs.lemmas.Nat.{mul-le}
use Rattle.ps_text.proofs.Lawful.{tens_few}
use Rattle.ps_lex.specs.Counted.{no_digits, with_digits}
use Rattle.ps_lex.specs.Seen.{seen, numeral_seen}
use Rattle.ps_lex.specs.KeptTokens.{figures, decimal_of, numeral_of, token_of}
use Rattle.ps_lex.proofs.Figures.{value-figures, value-zeros}
use Rattle.ps_lex.proofs.Seen.{value_seen, more_digits, word_kept}
use Rattle.ps_read.specs.Machine.{Work, taken, taken_at}

-- digits that are worth a million millions at most are kept with their value
value_kept : (ds : List ℕ) → value ds ≤ 1000000000000 → (with_digits no_digits ds).value ≡ value ds
value_kept ds h = let e = value_seen ds in omega (arith, e, h)

pub decimal_ratio : (k v : ℕ) → ratio_of (decimal_of k v) ≡ record { num = v; den = 10 ^ k }
unfolding decimal_of
decimal_ratio zero v = ap (λ n. record { num = n; den = 1 }) (value-zeros zero v)
decimal_ratio (suc k) v =
    let many : length (replicate k 48 ++ (48 + v) ∷ []) ≡ suc k = length-append (replicate k 48) ((48 + v) ∷ []) ∙ ap (λ n. n + 1) (length-replicate k 48) ∙ omega arith in
    rw (many, value-zeros k v) refl

ratio : ℕ → ℕ → Ratio
ratio m n = record { num = m; den = n }

-- a number whose value isn't refused is kept with its value
ratio_kept : (n : ℕ) (x : text.Numeral) → n ≤ 1000000 → value_fault n x ≡ None → ratio_of (numeral_of (numeral_seen x)) ≡ ratio_of x
unfolding ratio
ratio_kept n (text.Whole ds) g h = ap (λ m. ratio m 1) (value-figures (with_digits no_digits ds).count (with_digits no_digits ds).value ∙ value_kept ds (by (nat_lt n (value ds)) refl h))
  where
    by : (b : Bool) → nat_lt n (value ds) ≡ b → (if b then Some NumberOutOfRange else None) ≡ None → value ds ≤ 1000000000000
    by true e f = absurd (true≢false (ap is_some f))
    by false e f = let l : value ds ≤ n = grind (arith, nat_tests) in omega (arith, l, g)
ratio_kept n (text.Quotient ds es) g h =
    let w : (value es ≤ 1000000) × (value ds ≤ n * value es) = by (value es == 0) (nat_lt 1000000 (value es)) (nat_lt (n * value es) (value ds)) refl refl h in
    let most : n * value es ≤ 1000000000000 = mul-le n (value es) 1000000 1000000 g w.0 in
    ap (λ m. ratio m (value (figures (with_digits no_digits es).count (with_digits no_digits es).value))) (value-figures (with_digits no_digits ds).count (with_digits no_digits ds).value ∙ value_kept ds (omega (arith, most, w.1)))
    ∙ ap (λ m. ratio (value ds) m) (value-figures (with_digits no_digits es).count (with_digits no_digits es).value ∙ value_kept es (omega (arith, w.0)))
  where
    by : (a b c : Bool) → nat_lt 1000000 (value es) ≡ b → nat_lt (n * value es) (value ds) ≡ c
        → (if a then Some ZeroDenominator else (if b then Some DenominatorTooLarge else (if c then Some NumberOutOfRange else None))) ≡ None → (value es ≤ 1000000) × (value ds ≤ n * value es)
    by true b c p q f = absurd (true≢false (ap is_some f))
    by false true c p q f = absurd (true≢false (ap is_some f))
    by false false true p q f = absurd (true≢false (ap is_some f))
    by false false false p q f = (grind (arith, nat_tests), grind (arith, nat_tests))
ratio_kept n (text.Decimal ds es) g h =
    let w : (length es ≤ 6) × (value (ds ++ es) ≤ n * 10 ^ length es) = by (nat_lt 6 (length es)) (nat_lt (n * 10 ^ length es) (value (ds ++ es))) refl refl h in
    let most : n * 10 ^ length es ≤ 1000000000000 = mul-le n (10 ^ length es) 1000000 1000000 g (tens_few (length es) w.0) in
    let v : (with_digits (with_digits no_digits ds) es).value ≡ value (ds ++ es) = ap (λ d. d.value) (more_digits no_digits ds es) ∙ value_kept (ds ++ es) (omega (arith, w.1, most)) in
    let k : min (length es) 7 ≡ length es = omega (arith, w.0) in
    decimal_ratio (min (length es) 7) (with_digits (with_digits no_digits ds) es).value
    ∙ ap (λ m. ratio m (10 ^ min (length es) 7)) v
    ∙ ap (λ m. ratio (value (ds ++ es)) (10 ^ m)) k
  where
    by : (a b : Bool) → nat_lt 6 (length es) ≡ a → nat_lt (n * 10 ^ length es) (value (ds ++ es)) ≡ b
        → (if a then Some TooManyDecimals else (if b then Some NumberOutOfRange else None)) ≡ None → (length es ≤ 6) × (value (ds ++ es) ≤ n * 10 ^ length es)
    by true b p q f = absurd (true≢false (ap is_some f))
    by false true p q f = absurd (true≢false (ap is_some f))
    by false false p q f = (grind (arith, nat_tests), grind (arith, nat_tests))

greatest_small : (o : Option ℕ) → greatest_value o ≤ 1000000
greatest_small None = omega arith
greatest_small (Some n) = omega arith

number_taken : (p : Part) (d : State) (w : Work) (n : text.Numeral) → fault_at p d (text.Number n) ≡ None
    → taken_at p w (text.Number (numeral_of (numeral_seen n))) ≡ taken_at p w (text.Number n)
number_taken part.Psat d w n h = refl
number_taken part.Version d w n h = refl
number_taken part.HeadEnd d w n h = refl
number_taken part.Item d w n h = rw (ratio_kept 1000000 n (omega arith) h) refl
number_taken part.QueryProb d w n h = refl
number_taken part.Term d w n h = rw (ratio_kept 1000000 n (omega arith) h) refl
number_taken part.TermProb d w n h = refl
number_taken part.Paren d w n h = refl
number_taken part.Operand d w n h = refl
number_taken part.Operator d w n h = refl
number_taken part.Relation d w n h = refl
number_taken part.Number d w n h = rw (ratio_kept (greatest_value d.linear) n (greatest_small d.linear) h) refl
number_taken part.ItemEnd d w n h = refl
number_taken part.Bracket d w n h = refl
number_taken part.First d w n h = rw (ratio_kept (greatest_value d.linear) n (greatest_small d.linear) h) refl
number_taken part.Comma d w n h = refl
number_taken part.Second d w n h = rw (ratio_kept (greatest_value d.linear) n (greatest_small d.linear) h) refl
number_taken part.BracketEnd d w n h = refl
number_taken part.TextEnd d w n h = refl
number_taken part.Done d w n h = refl

-- a token that isn't refused does what its kept form does
pub taken_alike : (s : State) (w : Work) (t : Token) → refusal s t ≡ None → taken s w (token_of (seen t)) ≡ taken s w t
taken_alike s w (text.Word u) h = ap (λ x. taken s w (text.Word x)) (word_kept s u h)
taken_alike s w (text.Number n) h = number_taken s.part s w n (passed s (text.Number n) h).fault
taken_alike s w (text.Sign x) h = refl
