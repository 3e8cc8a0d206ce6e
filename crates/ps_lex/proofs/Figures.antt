-- What digits that stand for others are worth.
use Rattle.std.proofs.Common.{◌≡◌, ℕ, zero, suc, ◌+◌, ◌*◌, ◌^◌, ◌==◌, Bool, true, false, ◌&&◌, ◌||◌, [], ◌∷◌, ◌++◌, length, replicate, Some, None, refl, ap, ◌∙◌, arith}
use Rattle.std.proofs.lemmas.Bool.Decides.{nat_tests}
use Rattle.std.proofs.lemmas.List.{length-append, length-replicate}
use Rattle.std.specs.Prelude.{nat_lt, nat_eq, bytes_eq, codes, if◌then◌else◌}
use Rattle.ps_text.specs.Tokens as text
use Rattle.ps_text.specs.declared.kind.ReadKind.TheVariants.{VersionUnknown, ZeroDenominator, DenominatorTooLarge, TooManyDecimals, NumberOutOfRange}
use Rattle.ps_text.specs.Grammar.{value_from, value}
use Rattle.ps_text.specs.ExpectedTokens.{version_fault, version_of as token_version, value_fault}
use Rattle.ps_text.specs.declared.version.Version.TheVariants.{One, Two}
use Rattle.ps_lex.specs.KeptTokens.{figures, decimal_of}

pub value-figures : (count v : ℕ) → value (figures count v) ≡ v
unfolding figures
value-figures count v = by (count == 1)
  where
    by : (b : Bool) → value (if b then (48 + v) ∷ [] else 48 ∷ (48 + v) ∷ []) ≡ v
    by true = omega arith
    by false = omega arith

-- zeros before a digit are worth nothing
pub value-zeros : (k v : ℕ) → value_from 0 (replicate k 48 ++ (48 + v) ∷ []) ≡ v
value-zeros zero v = omega arith
value-zeros (suc k) v = value-zeros k v

one_digit : (v n : ℕ) → bytes_eq ((48 + v) ∷ []) ((48 + n) ∷ []) ≡ (v == n)
one_digit v n = and_true (nat_eq (48 + v) (48 + n)) (v == n) (grind (arith, nat_tests))
  where
    and_true : (b c : Bool) → b ≡ c → b && true ≡ c
    and_true true c e = e
    and_true false c e = e

-- a version by what counts of its digits
pub version_of : (count v : ℕ) → version_fault (text.Number (text.Whole (figures count v))) ≡ (if (count == 1) && ((v == 1) || (v == 2)) then None else Some VersionUnknown)
unfolding figures
version_of count v = by (count == 1)
  where
    by : (b : Bool)
        → (if bytes_eq (if b then (48 + v) ∷ [] else 48 ∷ (48 + v) ∷ []) (codes "1") || bytes_eq (if b then (48 + v) ∷ [] else 48 ∷ (48 + v) ∷ []) (codes "2") then None else Some VersionUnknown)
        ≡ (if b && ((v == 1) || (v == 2)) then None else Some VersionUnknown)
    by true = ap (λ x. if x || bytes_eq ((48 + v) ∷ []) (codes "2") then None else Some VersionUnknown) (one_digit v 1) ∙ ap (λ x. if (v == 1) || x then None else Some VersionUnknown) (one_digit v 2)
    by false = refl

-- which version it is
pub version_is : (count v : ℕ) → token_version (text.Number (text.Whole (figures count v))) ≡ (if (count == 1) && (v == 2) then Two else One)
unfolding figures
version_is count v = by (count == 1)
  where
    by : (b : Bool) → (if bytes_eq (if b then (48 + v) ∷ [] else 48 ∷ (48 + v) ∷ []) (codes "2") then Two else One) ≡ (if b && (v == 2) then Two else One)
    by true = ap (λ x. if x then Two else One) (one_digit v 2)
    by false = refl

pub decimal_is : (k v : ℕ) → token_version (text.Number (decimal_of k v)) ≡ One
unfolding decimal_of
decimal_is zero v = refl
decimal_is (suc k) v = refl

pub decimal_version : (k v : ℕ) → version_fault (text.Number (decimal_of k v)) ≡ Some VersionUnknown
unfolding decimal_of
decimal_version zero v = refl
decimal_version (suc k) v = refl

pub whole_fault : (n count v : ℕ) → value_fault n (text.Whole (figures count v)) ≡ (if nat_lt n v then Some NumberOutOfRange else None)
whole_fault n count v = ap (λ m. if nat_lt n m then Some NumberOutOfRange else None) (value-figures count v)

pub quotient_fault : (n c v d w : ℕ) → value_fault n (text.Quotient (figures c v) (figures d w))
    ≡ (if w == 0 then Some ZeroDenominator else (if nat_lt 1000000 w then Some DenominatorTooLarge else (if nat_lt (n * w) v then Some NumberOutOfRange else None)))
quotient_fault n c v d w = rw (value-figures c v, value-figures d w) refl

pub decimal_fault : (n k v : ℕ) → value_fault n (decimal_of k v) ≡ (if nat_lt 6 k then Some TooManyDecimals else (if nat_lt (n * 10 ^ k) v then Some NumberOutOfRange else None))
unfolding decimal_of
decimal_fault n zero v = ap (λ m. if nat_lt 6 0 then Some TooManyDecimals else (if nat_lt (n * 10 ^ 0) m then Some NumberOutOfRange else None)) (value-zeros zero v)
decimal_fault n (suc k) v =
    let many : length (replicate k 48 ++ (48 + v) ∷ []) ≡ suc k = length-append (replicate k 48) ((48 + v) ∷ []) ∙ ap (λ n. n + 1) (length-replicate k 48) ∙ omega arith in
    rw (many, value-zeros k v) refl
