-- Numbers as they are written for people.
use Rattle.std.specs.Prelude.{ℕ, pos, ◌==◌, int_le, if◌then◌else◌, Bool, List, ◌++◌, codes, Result, OnOk, Vec}
use Rattle.std.specs.Fmt.{signed_decimal}
use Rattle.ps_meaning.specs.Rational.{Rational}
use Rattle.ps_canonical.specs.Lines.{Adds}
use Rattle.ps_frac.specs.Decimals.{has_decimals, rounded_down, rounded_up, text_of}
use Rattle.ps_spoken.specs.declared.numbers.TheConstants.{LONG_DENOMINATOR}

-- a fraction in lowest terms, and without its denominator where that is 1
abbrev pub fraction_text : Rational → List ℕ
fraction_text x = if x.under == 1 then signed_decimal x.over
    else signed_decimal x.over ++ (codes "/" ++ signed_decimal (pos x.under))

-- whether a fraction is short: its denominator isn't great
abbrev pub is_short : Rational → Bool
is_short x = int_le (pos x.under) LONG_DENOMINATOR

-- a fraction as a decimal of so many digits, rounded down; a sign in its place where the fraction isn't from 0 to 1
abbrev pub low_text : ℕ → Rational → List ℕ
low_text digits x = if has_decimals x then text_of (rounded_down x digits) else codes "?"

-- the same rounded up
abbrev pub high_text : ℕ → Rational → List ℕ
high_text digits x = if has_decimals x then text_of (rounded_up x digits) else codes "?"

-- unless memory ran out, the text stands behind what was written before
abbrev pub Puts : {T E Z : Type 0} → Result T E → (old new : Vec ℕ Z) → List ℕ → Type 0
Puts result old new text = OnOk result (Adds old.items new.items text)

-- the same of what was written as lists
abbrev pub Says : {T E : Type 0} → Result T E → (old new text : List ℕ) → Type 0
Says result old new text = OnOk result (Adds old new text)
