-- Both bounds of a query, for people.
use Rattle.std.specs.Prelude.{ℕ, pos, ◌==◌, ◌&&◌, not, if◌then◌else◌, Bool, List, ◌++◌, codes}
use Rattle.std.specs.Ordering.{int_eq}
use Rattle.std.specs.declared.cmp.Ordering.{Ordering}
use Rattle.std.specs.declared.cmp.Ordering.TheVariants.{Less, Equal, Greater}
use Rattle.ps_meaning.specs.Rational.{Rational}
use Rattle.ps_meaning.specs.Order.{order_of}
use Rattle.ps_frac.specs.Decimals.{has_decimals}
use Rattle.ps_spoken.specs.Numbers.{fraction_text, is_short, low_text, high_text}
use Rattle.ps_spoken.specs.Digits.{shown_digits}

-- whether bounds say no more than that a probability is from 0 to 1
abbrev pub says_nothing : Rational → Rational → Bool
says_nothing x y = int_eq x.over (pos 0) && (int_eq y.over (pos 1) && (y.under == 1))

-- whether decimals stand before fractions: there are decimals of both bounds, and one of the fractions is long
abbrev pub decimals_first : Rational → Rational → Bool
decimals_first x y = has_decimals x && (has_decimals y && not (is_short x && is_short y))

-- numbers behind words, and the same numbers in another form behind them
abbrev pub in_two_forms : List ℕ → List ℕ → List ℕ → List ℕ
in_two_forms words first second = words ++ (first ++ (codes " (" ++ (second ++ codes ")\n")))

-- two bounds as fractions
abbrev pub fraction_pair : List ℕ → Rational → Rational → List ℕ
fraction_pair between x y = fraction_text x ++ (between ++ fraction_text y)

-- two bounds as decimals, the lower one rounded down and the upper one up
abbrev pub decimal_pair : ℕ → List ℕ → Rational → Rational → List ℕ
decimal_pair digits between x y = low_text digits x ++ (between ++ high_text digits y)

-- the one value that both bounds are, with its decimals behind it, or before it
abbrev pub short_value : ℕ → Rational → Rational → List ℕ
short_value digits x y = in_two_forms (codes "  one value: ") (fraction_text x) (decimal_pair digits (codes " to ") x y)

abbrev pub long_value : ℕ → Rational → Rational → List ℕ
long_value digits x y = in_two_forms (codes "  one value: ") (decimal_pair digits (codes " to ") x y) (fraction_text x)

abbrev pub one_value_text : ℕ → Rational → Rational → List ℕ
one_value_text digits x y = if decimals_first x y then long_value digits x y else short_value digits x y

-- two bounds that differ, with their decimals behind them, or before them
abbrev pub short_values : ℕ → Rational → Rational → List ℕ
short_values digits x y =
    in_two_forms (codes "  between ") (fraction_pair (codes " and ") x y) (decimal_pair digits (codes " to ") x y)

abbrev pub long_values : ℕ → Rational → Rational → List ℕ
long_values digits x y =
    in_two_forms (codes "  between ") (decimal_pair digits (codes " and ") x y) (fraction_pair (codes " to ") x y)

abbrev pub two_values_text : ℕ → Rational → Rational → List ℕ
two_values_text digits x y = if decimals_first x y then long_values digits x y else short_values digits x y

-- one value where the bounds are equal, else both of them
abbrev pub ordered_text : Ordering → ℕ → Rational → Rational → List ℕ
ordered_text Equal digits x y = one_value_text digits x y
ordered_text Less digits x y = two_values_text digits x y
ordered_text Greater digits x y = two_values_text digits x y

-- both bounds of a query
abbrev pub between_text : ℕ → Rational → Rational → List ℕ
between_text digits x y = if says_nothing x y then codes "  nothing follows: anything from 0 to 1\n"
    else ordered_text (order_of x y) (shown_digits digits x y) x y

-- a lower bound alone, with its decimal behind it, or before it
abbrev pub short_least : ℕ → Rational → List ℕ
short_least digits x = in_two_forms (codes "  at least ") (fraction_text x) (low_text digits x)

abbrev pub long_least : ℕ → Rational → List ℕ
long_least digits x = in_two_forms (codes "  at least ") (low_text digits x) (fraction_text x)

abbrev pub least_text : ℕ → Rational → List ℕ
least_text digits x = if decimals_first x x then long_least (shown_digits digits x x) x
    else short_least (shown_digits digits x x) x

-- an upper bound alone, with its decimal behind it, or before it
abbrev pub short_most : ℕ → Rational → List ℕ
short_most digits x = in_two_forms (codes "  at most ") (fraction_text x) (high_text digits x)

abbrev pub long_most : ℕ → Rational → List ℕ
long_most digits x = in_two_forms (codes "  at most ") (high_text digits x) (fraction_text x)

abbrev pub most_text : ℕ → Rational → List ℕ
most_text digits x = if decimals_first x x then long_most (shown_digits digits x x) x
    else short_most (shown_digits digits x x) x
