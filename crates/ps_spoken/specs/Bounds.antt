-- The bounds of a query as objects.
use Rattle.std.specs.Prelude.{ℕ, List, ◌++◌, codes, Option, Some, None}
use Rattle.std.specs.declared.cmp.Ordering.{Ordering}
use Rattle.std.specs.declared.cmp.Ordering.TheVariants.{Less, Equal, Greater}
use Rattle.ps_meaning.specs.Rational.{Rational}
use Rattle.ps_meaning.specs.Order.{order_of}
use Rattle.ps_problem.specs.Problems.{Parts}
use Rattle.ps_answer.specs.declared.answer.Cause.{Cause}
use Rattle.ps_answer.specs.declared.answer.SideAnswer.{SideAnswer}
use Rattle.ps_answer.specs.declared.answer.SideAnswer.TheVariants.{Bound, Open}
use Rattle.ps_spoken.specs.Numbers.{fraction_text, low_text, high_text}
use Rattle.ps_spoken.specs.declared.details.Details.{Details}
use Rattle.ps_spoken.specs.declared.details.SideDetails.{SideDetails}
use Rattle.ps_spoken.specs.declared.reached.Reached.{Reached}
use Rattle.ps_spoken.specs.JsonDetails.{beneath_members}
use Rattle.ps_spoken.specs.Spoken.{cause_text}

-- the exact value of a bound, up to its decimal
unfoldable pub exact_text : Rational → List ℕ
exact_text x = codes "{\"exact\":\"" ++ (fraction_text x ++ codes "\",\"decimal\":\"")

-- why a side is open, up to what is known of it
unfoldable pub stopped_object : Cause → List ℕ
stopped_object c = codes "{\"exact\":null,\"decimal\":null,\"why\":\"" ++ (cause_text c ++ codes "\",\"proved\":\"")

-- the least value that is reached, with its decimal rounded up, where one is
unfoldable pub least_object : ℕ → Option Reached → List ℕ
least_object digits (Some r) = exact_text r.least ++ (high_text digits r.least ++ codes "\"}")
least_object digits None = codes "null"

-- the greatest value that is reached, with its decimal rounded down, where one is
unfoldable pub greatest_object : ℕ → Option Reached → List ℕ
greatest_object digits (Some r) = exact_text r.greatest ++ (low_text digits r.greatest ++ codes "\"}")
greatest_object digits None = codes "null"

-- a lower side that is open: it is at least 0, and at most what is reached
unfoldable pub open_lower : ℕ → Cause → Option Reached → List ℕ
open_lower digits c r = stopped_object c ++ (codes "0\",\"reached\":" ++ (least_object digits r ++ codes "}"))

-- an upper side that is open: it is at most 1, and at least what is reached
unfoldable pub open_upper : ℕ → Cause → Option Reached → List ℕ
open_upper digits c r = stopped_object c ++ (codes "1\",\"reached\":" ++ (greatest_object digits r ++ codes "}"))

-- what stands behind a bound's decimal: what is told of it
unfoldable pub end_text : Parts → SideDetails → List ℕ
end_text p t = codes "\",\"why\":null" ++ (beneath_members p t ++ codes "}")

-- a lower bound: its exact value, and its decimal rounded down
unfoldable pub lower_object : ℕ → Parts → SideAnswer → Details → List ℕ
lower_object digits p (Bound x m d) t = exact_text x ++ (low_text digits x ++ end_text p t.lower)
lower_object digits p (Open c) t = open_lower digits c t.reached

-- an upper bound: its exact value, and its decimal rounded up
unfoldable pub upper_object : ℕ → Parts → SideAnswer → Details → List ℕ
upper_object digits p (Bound x m d) t = exact_text x ++ (high_text digits x ++ end_text p t.upper)
upper_object digits p (Open c) t = open_upper digits c t.reached

-- whether two bounds in this order are one value
abbrev pub ordered_status : Ordering → List ℕ
ordered_status Equal = codes "one value"
ordered_status Less = codes "bounds"
ordered_status Greater = codes "bounds"

-- whether both bounds are one value
unfoldable pub status_text : SideAnswer → SideAnswer → List ℕ
status_text (Bound x m d) (Bound y n e) = ordered_status (order_of x y)
status_text (Bound x m d) (Open c) = codes "bounds"
status_text (Open c) upper = codes "bounds"

-- both sides of a query
unfoldable pub both_sides : ℕ → Parts → SideAnswer → SideAnswer → Details → List ℕ
both_sides digits p lower upper t =
    lower_object digits p lower t ++ (codes ",\"upper\":" ++ (upper_object digits p upper t ++ codes "}"))

-- the members of a query with bounds, from its status on
abbrev pub two_bounds : ℕ → Parts → SideAnswer → SideAnswer → Details → List ℕ
two_bounds digits p lower upper t = status_text lower upper
    ++ (codes "\",\"why\":null,\"lower\":" ++ both_sides digits p lower upper t)

-- both sides of a query that is open
unfoldable pub open_sides : ℕ → Cause → Option Reached → List ℕ
open_sides digits c r = open_lower digits c r ++ (codes ",\"upper\":" ++ (open_upper digits c r ++ codes "}"))

-- the members of a query that is open, from its status on
unfoldable pub open_members : ℕ → Cause → Option Reached → List ℕ
open_members digits c r =
    codes "open\",\"why\":\"" ++ (cause_text c ++ (codes "\",\"lower\":" ++ open_sides digits c r))
