-- What is told beneath the answer to a query.
use Rattle.std.specs.Prelude.{ℕ, List, [], ◌++◌, codes, Option, Some, None}
use Rattle.ps_problem.specs.Problems.{Parts}
use Rattle.ps_support.specs.declared.bound_side.BoundSide.{BoundSide}
use Rattle.ps_support.specs.declared.bound_side.BoundSide.TheVariants.{Lower, Upper}
use Rattle.ps_support.specs.declared.example.Example.{Example}
use Rattle.ps_support.specs.declared.support.Support.{Support}
use Rattle.ps_spoken.specs.declared.details.Details.{Details}
use Rattle.ps_spoken.specs.declared.details.SideDetails.{SideDetails}
use Rattle.ps_spoken.specs.Supports.{support_text}
use Rattle.ps_spoken.specs.Examples.{example_text}

-- nothing
abbrev pub no_side : SideDetails
no_side = record { support = None; example = None }

abbrev pub no_details : Details
no_details = record { reached = None; lower = no_side; upper = no_side }

-- the sentences on which a bound rests, where they are told
abbrev pub support_told : Parts → BoundSide → Option Support → List ℕ
support_told p side (Some s) = support_text p side s
support_told p side None = []

-- a distribution that reaches it, where one is told
abbrev pub example_told : ℕ → Parts → BoundSide → Option Example → List ℕ
example_told digits p side (Some e) = example_text digits p side e
example_told digits p side None = []

-- what is told of a bound
unfoldable pub beneath_side : ℕ → Parts → BoundSide → SideDetails → List ℕ
beneath_side digits p side t = support_told p side t.support ++ example_told digits p side t.example

-- what is told of both bounds of a query
unfoldable pub beneath_text : ℕ → Parts → Details → List ℕ
beneath_text digits p t = beneath_side digits p Lower t.lower ++ beneath_side digits p Upper t.upper
