-- What a constraint on weighted literals says.
use Rattle.std.specs.Prelude.{◌↔◌, ℤ, ◌≤ℤ◌, Bool, List}
use Rattle.ps_pb.specs.Constraints.{Constraint, IsMet}
use Rattle.ps_pb.specs.Weights.{Weighted, true_weight, terms_of}

-- full assignments meet the constraint exactly where their true literals weigh at least so much
abbrev pub SaysAtLeast : Weighted → ℤ → Constraint → Type 0
SaysAtLeast weights least c = (w : List Bool) → IsMet w c ↔ (least ≤ℤ true_weight w weights)

-- the coefficients of the true literals sum to at least the degree
abbrev pub linear : Weighted → ℤ → Constraint
linear terms degree = record { terms = terms_of terms; degree = degree }
