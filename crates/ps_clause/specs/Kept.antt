-- What a clause form keeps.
use Rattle.std.specs.Prelude.{◌≤◌, length}
use Rattle.ps_pb.specs.declared.limits.TheConstants.{MOST_VARIABLES}
use Rattle.ps_clause.specs.Forms.{Form, HasClauses}
use Rattle.ps_clause.specs.Decided.{AtomsDecide}
use Rattle.ps_clause.specs.Limits.{most_clauses}

-- the variables and clauses are within their limits, each clause is one of the variables, and the atoms decide all others
pub record IsKept (f : Form) : Type 0 where
  pub most : f.variables ≤ MOST_VARIABLES
  pub few : length f.clauses ≤ most_clauses
  pub decided : AtomsDecide f
  pub clauses : HasClauses f
