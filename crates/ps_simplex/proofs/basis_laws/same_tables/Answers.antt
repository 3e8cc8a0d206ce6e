use Rattle.ps_simplex.proofs.Agreeing.{same_belongs, same_stands, same_basics, same_carried}
use Rattle.ps_simplex.proofs.basis_laws.same_tables.Goals as goal

pub returns : goal.returns
returns c = record { same = record { belongs = same_belongs; stands = same_stands; basics = same_basics; costs = same_carried } }
