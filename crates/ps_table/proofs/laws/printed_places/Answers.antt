use Rattle.ps_table.proofs.Printed.{printed_exact}
use Rattle.ps_table.proofs.laws.printed_places.Goals as goal

pub returns : goal.returns
returns c = record { exact = printed_exact }
