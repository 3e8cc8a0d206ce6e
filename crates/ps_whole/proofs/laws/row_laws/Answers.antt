use Rattle.ps_whole.proofs.NewCells.{new_cell}
use Rattle.ps_whole.proofs.Sizes.{sum_is_small, product_is_small}
use Rattle.ps_whole.proofs.laws.row_laws.Goals as goal

pub returns : goal.returns
returns c = record { laws = record { cell = new_cell; sums = sum_is_small; products = product_is_small } }
