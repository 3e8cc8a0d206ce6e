use Rattle.ps_meaning.proofs.Zeros as zeros
use Rattle.ps_meaning.proofs.laws.zero_laws.Goals as goal

pub returns : goal.returns
returns c = record {
  narrow = record { left = zeros.left_narrow; right = zeros.right_narrow; sum = zeros.sum_narrow; difference = zeros.difference_narrow };
}
