use Rattle.ps_meaning.proofs.WeightedSums.{sum_of-append, sum_of-scale, sum_of-add, sum_of_swap, sum_of_single, sum_of_at_most}
use Rattle.ps_meaning.proofs.laws.weighted_sum_laws.Goals as goal

pub returns : goal.returns
returns g c = record {
  sums = record { appended = sum_of-append; scaled = sum_of-scale; added = sum_of-add; swapped = sum_of_swap; single = sum_of_single; ordered = sum_of_at_most };
}
