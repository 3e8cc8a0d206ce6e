use Rattle.ps_meaning.proofs.Sums.{sum_same, sum_scale, sum-add, sum-sub, sum_swap, sum_split, sum_one}
use Rattle.ps_meaning.proofs.laws.sum_laws.Goals as goal

pub returns : goal.returns
returns c = record {
  sums = record {
    same = sum_same;
    scaled = sum_scale;
    added = sum-add;
    subtracted = sum-sub;
    swapped = sum_swap;
    split = sum_split;
    single = sum_one;
  };
}
