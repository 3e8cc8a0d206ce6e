use Rattle.ps_ground.proofs.Weighing.{all-kept}
use Rattle.ps_ground.proofs.laws.ground_formulas_keep_truth.Goals as goal

pub returns : goal.returns
returns c = λ s items text m k d lt. all-kept s items text k d lt m
