use Rattle.ps_ground.proofs.Weighing.{meets-together}
use Rattle.ps_ground.proofs.Imaging.{images-are, all-are}
use Rattle.ps_ground.proofs.laws.distributions_have_images.Goals as goal

pub returns-clause-images : goal.returns-clause-images
returns-clause-images c = images-are

pub returns-clause-met : goal.returns-clause-met
returns-clause-met c = meets-together

pub returns-clause-all : goal.returns-clause-all
returns-clause-all c = all-are
