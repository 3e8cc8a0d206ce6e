use Rattle.ps_text.proofs.Cutting.{cut}
use Rattle.ps_text.proofs.laws.bytes_are_cut.Goals as goal

pub returns : goal.returns
returns c = cut
