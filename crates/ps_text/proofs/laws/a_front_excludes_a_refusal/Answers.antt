use Rattle.ps_text.proofs.Excluding.{refused_nowhere}
use Rattle.ps_text.proofs.laws.a_front_excludes_a_refusal.Goals as goal

pub returns : goal.returns
returns c = refused_nowhere
