use Rattle.ps_meaning.proofs.Scaling as scaling
use Rattle.ps_meaning.proofs.laws.scaled_laws.Goals as goal

pub returns : goal.returns
returns c = record { scaled = record { value = scaling.scaled_is; whole_tells = scaling.whole_tells } }
