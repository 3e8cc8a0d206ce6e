use Rattle.ps_meaning.proofs.Multiples.{lcm_is, lcm_to_positive, lcm_to_multiple, lcm_to_least}
use Rattle.ps_meaning.proofs.laws.lcm_laws.Goals as goal

pub returns : goal.returns
returns c = record {
  multiples = record { two = lcm_is; positive = lcm_to_positive; multiple = lcm_to_multiple; least = lcm_to_least };
}
