use Rattle.ps_simplex.proofs.Alike as alike
use Rattle.ps_simplex.proofs.rule_laws.composed_pivots.Goals as goal

pub returns : goal.returns
returns c = record { composed = alike.compose }
