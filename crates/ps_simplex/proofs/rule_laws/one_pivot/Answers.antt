use Rattle.ps_simplex.proofs.OnePivot as rule
use Rattle.ps_simplex.proofs.rule_laws.one_pivot.Goals as goal

pub returns : goal.returns
returns c = record { one = rule.one_pivot }
