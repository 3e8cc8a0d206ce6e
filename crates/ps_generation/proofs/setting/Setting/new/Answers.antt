use Rattle.std.proofs.Common.{rules}
use Rattle.ps_generation.proofs.setting.Setting.new.Goals as goal

pub invariant_of-result : goal.invariant_of-result
invariant_of-result c = (
  record { kept = c.args.kept.now; each = c.requires.kept; flags_are = search rules; parts = search rules },
  search rules,
  search rules,
  search rules,
)
