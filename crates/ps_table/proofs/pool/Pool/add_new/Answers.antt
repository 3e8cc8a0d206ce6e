use Rattle.std.proofs.Common.{Err, ap, ◌∙◌}
use Rattle.ps_table.proofs.pool.Pool.add_new.Goals as goal

pub unreachable-requires : goal.unreachable-requires
unreachable-requires c =
    c.requires.fresh c.in-Err-Present.field-0-0 ((c.add.ensures.present c.in-Err-Present.field-0-0).0 (c.in-Err-Present.is ∙ ap Err c.in-Err-Present.field-0-is))
