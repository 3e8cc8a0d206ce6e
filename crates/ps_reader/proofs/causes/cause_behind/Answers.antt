use Rattle.ps_reader.proofs.PartOpenings.{cause_only}
use Rattle.ps_reader.proofs.causes.cause_behind.Goals as goal

pub unreachable-requires : goal.unreachable-requires
unreachable-requires c = cause_only c.args.item c.requires.fits c.in_default.not-OpenPivots c.in_default.not-OpenConflicts c.in_default.not-OpenWide
