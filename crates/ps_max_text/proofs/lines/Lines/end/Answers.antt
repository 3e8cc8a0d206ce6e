use Rattle.std.proofs.Common.{◌+◌, refl}
use Rattle.ps_reader.proofs.Values.{some_left}
use Rattle.ps_max_text.specs.Taken.{left_in}
use Rattle.ps_max_text.proofs.Taking.{more_left}
use Rattle.ps_max_text.proofs.lines.Lines.end.Goals as goal

pub returns-else-is_empty-clause-more : goal.returns-else-is_empty-clause-more
returns-else-is_empty-clause-more c =
    more_left c.args.self.now (c.args.self.now.taken + 1) (some_left (left_in c.args.self.now) c.if-is_empty.ensures) refl
