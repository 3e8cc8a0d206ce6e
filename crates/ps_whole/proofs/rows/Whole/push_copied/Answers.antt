use Rattle.std.proofs.Common.{◌++◌, ap, ◌∙◌}
use Rattle.ps_whole.proofs.Numbers.{copied_all}
use Rattle.ps_whole.proofs.rows.Whole.push_copied.Goals as goal

pub returns : goal.returns
returns c = record { copied = copied_all c.args.self.now c.rows.ensures.whole c.args.i c.requires.row c.args.made.now.items c.extend_from_slice.new.self.items (c.in_ok-extend_from_slice.ensures.items ∙ ap (λ ns. c.args.made.now.items ++ ns) c.row_numbers.ensures.numbers) }
