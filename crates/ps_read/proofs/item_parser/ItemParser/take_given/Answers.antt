use Rattle.std.proofs.Common.{sym, subst}
use Rattle.ps_read.specs.Ready.{HasRoom}
use Rattle.ps_read.specs.Kept.{item_of, work_of}
use Rattle.ps_read.proofs.Counting.{room_reduced}
use Rattle.ps_read.proofs.item_parser.ItemParser.take_given.Goals as goal

pub end_formula-requires-clause-room : goal.end_formula-requires-clause-room
end_formula-requires-clause-room c =
    subst (λ p. HasRoom (record { pending = p; item = item_of c.args.self.now.item c.args.self.now.terms.items })) (sym c.in_ok-reduce.ensures.reduced) (room_reduced 1 (work_of c.args.self.now) c.requires.room)
