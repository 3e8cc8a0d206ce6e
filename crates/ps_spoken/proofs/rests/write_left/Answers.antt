use Rattle.ps_spoken.specs.Clashes.{others_met_text, rest_texts}
use Rattle.ps_spoken.proofs.Said.{said}
use Rattle.ps_spoken.proofs.rests.write_left.Goals as goal

pub returns : goal.returns
returns c =
    rw (← c.are_met.ensures, c.if-are_met.false, ← c.is_alone-is_alone.ensures)
    (said c.write_rests.result c.args.out.now.items c.write_others_met.new.out.items c.write_rests.new.out.items
    (others_met_text c.is_alone-is_alone.result) (rest_texts c.args.clashing.now) c.in_ok-write_others_met.ensures c.write_rests.ensures)
