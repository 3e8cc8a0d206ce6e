use Rattle.std.proofs.Common.{ap, ◌∙◌}
use Rattle.ps_reader.specs.Cursor.{words_in}
use Rattle.ps_reader.specs.Read.{both}
use Rattle.ps_reader.proofs.WorldPlaces.{entry_item}
use Rattle.ps_reader.proofs.places.world_row_and_home.Goals as goal

pub returns : goal.returns
returns c = entry_item (words_in c.args.words.now) (words_in c.next.new.self) (words_in c.next-2.new.self) (words_in c.next-3.new.self) c.next.result.now c.next-2.result.now c.next-3.result.now
    c.world_number-world.result c.row-at.result c.row-home.result c.both-2.result
    c.next.ensures.word c.next.ensures.later c.next-2.ensures.word c.next-2.ensures.later c.next-3.ensures.word c.next-3.ensures.later c.world_number-world.ensures c.row-at.ensures c.row-home.ensures
    (c.both-2.ensures ∙ ap (both c.world_number-world.result) c.both.ensures)
