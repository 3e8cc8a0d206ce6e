use Rattle.ps_reader.specs.Cursor.{words_in}
use Rattle.ps_reader.proofs.WorldPlaces.{price_item}
use Rattle.ps_reader.proofs.places.world_and_home.Goals as goal

pub returns : goal.returns
returns c = price_item (words_in c.args.words.now) (words_in c.next.new.self) (words_in c.next-2.new.self) c.next.result.now c.next-2.result.now c.world_number-world.result c.row-home.result c.both.result
    c.next.ensures.word c.next.ensures.later c.next-2.ensures.word c.next-2.ensures.later c.world_number-world.ensures c.row-home.ensures c.both.ensures
