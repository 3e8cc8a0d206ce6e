use Rattle.ps_reader.specs.Cursor.{words_in}
use Rattle.ps_reader.proofs.PlaceWords.{place_named}
use Rattle.ps_reader.proofs.wide.place.Goals as goal

pub returns : goal.returns
returns c = place_named (words_in c.args.words.now) (words_in c.next-name.new.self) (words_in c.place_of_world.new.words) c.next-name.result.now c.place_of_world.result c.next-name.ensures.word c.next-name.ensures.later c.place_of_world.ensures
