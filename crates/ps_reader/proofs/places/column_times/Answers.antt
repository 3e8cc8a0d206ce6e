use Rattle.std.proofs.Common.{◌∙◌, ap, Err, ◌∷◌}
use Rattle.std.specs.Prelude.{codes}
use Rattle.std.proofs.lemmas.Result.{err_from_is_err_and}
use Rattle.ps_table.specs.declared.place.Place.TheVariants as place
use Rattle.ps_reader.specs.Cursor.{words_in}
use Rattle.ps_reader.proofs.PlaceWords.{mapped_ok, mapped_err}
use Rattle.ps_reader.proofs.WorldPlaces.{column_times_read}
use Rattle.ps_reader.proofs.places.column_times.Goals as goal

pub returns-in_err-world : goal.returns-in_err-world
returns-in_err-world c =
    let f = err_from_is_err_and c.from_residual.result c.from_residual.ensures.1 in
    mapped_err (λ a. place.ColumnTimes a.0 a.1.0 a.1.1) (codes "column-times" ∷ words_in c.args.words.now) (words_in c.world_row_and_home.new.words) c.world_row_and_home.result c.in_err-world.field-0.0 c.from_residual.result
    (column_times_read (words_in c.args.words.now) (words_in c.world_row_and_home.new.words) c.world_row_and_home.result c.world_row_and_home.ensures)
    c.in_err-world.was (f.1 ∙ ap Err f.2)

pub returns : goal.returns
returns c =
    mapped_ok (λ a. place.ColumnTimes a.0 a.1.0 a.1.1) (codes "column-times" ∷ words_in c.args.words.now) (words_in c.world_row_and_home.new.words) c.world_row_and_home.result (c.in_ok-world.world, (c.in_ok-world.row, c.in_ok-world.home))
    (column_times_read (words_in c.args.words.now) (words_in c.world_row_and_home.new.words) c.world_row_and_home.result c.world_row_and_home.ensures)
    c.in_ok-world.was
