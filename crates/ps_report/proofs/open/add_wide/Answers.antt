use Rattle.std.proofs.Common.{[], ◌∷◌}
use Rattle.ps_answer.specs.Items.{place_words}
use Rattle.ps_report.specs.Written.{open_words, operation_words}
use Rattle.ps_report.proofs.Made.{made_wide}
use Rattle.ps_report.proofs.open.add_wide.Goals as goal

pub returns : goal.returns
returns g c = made_wide _ _ _ _ (open_words (119 ∷ 105 ∷ 100 ∷ 101 ∷ [])) (place_words c.args.at.now.place) (operation_words c.args.at.now) c.add_open.ensures.line c.add_place.ensures.line c.add_operation.ensures
