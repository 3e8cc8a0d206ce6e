use Rattle.ps_ground.proofs.Nestings.{depth-there}
use Rattle.ps_ground.proofs.spelling.nesting.Goals as goal

pub returns : goal.returns
returns c = depth-there c.args.parts.now c.requires.sound c.args.spellings.now c.requires.spelled c.args.part c.spelling_at-spelling.result c.requires.there c.spelling_at-spelling.ensures
