use Rattle.ps_learn.proofs.Going.{is_caused}
use Rattle.ps_learn.proofs.explaining.explain_marks.Goals as goal

pub returns-clause-caused : goal.returns-clause-caused
returns-clause-caused c = is_caused _ c.args.trail.now c.args.conflict c.args.before.now c.args.marks.now c.mark_conflict.new.marks _ _ c.requires.values c.explain_all.ensures.explained c.explain_all.ensures.grows c.mark_conflict.ensures.covered c.explain_all.ensures.once c.requires.unmarked c.mark_conflict.ensures.only c.explain_all.ensures.only
