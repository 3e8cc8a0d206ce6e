use Rattle.ps_explain.proofs.Needed.{found_conflict}
use Rattle.ps_explain.proofs.outcome.outcome_of.Goals as goal

pub returns-in_ok-used_by-in-Nothing : goal.returns-in_ok-used_by-in-Nothing
returns-in_ok-used_by-in-Nothing c kept limits new choice =
    found_conflict c.args.problem.now kept c.in_ok-used_by-in-Nothing.field-0 limits c.args.run.now c.phase_one.new.self c.in-Nothing.dual choice new
    (rw c.in-Nothing.is at c.in_ok-model.ensures.answer) (rw c.in-Nothing.is at c.in_ok-model.ensures.printed)
    (rw (c.as_slice.ensures, c.sentences.ensures.sentences, c.as_slice-in-Nothing.ensures) at c.in_ok-used_by-in-Nothing.ensures)
