use Rattle.ps_log.specs.Spellings.{words_of}
use Rattle.ps_max_text.specs.declared.item.MaxItem.TheVariants as line
use Rattle.ps_max_text.specs.declared.part.MaxPart.TheVariants as part
use Rattle.ps_max_text.proofs.StepLines.{goal_read, text_ok, text_err}
use Rattle.ps_max_text.proofs.item_reader.goal.Goals as goal

pub returns-in-Ok : goal.returns-in-Ok
returns-in-Ok c = λ text rest f. text_ok (λ s. line.GoalLine s) part.Goal (words_of text) c.read_goal.result _ _ c.in-Ok.is (goal_read c.args.bytes.now text rest c.read_goal.result f c.read_goal.ensures.answer)

pub returns-in-Err : goal.returns-in-Err
returns-in-Err c = λ text rest f. text_err (λ s. line.GoalLine s) part.Goal (words_of text) c.read_goal.result c.in-Err.why c.fault_of.result c.in-Err.is c.fault_of.ensures (goal_read c.args.bytes.now text rest c.read_goal.result f c.read_goal.ensures.answer)
