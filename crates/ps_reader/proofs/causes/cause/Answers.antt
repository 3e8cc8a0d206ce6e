use Rattle.ps_answer.specs.declared.part.Part.TheVariants.{ACause}
use Rattle.ps_answer.specs.Answers.{cause_items}
use Rattle.ps_reader.specs.Reports.{parts_behind}
use Rattle.ps_reader.proofs.Rests.{good_line, value_read}
use Rattle.ps_reader.proofs.PartOpenings.{cause_due}
use Rattle.ps_reader.proofs.causes.cause.Goals as goal

pub cause_behind-requires-clause-good : goal.cause_behind-requires-clause-good
cause_behind-requires-clause-good c = good_line c.args.lines.now c.take.new.self c.in_ok-item.item c.in_ok-item.ensures.line

pub returns-clause-cause : goal.returns-clause-cause
returns-clause-cause c = value_read cause_items c.args.lines.now c.take.new.self c.cause_behind.new.lines c.in_ok-item.item ACause (parts_behind c.in_ok-item.item) c.cause_behind.result c.in_ok-item.ensures.line (cause_due c.in_ok-item.item c.in_ok-item.ensures.fits) c.cause_behind.ensures.cause
