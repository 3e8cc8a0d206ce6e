use Rattle.ps_read.specs.Answers.{parsed_by}
use Rattle.ps_read.proofs.Knowing.{refused_text}
use Rattle.ps_read.proofs.stage.stage_behind.Goals as goal

pub returns-in-Err : goal.returns-in-Err
returns-in-Err c = refused_text (parsed_by c.args.parser.now) c.args.count c.args.all c.in-Err.error c.stage_refused.result c.stage_refused.ensures c.in-Err.ensures
