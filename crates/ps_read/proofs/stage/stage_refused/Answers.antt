use Rattle.std.proofs.Common.{sym, ap}
use Rattle.ps_read.specs.Stages.{behind_refusal}
use Rattle.ps_read.proofs.stage.stage_refused.Goals as goal

pub returns-in-At : goal.returns-in-At
returns-in-At c = sym (ap (λ e. behind_refusal e c.args.all) c.in-At.is)

pub returns-in-NoMemory : goal.returns-in-NoMemory
returns-in-NoMemory c = sym (ap (λ e. behind_refusal e c.args.all) c.in-NoMemory.is)
