use Rattle.std.proofs.Common.{ap, ◌∙◌, []}
use Rattle.std.proofs.lemmas.Result.{on_ok_weaker}
use Rattle.ps_answer.specs.ExpectedParts.{many}
use Rattle.ps_check.specs.Runs.{parts_of}
use Rattle.ps_check.proofs.DueParts.{push_run}
use Rattle.ps_check.proofs.due.Due.add.Goals as goal

pub returns : goal.returns
returns c = on_ok_weaker c.push.result (λ e. ap parts_of e ∙ push_run [] c.self.inside.runs _ ∙ ap (many c.args.count c.args.part) c.self.view_is) c.push.ensures.ok
