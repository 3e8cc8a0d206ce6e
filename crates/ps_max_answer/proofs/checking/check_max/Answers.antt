use Rattle.std.proofs.Common.{sym, ◌∙◌}
use Rattle.ps_max_answer.proofs.Unfaulted.{unfaulted}
use Rattle.ps_max_answer.proofs.checking.check_max.Goals as goal

pub returns-clause-shown : goal.returns-clause-shown
returns-clause-shown c = unfaulted c.args.text.now c.args.answer.now c.check_text.ensures (sym c.in_ok-fault.ensures ∙ c.in_default.is)
