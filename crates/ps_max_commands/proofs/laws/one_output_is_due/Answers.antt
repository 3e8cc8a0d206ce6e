use Rattle.ps_max_commands.proofs.OneDue.{one_check_due, one_unread_due}
use Rattle.ps_max_commands.proofs.laws.one_output_is_due.Goals as goal

pub returns-clause-check : goal.returns-clause-check
returns-clause-check c = one_check_due

pub returns-clause-unread : goal.returns-clause-unread
returns-clause-unread c = one_unread_due
