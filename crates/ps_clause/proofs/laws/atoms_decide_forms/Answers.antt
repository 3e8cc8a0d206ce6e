use Rattle.ps_clause.proofs.Idle.{idle-none, none-idle}
use Rattle.ps_clause.proofs.Deciding.{nodes_decided, new_decided, more_decided}
use Rattle.ps_clause.proofs.Starts.{all-full}
use Rattle.ps_clause.proofs.laws.atoms_decide_forms.Goals as goal

pub returns-clause-nodes : goal.returns-clause-nodes
returns-clause-nodes c = nodes_decided

pub returns-clause-none : goal.returns-clause-none
returns-clause-none c = new_decided

pub returns-clause-more : goal.returns-clause-more
returns-clause-more c = more_decided

pub returns-clause-idle : goal.returns-clause-idle
returns-clause-idle c = λ k a. ((λ idle. (idle.unviolated, idle-none k a idle)), (λ h. none-idle k a h.0 h.1))

pub returns-clause-full : goal.returns-clause-full
returns-clause-full c = all-full
