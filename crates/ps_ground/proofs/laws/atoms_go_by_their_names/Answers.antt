use Rattle.ps_ground.proofs.AtomNames.{ground-named}
use Rattle.ps_ground.proofs.Atoms.{names-differ, world-truths}
use Rattle.ps_ground.proofs.laws.atoms_go_by_their_names.Goals as goal

pub returns-clause-different : goal.returns-clause-different
returns-clause-different c = names-differ

pub returns-clause-truths : goal.returns-clause-truths
returns-clause-truths c = world-truths

pub returns-clause-names : goal.returns-clause-names
returns-clause-names c = ground-named
