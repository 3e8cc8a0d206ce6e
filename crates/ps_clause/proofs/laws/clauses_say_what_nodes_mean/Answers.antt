use Rattle.ps_clause.specs.Extensions.{world_of}
use Rattle.ps_clause.specs.Clauses.{clause_form}
use Rattle.ps_clause.proofs.Idle.{form-clauses, clauses-form}
use Rattle.ps_clause.proofs.Extends.{met-extension, extension-met}
use Rattle.ps_clause.proofs.Worlds.{world_of-agrees, extension-agrees}
use Rattle.ps_clause.proofs.laws.clauses_say_what_nodes_mean.Goals as goal

pub returns-clause-extends : goal.returns-clause-extends
returns-clause-extends c = λ ns w world are long agree. (met-extension ns w world are long agree, extension-met ns w world are long agree)

pub returns-clause-given : goal.returns-clause-given
returns-clause-given c = λ ns w atoms are long within.
    let on = world_of-agrees atoms ns w are within in
    let world = world_of atoms ns w in
    (met-extension ns w world are long on, extension-met ns w world are long on)

pub returns-clause-agrees : goal.returns-clause-agrees
returns-clause-agrees c = extension-agrees

pub returns-clause-constraints : goal.returns-clause-constraints
returns-clause-constraints c = λ ns w. (form-clauses w (clause_form ns), clauses-form w (clause_form ns))
