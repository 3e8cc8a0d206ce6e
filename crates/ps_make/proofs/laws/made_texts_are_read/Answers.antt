use Rattle.ps_make.proofs.Read.{spells, spells_one, is_canonical}
use Rattle.ps_make.proofs.laws.made_texts_are_read.Goals as goal

pub returns-clause-spell : goal.returns-clause-spell
returns-clause-spell c = spells

pub returns-clause-one : goal.returns-clause-one
returns-clause-one c = spells_one

pub returns-clause-canonical : goal.returns-clause-canonical
returns-clause-canonical c = is_canonical
